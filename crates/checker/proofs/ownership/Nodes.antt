-- One node by the bytes is one node of the definition: what its record takes, what it binds, what it calls and what follows. Assumes nothing.
use Prim.Native.Nat.{ℕ, suc, ◌+◌, ◌*◌, ◌%◌, ◌^◌, ◌≤◌, ◌<◌}
use mathlib.Core.Path.{◌≡◌, refl, sym, ap, ◌∙◌, subst}
use mathlib.Core.List.{List, [], ◌∷◌, ◌++◌, map}
use mathlib.Core.Bool.{Bool, true, false, ◌&&◌}
use native.Mathlib.Omega.{arith}
use native.Mathlib.Numerals.{add-one}
use lib.ListN.{length, get_or, length-map}
use lib.Dec.{leb, ltb, eqb}
use lib.Bits.{bit_or}
use borrow.Author.Tests.{lt-ltb, le-ltb}
use Rattle.meaning.specs.declared.Call.{Call}
use Rattle.meaning.specs.declared.Kind.{Kind}
use Rattle.meaning.specs.declared.Slot.{Slot}
use Rattle.meaning.specs.Choice.{pick}
use Rattle.meaning.specs.Marks.{find_mark, mark_of, number_of, row_at}
use Rattle.meaning.specs.Syntax.{Sort, Mode, Term, Branches, File}
use Rattle.meaning.specs.Syntax as S
use Rattle.meaning.specs.Plain.{place_of}
use Rattle.meaning.specs.Machine.{function_of}
use Rattle.meaning.specs.Outcome.{Outcome, ok, refuse, then, require}
use Rattle.meaning.specs.Ownership.{check, check_branches}
use Rattle.meaning.specs.Ownership as tree
use Rattle.meaning.specs.Calls.{calls, calls_branches}
use Rattle.standing.specs.Bytes.{byte_at, mark_at, arity_in, fields_in, params_in, modes_in, result_in}
use Rattle.standing.specs.Stands.{Listed, Stands, Each, count}
use Rattle.standing.specs.Stands as stands
use Rattle.standing.specs.Table.{sort_byte}
use Rattle.checker.specs.declared.slots.Want.{Want}
use Rattle.checker.specs.declared.slots.Want.TheVariants as want
use Rattle.checker.specs.Node.{Then, Leaf, One, Two, Many, Fault}
use Rattle.checker.specs.Bits.{bits_of}
use Rattle.checker.specs.Slots.{sort_at, sort_number, kind_of, used_in, slots_of, spent_by, now_kind, unbound, bound_slot, want_of, want_back, test_of, kind_at, kept_of, mode_of}
use Rattle.checker.specs.Ownership.{Taken, fine, fault, on_fine, take_kind, take_of, take_at, list_of, close_of, give_of, pair_of, make_of, call_of, tail_of, taken_of, kind_by, named_by, past_of, then_of}
use Rattle.checker.specs.Noting.{note_at, note_call, note_calls}
use Rattle.checker.specs.OwnershipReady.{Known, extra_by, bound_by}
use Rattle.checker.proofs.ownership.Spending.{slots_more, spent_length, left_of, left_all}
use Rattle.checker.proofs.ownership.Turns.{sort_is}
use Rattle.checker.proofs.ownership.Taking.{told, told_then, take_tells, list_tells, alike_none, modes_scaled, sorts_scaled, leafed, close_tells}

-- ---- what is kept of the slots

kept_same : (slots : List Slot) (spent bound more : ℕ) (k : Kind) (at : ℕ) → more ≡ bound → slots_of more (kept_of slots spent bound more k at) ≡ left_of slots bound spent
unfolding kept_of left_of pick
kept_same slots spent bound more k at e =
    let l : ltb bound more ≡ false = le-ltb bound more (omega arith) in
    rw (l, e)

kept_more : (slots : List Slot) (spent bound more : ℕ) (k : Kind) (at : ℕ) → length slots ≡ 32 → bound < 32 → more ≡ bound + 1 → used_in k ≡ false
    → slots_of more (kept_of slots spent bound more k at) ≡ tree.bind (left_of slots bound spent) (kind_of k ∷ [])
unfolding kept_of left_of pick
kept_more slots spent bound more k at wide h e u =
    let l : ltb bound more ≡ true = lt-ltb bound more (omega arith) in
    let m : bound < length (spent_by (bits_of 32 spent) slots) = omega (arith, spent_length (bits_of 32 spent) slots) in
    rw (l, e) (slots_more bound (spent_by (bits_of 32 spent) slots) (bound_slot k at) m
    ∙ ap (λ (b : Bool). slots_of bound (spent_by (bits_of 32 spent) slots) ++ (record { kind = kind_of k; used = b } ∷ [])) u)

then_assoc : {A B C : Type 0} (o : Outcome A) (f : A → Outcome B) (g : B → Outcome C) → then (then o f) g ≡ then o (λ a. then (f a) g)
then_assoc (ok a) f g = refl
then_assoc (refuse n p) f g = refl

then_ok : {A : Type 0} (o : Outcome A) → then o (λ a. ok a) ≡ o
then_ok (ok a) = refl
then_ok (refuse n p) = refl

and_false : (b : Bool) → (b && false) ≡ false
and_false true = refl
and_false false = refl

-- calls, and then others
pub noted_both : (a b : List Call) (w : ℕ) → note_calls (a ++ b) w ≡ note_calls b (note_calls a w)
unfolding note_calls
noted_both [] b w = refl
noted_both (c ∷ a) b w = noted_both a b (note_call c.how c.callee w)

module _ (file : File) (bytes decl : List ℕ) (d : Known file bytes decl) (sort : Sort) (slots : List Slot) (wide : length slots ≡ 32) (bound : ℕ) (few : bound ≤ 32) where
  abbrev checked : Term → tree.Slots → Outcome (Unit {0})
  checked = check file.constructors file.functions sort

  -- what follows a node whose record, of mark m, takes what it takes
  abbrev pub Goes : Then → (m : ℕ) → Term → (next more : ℕ) → List Slot → Type 0
  Goes (Leaf n) m t next more inner =
      (n ≡ next) × (checked t (slots_of bound slots) ≡ ok tt)
      × ((f w : ℕ) → note_calls (calls t f) w ≡ note_at bytes (place_of t) m w)
  Goes (One n) m t next more inner =
      (u : Term) × (place_of u ≡ n) × (place_of t < n) × Stands file bytes more u next × (checked t (slots_of bound slots) ≡ checked u (slots_of more inner))
      × ((f w : ℕ) → note_calls (calls t f) w ≡ note_calls (calls u f) (note_at bytes (place_of t) m w))
  Goes (Two n) m t next more inner =
      (u : Term) × (v : Term) × (second : ℕ) × (place_of u ≡ n) × (place_of t < n) × Stands file bytes more u second × (place_of v ≡ second) × Stands file bytes more v next
      × (checked t (slots_of bound slots) ≡ then (checked u (slots_of more inner)) (λ _. checked v (slots_of more inner)))
      × ((f w : ℕ) → note_calls (calls t f) w ≡ note_calls (calls v f) (note_calls (calls u f) (note_at bytes (place_of t) m w)))
  Goes (Many n left credit) m t next more inner =
      (bs : Branches) × (count bs ≡ left) × (place_of t < n) × Each file bytes more (extra_by credit) n bs next × (credit ≤ 1)
      × (checked t (slots_of bound slots) ≡ check_branches file.constructors file.functions sort bs (bound_by credit) [] (slots_of more inner))
      × ((f w : ℕ) → note_calls (calls t f) w ≡ note_calls (calls_branches bs f) (note_at bytes (place_of t) m w))
  Goes (Fault x q) m t next more inner = ⊥

  abbrev pub takes : (m : ℕ) → Term → Taken
  takes m t = taken_of bytes decl (place_of t) slots bound m (sort_byte sort)

  pub record Node (m : ℕ) (t : Term) (next : ℕ) : Type 0 where
    pub room : bound + (row_at m).binds ≤ 32
    pub stops : eqb (takes m t).number 0 ≡ false → checked t (slots_of bound slots) ≡ refuse (takes m t).number (takes m t).place
    pub goes : eqb (takes m t).number 0 ≡ true
        → Goes (then_of bytes decl (place_of t) m) m t next (bound + (row_at m).binds)
        (kept_of slots (takes m t).spent bound (bound + (row_at m).binds) (kind_by bytes decl (place_of t) m) (place_of t))

  -- a record that was taken, told by the definition
  told_stops : {A : Type 0} (x : Taken) (k : tree.Slots → Outcome A) → eqb x.number 0 ≡ false → then (told slots bound x) k ≡ refuse x.number x.place
  unfolding told pick
  told_stops x k e = rw e refl

  told_goes : {A : Type 0} (x : Taken) (k : tree.Slots → Outcome A) → eqb x.number 0 ≡ true → then (told slots bound x) k ≡ k (left_of slots bound x.spent)
  unfolding told pick
  told_goes x k e = rw e refl

  leaf_node : (m next : ℕ) (t : Term) → (row_at m).binds ≡ 0 → then_of bytes decl (place_of t) m ≡ Leaf next
      → checked t (slots_of bound slots) ≡ leafed (takes m t) → ((f w : ℕ) → note_calls (calls t f) w ≡ note_at bytes (place_of t) m w) → Node m t next
  unfolding leafed pick
  leaf_node m next t b f e noted = record {
    room = rw b (omega arith);
    stops = λ q. rw q at e;
    goes = λ q. rw f (refl, rw q at e, noted);
  }

  one_node : (m next : ℕ) (t u : Term) (k : tree.Kind) → (row_at m).binds ≡ 1 → then_of bytes decl (place_of t) m ≡ One (place_of u) → place_of t < place_of u → bound < 32
      → Stands file bytes (suc bound) u next → kind_of (kind_by bytes decl (place_of t) m) ≡ k → used_in (kind_by bytes decl (place_of t) m) ≡ false
      → checked t (slots_of bound slots) ≡ then (told slots bound (takes m t)) (λ left. checked u (tree.bind left (k ∷ [])))
      → ((f w : ℕ) → note_calls (calls t f) w ≡ note_calls (calls u f) (note_at bytes (place_of t) m w)) → Node m t next
  one_node m next t u k b f less h s ek eu e noted = record {
    room = rw b (omega arith);
    stops = λ q. e ∙ told_stops (takes m t) (λ left. checked u (tree.bind left (k ∷ []))) q;
    goes = λ q. rw f (
      u,
      refl,
      less,
      subst (λ n. Stands file bytes n u next) (sym more) s,
      e ∙ told_goes (takes m t) (λ left. checked u (tree.bind left (k ∷ []))) q
          ∙ ap (λ left. checked u left) (ap (λ z. tree.bind (left_of slots bound (takes m t).spent) (z ∷ [])) (sym ek)
          ∙ sym (kept_more slots (takes m t).spent bound (bound + (row_at m).binds) (kind_by bytes decl (place_of t) m) (place_of t) wide h (more ∙ sym (add-one bound)) eu)),
      noted,
    );
  }
    where
      more : bound + (row_at m).binds ≡ suc bound
      more = rw b (add-one bound)

  same_left : (m : ℕ) (t : Term) → (row_at m).binds ≡ 0
      → slots_of (bound + (row_at m).binds) (kept_of slots (takes m t).spent bound (bound + (row_at m).binds) (kind_by bytes decl (place_of t) m) (place_of t)) ≡ left_of slots bound (takes m t).spent
  same_left m t b = kept_same slots (takes m t).spent bound (bound + (row_at m).binds) (kind_by bytes decl (place_of t) m) (place_of t) (omega arith)

  two_node : (m second next : ℕ) (t u v : Term) → (row_at m).binds ≡ 0 → then_of bytes decl (place_of t) m ≡ Two (place_of u) → place_of t < place_of u
      → Stands file bytes bound u second → place_of v ≡ second → Stands file bytes bound v next
      → checked t (slots_of bound slots) ≡ then (told slots bound (takes m t)) (λ left. then (checked u left) (λ _. checked v left))
      → ((f w : ℕ) → note_calls (calls t f) w ≡ note_calls (calls v f) (note_calls (calls u f) (note_at bytes (place_of t) m w))) → Node m t next
  two_node m second next t u v b f less s p w e noted = record {
    room = rw b (omega arith);
    stops = λ q. e ∙ told_stops (takes m t) (λ left. then (checked u left) (λ _. checked v left)) q;
    goes = λ q. rw f (
      u,
      v,
      second,
      refl,
      less,
      subst (λ n. Stands file bytes n u second) (sym more) s,
      p,
      subst (λ n. Stands file bytes n v next) (sym more) w,
      e ∙ told_goes (takes m t) (λ left. then (checked u left) (λ _. checked v left)) q ∙ ap (λ left. then (checked u left) (λ _. checked v left)) (sym (same_left m t b)),
      noted,
    );
  }
    where
      more : bound + (row_at m).binds ≡ bound
      more = omega arith

  many_node : (m place left credit next : ℕ) (t : Term) (bs : Branches) → (row_at m).binds ≡ 0 → then_of bytes decl (place_of t) m ≡ Many place left credit → place_of t < place
      → count bs ≡ left → credit ≤ 1 → Each file bytes bound (extra_by credit) place bs next
      → checked t (slots_of bound slots)
      ≡ then (told slots bound (takes m t)) (λ l. check_branches file.constructors file.functions sort bs (bound_by credit) [] l)
      → ((f w : ℕ) → note_calls (calls t f) w ≡ note_calls (calls_branches bs f) (note_at bytes (place_of t) m w)) → Node m t next
  many_node m place left credit next t bs b f less n c s e noted = record {
    room = rw b (omega arith);
    stops = λ q. e ∙ told_stops (takes m t) (λ l. check_branches file.constructors file.functions sort bs (bound_by credit) [] l) q;
    goes = λ q. rw f (
      bs,
      n,
      less,
      subst (λ z. Each file bytes z (extra_by credit) place bs next) (sym more) s,
      c,
      e ∙ told_goes (takes m t) (λ l. check_branches file.constructors file.functions sort bs (bound_by credit) [] l) q
          ∙ ap (λ l. check_branches file.constructors file.functions sort bs (bound_by credit) [] l) (sym (same_left m t b)),
      noted,
    );
  }
    where
      more : bound + (row_at m).binds ≡ bound
      more = omega arith

  -- ---- what the records take
  take_at_lem : (p k s : ℕ) (w : Want) → byte_at bytes (p + k) ≡ s
      → told slots bound (take_at bytes p slots bound k w) ≡ tree.take false (want_of w) s (p + k) (slots_of bound slots)
  take_at_lem p k s w e = take_tells slots wide bound few (byte_at bytes (p + k)) (p + k) w false 0 ∙ rw (e, left_all slots bound)

  call_tells : (p f : ℕ) (ss : List ℕ) → byte_at bytes (p + 2) ≡ f → f < length file.functions → Listed bytes (p + 3) ss
      → length ss ≡ length (function_of file f).parameters
      → told slots bound (call_of bytes decl p slots bound) ≡ tree.pass [] (function_of file f).parameters ss (p + 3) (slots_of bound slots)
  unfolding call_of
  call_tells p f ss e l n c =
      rw (e, d.parameters f l) (list_tells bytes slots wide bound few (function_of file f).parameters ss 1 (modes_in decl f) (p + 3) 0 0 [] (alike_none 32)
      (modes_scaled bytes (modes_in decl f) (function_of file f).parameters (d.modes f l)) n c
      ∙ ap (λ z. tree.pass [] (function_of file f).parameters ss (p + 3) z) (left_all slots bound))

  make_tells : (p c k : ℕ) (ss : List ℕ) → byte_at bytes (p + 2) ≡ c → byte_at bytes (p + 3) ≡ k → c < length file.constructors → Listed bytes (p + 4) ss
      → length ss ≡ length (get_or file.constructors c [])
      → told slots bound (make_of bytes decl p slots bound)
      ≡ then (tree.take false (tree.Want.credit (length (get_or file.constructors c []))) k (p + 3) (slots_of bound slots))
      (λ left. tree.pass [] (map tree.mode_owned (get_or file.constructors c [])) ss (p + 4) left)
  unfolding make_of
  make_tells p c k ss e ek l n h =
      rw (e, d.arities c l) (told_then slots bound (take_at bytes p slots bound 3 (want.Credit (length sorts)))
      (list_of bytes slots bound 2 (length sorts) (fields_in decl c) (p + 4) 0 (take_at bytes p slots bound 3 (want.Credit (length sorts))).spent)
      (λ left. tree.pass [] (map tree.mode_owned sorts) ss (p + 4) left)
      (λ q. ap (λ z. told slots bound (list_of bytes slots bound 2 z (fields_in decl c) (p + 4) 0 (take_at bytes p slots bound 3 (want.Credit (length sorts))).spent)) (sym (length-map sorts tree.mode_owned))
      ∙ list_tells bytes slots wide bound few (map tree.mode_owned sorts) ss 2 (fields_in decl c) (p + 4) 0 (take_at bytes p slots bound 3 (want.Credit (length sorts))).spent [] (alike_none 32)
      (sorts_scaled bytes (fields_in decl c) sorts (d.sorts c l)) n (h ∙ sym (length-map sorts tree.mode_owned)))
      ∙ ap (λ o. then o (λ left. tree.pass [] (map tree.mode_owned sorts) ss (p + 4) left)) (take_at_lem p 3 k (want.Credit (length sorts)) ek))
    where
      sorts : List Sort
      sorts = get_or file.constructors c []

  one_pass : (m : Mode) (s q : ℕ) (left : tree.Slots) → tree.pass [] (m ∷ []) (s ∷ []) q left ≡ tree.take false (tree.want m) s q left
  unfolding tree.pass
  one_pass m s q left = rw (and_false (tree.spends (tree.want m))) (then_ok (tree.take false (tree.want m) s q left))

  give_want : (x : Sort) → want_of (want_back (sort_byte x)) ≡ tree.want (tree.mode_owned x)
  unfolding want_back pick
  give_want Sort.number = refl
  give_want Sort.tree = refl

  same_bytes : (x y : Sort) → eqb (sort_byte x) (sort_byte y) ≡ tree.same_sort x y
  same_bytes Sort.number Sort.number = refl
  same_bytes Sort.number Sort.tree = refl
  same_bytes Sort.tree Sort.number = refl
  same_bytes Sort.tree Sort.tree = refl

  -- ---- the nodes
  gv_node : (p s next : ℕ) → byte_at bytes (p + 2) ≡ s → next ≡ p + 3 → Node 4 (S.GV p s) next
  unfolding taken_of then_of past_of named_by row_at pick check calls note_calls note_at give_of
  gv_node p s next e n =
      let q : p + 2 + 1 + 0 ≡ next = omega arith in
      let w : tree.take false (tree.want (tree.mode_owned sort)) s (p + 2) (slots_of bound slots) ≡ told slots bound (take_at bytes p slots bound 2 (want_back (sort_byte sort))) =
      rw (← (give_want sort)) (sym (take_at_lem p 2 s (want_back (sort_byte sort)) e)) in
      leaf_node 4 next (S.GV p s) refl (ap Leaf q)
      (ap (λ o. then o (tree.done p)) (one_pass (tree.mode_owned sort) s (p + 2) (slots_of bound slots) ∙ w)
      ∙ sym (close_tells (take_at bytes p slots bound 2 (want_back (sort_byte sort))) p slots bound)) (λ f w. refl)

  at_node : (p c next : ℕ) (t : Term) → bound < 32 → place_of t ≡ p + 3 → Stands file bytes (suc bound) t next → Node 5 (S.AT p c t) next
  unfolding taken_of then_of past_of named_by row_at pick check calls note_at kind_by told
  at_node p c next t h e s =
      let q : p + 2 + 1 + 0 ≡ place_of t = omega arith in
      one_node 5 next (S.AT p c t) t tree.Kind.owned refl (ap One q) (omega arith) h s refl refl (ap (λ z. checked t (tree.bind z (tree.Kind.owned ∷ []))) (sym (left_all slots bound))) (λ f w. refl)

  nu_node : (p n next : ℕ) (t : Term) → bound < 32 → place_of t ≡ p + 4 → Stands file bytes (suc bound) t next → Node 12 (S.NU p n t) next
  unfolding taken_of then_of past_of named_by row_at pick check calls note_at kind_by told
  nu_node p n next t h e s =
      let q : p + 2 + 2 + 0 ≡ place_of t = omega arith in
      one_node 12 next (S.NU p n t) t tree.Kind.number refl (ap One q) (omega arith) h s refl refl (ap (λ z. checked t (tree.bind z (tree.Kind.number ∷ []))) (sym (left_all slots bound))) (λ f w. refl)

  mk_node : (p c k next : ℕ) (ss : List ℕ) (t : Term) → byte_at bytes (p + 2) ≡ c → byte_at bytes (p + 3) ≡ k → Listed bytes (p + 4) ss → c < length file.constructors
      → length ss ≡ length (get_or file.constructors c []) → bound < 32 → place_of t ≡ p + 4 + length ss → Stands file bytes (suc bound) t next → Node 6 (S.MK p c k ss t) next
  unfolding taken_of then_of past_of named_by row_at pick check calls note_at kind_by
  mk_node p c k next ss t ec ek l lc n h e s =
      let a : arity_in decl (byte_at bytes (p + 2)) ≡ length ss = rw ec (d.arities c lc ∙ sym n) in
      let q : p + 2 + 2 + arity_in decl (byte_at bytes (p + 2)) ≡ place_of t = omega arith in
      one_node 6 next (S.MK p c k ss t) t tree.Kind.owned refl (ap One q) (omega arith) h s refl refl
      (sym (then_assoc (tree.take false (tree.Want.credit (length (get_or file.constructors c []))) k (p + 3) (slots_of bound slots))
      (λ left. tree.pass [] (map tree.mode_owned (get_or file.constructors c [])) ss (p + 4) left) (λ left. checked t (tree.bind left (tree.Kind.owned ∷ []))))
      ∙ ap (λ o. then o (λ left. checked t (tree.bind left (tree.Kind.owned ∷ [])))) (sym (make_tells p c k ss ec ek lc l n))) (λ f w. refl)

  op_node : (p s next : ℕ) (bs : Branches) → byte_at bytes (p + 2) ≡ s → byte_at bytes (p + 3) ≡ count bs → Each file bytes bound (extra_by 1) (p + 4) bs next → Node 9 (S.OP p s bs) next
  unfolding taken_of then_of past_of named_by row_at pick check calls note_at
  op_node p s next bs e n each =
      let q : p + 2 + 2 + 0 ≡ p + 4 = omega arith in
      many_node 9 (p + 4) (byte_at bytes (p + 3)) 1 next (S.OP p s bs) bs refl (ap (λ z. Many z (byte_at bytes (p + 3)) 1) q) (omega arith) (sym n) (omega arith) each
      (ap (λ o. then o (λ l. check_branches file.constructors file.functions sort bs tree.bound_by_OP [] l)) (sym (take_at_lem p 2 s want.Owned e))) (λ f w. refl)

  lk_node : (p s next : ℕ) (bs : Branches) → byte_at bytes (p + 2) ≡ s → byte_at bytes (p + 3) ≡ count bs → Each file bytes bound (extra_by 0) (p + 4) bs next → Node 10 (S.LK p s bs) next
  unfolding taken_of then_of past_of named_by row_at pick check calls note_at
  lk_node p s next bs e n each =
      let q : p + 2 + 2 + 0 ≡ p + 4 = omega arith in
      many_node 10 (p + 4) (byte_at bytes (p + 3)) 0 next (S.LK p s bs) bs refl (ap (λ z. Many z (byte_at bytes (p + 3)) 0) q) (omega arith) (sym n) (omega arith) each
      (ap (λ o. then o (λ l. check_branches file.constructors file.functions sort bs tree.bound_by_LK [] l)) (sym (take_at_lem p 2 s want.Looked e))) (λ f w. refl)

  if_node : (p s second next : ℕ) (t u : Term) → byte_at bytes (p + 2) ≡ s → place_of t ≡ p + 3 → Stands file bytes bound t second → place_of u ≡ second → Stands file bytes bound u next
      → Node 14 (S.IF p s t u) next
  unfolding taken_of then_of past_of named_by row_at pick check calls note_at
  if_node p s second next t u e pt st pu su =
      let q : p + 2 + 1 + 0 ≡ place_of t = omega arith in
      two_node 14 second next (S.IF p s t u) t u refl (ap Two q) (omega arith) st pu su
      (ap (λ o. then o (λ left. then (checked t left) (λ _. checked u left))) (sym (take_at_lem p 2 s want.Number e))) (λ f w. noted_both (calls t f) (calls u f) w)

  result_kind : (x : Sort) → (kind_of (kind_at (sort_byte x * 2)) ≡ tree.kind_owned x) × (used_in (kind_at (sort_byte x * 2)) ≡ false)
  unfolding mode_of pick
  result_kind Sort.number = (refl, refl)
  result_kind Sort.tree = (refl, refl)

  -- the file has at most 32 functions
  low_callee : (p f : ℕ) → byte_at bytes (p + 2) ≡ f → f < length file.functions → byte_at bytes (p + 2) % 32 ≡ f
  low_callee p f e l = let h = d.functions in omega arith

  cl_node : (p f next : ℕ) (ss : List ℕ) (t : Term) → byte_at bytes (p + 2) ≡ f → Listed bytes (p + 3) ss → f < length file.functions
      → length ss ≡ length (function_of file f).parameters → bound < 32 → place_of t ≡ p + 3 + length ss → Stands file bytes (suc bound) t next → Node 7 (S.CL p f ss t) next
  unfolding taken_of then_of past_of named_by row_at pick check calls note_calls note_at kind_by
  cl_node p f next ss t ef l lf n h e s =
      let a : params_in decl (byte_at bytes (p + 2)) ≡ length ss = rw ef (d.parameters f lf ∙ sym n) in
      let q : p + 2 + 1 + params_in decl (byte_at bytes (p + 2)) ≡ place_of t = omega arith in
      let r : result_in bytes decl (byte_at bytes (p + 2)) ≡ sort_byte (function_of file f).result = rw ef (d.result f lf).0 in
      let k = result_kind (function_of file f).result in
      one_node 7 next (S.CL p f ss t) t (tree.kind_owned (function_of file f).result) refl (ap One q) (omega arith) h s
      (ap (λ z. kind_of (kind_at (z * 2))) r ∙ k.0) (ap (λ z. used_in (kind_at (z * 2))) r ∙ k.1)
      (ap (λ o. then o (λ left. checked t (tree.bind left (tree.kind_owned (function_of file f).result ∷ [])))) (sym (call_tells p f ss ef lf l n)))
      (λ g w. ap (λ z. note_calls (calls t g) (bit_or w (2 ^ z))) (sym (low_callee p f ef lf)))

  tl_node : (p f next : ℕ) (ss : List ℕ) → byte_at bytes (p + 2) ≡ f → Listed bytes (p + 3) ss → f < length file.functions
      → length ss ≡ length (function_of file f).parameters → next ≡ p + 3 + length ss → Node 8 (S.TL p f ss) next
  unfolding taken_of then_of past_of named_by row_at pick check calls note_calls note_at tail_of leafed
  tl_node p f next ss ef l lf n e =
      let a : params_in decl (byte_at bytes (p + 2)) ≡ length ss = rw ef (d.parameters f lf ∙ sym n) in
      let q : p + 2 + 1 + params_in decl (byte_at bytes (p + 2)) ≡ next = omega arith in
      let r : result_in bytes decl (byte_at bytes (p + 2)) ≡ sort_byte (function_of file f).result = rw ef (d.result f lf).0 in
      let same : sort_number (sort_at (result_in bytes decl (byte_at bytes (p + 2)))) ≡ sort_byte (function_of file f).result = ap (λ z. sort_number (sort_at z)) r ∙ sort_is (function_of file f).result in
      leaf_node 8 next (S.TL p f ss) refl (ap Leaf q) (go (tree.same_sort (function_of file f).result sort) (ap (λ z. eqb z (sort_byte sort)) same ∙ same_bytes (function_of file f).result sort))
      (λ g w. ap (λ z. bit_or w (2 ^ (32 + z))) (sym (low_callee p f ef lf)))
    where
      closed : Taken
      closed = close_of (call_of bytes decl p slots bound) p slots bound

      go : (b : Bool) → eqb (sort_number (sort_at (result_in bytes decl (byte_at bytes (p + 2))))) (sort_byte sort) ≡ b
          → then (require 8 (p + 2) b) (λ _. then (tree.pass [] (function_of file f).parameters ss (p + 3) (slots_of bound slots)) (tree.done p))
          ≡ leafed (pick (eqb (sort_number (sort_at (result_in bytes decl (byte_at bytes (p + 2))))) (sort_byte sort)) closed (fault 8 (p + 2)))
      go true z = rw z (ap (λ o. then o (tree.done p)) (sym (call_tells p f ss ef lf l n)) ∙ sym (close_tells (call_of bytes decl p slots bound) p slots bound))
      go false z = rw z refl

  number_spent : (i p : ℕ) → (take_of slots bound i p want.Number false 0).spent ≡ 0
  unfolding take_of take_kind pick
  number_spent i p = go (leb bound i) (eqb (test_of (now_kind (get_or (bits_of 32 0) i false) (get_or slots i unbound).kind) want.Number false) 0)
    where
      number : ℕ
      number = test_of (now_kind (get_or (bits_of 32 0) i false) (get_or slots i unbound).kind) want.Number false

      go : (a b : Bool) → (pick a (fault 7 p) (pick b (fine 0) (fault number p))).spent ≡ 0
      go true b = refl
      go false true = refl
      go false false = refl

  ar_node : (p o x y next : ℕ) (t : Term) → byte_at bytes (p + 3) ≡ x → byte_at bytes (p + 4) ≡ y → bound < 32 → place_of t ≡ p + 5 → Stands file bytes (suc bound) t next
      → Node 13 (S.AR p o x y t) next
  unfolding taken_of then_of past_of named_by row_at pick check calls note_at kind_by pair_of
  ar_node p o x y next t ex ey h e s =
      let q : p + 2 + 3 + 0 ≡ place_of t = omega arith in
      one_node 13 next (S.AR p o x y t) t tree.Kind.number refl (ap One q) (omega arith) h s refl refl
      (sym (then_assoc (tree.take false tree.Want.number x (p + 3) (slots_of bound slots)) (λ left. tree.take false tree.Want.number y (p + 4) left) (λ left. checked t (tree.bind left (tree.Kind.number ∷ []))))
      ∙ ap (λ z. then z (λ left. checked t (tree.bind left (tree.Kind.number ∷ [])))) (sym taken)) (λ f w. refl)
    where
      first : Taken
      first = take_at bytes p slots bound 3 want.Number

      second_told : told slots bound (take_at bytes p slots bound 4 want.Number) ≡ tree.take false tree.Want.number y (p + 4) (left_of slots bound first.spent)
      second_told = take_at_lem p 4 y want.Number ey ∙ rw (number_spent (byte_at bytes (p + 3)) (p + 3), left_all slots bound)

      taken : told slots bound (on_fine first (take_at bytes p slots bound 4 want.Number))
          ≡ then (tree.take false tree.Want.number x (p + 3) (slots_of bound slots)) (λ left. tree.take false tree.Want.number y (p + 4) left)
      taken = told_then slots bound first (take_at bytes p slots bound 4 want.Number) (λ left. tree.take false tree.Want.number y (p + 4) left) (λ q. second_told)
          ∙ ap (λ z. then z (λ left. tree.take false tree.Want.number y (p + 4) left)) (take_at_lem p 3 x want.Number ex)

  -- the mark's place in the table
  marked : {m : ℕ} (n : ℕ) (t : Term) (next : ℕ) → m ≡ n → Node n t next → Node m t next
  marked n t next e x = rw e x

  pub node : {t : Term} {next : ℕ} → Stands file bytes bound t next → Node (find_mark (mark_at bytes (place_of t))) t next
  unfolding find_mark mark_of number_of
  node (stands.GV {p} {s} {next} m l e n) = marked 4 (S.GV p s) next (rw m) (gv_node p s next e n)
  node (stands.AT {p} {c} {next} {t} m l e h q s) = marked 5 (S.AT p c t) next (rw m) (at_node p c next t h q s)
  node (stands.MK {p} {c} {k} {next} {ss} {t} m l ec ek ls lc n h q s) = marked 6 (S.MK p c k ss t) next (rw m) (mk_node p c k next ss t ec ek ls lc n h q s)
  node (stands.CL {p} {f} {next} {ss} {t} m l e ls lf n h q s) = marked 7 (S.CL p f ss t) next (rw m) (cl_node p f next ss t e ls lf n h q s)
  node (stands.TL {p} {f} {next} {ss} m l e ls lf n q) = marked 8 (S.TL p f ss) next (rw m) (tl_node p f next ss e ls lf n q)
  node (stands.OP {p} {s} {next} {bs} m l e n each) = marked 9 (S.OP p s bs) next (rw m) (op_node p s next bs e n each)
  node (stands.LK {p} {s} {next} {bs} m l e n each) = marked 10 (S.LK p s bs) next (rw m) (lk_node p s next bs e n each)
  node (stands.NU {p} {n} {next} {t} m l e h q s) = marked 12 (S.NU p n t) next (rw m) (nu_node p n next t h q s)
  node (stands.AR {p} {o} {x} {y} {next} {t} m l eo ex ey h q s) = marked 13 (S.AR p o x y t) next (rw m) (ar_node p o x y next t ex ey h q s)
  node (stands.IF {p} {s} {second} {next} {t} {u} m l e pt st pu su) = marked 14 (S.IF p s t u) next (rw m) (if_node p s second next t u e pt st pu su)
