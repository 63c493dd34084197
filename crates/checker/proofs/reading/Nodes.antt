-- A node: the reader of trees, behind a mark, beside what the code makes of the node's bytes. One clause a mark. Assumes nothing.
use Prim.Native.Nat.{ℕ, suc, ◌+◌, ◌≤◌, ◌<◌}
use mathlib.Core.List.{List, [], ◌∷◌}
use mathlib.Core.Bool.{Bool, true, false, ◌&&◌}
use mathlib.Core.Option.{none, some}
use mathlib.Core.Path.{◌≡◌, refl, sym, ap, ◌∙◌, subst}
use lib.ListN.{length, drop, get_or, get_elem?}
use lib.Dec.{leb, ltb, eqb}
use native.Mathlib.Omega.{arith}
use borrow.Author.Tests.{leb-true, leb-false, ltb-true, ltb-false, eqb-false, le-leb, lt-leb, lt-ltb, le-ltb, ne_eqb}
use Rattle.meaning.specs.Syntax.{Signature, Constructor, Term, Branches}
use Rattle.meaning.specs.Outcome.{Outcome, refuse, then}
use Rattle.meaning.specs.Reading.{Reader, ensure, any, is_atom, is_node, credits, limits, node}
use Rattle.meaning.specs.declared.Mark.{Mark}
use Rattle.meaning.specs.declared.Mark.TheVariants.{CN, FN, BD, ND, GV, AT, MK, CL, TL, OP, LK, BR, NU, AR, IF, Other}
use Rattle.meaning.specs.Marks.{row_at, number_of}
use Rattle.checker.specs.declared.reading.Path.{Path}
use Rattle.checker.specs.Node.{Then, Node}
use Rattle.checker.specs.Node as then'
use Rattle.checker.specs.Read.{Read, Next, Fault}
use Rattle.meaning.specs.Choice.{pick}
use Rattle.checker.specs.ReadingBytes.{binds_of, known_arity, known_count, room, atom_field, make_fields, call_fields, open_fields, sum_fields, fields_at, follows_at, path, limited, after_fields, node_of, on_next}
use Rattle.standing.specs.Bytes.{byte_at}
use Rattle.checker.specs.Reads.{Declares, arity_of, count_of, extra_of}
use Rattle.checker.proofs.reading.Spans.{Spans, went, fell, bind, within, byte_law, bytes_law, ensure_law, declared_law, below_law}

-- ---- how a term goes on, by what follows its node
abbrev pub Terms : Type 0
Terms = ℕ → Path → Read

abbrev pub Lists : Type 0
Lists = ℕ → ℕ → ℕ → Path → Read

unfoldable pub by_follow : Then → Path → Terms → Lists → Read
by_follow (then'.Leaf n) p t b = Next n
by_follow (then'.One n) p t b = t n p
by_follow (then'.Two n) p t b = on_next (t n p) (λ m. t m p)
by_follow (then'.Many n k c) p t b = b n k c p
by_follow (then'.Fault x q) p t b = Fault x q

unfoldable pub by_node : Node → Terms → Lists → Read
by_node n t b = by_follow n.then n.path t b

room_no : (f : List ℕ) (a n : ℕ) → length f < a + n → room f a n ≡ Fault 2 (length f)
unfolding room pick
room_no f a n h = simp (lt-ltb (length f) (a + n) h)

room_yes : (f : List ℕ) (a n : ℕ) → a + n ≤ length f → room f a n ≡ Next (a + n)
unfolding room pick
room_yes f a n h = simp (le-ltb (length f) (a + n) h)

-- ---- the fields of each kind of record, given what is declared under the first
atom_no : (f d : List ℕ) (a : ℕ) → length f ≤ a → atom_field f d a ≡ Fault 2 (length f)
unfolding atom_field pick
atom_no f d a h = simp (le-leb (length f) a h)

atom_at : (f d : List ℕ) (a k : ℕ) → a < length f → known_arity d (get_or f a 0) ≡ k → atom_field f d a ≡ pick (eqb k 0) (Next (a + 1)) (Fault 4 a)
unfolding atom_field pick
atom_at f d a k h e = simp (lt-leb (length f) a h, e)

make_no : (f d : List ℕ) (a : ℕ) → length f ≤ a → make_fields f d a ≡ Fault 2 (length f)
unfolding make_fields pick
make_no f d a h = simp (le-leb (length f) a h)

make_at : (f d : List ℕ) (a k : ℕ) → a < length f → known_arity d (get_or f a 0) ≡ k
    → make_fields f d a ≡ pick (eqb k 0) (Fault 4 a) (pick (ltb 4 k) (Fault 4 a) (room f (a + 1) (k + 1)))
unfolding make_fields pick
make_at f d a k h e = simp (lt-leb (length f) a h, e)

call_no : (f d : List ℕ) (a : ℕ) → length f ≤ a → call_fields f d a ≡ Fault 2 (length f)
unfolding call_fields pick
call_no f d a h = simp (le-leb (length f) a h)

call_at : (f d : List ℕ) (a k : ℕ) → a < length f → known_count d (get_or f a 0) ≡ k
    → call_fields f d a ≡ pick (ltb 8 k) (Fault 4 a) (room f (a + 1) k)
unfolding call_fields pick
call_at f d a k h e = simp (lt-leb (length f) a h, e)

open_no : (f : List ℕ) (a : ℕ) → length f ≤ a + 1 → open_fields f a ≡ Fault 2 (length f)
unfolding open_fields pick
open_no f a h = simp (le-leb (length f) (a + 1) h)

open_at : (f : List ℕ) (a k : ℕ) → a + 1 < length f → get_or f (a + 1) 0 ≡ k
    → open_fields f a ≡ pick (eqb k 0) (Fault 4 (a + 1)) (pick (ltb 64 k) (Fault 4 (a + 1)) (Next (a + 2)))
unfolding open_fields pick
open_at f a k h e = simp (lt-leb (length f) (a + 1) h, e)

count_no : (k : ℕ) (x y : Read) → (ltb 0 k && leb k 64) ≡ false → pick (eqb k 0) x (pick (ltb 64 k) x y) ≡ x
unfolding pick
count_no k x y e = go (eqb k 0) refl (ltb 64 k) refl
  where
    go : (u : Bool) → eqb k 0 ≡ u → (v : Bool) → ltb 64 k ≡ v → pick (eqb k 0) x (pick (ltb 64 k) x y) ≡ x
    go true eu v ev = rw eu
    go false eu true ev = rw (eu, ev)
    go false eu false ev =
        let n = eqb-false k 0 eu in
        let l = ltb-false 64 k ev in
        let q : (ltb 0 k && leb k 64) ≡ true = rw (lt-ltb 0 k (omega arith), le-leb k 64 (omega arith)) in
        let z : true ≡ false = sym q ∙ e in
        let w : ◌≡◌ {A = ℕ} 0 1 = cc in
        absurd (omega arith)

count_yes : (k : ℕ) (x y : Read) → (ltb 0 k && leb k 64) ≡ true → pick (eqb k 0) x (pick (ltb 64 k) x y) ≡ y
unfolding pick
count_yes k x y e = go (ltb 0 k) refl (leb k 64) refl
  where
    go : (u : Bool) → ltb 0 k ≡ u → (v : Bool) → leb k 64 ≡ v → pick (eqb k 0) x (pick (ltb 64 k) x y) ≡ y
    go true eu true ev =
        let l = ltb-true 0 k eu in
        let m = leb-true k 64 ev in
        rw (ne_eqb k 0 (λ z. omega arith), le-ltb 64 k m)
    go true eu false ev =
        let q : (ltb 0 k && leb k 64) ≡ false = rw (eu, ev) in
        let z : false ≡ true = sym q ∙ e in
        let w : ◌≡◌ {A = ℕ} 0 1 = cc in
        absurd (omega arith)
    go false eu v ev =
        let q : (ltb 0 k && leb k 64) ≡ false = rw eu in
        let z : false ≡ true = sym q ∙ e in
        let w : ◌≡◌ {A = ℕ} 0 1 = cc in
        absurd (omega arith)

sum_no : (f : List ℕ) (a : ℕ) → length f ≤ a → sum_fields f a ≡ Fault 2 (length f)
unfolding sum_fields pick
sum_no f a h = simp (le-leb (length f) a h)

sum_bad : (f : List ℕ) (a : ℕ) → a < length f → ltb (get_or f a 0) 4 ≡ false → sum_fields f a ≡ Fault 4 a
unfolding sum_fields pick
sum_bad f a h e = let l = ltb-false (get_or f a 0) 4 e in simp (lt-leb (length f) a h, lt-ltb 3 (get_or f a 0) (omega arith))

sum_at : (f : List ℕ) (a : ℕ) → a < length f → ltb (get_or f a 0) 4 ≡ true → sum_fields f a ≡ room f (a + 1) 2
unfolding sum_fields pick
sum_at f a h e = let l = ltb-true (get_or f a 0) 4 e in simp (lt-leb (length f) a h, le-ltb 3 (get_or f a 0) (omega arith))

atom_length : (c : Constructor) → is_atom c ≡ true → length c ≡ 0
atom_length [] e = refl
atom_length (s ∷ c) e = let z : ◌≡◌ {A = ℕ} 0 1 = cc in absurd (omega arith)

pub node_length : (c : Constructor) → is_atom c ≡ false → 0 < length c
node_length [] e = let z : ◌≡◌ {A = ℕ} 0 1 = cc in absurd (omega arith)
node_length (s ∷ c) e = omega arith

not_node : (c : Constructor) → is_node c ≡ false → is_atom c ≡ true
not_node [] e = refl
not_node (s ∷ c) e = let z : ◌≡◌ {A = ℕ} 0 1 = cc in absurd (omega arith)

pub is_node_not : (c : Constructor) → is_node c ≡ true → is_atom c ≡ false
is_node_not [] e = let z : ◌≡◌ {A = ℕ} 0 1 = cc in absurd (omega arith)
is_node_not (s ∷ c) e = refl

module _ (f d : List ℕ) (at : ℕ) (p : Path) (t : Terms) (b : Lists) where
  abbrev Said : (m : ℕ) → Read
  Said m = by_node (node_of f d at p m) t b

  said_no : (m x q : ℕ) → fields_at f d at m ≡ Fault x q → Said m ≡ Fault x q
  unfolding node_of after_fields by_node by_follow
  said_no m x q e = rw e

  -- behind the fields come the limits
  said_yes : {A : Type 0} (lo m n a s k : ℕ) (bytes : List ℕ) (K : Unit {0} × ℕ × List ℕ → Outcome (A × ℕ × List ℕ)) → fields_at f d at m ≡ Next n → n ≡ a
      → s ≡ p.slots + binds_of m → k ≡ p.nodes + 1
      → Spans f lo (K (tt, a, bytes)) (by_follow (follows_at f at m a) (path s k) t b)
      → Spans f lo (then (ensure 5 at (leb k 64 && leb s 32) a bytes) K) (Said m)
  unfolding node_of after_fields by_node by_follow limited pick
  said_yes {A} lo m n a s k bytes K e z es ek h =
      subst (λ r. Spans f lo (then (ensure 5 at (leb k 64 && leb s 32) a bytes) K) (by_node (after_fields f at m p r) t b)) (sym e)
      (go (leb 64 p.nodes) refl (ltb 32 (p.slots + binds_of m)) refl)
    where
      Claim : Type 0
      Claim = Spans f lo (then (ensure 5 at (leb k 64 && leb s 32) a bytes) K) (by_node (limited f at m p n) t b)

      go : (u : Bool) → leb 64 p.nodes ≡ u → (v : Bool) → ltb 32 (p.slots + binds_of m) ≡ v → Claim
      go true eu v ev =
          let l = leb-true 64 p.nodes eu in
          rw (eu, lt-leb k 64 (omega arith)) fell
      go false eu true ev =
          let l = leb-false 64 p.nodes eu in
          let r = ltb-true 32 (p.slots + binds_of m) ev in
          rw (eu, ev, le-leb k 64 (omega arith), lt-leb s 32 (omega arith)) fell
      go false eu false ev =
          let l = leb-false 64 p.nodes eu in
          let r = ltb-false 32 (p.slots + binds_of m) ev in
          rw (eu, ev, le-leb k 64 (omega arith), le-leb s 32 (omega arith), z, ← es, ← ek) h

module _ (f d : List ℕ) (cs : List Constructor) (fs : List Signature) (D : Declares d cs fs) (at : ℕ) (p : Path) (t : Terms) (b : Lists)
    (T : (slots nodes : ℕ) → Reader Term) (B : (count : ℕ) → (Constructor → ℕ) → (slots nodes : ℕ) → Reader Branches)
    (h_t : (s k n : ℕ) → n ≤ length f → Spans f (suc n) (T s k n (drop n f)) (t n (path s k)))
    (h_b : (c credit s k n : ℕ) (x : Constructor → ℕ) → ((y : Constructor) → x y ≡ extra_of credit y) → n ≤ length f
    → Spans f n (B c x s k n (drop n f)) (b n c credit (path s k)))
    (h2 : at + 2 ≤ length f) where
  abbrev Holds : Mark → Type 0
  Holds m = Spans f (suc at) (node cs fs T B p.slots p.nodes at m (at + 2) (drop (at + 2) f)) (by_node (node_of f d at p (number_of m)) t b)

  at_GV : Holds GV
  unfolding node limits number_of fields_at pick binds_of row_at follows_at by_follow
  at_GV =
      byte_law f (suc at) _ (at + 2) _ h2 (λ l. said_no f d at p t b 4 2 (length f) (room_no f (at + 2) 1 (omega arith)))
      (λ l. said_yes f d at p t b (suc at) 4 (at + 2 + 1) (suc (at + 2)) p.slots (suc p.nodes) _ _ (room_yes f (at + 2) 1 (omega arith)) (omega arith) (omega arith) (omega arith)
      (went refl (omega arith) l))

  at_NU : Holds NU
  unfolding node limits number_of fields_at pick binds_of row_at follows_at by_follow
  at_NU =
      byte_law f (suc at) _ (at + 2) _ h2 (λ l. said_no f d at p t b 12 2 (length f) (room_no f (at + 2) 2 (omega arith)))
      (λ l. byte_law f (suc at) _ (suc (at + 2)) _ l (λ l'. said_no f d at p t b 12 2 (length f) (room_no f (at + 2) 2 (omega arith)))
      (λ l'. said_yes f d at p t b (suc at) 12 (at + 2 + 2) (suc (suc (at + 2))) (suc p.slots) (suc p.nodes) _ _ (room_yes f (at + 2) 2 (omega arith)) (omega arith) (omega arith) (omega arith)
      (within (T (suc p.slots) (suc p.nodes) (suc (suc (at + 2))) (drop (suc (suc (at + 2))) f)) _ (omega arith) (h_t _ _ _ l'))))

  at_IF : Holds IF
  unfolding node limits number_of fields_at pick binds_of row_at follows_at by_follow on_next
  at_IF =
      byte_law f (suc at) _ (at + 2) _ h2 (λ l. said_no f d at p t b 14 2 (length f) (room_no f (at + 2) 1 (omega arith)))
      (λ l. said_yes f d at p t b (suc at) 14 (at + 2 + 1) (suc (at + 2)) p.slots (suc p.nodes) _ _ (room_yes f (at + 2) 1 (omega arith)) (omega arith) (omega arith) (omega arith)
      (bind _ _ (h_t p.slots (suc p.nodes) (suc (at + 2)) l)
      (λ u n q h. within (T p.slots (suc p.nodes) n (drop n f)) _ (omega arith) (h_t _ _ n h))))

  arity_none : (c : ℕ) → get_elem? cs c ≡ none → known_arity d c ≡ 255
  unfolding arity_of
  arity_none c e = D.arities c ∙ ap arity_of e

  arity_some : (c : ℕ) (x : Constructor) → get_elem? cs c ≡ some x → known_arity d c ≡ length x
  unfolding arity_of
  arity_some c x e = D.arities c ∙ ap arity_of e

  count_none : (c : ℕ) → get_elem? fs c ≡ none → known_count d c ≡ 255
  unfolding count_of
  count_none c e = D.counts c ∙ ap count_of e

  count_some : (c : ℕ) (x : Signature) → get_elem? fs c ≡ some x → known_count d c ≡ length x.parameters
  unfolding count_of
  count_some c x e = D.counts c ∙ ap count_of e

  at_AT : Holds AT
  unfolding node limits number_of fields_at pick binds_of row_at follows_at by_follow
  at_AT =
      declared_law f (suc at) _ cs is_atom (at + 2) _ h2 (λ l. said_no f d at p t b 5 2 (length f) (atom_no f d (at + 2) l))
      (λ l e. said_no f d at p t b 5 4 (at + 2) (atom_at f d (at + 2) 255 l (arity_none _ e)))
      (λ l x e q. said_no f d at p t b 5 4 (at + 2) (atom_at f d (at + 2) (length x) l (arity_some _ x e) ∙ rw (ne_eqb (length x) 0 (λ z. omega (arith, node_length x q)))))
      (λ l x e q. said_yes f d at p t b (suc at) 5 (at + 2 + 1) (suc (at + 2)) (suc p.slots) (suc p.nodes) _ _ (atom_at f d (at + 2) 0 l (arity_some _ x e ∙ atom_length x q)) (omega arith) (omega arith) (omega arith)
      (within (T (suc p.slots) (suc p.nodes) (suc (at + 2)) (drop (suc (at + 2)) f)) _ (omega arith) (h_t _ _ _ (l))))

  made : (x : Constructor) → at + 2 < length f → get_elem? cs (get_or f (at + 2) 0) ≡ some x → is_node x ≡ true → make_fields f d (at + 2) ≡ room f (at + 2 + 1) (length x + 1)
  unfolding pick
  made x l e q =
      let k = node_length x (is_node_not x q) in
      let m = D.few_fields _ x e in
      make_at f d (at + 2) (length x) l (arity_some _ x e) ∙ rw (ne_eqb (length x) 0 (λ z. omega arith), le-ltb 4 (length x) m)

  at_MK : Holds MK
  unfolding node limits number_of fields_at pick binds_of row_at follows_at by_follow
  at_MK =
      declared_law f (suc at) _ cs is_node (at + 2) _ h2 (λ l. said_no f d at p t b 6 2 (length f) (make_no f d (at + 2) l))
      (λ l e. said_no f d at p t b 6 4 (at + 2) (make_at f d (at + 2) 255 l (arity_none _ e)))
      (λ l x e q. said_no f d at p t b 6 4 (at + 2) (make_at f d (at + 2) 0 l (arity_some _ x e ∙ atom_length x (not_node x q))))
      (λ l x e q. byte_law f (suc at) _ (suc (at + 2)) _ l (λ l'. said_no f d at p t b 6 2 (length f) (made x l e q ∙ room_no f (at + 2 + 1) (length x + 1) (omega arith)))
      (λ l'. bytes_law f (suc at) _ (length x) (suc (suc (at + 2))) _ l' (λ l''. said_no f d at p t b 6 2 (length f) (made x l e q ∙ room_no f (at + 2 + 1) (length x + 1) (omega arith)))
      (λ ss b' z l''. said_yes f d at p t b (suc at) 6 (at + 2 + 1 + (length x + 1)) (b') (suc p.slots) (suc p.nodes) _ _ (made x l e q ∙ room_yes f (at + 2 + 1) (length x + 1) (omega arith)) (omega arith) (omega arith) (omega arith)
      (within (T (suc p.slots) (suc p.nodes) (b') (drop (b') f)) _ (omega arith) (h_t _ _ _ (l''))))))

  called : (x : Signature) → at + 2 < length f → get_elem? fs (get_or f (at + 2) 0) ≡ some x → call_fields f d (at + 2) ≡ room f (at + 2 + 1) (length x.parameters)
  unfolding pick
  called x l e =
      let m = D.few_parameters _ x e in
      call_at f d (at + 2) (length x.parameters) l (count_some _ x e) ∙ rw (le-ltb 8 (length x.parameters) m)

  at_CL : Holds CL
  unfolding node limits number_of fields_at pick binds_of row_at follows_at by_follow
  at_CL =
      declared_law f (suc at) _ fs any (at + 2) _ h2 (λ l. said_no f d at p t b 7 2 (length f) (call_no f d (at + 2) l))
      (λ l e. said_no f d at p t b 7 4 (at + 2) (call_at f d (at + 2) 255 l (count_none _ e)))
      (λ l x e q. let z : ◌≡◌ {A = ℕ} 0 1 = cc in absurd (omega arith))
      (λ l x e q. bytes_law f (suc at) _ (length x.parameters) (suc (at + 2)) _ l (λ l''. said_no f d at p t b 7 2 (length f) (called x l e ∙ room_no f (at + 2 + 1) (length x.parameters) (omega arith)))
      (λ ss b' z l''. said_yes f d at p t b (suc at) 7 (at + 2 + 1 + length x.parameters) (b') (suc p.slots) (suc p.nodes) _ _ (called x l e ∙ room_yes f (at + 2 + 1) (length x.parameters) (omega arith)) (omega arith) (omega arith) (omega arith)
      (within (T (suc p.slots) (suc p.nodes) (b') (drop (b') f)) _ (omega arith) (h_t _ _ _ (l'')))))

  at_TL : Holds TL
  unfolding node limits number_of fields_at pick binds_of row_at follows_at by_follow
  at_TL =
      declared_law f (suc at) _ fs any (at + 2) _ h2 (λ l. said_no f d at p t b 8 2 (length f) (call_no f d (at + 2) l))
      (λ l e. said_no f d at p t b 8 4 (at + 2) (call_at f d (at + 2) 255 l (count_none _ e)))
      (λ l x e q. let z : ◌≡◌ {A = ℕ} 0 1 = cc in absurd (omega arith))
      (λ l x e q. bytes_law f (suc at) _ (length x.parameters) (suc (at + 2)) _ l (λ l''. said_no f d at p t b 8 2 (length f) (called x l e ∙ room_no f (at + 2 + 1) (length x.parameters) (omega arith)))
      (λ ss b' z l''. said_yes f d at p t b (suc at) 8 (at + 2 + 1 + length x.parameters) (b') p.slots (suc p.nodes) _ _ (called x l e ∙ room_yes f (at + 2 + 1) (length x.parameters) (omega arith)) (omega arith) (omega arith) (omega arith)
      (went refl (omega arith) l'')))

  second : get_or f (at + 2 + 1) 0 ≡ get_or f (suc (at + 2)) 0
  second = let z : at + 2 + 1 ≡ suc (at + 2) = omega arith in ap (λ n. get_or f n 0) z

  third : byte_at f (at + 3) ≡ get_or f (suc (at + 2)) 0
  third = let z : at + 3 ≡ suc (at + 2) = omega arith in ap (λ n. get_or f n 0) z

  credit_one : (y : Constructor) → credits y ≡ extra_of 1 y
  unfolding extra_of
  credit_one [] = refl
  credit_one (s ∷ y) = refl

  credit_none : (y : Constructor) → 0 ≡ extra_of 0 y
  unfolding extra_of
  credit_none [] = refl
  credit_none (s ∷ y) = refl

  opened_no : suc (at + 2) < length f → (ltb 0 (get_or f (suc (at + 2)) 0) && leb (get_or f (suc (at + 2)) 0) 64) ≡ false → open_fields f (at + 2) ≡ Fault 4 (suc (at + 2))
  opened_no l q = let z : at + 2 + 1 ≡ suc (at + 2) = omega arith in open_at f (at + 2) _ (omega arith) second ∙ count_no (get_or f (suc (at + 2)) 0) (Fault 4 (at + 2 + 1)) (Next (at + 2 + 2)) q ∙ ap (λ n. Fault 4 n) z

  opened : suc (at + 2) < length f → (ltb 0 (get_or f (suc (at + 2)) 0) && leb (get_or f (suc (at + 2)) 0) 64) ≡ true → open_fields f (at + 2) ≡ Next (at + 2 + 2)
  opened l q = open_at f (at + 2) _ (omega arith) second ∙ count_yes (get_or f (suc (at + 2)) 0) (Fault 4 (at + 2 + 1)) (Next (at + 2 + 2)) q

  at_OP : Holds OP
  unfolding node limits number_of fields_at pick binds_of row_at follows_at by_follow
  at_OP =
      byte_law f (suc at) _ (at + 2) _ h2 (λ l. said_no f d at p t b 9 2 (length f) (open_no f (at + 2) (omega arith)))
      (λ l. byte_law f (suc at) _ (suc (at + 2)) _ l (λ l'. said_no f d at p t b 9 2 (length f) (open_no f (at + 2) (omega arith)))
      (λ l'. ensure_law f (suc at) _ 4 (suc (at + 2)) (suc (suc (at + 2))) (drop (suc (suc (at + 2))) f) _ _ (λ q. said_no f d at p t b 9 4 (suc (at + 2)) (opened_no l' q))
      (λ q. said_yes f d at p t b (suc at) 9 (at + 2 + 2) (suc (suc (at + 2))) p.slots (suc p.nodes) _ _ (opened l' q) (omega arith) (omega arith) (omega arith)
      (within (B (get_or f (suc (at + 2)) 0) credits p.slots (suc p.nodes) (suc (suc (at + 2))) (drop (suc (suc (at + 2))) f)) _ (omega arith)
      (subst (λ c. Spans f (suc (suc (at + 2))) (B (get_or f (suc (at + 2)) 0) credits p.slots (suc p.nodes) (suc (suc (at + 2))) (drop (suc (suc (at + 2))) f)) (b (suc (suc (at + 2))) c 1 (path p.slots (suc p.nodes))))
      (sym third) (h_b (get_or f (suc (at + 2)) 0) 1 p.slots (suc p.nodes) (suc (suc (at + 2))) credits credit_one l'))))))

  at_LK : Holds LK
  unfolding node limits number_of fields_at pick binds_of row_at follows_at by_follow
  at_LK =
      byte_law f (suc at) _ (at + 2) _ h2 (λ l. said_no f d at p t b 10 2 (length f) (open_no f (at + 2) (omega arith)))
      (λ l. byte_law f (suc at) _ (suc (at + 2)) _ l (λ l'. said_no f d at p t b 10 2 (length f) (open_no f (at + 2) (omega arith)))
      (λ l'. ensure_law f (suc at) _ 4 (suc (at + 2)) (suc (suc (at + 2))) (drop (suc (suc (at + 2))) f) _ _ (λ q. said_no f d at p t b 10 4 (suc (at + 2)) (opened_no l' q))
      (λ q. said_yes f d at p t b (suc at) 10 (at + 2 + 2) (suc (suc (at + 2))) p.slots (suc p.nodes) _ _ (opened l' q) (omega arith) (omega arith) (omega arith)
      (within (B (get_or f (suc (at + 2)) 0) (λ c. 0) p.slots (suc p.nodes) (suc (suc (at + 2))) (drop (suc (suc (at + 2))) f)) _ (omega arith)
      (subst (λ c. Spans f (suc (suc (at + 2))) (B (get_or f (suc (at + 2)) 0) (λ c. 0) p.slots (suc p.nodes) (suc (suc (at + 2))) (drop (suc (suc (at + 2))) f)) (b (suc (suc (at + 2))) c 0 (path p.slots (suc p.nodes))))
      (sym third) (h_b (get_or f (suc (at + 2)) 0) 0 p.slots (suc p.nodes) (suc (suc (at + 2))) (λ c. 0) credit_none l'))))))

  at_AR : Holds AR
  unfolding node limits number_of fields_at pick binds_of row_at follows_at by_follow
  at_AR =
      below_law f (suc at) _ 4 (at + 2) _ h2 (λ l. said_no f d at p t b 13 2 (length f) (sum_no f (at + 2) l))
      (λ l q. said_no f d at p t b 13 4 (at + 2) (sum_bad f (at + 2) l q))
      (λ l q. byte_law f (suc at) _ (suc (at + 2)) _ l (λ l'. said_no f d at p t b 13 2 (length f) (sum_at f (at + 2) l q ∙ room_no f (at + 2 + 1) 2 (omega arith)))
      (λ l'. byte_law f (suc at) _ (suc (suc (at + 2))) _ l' (λ l''. said_no f d at p t b 13 2 (length f) (sum_at f (at + 2) l q ∙ room_no f (at + 2 + 1) 2 (omega arith)))
      (λ l''. said_yes f d at p t b (suc at) 13 (at + 2 + 1 + 2) (suc (suc (suc (at + 2)))) (suc p.slots) (suc p.nodes) _ _ (sum_at f (at + 2) l q ∙ room_yes f (at + 2 + 1) 2 (omega arith)) (omega arith) (omega arith) (omega arith)
      (within (T (suc p.slots) (suc p.nodes) (suc (suc (suc (at + 2)))) (drop (suc (suc (suc (at + 2)))) f)) _ (omega arith) (h_t _ _ _ (l''))))))

  refused : (m : ℕ) → fields_at f d at m ≡ Fault 3 at → Spans {A = Term} f (suc at) (refuse 3 at) (by_node (node_of f d at p m) t b)
  refused m e = subst (Spans {A = Term} f (suc at) (refuse 3 at)) (sym (said_no f d at p t b m 3 at e)) fell

  pub node_spans : (m : Mark) → Holds m
  unfolding node number_of fields_at pick
  node_spans GV = at_GV
  node_spans AT = at_AT
  node_spans MK = at_MK
  node_spans CL = at_CL
  node_spans TL = at_TL
  node_spans OP = at_OP
  node_spans LK = at_LK
  node_spans NU = at_NU
  node_spans AR = at_AR
  node_spans IF = at_IF
  node_spans CN = refused 0 refl
  node_spans FN = refused 1 refl
  node_spans BD = refused 2 refl
  node_spans ND = refused 3 refl
  node_spans BR = refused 11 refl
  node_spans Other = refused 15 refl
