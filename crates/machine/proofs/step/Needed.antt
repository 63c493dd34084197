-- What fits has what each node's code needs. Assumes nothing.
use Rattle.std.proofs.Common.{◌≡◌, ℕ, ◌+◌, ◌-◌, ◌*◌, ◌<◌, ◌≤◌, false, List, [], ◌∷◌, length, get_or, sym, refl, ap, ◌∙◌, subst, inl, inr, arith, ltb-true}
use Rattle.machine.specs.Layout.{Top, slot_in, con_of, Low}
use Rattle.machine.specs.Represents.{Represents, Fit}
use Rattle.machine.specs.Skips.{Skips, Found, Known}
use Rattle.machine.specs.Needs.{Room, NeedsAt, OpenNeeds, CallNeeds, MkNeeds}
use Rattle.machine.specs.Steps.{Steps, StepsAt}
use Rattle.machine.proofs.step.Skipping.{Taken, found_branch, stands_skips, each_skips, skips_safe, stands_ends, each_ends}
use Rattle.machine.proofs.step.Laying.{held_owned, held_lent, AllBelow, listed_low, argued_below}
use Rattle.machine.proofs.step.Frames.{Shape, atom, cell_of, owned_shape, lent_shape, con_same, credit_word}
use Rattle.meaning.specs.Syntax.{Sort, Term, Branches, Constructor, File}
use Rattle.meaning.specs.Syntax as S
use Rattle.meaning.specs.Ownership.{Kind, Slots, Want, take, check, pass, done, same_sort}
use Rattle.meaning.specs.Plain.{Value, place_of}
use Rattle.meaning.specs.Reading.{credits}
use Rattle.meaning.specs.Machine.{Held, Frame, Store, held, word, state, fields_of, function_of, credit_cell}
use Rattle.theory.proofs.Rep.{Holds}
use Rattle.theory.proofs.Handing.{at_kind}
use Rattle.theory.proofs.Taking.{take_inv, steps_ok, require_then}
use Rattle.theory.proofs.Wants.{took_credit, took_owned, took_looked}
use Rattle.theory.proofs.Sim.{Ready, Accepted}
use Rattle.standing.specs.Bytes.{byte_at, mark_at, arity_in, params_in}
use Rattle.meaning.specs.declared.Mark.{Mark}
use Rattle.meaning.specs.Marks.{mark_of}
use Rattle.standing.specs.Stands.{Listed, Stands, Each, count}
use Rattle.standing.specs.Table.{Declared}

module _ (file : File) (budget : ℕ) (bytes decl : List ℕ) (d : Declared file bytes decl) (fine : Accepted file budget) where
  abbrev Rep : Store → Top → Term → List Held → List Frame → Type 0
  Rep store c t hs under = Represents file bytes store c (state store t hs under)

  room : {store : Store} {c : Top} {t : Term} {hs : List Held} {under : List Frame} (r : Rep store c t hs under) (n : ℕ) → place_of t + n ≤ length bytes → Room n bytes c
  room r n b = (omega (arith, r.here), omega (arith, r.depth, r.deep), r.room)

  waiting : {store : Store} {c : Top} {t : Term} {hs : List Held} (under : List Frame) (r : Rep store c t hs under) → 0 < c.state.frame.depth
      → get_or c.work (1024 + (c.state.frame.depth - 1) * 2 + 1) 0 < 32
  waiting [] r h = let e = r.depth in absurd (omega arith)
  waiting {c = c} (f ∷ rest) r h =
      let w = r.saved.0 in
      let e = r.depth in
      let z : c.state.frame.depth - 1 ≡ length rest = omega arith in
      rw (z, w.many) w.few

  calls : {store : Store} {c : Top} {t : Term} {hs : List Held} {under : List Frame} (r : Rep store c t hs under) (f : ℕ) (ss : List ℕ) → place_of t + 3 + length ss ≤ length bytes
      → byte_at bytes (place_of t + 2) ≡ f → f < length file.functions → length ss ≡ length (function_of file f).parameters → c.state.most ≤ 32
      → Listed bytes (place_of t + 3) ss → AllBelow (length hs) ss → CallNeeds bytes decl c
  calls {c = c} {t} {hs = hs} r f ss b e h i m g o =
      let q : byte_at bytes (c.state.frame.at + 2) ≡ f = ap (λ x. byte_at bytes (x + 2)) r.here ∙ e in
      let n : params_in decl (byte_at bytes (c.state.frame.at + 2)) ≡ length ss = ap (λ g. params_in decl g) q ∙ d.parameters f h ∙ sym i in
      let low : Low bytes (c.state.frame.at + 3) (params_in decl (byte_at bytes (c.state.frame.at + 2))) =
      subst (λ k. Low bytes (c.state.frame.at + 3) k) (sym n) (subst (λ x. Low bytes (x + 3) (length ss)) (sym r.here) (listed_low bytes (place_of t + 3) ss (length hs) g o r.few)) in
      (room r 3 (omega arith), omega (arith, r.bound, r.few), omega (arith, q, d.functions), omega (arith, r.here, n), omega (arith, n, i, d.few f), d.size, m, low)

  held_cell : {store : Store} {A F : List ℕ} {m : ℕ} {h : Held} {v : Value} → Holds file.constructors store A (Kind.credit m) h v F → 5 * credit_cell h + 5 ≤ length store
  held_cell (Holds.credit b) = b

  makes : {store : Store} {c : Top} {hs : List Held} {under : List Frame} {p k x : ℕ} {ss : List ℕ} {t : Term} (r : Rep store c (S.MK p k x ss t) hs under)
      → {result : Sort} {slots : Slots} {env : List Value} {F A : List ℕ} → Ready file budget (S.MK p k x ss t) result slots hs env store F A
      → p + 4 + length ss ≤ length bytes → byte_at bytes (p + 2) ≡ k → byte_at bytes (p + 3) ≡ x → k < length file.constructors → length ss ≡ length (fields_of file k)
      → length hs < 32 → MkNeeds bytes decl store c
  unfolding check
  makes {store} {c} {hs} {under} {p} {k} {x} {ss} r {slots = slots} ready b e f h i l =
      let a = steps_ok (take false (Want.credit (length (fields_of file k))) x (p + 3) slots) _ ready.checked in
      let u = took_credit (take_inv false (Want.credit (length (fields_of file k))) x (p + 3) slots a.0 a.1) in
      let o = at_kind file.constructors store u.0 ready.match in
      let w : slot_in bytes c.work (c.state.frame.depth * 32) (c.state.frame.at + 3) ≡ 65536 + credit_cell (held hs x) =
      rw (r.here, r.depth, f) (credit_word file budget bytes decl d o.holds (r.words x)) in
      let q : byte_at bytes (c.state.frame.at + 2) ≡ k = ap (λ y. byte_at bytes (y + 2)) r.here ∙ e in
      let n : arity_in decl (byte_at bytes (c.state.frame.at + 2)) ≡ length ss = ap (λ g. arity_in decl g) q ∙ d.arities k h ∙ sym i in
      (room r 4 (omega arith), omega (arith, r.bound), omega (arith, q, d.constructors), omega (arith, r.here, n), omega (arith, n, i, fine.small k), omega (arith, w), omega (arith, w, held_cell o.holds))

  opening : {store : Store} {c : Top} {t : Term} {hs : List Held} {under : List Frame} (r : Rep store c t hs under) {bs : Branches} {nx : ℕ} (s credit : ℕ) (extra : Constructor → ℕ)
      → place_of t + 4 ≤ length bytes → byte_at bytes (place_of t + 2) ≡ s → byte_at bytes (place_of t + 3) ≡ count bs → Each file bytes (length hs) extra (place_of t + 4) bs nx
      → get_or c.work (length under * 32 + s) 0 ≡ word (held hs s) → Shape file budget bytes decl d store (word (held hs s))
      → ((x : Sort) (xs : Constructor) → credit ≡ extra (x ∷ xs)) → Known bytes decl c.work → OpenNeeds bytes decl store c credit
  opening {store} {c} {t} {hs} {under} r {bs} {nx} s credit extra b e f x w shape y known =
      record {
        room = room r 4 b;
        bound = omega (arith, r.bound, r.few);
        ends = (known, d.size, r.room);
        next = nx;
        small = omega (arith, each_ends file bytes decl d b x, d.size);
        branches = rw (r.here, f) (each_skips file bytes decl d x);
        cell = rw same (big shape);
        opens = λ b found h. rw same (opens b (rw (same, r.here, f) at found) h shape);
      }
    where
      same : slot_in bytes c.work (c.state.frame.depth * 32) (c.state.frame.at + 2) ≡ word (held hs s)
      same = rw (r.here, r.depth, e) w

      big : Shape file budget bytes decl d store (word (held hs s)) → 65536 ≤ word (held hs s) → (word (held hs s) - 65536) * 5 + 5 ≤ length store
      big (atom l q) h = absurd (omega (arith, ltb-true (word (held hs s)) 65536 l))
      big (cell_of l q i) h = omega arith

      opens : (b : ℕ) → Found bytes decl (con_of store (word (held hs s))) (place_of t + 4) (count bs) b → 0 < b → Shape file budget bytes decl d store (word (held hs s))
          → (con_of store (word (held hs s)) < 64) × (arity_in decl (con_of store (word (held hs s))) ≤ 4)
          × (65536 ≤ word (held hs s) → c.state.frame.bound + arity_in decl (con_of store (word (held hs s))) + credit ≤ 32)
      opens b found h shape =
          elim (found_branch file bytes decl d x refl found) [
            | inl v ↦ absurd (omega (arith, v.1))
            | inr v ↦
                let a = d.arities (con_of store (word (held hs s))) v.known in
                (omega (arith, v.known, d.constructors), omega (arith, a, fine.small (con_of store (word (held hs s)))), λ z. fits v a shape z)
          ]
        where
          fits : (v : Taken file bytes decl d (length hs) extra bs (con_of store (word (held hs s))) b)
              → arity_in decl (con_of store (word (held hs s))) ≡ length (get_or file.constructors (con_of store (word (held hs s))) []) → Shape file budget bytes decl d store (word (held hs s)) → 65536 ≤ word (held hs s)
              → c.state.frame.bound + arity_in decl (con_of store (word (held hs s))) + credit ≤ 32
          fits v a (atom l q) z = absurd (omega (arith, ltb-true (word (held hs s)) 65536 l))
          fits v a (cell_of {s = g} {ss = gs} l q i) z =
              let j : get_or file.constructors (con_of store (word (held hs s))) [] ≡ g ∷ gs = ap (λ n. get_or file.constructors n []) (con_same file budget bytes decl d store (word (held hs s))) ∙ q in
              let k : extra (get_or file.constructors (con_of store (word (held hs s))) []) ≡ credit = ap extra j ∙ sym (y g gs) in
              omega (arith, v.fits, a, k, r.bound)

  pub needed : (t : Term) (hs : List Held) (store : Store) (under : List Frame) {c : Top} {nx : ℕ} (r : Rep store c t hs under) → c.state.most ≤ 32 → Known bytes decl c.work
      → {result : Sort} {slots : Slots} {env : List Value} {F A : List ℕ} → Ready file budget t result slots hs env store F A → Stands file bytes (length hs) t nx
      → NeedsAt (mark_of (mark_at bytes (place_of t))) bytes decl store c
  unfolding mark_of check
  needed (S.GV p s) hs store under r m k ready (Stands.GV a b e n) = rw a (room r 3 b, waiting under r)
  needed (S.AT p n t) hs store under r m k ready (Stands.AT a b e l q x) = rw a (room r 3 b, omega (arith, r.bound))
  needed (S.NU p n t) hs store under r m k ready (Stands.NU a b e l q x) = rw a (room r 4 b, omega (arith, r.bound))
  needed (S.AR p o x y t) hs store under r m k ready (Stands.AR a b e f g l q z) = rw a (room r 5 b, omega (arith, r.bound))
  needed (S.IF p s t u) hs store under {c} r m k ready (Stands.IF {second = second} a b e q x f y) =
      rw a (room r 3 b, (k, d.size, r.room), (second, subst (λ z. Skips bytes decl z second) (q ∙ ap (λ z. z + 3) (sym r.here)) (stands_skips file bytes decl d x), omega (arith, stands_ends file bytes decl d x, d.size)))
  needed (S.TL p f ss) hs store under r m k {result} {slots} {env} {F} {A} ready (Stands.TL a b e g h i n) =
      let v = require_then 8 (p + 2) (same_sort (function_of file f).result result) _ ready.checked in
      let u = steps_ok (pass [] (function_of file f).parameters ss (p + 3) slots) (λ x. done p x) v.1 in
      let o = argued_below file.constructors store A env (function_of file f).parameters ss [] (p + 3) slots u.0 hs F u.1 ready.match in
      rw a (calls r f ss b e h i m g o)
  needed (S.CL p f ss t) hs store under r m k {result} {slots} {env} {F} {A} ready (Stands.CL a b e g h i l q x) =
      let u = steps_ok (pass [] (function_of file f).parameters ss (p + 3) slots) _ ready.checked in
      let o = argued_below file.constructors store A env (function_of file f).parameters ss [] (p + 3) slots u.0 hs F u.1 ready.match in
      rw a (calls r f ss b e h i m g o)
  needed (S.MK p n x ss t) hs store under r m k ready (Stands.MK a b e f g h i l q y) = rw a (makes r ready b e f h i l)
  needed (S.OP p s bs) hs store under r m k {slots = slots} ready (Stands.OP a b e f x) =
      let v = steps_ok (take false Want.owned s (p + 2) slots) _ ready.checked in
      let u = took_owned (take_inv false Want.owned s (p + 2) slots v.0 v.1) in
      let o = at_kind file.constructors store u.0 ready.match in
      rw a (opening r s 1 credits b e f x (held_owned o.holds (r.words s)) (owned_shape file budget bytes decl d o.holds) (λ y ys. refl) k)
  needed (S.LK p s bs) hs store under r m k {slots = slots} ready (Stands.LK a b e f x) =
      let v = steps_ok (take false Want.looked s (p + 2) slots) _ ready.checked in
      let u = took_looked (take_inv false Want.looked s (p + 2) slots v.0 v.1) in
      let o = at_kind file.constructors store u.0 ready.match in
      rw a (opening r s 0 (λ c. 0) b e f x (held_lent o.holds (r.words s)) (lent_shape file budget bytes decl d o.holds) (λ y ys. refl) k)

module _ {bytes decl store : List ℕ} {c : Top} (f : Fit bytes decl store c) where
  pub fit_needs : (k : Mark) → mark_of (mark_at bytes c.state.frame.at) ≡ k → NeedsAt k bytes decl store c
  fit_needs k q =
      let z = f.represents.same in
      let r : Represents f.file bytes f.st.store c f.st = subst (λ x. Represents f.file bytes x c f.st) z f.represents in
      let n = needed f.file f.budget bytes decl f.declared f.fine f.st.top.todo f.st.top.slots f.st.store f.st.under r f.high f.known f.whole.ready r.stands in
      let g : mark_of (mark_at bytes (place_of f.st.top.todo)) ≡ k = ap (λ x. mark_of (mark_at bytes x)) (sym r.here) ∙ q in
      subst (λ x. NeedsAt k bytes decl x c) (sym z) (subst (λ x. NeedsAt x bytes decl f.st.store c) g n)

  pub fit_mark : c.state.frame.at + 3 ≤ length bytes
  fit_mark =
      let r = f.represents in
      let s = skips_safe bytes decl (stands_skips f.file bytes decl f.declared r.stands) in
      omega (arith, s.0, r.here)

module _ {bytes decl store store' : List ℕ} {c c' : Top} where
  pub steps_of : (k : Mark) → mark_of (mark_at bytes c.state.frame.at) ≡ k → StepsAt k bytes decl store c store' c' → Steps bytes decl store c store' c'
  steps_of k e s = record { does = subst (λ n. StepsAt n bytes decl store c store' c') (sym e) s }
