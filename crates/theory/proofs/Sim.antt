-- The machine's run of a frame is the plain evaluation of its term. Assumes nothing.
use Prim.Native.Nat.{ℕ, zero, suc, ◌+◌, ◌*◌, ◌≤◌, ◌<◌, max}
use mathlib.Core.Bool.{Bool, true, false, not}
use mathlib.Core.List.{List, [], ◌∷◌, ◌++◌, map}
use mathlib.Core.Option.{Option, none, some}
use mathlib.Core.Path.{◌≡◌, refl, sym, ap, ◌∙◌, subst}
use mathlib.Core.Logic.{inl, inr}
use native.Mathlib.Omega.{arith}
use lib.ListN.{length, get_or, set, length-set}
use lib.Dec.{ltb, eqb}
use borrow.Author.Tests.{eq-eqb, ne_eqb, eqb-true, ltb-true, ltb-false, lt-ltb}
use Rattle.theory.proofs.Agree.{sort_same}
use Rattle.meaning.specs.Syntax.{Sort, Mode, Signature, Term, Branches, Constructor, File}
use Rattle.meaning.specs.Syntax.{GV, AT, MK, CL, TL, OP, LK, NU, AR, IF, BR, end}
use Rattle.meaning.specs.Outcome.{ok, require}
use Rattle.meaning.specs.Ownership.{Kind, Slots, fresh, bind, Want, take, pass, member, leftover, done, check, check_branches, check_bodies, check_file, kind_owned, kind_of, mode_owned, bound_by_OP, bound_by_LK, same_sort, no_function}
use Rattle.meaning.specs.Derivation.{Split, Has}
use Rattle.meaning.specs.Plain.{Value, Values, node, empty, values, list, with_credit, arithmetic, Run, eval, evaluate, branch, no_body, body}
use Rattle.meaning.specs.Plain as P
use Rattle.meaning.specs.Machine.{Held, Store, Frame, state, Answer, answers, word, held, give_up, taken, argued, without, cell, write, step, run, body_of, function_of, constructor_of, fields, opened, looked, credit_for, credit_cell}
use Rattle.theory.proofs.Splits.{all_right, nothing_right, first, join, swap, has_split, split_has, has_cases}
use Rattle.theory.proofs.Gather.{used_up}
use Rattle.theory.proofs.Taking.{take_inv, steps_ok, require_then, refused}
use Rattle.theory.proofs.Wants.{took_number, took_looked, took_owned, took_credit}
use Rattle.theory.proofs.Passing.{contradiction}
use Rattle.theory.proofs.Rep.{Tree, Fields, Holds, Match, next, Same, Alike, has_part}
use Rattle.theory.proofs.Matching.{match_append, match_one, match_empty, match_keep, open_tree, look_tree}
use Rattle.theory.proofs.Handing.{value_at, at_kind, owned_taken, credit_taken, Handed, hand}
use Rattle.theory.proofs.Writing.{write_size, write_other, write_at, written, built, made}

-- what reading makes sure of: AT names an atom, MK a constructor with fields, CL and TL one of at most 32 functions
abbrev mutual
  pub Formed : Term → List Constructor → Type 0
  Formed (GV p s) cs = Unit {0}
  Formed (AT p c t) cs = (get_or cs c [] ≡ []) × (c < 65536) × Formed t cs
  Formed (MK p c k ss t) cs = ((s : Sort) × (ss' : Constructor) × (get_or cs c [] ≡ s ∷ ss')) × Formed t cs
  Formed (CL p f ss t) cs = (f < 32) × Formed t cs
  Formed (TL p f ss) cs = f < 32
  Formed (OP p s bs) cs = AllFormed bs cs
  Formed (LK p s bs) cs = AllFormed bs cs
  Formed (NU p n t) cs = Formed t cs
  Formed (AR p o x y t) cs = Formed t cs
  Formed (IF p s t u) cs = Formed t cs × Formed u cs

  pub AllFormed : Branches → List Constructor → Type 0
  AllFormed end cs = Unit {0}
  AllFormed (BR p c t bs) cs = Formed t cs × AllFormed bs cs

-- each cell once
abbrev pub Once : List ℕ → Type 0
Once F = (c : ℕ) (F' : List ℕ) → Split F (c ∷ []) F' → Has c F' → ⊥

pub once_apart : {F F₁ F₂ : List ℕ} → Once F → Split F F₁ F₂ → (c : ℕ) → Has c F₁ → Has c F₂ → ⊥
once_apart o s c h g = let f = first s (has_split h).1 in o c f.0 f.1 (has_part (swap f.2) g)

pub once_part : {F F₁ F₂ : List ℕ} → Once F → Split F F₁ F₂ → Once F₁
once_part o s c F' sp h = let f = first s sp in o c f.0 f.1 (has_part f.2 h)

module _ (file : File) (budget : ℕ) where
  abbrev pub cs : List Constructor
  cs = file.constructors

  abbrev pub fs : List Signature
  fs = file.functions

  -- where the machine goes on when the top frame has given a value
  abbrev pub back : (left : ℕ) → Store → Held → List Frame → (steps greatest : ℕ) → Answer
  back l store h [] k g = answers 0 (word h) k 0 g store
  back l store h (f ∷ rest) k g = run file l (state store f.todo (f.slots ++ (h ∷ [])) rest) k g

  -- a run of the machine that ends as the plain evaluation does; cells outside F are as they were
  pub data Ends (result : Sort) (F : List ℕ) (store : Store) (under : List Frame) (d k₀ : ℕ) (a : Answer) : Run → Type 0 where
    value : {v : Value} {k g : ℕ} (l : ℕ) (store' : Store) (h : Held) → l + k ≡ budget → k₀ ≤ k → d ≤ g → length store' ≡ length store
        → ((c : ℕ) → (Has c F → ⊥) → Same store store' c) → Holds cs store' [] (kind_owned result) h v F
        → a ≡ back l store' h under k g → Ends result F store under d k₀ a (P.value v k g)
    stop : {n p k g : ℕ} (store' : Store) → a ≡ answers n 0 k p g store' → Ends result F store under d k₀ a (P.stop n p k g)

  -- a frame that is ready to run
  pub record Ready (t : Term) (result : Sort) (slots : Slots) (hs : List Held) (env : List Value) (store : Store) (F A : List ℕ) : Type 0 where
    pub checked : check cs fs result t slots ≡ ok tt
    pub formed : Formed t cs
    pub match : Match cs store A slots hs env F
    pub once : Once F
    pub apart : (c : ℕ) → Has c A → Has c F → ⊥

  pub record Accepted : Type 0 where
    pub small : (k : ℕ) → length (get_or cs k []) ≤ 4
    pub bodies_checked : (f : ℕ) → check cs fs (function_of file f).result (body_of file f) (bind [] (map kind_of (function_of file f).parameters)) ≡ ok tt
    pub bodies_formed : (f : ℕ) → Formed (body_of file f) cs

  -- GV: the value, and nothing else
  done_none : (p : ℕ) (slots : Slots) → done p slots ≡ ok tt → leftover slots ≡ false
  done_none p slots e = go (leftover slots) refl e
    where
      go : (b : Bool) → leftover slots ≡ b → require 11 p (not b) ≡ ok tt → leftover slots ≡ false
      go true q f = absurd (refused f)
      go false q f = q

  number_value : {store : Store} {A : List ℕ} {h : Held} {v : Value} {F : List ℕ} → Holds cs store A Kind.number h v F → Holds cs store [] Kind.number h v []
  number_value Holds.number = Holds.number

  owned_value : {store : Store} {A : List ℕ} {h : Held} {v : Value} {F : List ℕ} → Holds cs store A Kind.owned h v F → Holds cs store [] Kind.owned h v F
  owned_value (Holds.owned t) = Holds.owned t

  pub give : (result : Sort) {p s : ℕ} {slots : Slots} {hs : List Held} {env : List Value} {store : Store} {F A : List ℕ}
      → Ready (GV p s) result slots hs env store F A → Holds cs store [] (kind_owned result) (held hs s) (value_at env s) F
  unfolding check pass
  give Sort.number {p} {s} {slots} {hs} {env} {store} {F} {A} r =
      let a = steps_ok (pass [] (Mode.number ∷ []) (s ∷ []) (p + 2) slots) (λ x. done p x) r.checked in
      let b = steps_ok (take false Want.number s (p + 2) slots) (λ x. ok x) a.1 in
      let t = took_number (take_inv false Want.number s (p + 2) slots b.0 b.1) in
      let q : b.0 ≡ a.0 = let z = b.2 in cc in
      let n : F ≡ [] = match_empty cs store A r.match (subst (λ x. leftover x ≡ false) (sym (t.1 ∙ q)) (done_none p a.0 a.2)) in
      subst (λ F. Holds cs store [] Kind.number (held hs s) (value_at env s) F) (sym n) (number_value (at_kind cs store t.0 r.match).holds)
  give Sort.tree {p} {s} {slots} {hs} {env} {store} {F} {A} r =
      let a = steps_ok (pass [] (Mode.owned ∷ []) (s ∷ []) (p + 2) slots) (λ x. done p x) r.checked in
      let b = steps_ok (take false Want.owned s (p + 2) slots) (λ x. ok x) a.1 in
      let t = took_owned (take_inv false Want.owned s (p + 2) slots b.0 b.1) in
      let q : b.0 ≡ a.0 = let z = b.2 in cc in
      let o = at_kind cs store t.0 r.match in
      let n : o.rest ≡ [] = match_empty cs store A (o.others Held.spent refl) (subst (λ x. leftover x ≡ false) (sym (t.1 ∙ q)) (done_none p a.0 a.2)) in
      let f : F ≡ o.part = nothing_right (subst (λ R. Split F o.part R) n o.split) in
      subst (λ F. Holds cs store [] Kind.owned (held hs s) (value_at env s) F) (sym f) (owned_value o.holds)

  -- what binds without touching the cells
  bound : {t : Term} {result : Sort} {slots : Slots} {hs : List Held} {env : List Value} {store : Store} {F A : List ℕ} {k : Kind} {h : Held} {v : Value}
      → check cs fs result t (bind slots (k ∷ [])) ≡ ok tt → Formed t cs → Match cs store A slots hs env F → Once F → ((c : ℕ) → Has c A → Has c F → ⊥)
      → Holds cs store A k h v [] → Ready t result (bind slots (k ∷ [])) (hs ++ (h ∷ [])) (env ++ (v ∷ [])) store F A
  bound {store} {F} {A} e f m o a g =
      record { checked = e; formed = f; match = match_append cs store A m (match_one cs store A g) (swap (all_right F)); once = o; apart = a }

  pub at_ready : {p c : ℕ} {t : Term} {result : Sort} {slots : Slots} {hs : List Held} {env : List Value} {store : Store} {F A : List ℕ} → Ready (AT p c t) result slots hs env store F A
      → Ready t result (bind slots (Kind.owned ∷ [])) (hs ++ (Held.owned c ∷ [])) (env ++ (node c empty ∷ [])) store F A
  unfolding check
  at_ready {c} r =
      bound r.checked r.formed.2 r.match r.once r.apart (Holds.owned (Tree.leaf (lt-ltb c 65536 r.formed.1) r.formed.0))

  pub nu_ready : {p n : ℕ} {t : Term} {result : Sort} {slots : Slots} {hs : List Held} {env : List Value} {store : Store} {F A : List ℕ} → Ready (NU p n t) result slots hs env store F A
      → Ready t result (bind slots (Kind.number ∷ [])) (hs ++ (Held.number n ∷ [])) (env ++ (P.number n ∷ [])) store F A
  unfolding check
  nu_ready r = bound r.checked r.formed r.match r.once r.apart Holds.number

  -- a number slot holds the number
  number_same : {store : Store} {A : List ℕ} {h : Held} {v : Value} {F : List ℕ} → Holds cs store A Kind.number h v F → word h ≡ P.number_in v
  number_same Holds.number = refl

  number_slot : (s p : ℕ) (slots slots' : Slots) {hs : List Held} {env : List Value} {store : Store} {F A : List ℕ} → take false Want.number s p slots ≡ ok slots'
      → Match cs store A slots hs env F → (slots ≡ slots') × (word (held hs s) ≡ P.number_in (value_at env s))
  number_slot s p slots slots' {store} e m =
      let t = took_number (take_inv false Want.number s p slots slots' e) in
      (t.1, number_same (at_kind cs store t.0 m).holds)

  pub ar_ready : {p o x y : ℕ} {t : Term} {result : Sort} {slots : Slots} {hs : List Held} {env : List Value} {store : Store} {F A : List ℕ} → Ready (AR p o x y t) result slots hs env store F A
      → (word (held hs x) ≡ P.number_in (value_at env x)) × (word (held hs y) ≡ P.number_in (value_at env y))
      × ((n : ℕ) → Ready t result (bind slots (Kind.number ∷ [])) (hs ++ (Held.number n ∷ [])) (env ++ (P.number n ∷ [])) store F A)
  unfolding check
  ar_ready {p} {o} {x} {y} {t} {result} {slots} r =
      let a = steps_ok (take false Want.number x (p + 3) slots) _ r.checked in
      let b = steps_ok (take false Want.number y (p + 4) a.0) _ a.2 in
      let u = number_slot x (p + 3) slots a.0 a.1 r.match in
      let v = number_slot y (p + 4) a.0 b.0 b.1 (rw u.0 at r.match) in
      let q : slots ≡ b.0 = u.0 ∙ v.0 in
      (u.1, v.1, λ n. bound (rw q b.2) r.formed r.match r.once r.apart Holds.number)

  pub if_ready : {p s : ℕ} {t u : Term} {result : Sort} {slots : Slots} {hs : List Held} {env : List Value} {store : Store} {F A : List ℕ} → Ready (IF p s t u) result slots hs env store F A
      → (word (held hs s) ≡ P.number_in (value_at env s)) × Ready t result slots hs env store F A × Ready u result slots hs env store F A
  unfolding check
  if_ready {p} {s} {t} {u} {result} {slots} r =
      let a = steps_ok (take false Want.number s (p + 2) slots) _ r.checked in
      let x = number_slot s (p + 2) slots a.0 a.1 r.match in
      let b = steps_ok (check cs fs result t a.0) _ a.2 in (
        x.1,
        record { checked = rw x.0 b.1; formed = r.formed.0; match = r.match; once = r.once; apart = r.apart },
        record { checked = rw x.0 b.2; formed = r.formed.1; match = r.match; once = r.once; apart = r.apart },
      )

  -- the branch that is taken
  branch_checked : (bs : Branches) (bound : Constructor → List Kind) (seen : List ℕ) (slots : Slots) (result : Sort) (c : ℕ) (u : Term)
      → check_branches cs fs result bs bound seen slots ≡ ok tt → AllFormed bs cs → branch bs c ≡ some u
      → (check cs fs result u (bind slots (bound (get_or cs c []))) ≡ ok tt) × Formed u cs
  unfolding check
  branch_checked end bound seen slots result c u e f q = let z : ◌≡◌ {A = ℕ} 0 1 = cc in absurd (contradiction z)
  branch_checked (BR p d t bs) bound seen slots result c u e f q =
      let a = require_then 12 (p + 2) (not (member d seen)) _ e in
      let b = steps_ok (check cs fs result t (bind slots (bound (get_or cs d [])))) _ a.1 in
      go (λ x. branch_checked bs bound (d ∷ seen) slots result c u b.2 f.1 x) b.1 (eqb c d) refl q
    where
      go : (branch bs c ≡ some u → (check cs fs result u (bind slots (bound (get_or cs c []))) ≡ ok tt) × Formed u cs)
          → check cs fs result t (bind slots (bound (get_or cs d []))) ≡ ok tt
          → (x : Bool) → eqb c d ≡ x → (elim x as (λ _. Option Term) [ true ↦ some t | false ↦ branch bs c ]) ≡ some u
          → (check cs fs result u (bind slots (bound (get_or cs c []))) ≡ ok tt) × Formed u cs
      go ih h true y w =
          let v : t ≡ u = cc in
          (subst (λ z. check cs fs result z (bind slots (bound (get_or cs c []))) ≡ ok tt) v (rw (eqb-true c d y) h), subst (λ z. Formed z cs) v f.0)
      go ih h false y w = ih w

  -- a tree is a node
  owned_tree : {store : Store} {A : List ℕ} {h : Held} {v : Value} {F : List ℕ} → Holds cs store A Kind.owned h v F
      → (c : ℕ) × (vs : Values) × (v ≡ node c vs) × Tree cs store (word h) (node c vs) F
  owned_tree (Holds.owned (Tree.leaf {a} l e)) = (a, empty, refl, Tree.leaf l e)
  owned_tree (Holds.owned (Tree.fork {k} {vs} l q e b r sp f)) = (k, vs, refl, Tree.fork l q e b r sp f)

  lent_tree : {store : Store} {A : List ℕ} {h : Held} {v : Value} {F : List ℕ} → Holds cs store A Kind.lent h v F
      → (c : ℕ) × (vs : Values) × (v ≡ node c vs) × ((F' : List ℕ) × Tree cs store (word h) (node c vs) F' × ((x : ℕ) → Has x F' → Has x A))
  lent_tree (Holds.lent {F} (Tree.leaf {a} l e) i) = (a, empty, refl, (F, Tree.leaf l e, i))
  lent_tree (Holds.lent {F} (Tree.fork {k} {vs} l q e b r sp f) i) = (k, vs, refl, (F, Tree.fork l q e b r sp f, i))

  -- OP and LK: the constructor, and the branch's frame
  abbrev pub opened_slots : Store → List Held → (slot constructor : ℕ) → List Held
  opened_slots store hs s c =
      give_up hs s ++ (fields opened store (cell (word (held hs s))) 1 (get_or cs c []) ++ credit_for (get_or cs c []) (cell (word (held hs s))))

  pub record SplitOpen (p s : ℕ) (bs : Branches) (result : Sort) (hs : List Held) (env : List Value) (store : Store) (F A : List ℕ) : Type 0 where
    pub inner : Values
    pub value : value_at env s ≡ node (constructor_of store (word (held hs s))) inner
    pub after : Slots
    pub opens : (u : Term) → branch bs (constructor_of store (word (held hs s))) ≡ some u
        → Ready u result after (opened_slots store hs s (constructor_of store (word (held hs s)))) (env ++ with_credit (list inner)) store F A

  pub op_ready : {p s : ℕ} {bs : Branches} {result : Sort} {slots : Slots} {hs : List Held} {env : List Value} {store : Store} {F A : List ℕ}
      → Ready (OP p s bs) result slots hs env store F A → SplitOpen p s bs result hs env store F A
  unfolding check
  op_ready {p} {s} {bs} {result} {slots} {hs} {env} {store} {F} {A} r =
      let a = steps_ok (take false Want.owned s (p + 2) slots) _ r.checked in
      let t = took_owned (take_inv false Want.owned s (p + 2) slots a.0 a.1) in
      let slots₁ : Slots = set slots s (used_up t.0.slot) in
      let o = at_kind cs store t.0 r.match in
      let w = owned_tree o.holds in
      let x = open_tree cs store A w.3 in
      let opens : (u : Term) → branch bs w.0 ≡ some u
      → Ready u result (bind slots₁ (bound_by_OP (get_or cs w.0 []))) (opened_slots store hs s w.0) (env ++ with_credit (list w.1)) store F A =
      λ u q.
      let y = branch_checked bs bound_by_OP [] slots₁ result w.0 u (rw t.1 a.2) r.formed q in
      record {
        checked = y.0;
        formed = y.1;
        once = r.once;
        apart = r.apart;
        match = match_append cs store A (o.others (taken (held hs s)) (owned_taken cs store o.holds)) x.1 (swap o.split);
      } in
      record {
        inner = w.1;
        value = w.2 ∙ ap (λ c. node c w.1) (sym x.0);
        after = bind slots₁ (bound_by_OP (get_or cs (constructor_of store (word (held hs s))) []));
        opens = subst (λ c. (u : Term) → branch bs c ≡ some u
            → Ready u result (bind slots₁ (bound_by_OP (get_or cs c []))) (opened_slots store hs s c) (env ++ with_credit (list w.1)) store F A) (sym x.0) opens;
      }

  abbrev pub looked_slots : Store → List Held → (slot constructor : ℕ) → List Held
  looked_slots store hs s c = hs ++ fields looked store (cell (word (held hs s))) 1 (get_or cs c [])

  pub record SplitLook (p s : ℕ) (bs : Branches) (result : Sort) (hs : List Held) (env : List Value) (store : Store) (F A : List ℕ) : Type 0 where
    pub inner : Values
    pub value : value_at env s ≡ node (constructor_of store (word (held hs s))) inner
    pub after : Slots
    pub looks : (u : Term) → branch bs (constructor_of store (word (held hs s))) ≡ some u
        → Ready u result after (looked_slots store hs s (constructor_of store (word (held hs s)))) (env ++ list inner) store F A

  pub lk_ready : {p s : ℕ} {bs : Branches} {result : Sort} {slots : Slots} {hs : List Held} {env : List Value} {store : Store} {F A : List ℕ}
      → Ready (LK p s bs) result slots hs env store F A → SplitLook p s bs result hs env store F A
  unfolding check
  lk_ready {p} {s} {bs} {result} {slots} {hs} {env} {store} {F} {A} r =
      let a = steps_ok (take false Want.looked s (p + 2) slots) _ r.checked in
      let t = took_looked (take_inv false Want.looked s (p + 2) slots a.0 a.1) in
      let w = lent_tree (at_kind cs store t.0 r.match).holds in
      let x = look_tree cs store A w.3.1 w.3.2 in
      let looks : (u : Term) → branch bs w.0 ≡ some u
      → Ready u result (bind slots (bound_by_LK (get_or cs w.0 []))) (looked_slots store hs s w.0) (env ++ list w.1) store F A =
      λ u q.
      let y = branch_checked bs bound_by_LK [] slots result w.0 u (rw t.1 a.2) r.formed q in
      record {
        checked = y.0;
        formed = y.1;
        once = r.once;
        apart = r.apart;
        match = match_append cs store A r.match x.1 (swap (all_right F));
      } in
      record {
        inner = w.1;
        value = w.2 ∙ ap (λ c. node c w.1) (sym x.0);
        after = bind slots (bound_by_LK (get_or cs (constructor_of store (word (held hs s))) []));
        looks = subst (λ c. (u : Term) → branch bs c ≡ some u
            → Ready u result (bind slots (bound_by_LK (get_or cs c []))) (looked_slots store hs s c) (env ++ list w.1) store F A) (sym x.0) looks;
      }

  -- a call: the called function's frame
  pub called_ready : (fine : Accepted) (f : ℕ) {ss : List ℕ} {slots' : Slots} {hs : List Held} {env : List Value} {store : Store} {F A : List ℕ}
      → Once F → ((c : ℕ) → Has c A → Has c F → ⊥) → (h : Handed cs store A (function_of file f).parameters ss slots' hs env F)
      → Ready (body_of file f) (function_of file f).result (bind [] (map kind_of (function_of file f).parameters)) (argued (function_of file f).parameters hs ss)
      (map (λ s. value_at env s) ss) store h.part (A ++ h.rest)
  called_ready fine f {A} o a h =
      record {
        checked = fine.bodies_checked f;
        formed = fine.bodies_formed f;
        match = h.called;
        once = once_part o h.split;
        apart = λ c i j. elim (has_cases A i) [ inl x ↦ a c x (has_part h.split j) | inr x ↦ once_apart o h.split c j x ];
      }

  -- after a call: the caller's frame with the value
  value_again : {store : Store} {A : List ℕ} (result : Sort) {h : Held} {v : Value} {F : List ℕ} → Holds cs store [] (kind_owned result) h v F → Holds cs store A (kind_owned result) h v F
  value_again Sort.number Holds.number = Holds.number
  value_again Sort.tree (Holds.owned t) = Holds.owned t

  pub resumed : (sort : Sort) (store store' : Store) {t : Term} {result : Sort} {slots' : Slots} {hs' : List Held} {env : List Value} {F F₁ F₂ A : List ℕ} {h : Held} {v : Value}
      → check cs fs result t (bind slots' (kind_owned sort ∷ [])) ≡ ok tt → Formed t cs → Once F → ((c : ℕ) → Has c A → Has c F → ⊥)
      → Split F F₁ F₂ → Match cs store A slots' hs' env F₂ → length store' ≡ length store → ((c : ℕ) → (Has c F₁ → ⊥) → Same store store' c)
      → Holds cs store' [] (kind_owned sort) h v F₁
      → Ready t result (bind slots' (kind_owned sort ∷ [])) (hs' ++ (h ∷ [])) (env ++ (v ∷ [])) store' F A
  resumed sort store store' {A} e f o a sp m z s g =
      record {
        checked = e;
        formed = f;
        once = o;
        apart = a;
        match = match_append cs store' A
            (match_keep cs store store' z A (λ c i. s c (λ j. a c i (has_part sp j))) m (λ c i. s c (λ j. once_apart o sp c j i)))
            (match_one cs store' A (value_again sort g)) (swap sp);
      }

  -- MK: the cell of the credit is made a tree
  credit_held : {store : Store} {A : List ℕ} {m : ℕ} {h : Held} {v : Value} {F : List ℕ} → Holds cs store A (Kind.credit m) h v F
      → (F ≡ credit_cell h ∷ []) × (5 * credit_cell h + 5 ≤ length store)
  credit_held (Holds.credit r) = (refl, r)

  match_length : {store : Store} {A : List ℕ} {xs : Slots} {hs : List Held} {vs : List Value} {F : List ℕ} → Match cs store A xs hs vs F → length hs ≡ length xs
  match_length Match.last = refl
  match_length (next sp g m) = ap suc (match_length m)

  fields_count : (fs : List Sort) → length (map fresh (map kind_of (map mode_owned fs))) ≡ length fs
  fields_count [] = refl
  fields_count (f ∷ fs) = ap suc (fields_count fs)

  words_count : (hs : List Held) → length (map word hs) ≡ length hs
  words_count [] = refl
  words_count (h ∷ hs) = ap suc (words_count hs)

  -- the cell x is written, and is a tree of what is handed over (P); the rest (Q) and the lent trees (A) are as they were
  pub record Making (c x : ℕ) (slots : Slots) (hs made_hs : List Held) (env made_vs : List Value) (store : Store) (F A : List ℕ) : Type 0 where
    pub size : length (write store x 0 (c ∷ map word made_hs)) ≡ length store
    pub outside : (y : ℕ) → (Has y F → ⊥) → Same store (write store x 0 (c ∷ map word made_hs)) y
    pub match : Match cs (write store x 0 (c ∷ map word made_hs)) A (bind slots (Kind.owned ∷ [])) (hs ++ (Held.owned (65536 + x) ∷ [])) (env ++ (node c (values made_vs) ∷ [])) F

  make : (c x : ℕ) (s : Sort) (ss : Constructor) (slots : Slots) (hs made_hs : List Held) (env made_vs : List Value) (store : Store) (F A R P' Q : List ℕ)
      → get_or cs c [] ≡ s ∷ ss → length ss ≤ 3 → 5 * x + 5 ≤ length store → Split F (x ∷ []) R → Split R P' Q
      → Match cs store (A ++ Q) (map fresh (map kind_of (map mode_owned (s ∷ ss)))) made_hs made_vs P' → Match cs store A slots hs env Q
      → Once F → ((y : ℕ) → Has y A → Has y F → ⊥) → Making c x slots hs made_hs env made_vs store F A
  make c x s ss slots hs made_hs env made_vs store F A R P' Q e b i sp t called caller once apart =
      record {
        size = size;
        outside = λ y n. other y (λ q. n (subst (λ z. Has z F) (sym q) (split_has sp)));
        match = match_append cs store' A (match_keep cs store store' size A lents caller rests)
            (match_one cs store' A (Holds.owned (made cs store' A e b (omega (arith, size)) (write_at store x 0 c words (omega arith)) j.2 tree_fields))) (swap j.1);
      }
    where
      words : List ℕ
      words = map word made_hs

      store' : Store
      store' = write store x 0 (c ∷ words)

      size : length store' ≡ length store
      size = write_size store x 0 (c ∷ words)

      count : length words ≡ suc (length ss)
      count = words_count made_hs ∙ match_length called ∙ fields_count (s ∷ ss)

      other : (y : ℕ) → (y ≡ x → ⊥) → Same store store' y
      other y n = write_other store x 0 (c ∷ words) y n (omega (arith, count))

      not_rest : (y : ℕ) → Has y R → y ≡ x → ⊥
      not_rest y m q = once x R sp (subst (λ z. Has z R) q m)

      lents : Alike store store' A
      lents y m = other y (λ q. apart y m (subst (λ z. Has z F) (sym q) (split_has sp)))

      rests : Alike store store' Q
      rests y m = other y (not_rest y (has_part (swap t) m))

      parts : Alike store store' P'
      parts y m = other y (not_rest y (has_part t m))

      both : Alike store store' (A ++ Q)
      both y m = elim (has_cases A m) [ inl q ↦ lents y q | inr q ↦ rests y q ]

      j : (Γ : List ℕ) × Split F Γ Q × Split Γ (x ∷ []) P'
      j = join sp t

      tree_fields : Fields cs store' x 1 (s ∷ ss) (values made_vs) P'
      tree_fields =
          built cs store' (A ++ Q) (s ∷ ss) (match_keep cs store store' size (A ++ Q) both called parts)
          (written (set store (5 * x + 0) c) x 1 made_hs (omega (arith, length-set store (5 * x + 0) c, words_count made_hs, count)))

  abbrev pub made_store : ℕ → ℕ → List ℕ → List Held → Store → Store
  made_store c k ss hs store =
      write store (credit_cell (held hs k)) 0 (c ∷ map word (argued (map mode_owned (get_or cs c [])) (give_up hs k) ss))

  pub record Made (c k : ℕ) (ss : List ℕ) (t : Term) (result : Sort) (hs : List Held) (env : List Value) (store : Store) (F A : List ℕ) : Type 0 where
    pub after : Slots
    pub size : length (made_store c k ss hs store) ≡ length store
    pub outside : (x : ℕ) → (Has x F → ⊥) → Same store (made_store c k ss hs store) x
    pub ready : Ready t result after (without (map mode_owned (get_or cs c [])) (give_up hs k) ss ++ (Held.owned (65536 + credit_cell (held hs k)) ∷ []))
        (env ++ (node c (values (map (λ s. value_at env s) ss)) ∷ [])) (made_store c k ss hs store) F A

  pub mk_ready : (fine : Accepted) (p c k : ℕ) (ss : List ℕ) (t : Term) {result : Sort} {slots : Slots} {hs : List Held} {env : List Value} {store : Store} {F A : List ℕ}
      → Ready (MK p c k ss t) result slots hs env store F A → Made c k ss t result hs env store F A
  unfolding check
  mk_ready fine p c k ss t {result} {slots} {hs} {env} {store} {F} {A} r =
      let modes : List Mode = map mode_owned (get_or cs c []) in
      let s : Sort = r.formed.0.0 in
      let ss' : Constructor = r.formed.0.1 in
      let e : get_or cs c [] ≡ s ∷ ss' = r.formed.0.2 in
      let a = steps_ok (take false (Want.credit (length (get_or cs c []))) k (p + 3) slots) _ r.checked in
      let b = steps_ok (pass [] modes ss (p + 4) a.0) _ a.2 in
      let u = took_credit (take_inv false (Want.credit (length (get_or cs c []))) k (p + 3) slots a.0 a.1) in
      let o = at_kind cs store u.0 r.match in
      let i = credit_held o.holds in
      let h = hand cs store A env modes ss [] (p + 4) (set slots k (used_up u.0.slot)) b.0 (give_up hs k) o.rest (rw u.1 b.1) (o.others (taken (held hs k)) (credit_taken cs store o.holds)) in
      let w = make c (credit_cell (held hs k)) s ss' b.0 (without modes (give_up hs k) ss) (argued modes (give_up hs k) ss) env (map (λ s. value_at env s) ss) store F A
      o.rest h.part h.rest e (omega (arith, fine.small c, ap length e)) i.1 (subst (λ P. Split F P o.rest) i.0 o.split) h.split
      (subst (λ fs. Match cs store (A ++ h.rest) (map fresh (map kind_of (map mode_owned fs))) (argued modes (give_up hs k) ss) (map (λ s. value_at env s) ss) h.part) e h.called)
      h.caller r.once r.apart in
      record {
        after = bind b.0 (Kind.owned ∷ []);
        size = w.size;
        outside = w.outside;
        ready = record { checked = b.2; formed = r.formed.1; match = w.match; once = r.once; apart = r.apart };
      }

  -- the machine's steps and the plain ones, as equations
  keeps : (g : ℕ) (under : List Frame) → suc (length under) ≤ g → max g (suc (length under)) ≡ g
  keeps g under e = omega arith

  run_GV : (l p s : ℕ) (hs : List Held) (store : Store) (under : List Frame) (k g : ℕ) → suc (length under) ≤ g
      → run file (suc l) (state store (GV p s) hs under) k g ≡ back l store (held hs s) under (suc k) g
  unfolding run step
  run_GV l p s hs store [] k g e = refl
  run_GV l p s hs store (f ∷ rest) k g e = let m : max g (suc (length rest)) ≡ g = omega arith in rw m

  module _ (n : ℕ) (env : List Value) (d k g : ℕ) (z : eqb k budget ≡ false) where
    eval_OP : (p s c : ℕ) (bs : Branches) (vs : Values) (u : Term) → value_at env s ≡ node c vs → branch bs c ≡ some u
        → eval file budget (suc n) (OP p s bs) env d k g ≡ eval file budget n u (env ++ with_credit (list vs)) d (suc k) g
    unfolding eval
    eval_OP p s c bs vs u v q = rw (z, v, q, eval)

    eval_OP_none : (p s c : ℕ) (bs : Branches) (vs : Values) → value_at env s ≡ node c vs → branch bs c ≡ none
        → eval file budget (suc n) (OP p s bs) env d k g ≡ P.stop 31 p (suc k) g
    unfolding eval
    eval_OP_none p s c bs vs v q = rw (z, v, q, eval)

    eval_AR : (p o x y m : ℕ) (t : Term) → arithmetic o (P.number_in (value_at env x)) (P.number_in (value_at env y)) ≡ some m
        → eval file budget (suc n) (AR p o x y t) env d k g ≡ eval file budget n t (env ++ (P.number m ∷ [])) d (suc k) g
    unfolding eval
    eval_AR p o x y m t q = rw (z, q, eval)

    eval_AR_none : (p o x y : ℕ) (t : Term) → arithmetic o (P.number_in (value_at env x)) (P.number_in (value_at env y)) ≡ none
        → eval file budget (suc n) (AR p o x y t) env d k g ≡ P.stop 34 p (suc k) g
    unfolding eval
    eval_AR_none p o x y t q = rw (z, q, eval)

    eval_LK : (p s c : ℕ) (bs : Branches) (vs : Values) (u : Term) → value_at env s ≡ node c vs → branch bs c ≡ some u
        → eval file budget (suc n) (LK p s bs) env d k g ≡ eval file budget n u (env ++ list vs) d (suc k) g
    unfolding eval
    eval_LK p s c bs vs u v q = rw (z, v, q, eval)

    eval_LK_none : (p s c : ℕ) (bs : Branches) (vs : Values) → value_at env s ≡ node c vs → branch bs c ≡ none
        → eval file budget (suc n) (LK p s bs) env d k g ≡ P.stop 31 p (suc k) g
    unfolding eval
    eval_LK_none p s c bs vs v q = rw (z, v, q, eval)

  module _ (l : ℕ) (store : Store) (hs : List Held) (under : List Frame) (k g : ℕ) where
    run_OP : (p s : ℕ) (bs : Branches) (u : Term) → branch bs (constructor_of store (word (held hs s))) ≡ some u
        → run file (suc l) (state store (OP p s bs) hs under) k g
        ≡ run file l (state store u (opened_slots store hs s (constructor_of store (word (held hs s)))) under) (suc k) (max g (suc (length under)))
    unfolding run step
    run_OP p s bs u q = rw (q, run, step)

    run_OP_none : (p s : ℕ) (bs : Branches) → branch bs (constructor_of store (word (held hs s))) ≡ none
        → run file (suc l) (state store (OP p s bs) hs under) k g ≡ answers 31 0 (suc k) p g store
    unfolding run step
    run_OP_none p s bs q = rw (q, run, step)

    run_AR : (p o x y m : ℕ) (t : Term) → arithmetic o (word (held hs x)) (word (held hs y)) ≡ some m
        → run file (suc l) (state store (AR p o x y t) hs under) k g ≡ run file l (state store t (hs ++ (Held.number m ∷ [])) under) (suc k) (max g (suc (length under)))
    unfolding run step
    run_AR p o x y m t q = rw (q, run, step)

    run_AR_none : (p o x y : ℕ) (t : Term) → arithmetic o (word (held hs x)) (word (held hs y)) ≡ none
        → run file (suc l) (state store (AR p o x y t) hs under) k g ≡ answers 34 0 (suc k) p g store
    unfolding run step
    run_AR_none p o x y t q = rw (q, run, step)

    run_LK : (p s : ℕ) (bs : Branches) (u : Term) → branch bs (constructor_of store (word (held hs s))) ≡ some u
        → run file (suc l) (state store (LK p s bs) hs under) k g
        ≡ run file l (state store u (looked_slots store hs s (constructor_of store (word (held hs s)))) under) (suc k) (max g (suc (length under)))
    unfolding run step
    run_LK p s bs u q = rw (q, run, step)

    run_LK_none : (p s : ℕ) (bs : Branches) → branch bs (constructor_of store (word (held hs s))) ≡ none
        → run file (suc l) (state store (LK p s bs) hs under) k g ≡ answers 31 0 (suc k) p g store
    unfolding run step
    run_LK_none p s bs q = rw (q, run, step)

    run_CL : (p f : ℕ) (ss : List ℕ) (t : Term) → ltb (length under) 31 ≡ true
        → run file (suc l) (state store (CL p f ss t) hs under) k g
        ≡ run file l (state store (body_of file f) (argued (function_of file f).parameters hs ss)
        (record { todo = t; slots = without (function_of file f).parameters hs ss } ∷ under)) (suc k) (max g (suc (suc (length under))))
    unfolding run step
    run_CL p f ss t q = rw (q, run, step)

    run_CL_full : (p f : ℕ) (ss : List ℕ) (t : Term) → ltb (length under) 31 ≡ false
        → run file (suc l) (state store (CL p f ss t) hs under) k g ≡ answers 33 0 (suc k) p g store
    unfolding run step
    run_CL_full p f ss t q = rw (q, run, step)

  module _ (n : ℕ) (env : List Value) (d k g : ℕ) (z : eqb k budget ≡ false) where
    eval_CL : (p f : ℕ) (ss : List ℕ) (t : Term) → eqb d 32 ≡ false
        → eval file budget (suc n) (CL p f ss t) env d k g
        ≡ P.after (eval file budget n (body file budget f) (map (λ s. value_at env s) ss) (suc d) (suc k) (max g (suc d)))
        (λ v k' g'. eval file budget n t (env ++ (v ∷ [])) d k' g')
    unfolding eval
    eval_CL p f ss t q = rw (z, eval) (rw q)

    eval_CL_full : (p f : ℕ) (ss : List ℕ) (t : Term) → eqb d 32 ≡ true → eval file budget (suc n) (CL p f ss t) env d k g ≡ P.stop 33 p (suc k) g
    unfolding eval
    eval_CL_full p f ss t q = rw (z, q, eval)

  -- from a later store
  ends_from : {result : Sort} {F : List ℕ} (store store' : Store) {under : List Frame} {d k₀ : ℕ} {a : Answer} {R : Run} → length store' ≡ length store
      → ((y : ℕ) → (Has y F → ⊥) → Same store store' y) → Ends result F store' under d k₀ a R → Ends result F store under d k₀ a R
  ends_from store store' z o (Ends.value l s h b i d y n g e) = Ends.value l s h b i d (y ∙ z) (λ c m i j. n c m i j ∙ o c m i j) g e
  ends_from store store' z o (Ends.stop s e) = Ends.stop s e

  ends_later : {result : Sort} {F : List ℕ} {store : Store} {under : List Frame} {d k₀ k₁ : ℕ} {a : Answer} {R : Run} → k₁ ≤ k₀
      → Ends result F store under d k₀ a R → Ends result F store under d k₁ a R
  ends_later w (Ends.value l s h b i d y n g e) = Ends.value l s h b (omega arith) d y n g e
  ends_later w (Ends.stop s e) = Ends.stop s e

  ends_eq : {result : Sort} {F : List ℕ} {store : Store} {under : List Frame} {d k₀ : ℕ} {a a' : Answer} {R R' : Run} → a ≡ a' → R ≡ R'
      → Ends result F store under d k₀ a' R' → Ends result F store under d k₀ a R
  ends_eq {result} {F} {store} {under} {d} {k₀} {a} {a'} {R} {R'} p q e =
      subst (λ x. Ends result F store under d k₀ x R) (sym p) (subst (λ x. Ends result F store under d k₀ a' x) (sym q) e)

  -- IF
  abbrev pub chosen : ℕ → Term → Term → Term
  chosen zero t u = u
  chosen (suc _) t u = t

  pub chosen_ready : (m : ℕ) {t u : Term} {result : Sort} {slots : Slots} {hs : List Held} {env : List Value} {store : Store} {F A : List ℕ}
      → Ready t result slots hs env store F A → Ready u result slots hs env store F A → Ready (chosen m t u) result slots hs env store F A
  chosen_ready zero r s = s
  chosen_ready (suc m) r s = r

  run_IF' : (l : ℕ) (store : Store) (hs : List Held) (under : List Frame) (k g p s m : ℕ) (t u : Term) → word (held hs s) ≡ m
      → run file (suc l) (state store (IF p s t u) hs under) k g ≡ run file l (state store (chosen m t u) hs under) (suc k) (max g (suc (length under)))
  unfolding run step
  run_IF' l store hs under k g p s zero t u e = rw (e, run, step)
  run_IF' l store hs under k g p s (suc m) t u e = rw (e, run, step)

  eval_IF : (n : ℕ) (env : List Value) (d k g p s m : ℕ) (t u : Term) → eqb k budget ≡ false → P.number_in (value_at env s) ≡ m
      → eval file budget (suc n) (IF p s t u) env d k g ≡ eval file budget n (chosen m t u) env d (suc k) g
  unfolding eval
  eval_IF n env d k g p s zero t u z e = rw (z, eval) (rw e)
  eval_IF n env d k g p s (suc m) t u z e = rw (z, eval) (rw e)

  -- TL
  pub record Tailed (f : ℕ) (ss : List ℕ) (result : Sort) (hs : List Held) (env : List Value) (store : Store) (F : List ℕ) : Type 0 where
    pub start : Slots
    pub lents : List ℕ
    pub ready : Ready (body_of file f) result start (argued (function_of file f).parameters hs ss) (map (λ s. value_at env s) ss) store F lents

  pub tl_ready : (fine : Accepted) (p f : ℕ) (ss : List ℕ) {result : Sort} {slots : Slots} {hs : List Held} {env : List Value} {store : Store} {F A : List ℕ}
      → Ready (TL p f ss) result slots hs env store F A → Tailed f ss result hs env store F
  unfolding check
  tl_ready fine p f ss {result} {slots} {hs} {env} {store} {F} {A} r =
      let sig : Signature = function_of file f in
      let a = require_then 8 (p + 2) (same_sort sig.result result) _ r.checked in
      let b = steps_ok (pass [] sig.parameters ss (p + 3) slots) (λ x. done p x) a.1 in
      let h = hand cs store A env sig.parameters ss [] (p + 3) slots b.0 hs F b.1 r.match in
      let none_left : h.rest ≡ [] = match_empty cs store A h.caller (done_none p b.0 b.2) in
      let all : F ≡ h.part = nothing_right (subst (λ R. Split F h.part R) none_left h.split) in
      let start : Slots = bind [] (map kind_of sig.parameters) in
      let body_ready = called_ready fine f r.once r.apart h in
      record {
        start = start;
        lents = A ++ h.rest;
        ready = subst (λ x. Ready (body_of file f) x start (argued sig.parameters hs ss) (map (λ s. value_at env s) ss) store F (A ++ h.rest)) (sort_same sig.result result a.0)
            (subst (λ P. Ready (body_of file f) sig.result start (argued sig.parameters hs ss) (map (λ s. value_at env s) ss) store P (A ++ h.rest)) (sym all) body_ready);
      }

  -- CL
  pub record Waiting (f : ℕ) (ss : List ℕ) (t : Term) (result : Sort) (hs : List Held) (env : List Value) (store : Store) (F A : List ℕ) : Type 0 where
    pub after : Slots
    pub handed : Handed cs store A (function_of file f).parameters ss after hs env F
    pub checked : check cs fs result t (bind after (kind_owned (function_of file f).result ∷ [])) ≡ ok tt

  pub cl_ready : (p f : ℕ) (ss : List ℕ) (t : Term) {result : Sort} {slots : Slots} {hs : List Held} {env : List Value} {store : Store} {F A : List ℕ}
      → Ready (CL p f ss t) result slots hs env store F A → Waiting f ss t result hs env store F A
  unfolding check
  cl_ready p f ss t {result} {slots} {hs} {env} {store} {F} {A} r =
      let a = steps_ok (pass [] (function_of file f).parameters ss (p + 3) slots) _ r.checked in
      record { after = a.0; handed = hand cs store A env (function_of file f).parameters ss [] (p + 3) slots a.0 hs F a.1 r.match; checked = a.2 }

  continue : {sort result : Sort} {P' F : List ℕ} {store : Store} {frame : Frame} {under : List Frame} {d k₀ : ℕ} {a : Answer} {R : Run} (K : Value → ℕ → ℕ → Run)
      → ((v : Value) (l k g : ℕ) (store' : Store) (h : Held) → l + k ≡ budget → suc k₀ ≤ k → suc d ≤ g → length store' ≡ length store
      → ((c : ℕ) → (Has c P' → ⊥) → Same store store' c) → Holds cs store' [] (kind_owned sort) h v P'
      → Ends result F store under d k₀ (run file l (state store' frame.todo (frame.slots ++ (h ∷ [])) under) k g) (K v k g))
      → Ends sort P' store (frame ∷ under) (suc d) (suc k₀) a R → Ends result F store under d k₀ a (P.after R K)
  continue K f (Ends.value {v} {k} {g} l s h b i d y n q e) = ends_eq e refl (f v l k g s h b i d y n q)
  continue K f (Ends.stop s e) = Ends.stop s e

  -- what the check of a file makes sure of
  each_checked : (gs : List Signature) (ts : List Term) → check_bodies cs fs gs ts ≡ ok tt
      → (f : ℕ) → check cs fs (get_or gs f no_function).result (get_or ts f no_body) (bind [] (map kind_of (get_or gs f no_function).parameters)) ≡ ok tt
  unfolding check_bodies check pass take
  each_checked [] [] e f = refl
  each_checked [] (t ∷ ts) e f = absurd (refused e)
  each_checked (g ∷ gs) [] e f = absurd (refused e)
  each_checked (g ∷ gs) (t ∷ ts) e zero = (steps_ok (check cs fs g.result t (bind [] (map kind_of g.parameters))) _ e).1
  each_checked (g ∷ gs) (t ∷ ts) e (suc f) = each_checked gs ts (steps_ok (check cs fs g.result t (bind [] (map kind_of g.parameters))) _ e).2 f

  pub all_accepted : ((k : ℕ) → length (get_or cs k []) ≤ 4) → ((f : ℕ) → Formed (body_of file f) cs) → check_file file ≡ ok tt → Accepted
  unfolding check_file
  all_accepted small formed e = record { small = small; bodies_checked = each_checked fs file.bodies e; bodies_formed = formed }

  module _ (fine : Accepted) where
    pub sim : (n : ℕ) (l₀ : ℕ) (t : Term) (result : Sort) (slots : Slots) (hs : List Held) (env : List Value) (store : Store) (under : List Frame) (F A : List ℕ) (k g : ℕ)
        → Ready t result slots hs env store F A → suc (length under) ≤ 32 → suc (length under) ≤ g → l₀ + k ≡ budget → l₀ < n
        → Ends result F store under (suc (length under)) k (run file l₀ (state store t hs under) k g) (eval file budget n t env (suc (length under)) k g)
    unfolding eval run step
    sim zero l₀ t result slots hs env store under F A k g r d e b l = absurd (contradiction (omega arith))
    sim (suc n) zero t result slots hs env store under F A k g r d e b l =
        let q : eqb k budget ≡ true = eq-eqb k budget (omega arith) in
        rw (q, eval) (Ends.stop store refl)
    sim (suc n) (suc l) (GV p s) result slots hs env store under F A k g r d e b q =
        let z : eqb k budget ≡ false = ne_eqb k budget (λ x. omega arith) in
        rw (z, eval) (Ends.value {k = suc k} {g = g} l store (held hs s) (omega arith) (omega arith) e refl (λ c n i j. refl) (give result r) (run_GV l p s hs store under k g e))
    sim (suc n) (suc l) (AT p c t) result slots hs env store under F A k g r d e b q =
        let z : eqb k budget ≡ false = ne_eqb k budget (λ x. omega arith) in
        rw (z, eval, keeps g under e)
        (ends_later (omega arith) (sim n l t result _ _ _ store under F A (suc k) g (at_ready r) d e (omega arith) (omega arith)))
    sim (suc n) (suc l) (NU p m t) result slots hs env store under F A k g r d e b q =
        let z : eqb k budget ≡ false = ne_eqb k budget (λ x. omega arith) in
        rw (z, eval, keeps g under e)
        (ends_later (omega arith) (sim n l t result _ _ _ store under F A (suc k) g (nu_ready r) d e (omega arith) (omega arith)))
    sim (suc n) (suc l) (MK p c x ss t) result slots hs env store under F A k g r d e b q =
        let z : eqb k budget ≡ false = ne_eqb k budget (λ x. omega arith) in
        let w = mk_ready fine p c x ss t r in
        rw (z, eval, keeps g under e)
        (ends_later (omega arith) (ends_from store (made_store c x ss hs store) w.size w.outside
        (sim n l t result w.after _ _ _ under F A (suc k) g w.ready d e (omega arith) (omega arith))))
    sim (suc n) (suc l) (CL p f ss t) result slots hs env store under F A k g r d e b q =
        let z : eqb k budget ≡ false = ne_eqb k budget (λ x. omega arith) in
        let w = cl_ready p f ss t r in
        let h = w.handed in
        let sig : Signature = function_of file f in
        let d₁ : ℕ = suc (length under) in
        (elim (ltb (length under) 31) as (λ x. ltb (length under) 31 ≡ x
        → Ends result F store under d₁ k (run file (suc l) (state store (CL p f ss t) hs under) k g) (eval file budget (suc n) (CL p f ss t) env d₁ k g)) [
          | true ↦ λ y.
              let deep : length under < 31 = ltb-true (length under) 31 y in
              ends_eq (run_CL l store hs under k g p f ss t y) (eval_CL n env d₁ k g z p f ss t (ne_eqb d₁ 32 (λ v. omega arith)))
              (continue (λ v k' g'. eval file budget n t (env ++ (v ∷ [])) d₁ k' g')
              (λ v l' k' g' store' h' b' i' e' y' n' q'.
              ends_from store store' y' (λ c m. n' c (λ j. m (has_part h.split j)))
              (ends_later (omega arith) (sim n l' t result _ _ _ store' under F A k' g'
              (resumed sig.result store store' w.checked r.formed.1 r.once r.apart h.split h.caller y' n' q') d (omega arith) b' (omega arith))))
              (sim n l (body_of file f) sig.result _ _ _ store (record { todo = t; slots = without sig.parameters hs ss } ∷ under) h.part (A ++ h.rest) (suc k) (max g (suc d₁))
              (called_ready fine f r.once r.apart h) (omega arith) (omega arith) (omega arith) (omega arith)))
          | false ↦ λ y.
              let full : 31 ≤ length under = ltb-false (length under) 31 y in
              ends_eq (run_CL_full l store hs under k g p f ss t y) (eval_CL_full n env d₁ k g z p f ss t (eq-eqb d₁ 32 (omega arith))) (Ends.stop store refl)
        ]) refl
    sim (suc n) (suc l) (TL p f ss) result slots hs env store under F A k g r d e b q =
        let z : eqb k budget ≡ false = ne_eqb k budget (λ x. omega arith) in
        let w = tl_ready fine p f ss r in
        rw (z, eval, keeps g under e)
        (ends_later (omega arith) (sim n l (body_of file f) result w.start _ _ store under F w.lents (suc k) g w.ready d e (omega arith) (omega arith)))
    sim (suc n) (suc l) (OP p s bs) result slots hs env store under F A k g r d e b q =
        let z : eqb k budget ≡ false = ne_eqb k budget (λ x. omega arith) in
        let w = op_ready r in
        let c : ℕ = constructor_of store (word (held hs s)) in
        let d₁ : ℕ = suc (length under) in
        (elim (branch bs c) as (λ x. branch bs c ≡ x
        → Ends result F store under d₁ k (run file (suc l) (state store (OP p s bs) hs under) k g) (eval file budget (suc n) (OP p s bs) env d₁ k g)) [
          | none ↦ λ y. ends_eq (run_OP_none l store hs under k g p s bs y) (eval_OP_none n env d₁ k g z p s c bs w.inner w.value y) (Ends.stop store refl)
          | some u ↦ λ y.
              ends_eq (run_OP l store hs under k g p s bs u y ∙ ap (λ x. run file l (state store u (opened_slots store hs s c) under) (suc k) x) (keeps g under e))
              (eval_OP n env d₁ k g z p s c bs w.inner u w.value y)
              (ends_later (omega arith) (sim n l u result w.after _ _ store under F A (suc k) g (w.opens u y) d e (omega arith) (omega arith)))
        ]) refl
    sim (suc n) (suc l) (LK p s bs) result slots hs env store under F A k g r d e b q =
        let z : eqb k budget ≡ false = ne_eqb k budget (λ x. omega arith) in
        let w = lk_ready r in
        let c : ℕ = constructor_of store (word (held hs s)) in
        let d₁ : ℕ = suc (length under) in
        (elim (branch bs c) as (λ x. branch bs c ≡ x
        → Ends result F store under d₁ k (run file (suc l) (state store (LK p s bs) hs under) k g) (eval file budget (suc n) (LK p s bs) env d₁ k g)) [
          | none ↦ λ y. ends_eq (run_LK_none l store hs under k g p s bs y) (eval_LK_none n env d₁ k g z p s c bs w.inner w.value y) (Ends.stop store refl)
          | some u ↦ λ y.
              ends_eq (run_LK l store hs under k g p s bs u y ∙ ap (λ x. run file l (state store u (looked_slots store hs s c) under) (suc k) x) (keeps g under e))
              (eval_LK n env d₁ k g z p s c bs w.inner u w.value y)
              (ends_later (omega arith) (sim n l u result w.after _ _ store under F A (suc k) g (w.looks u y) d e (omega arith) (omega arith)))
        ]) refl
    sim (suc n) (suc l) (AR p o x y t) result slots hs env store under F A k g r d e b q =
        let z : eqb k budget ≡ false = ne_eqb k budget (λ x. omega arith) in
        let w = ar_ready r in
        let v : Option ℕ = arithmetic o (P.number_in (value_at env x)) (P.number_in (value_at env y)) in
        let same : arithmetic o (word (held hs x)) (word (held hs y)) ≡ v = λ i. arithmetic o (w.0 i) (w.1 i) in
        let d₁ : ℕ = suc (length under) in
        (elim v as (λ m. v ≡ m
        → Ends result F store under d₁ k (run file (suc l) (state store (AR p o x y t) hs under) k g) (eval file budget (suc n) (AR p o x y t) env d₁ k g)) [
          | none ↦ λ h. ends_eq (run_AR_none l store hs under k g p o x y t (same ∙ h)) (eval_AR_none n env d₁ k g z p o x y t h) (Ends.stop store refl)
          | some m ↦ λ h.
              ends_eq (run_AR l store hs under k g p o x y m t (same ∙ h) ∙ ap (λ x. run file l (state store t (hs ++ (Held.number m ∷ [])) under) (suc k) x) (keeps g under e))
              (eval_AR n env d₁ k g z p o x y m t h)
              (ends_later (omega arith) (sim n l t result _ _ _ store under F A (suc k) g (w.2 m) d e (omega arith) (omega arith)))
        ]) refl
    sim (suc n) (suc l) (IF p s t u) result slots hs env store under F A k g r d e b q =
        let z : eqb k budget ≡ false = ne_eqb k budget (λ x. omega arith) in
        let w = if_ready r in
        let m : ℕ = P.number_in (value_at env s) in
        let d₁ : ℕ = suc (length under) in
        ends_eq (run_IF' l store hs under k g p s m t u w.0 ∙ ap (λ x. run file l (state store (chosen m t u) hs under) (suc k) x) (keeps g under e))
        (eval_IF n env d₁ k g p s m t u z refl)
        (ends_later (omega arith) (sim n l (chosen m t u) result slots hs env store under F A (suc k) g (chosen_ready m w.1 w.2) d e (omega arith) (omega arith)))

    -- the whole run: function 0 on a frame that is ready, and the plain evaluation of its arguments
    pub runs_as_evaluated : {slots : Slots} {hs : List Held} {env : List Value} {store : Store} {F A : List ℕ}
        → Ready (body_of file 0) (function_of file 0).result slots hs env store F A
        → Ends (function_of file 0).result F store [] 1 0 (run file budget (state store (body_of file 0) hs []) 0 1) (evaluate file budget env)
    unfolding evaluate
    runs_as_evaluated {slots} {hs} {env} {store} {F} {A} r =
        sim (suc budget) budget (body_of file 0) (function_of file 0).result slots hs env store [] F A 0 1 r (omega arith) (omega arith) (omega arith) (omega arith)
