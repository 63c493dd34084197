-- A flat file of depth D never has more than D frames. Assumes nothing.
use Prim.Native.Nat.{ℕ, zero, suc, ◌+◌, ◌≤◌, ◌<◌, max}
use mathlib.Core.Bool.{Bool, true, false}
use mathlib.Core.List.{List, [], ◌∷◌, ◌++◌}
use mathlib.Core.Option.{Option, none, some}
use mathlib.Core.Path.{◌≡◌, refl, sym, subst}
use mathlib.Core.Logic.{◌⊎◌, inl, inr}
use native.Mathlib.Omega.{arith}
use lib.ListN.{length, get_or}
use lib.Dec.{ltb, eqb}
use borrow.Author.Tests.{ltb-false}
use Rattle.meaning.specs.declared.Call.{Call}
use Rattle.meaning.specs.declared.How.{How}
use Rattle.meaning.specs.declared.How.TheVariants.{Never, Tail, Waits}
use Rattle.meaning.specs.Syntax.{Term, Branches, Constructor, File}
use Rattle.meaning.specs.Syntax.{GV, AT, MK, CL, TL, OP, LK, NU, AR, IF, BR, end}
use Rattle.meaning.specs.Plain.{arithmetic, branch, no_body}
use Rattle.meaning.specs.Machine.{Held, Store, Frame, State, state, Answer, answers, Step, next, finished, stuck, step, run, body_of, function_of, fields_of, argued, without, word, held, give_up, cell, constructor_of, fields, opened, looked, credit_for}
use Rattle.meaning.specs.Calls.{call, In, here, there, calls, calls_branches, calls_from, Square, entry, square, Walk, stay, wait, IsDepth, flat, shape}
use Rattle.theory.proofs.Walks.{join, then_tail, then_wait}
use Rattle.theory.proofs.Filling.{rank, in_left, in_right, in_cases, Callable, covered}
use Rattle.theory.proofs.Shapes.{shape_flat, shape_bounds}
use Rattle.theory.proofs.Sim.{Formed, AllFormed}
use Rattle.theory.proofs.Passing.{contradiction}

in_nothing : {c : Call} → In c [] → ⊥
in_nothing = elim [ ]

in_inv : {c d : Call} {cs : List Call} → In c (d ∷ cs) → (c ≡ d) ⊎ In c cs
in_inv here = inl refl
in_inv (there h) = inr h

-- every call in a formed term comes from its own function and goes to one of 32
abbrev Fine : Call → ℕ → Type 0
Fine c f = (c.caller ≡ f) × (c.callee < 32)

one_call : {c d : Call} {cs : List Call} (f : ℕ) → (c ≡ d) ⊎ In c cs → Fine d f → (In c cs → Fine c f) → Fine c f
one_call f (inl e) w ih = subst (λ x. Fine x f) (sym e) w
one_call f (inr h) w ih = ih h

two_parts : {c : Call} {cs ds : List Call} (f : ℕ) → In c cs ⊎ In c ds → (In c cs → Fine c f) → (In c ds → Fine c f) → Fine c f
two_parts f (inl h) a b = a h
two_parts f (inr h) a b = b h

mutual
  unfolding calls

  calls_fine : (t : Term) (cs : List Constructor) (f : ℕ) (c : Call) → Formed t cs → In c (calls t f) → Fine c f
  calls_fine (GV p s) cs f c w h = absurd (in_nothing h)
  calls_fine (AT p k t) cs f c w h = calls_fine t cs f c w.2 h
  calls_fine (MK p k r ss t) cs f c w h = calls_fine t cs f c w.1 h
  calls_fine (CL p g ss t) cs f c w h = one_call f (in_inv h) (refl, w.0) (λ k. calls_fine t cs f c w.1 k)
  calls_fine (TL p g ss) cs f c w h = one_call f (in_inv h) (refl, w) (λ k. absurd (in_nothing k))
  calls_fine (OP p s bs) cs f c w h = branches_fine bs cs f c w h
  calls_fine (LK p s bs) cs f c w h = branches_fine bs cs f c w h
  calls_fine (NU p n t) cs f c w h = calls_fine t cs f c w h
  calls_fine (AR p o x y t) cs f c w h = calls_fine t cs f c w h
  calls_fine (IF p s t u) cs f c w h = two_parts f (in_cases (calls t f) h) (λ k. calls_fine t cs f c w.0 k) (λ k. calls_fine u cs f c w.1 k)

  branches_fine : (bs : Branches) (cs : List Constructor) (f : ℕ) (c : Call) → AllFormed bs cs → In c (calls_branches bs f) → Fine c f
  branches_fine end cs f c w h = absurd (in_nothing h)
  branches_fine (BR p k t bs) cs f c w h = two_parts f (in_cases (calls t f) h) (λ g. calls_fine t cs f c w.0 g) (λ g. branches_fine bs cs f c w.1 g)

bodies_fine : (k : ℕ) (ts : List Term) (cs : List Constructor) → ((i : ℕ) → Formed (get_or ts i no_body) cs) → (c : Call) → In c (calls_from k ts)
    → (c.caller < k + length ts) × (c.callee < 32)
unfolding calls_from
bodies_fine k [] cs w c h = absurd (in_nothing h)
bodies_fine k (t ∷ ts) cs w c h = go (in_cases (calls t k) h) (λ g. bodies_fine (suc k) ts cs (λ i. w (suc i)) c g)
  where
    go : In c (calls t k) ⊎ In c (calls_from (suc k) ts) → (In c (calls_from (suc k) ts) → (c.caller < suc k + length ts) × (c.callee < 32))
        → (c.caller < k + suc (length ts)) × (c.callee < 32)
    go (inl g) ih = let r = calls_fine t cs k c (w 0) g in (omega (arith, r.0), r.1)
    go (inr g) ih = let r = ih g in (omega (arith, r.0), r.1)

pub callable : (file : File) → ((f : ℕ) → Formed (get_or file.bodies f no_body) file.constructors) → length file.bodies ≤ 32 → Callable file
callable file w l =
    record {
      callers = λ c h. omega (arith, (bodies_fine 0 file.bodies file.constructors w c h).0);
      callees = λ c h. (bodies_fine 0 file.bodies file.constructors w c h).1;
    }

-- the calls of a body are among those of the file
body_calls : (ts : List Term) (k g : ℕ) (c : Call) → In c (calls (get_or ts g no_body) (k + g)) → In c (calls_from k ts)
unfolding calls calls_from
body_calls [] k g c h = absurd (in_nothing h)
body_calls (t ∷ ts) k zero c h = let e : k + 0 ≡ k = omega arith in in_left (calls_from (suc k) ts) (subst (λ x. In c (calls t x)) e h)
body_calls (t ∷ ts) k (suc g) c h =
    let e : k + suc g ≡ suc k + g = omega arith in
    in_right (calls t k) (body_calls ts (suc k) g c (subst (λ x. In c (calls (get_or ts g no_body) x)) e h))

-- the square has every call of a term
abbrev Covered : Square → Term → ℕ → Type 0
Covered sq t f = (c : Call) → In c (calls t f) → rank c.how ≤ rank (entry sq c.caller c.callee)

-- the frames below one of function f: each is of a function that is covered, and waits for a walk with a CL
data Standing (sq : Square) : List Frame → ℕ → Type 0 where
  lowest : {f n : ℕ} → Walk sq 0 f n → Standing sq [] f
  above : {fr : Frame} {rest : List Frame} {f g n : ℕ} → Standing sq rest f → Covered sq fr.todo f → Walk sq f g (suc n) → Standing sq (fr ∷ rest) g

abbrev Good : Square → State → Type 0
Good sq st = (f : ℕ) × Covered sq st.top.todo f × Standing sq st.under f

-- the waiting calls of the walk are the frames below
waiting : {sq : Square} {under : List Frame} {f : ℕ} → Standing sq under f → (n : ℕ) × Walk sq 0 f n × (length under ≤ n)
waiting (lowest {n} w) = (n, w, omega arith)
waiting (above {n} s k w) = let r = waiting s in (r.0 + suc n, join r.1 w, omega (arith, r.2))

no_more : {sq : Square} {D : ℕ} {under : List Frame} {f : ℕ} → IsDepth sq D → Standing sq under f → suc (length under) ≤ D
no_more {f} d s = let r = waiting s in omega (arith, r.2, d.one_more, d.largest f r.0 r.1)

tail_call : {sq : Square} {under : List Frame} {f g : ℕ} → entry sq f g ≡ Tail → Standing sq under f → Standing sq under g
tail_call e (lowest w) = lowest (then_tail w e)
tail_call e (above s k w) = above s k (then_tail w e)

wait_call : {sq : Square} {under : List Frame} {f g : ℕ} → entry sq f g ≡ Waits → Standing sq under f → Standing sq under g
wait_call e (lowest w) = lowest (then_wait w e)
wait_call e (above s k w) = above s k (then_wait w e)

moved : {a b : State} → next a ≡ next b → a ≡ b
moved e = cc

not_moved : {v : ℕ} {b : State} → finished v ≡ next b → ⊥
not_moved e = let z : ◌≡◌ {A = ℕ} 0 1 = cc in contradiction z

not_stuck : {a p : ℕ} {b : State} → stuck a p ≡ next b → ⊥
not_stuck e = let z : ◌≡◌ {A = ℕ} 0 1 = cc in contradiction z

-- a branch's calls
branch_calls : (bs : Branches) (k : ℕ) (u : Term) (f : ℕ) (c : Call) → branch bs k ≡ some u → In c (calls u f) → In c (calls_branches bs f)
unfolding calls
branch_calls end k u f c e h = let z : ◌≡◌ {A = ℕ} 0 1 = cc in absurd (contradiction z)
branch_calls (BR p d t bs) k u f c e h = go (eqb k d) e (λ q. branch_calls bs k u f c q h)
  where
    go : (b : Bool) → (elim b as (λ _. Option Term) [ true ↦ some t | false ↦ branch bs k ]) ≡ some u → (branch bs k ≡ some u → In c (calls_branches bs f))
        → In c (calls t f ++ calls_branches bs f)
    go true e ih = let q : u ≡ t = cc in in_left (calls_branches bs f) (subst (λ x. In c (calls x f)) q h)
    go false e ih = in_right (calls t f) (ih e)

module _ (file : File) (small : Callable file) where
  abbrev sq : Square
  sq = square file

  body_covered : (g : ℕ) → Covered sq (body_of file g) g
  body_covered g c h =
      let e : g ≡ 0 + g = omega arith in
      covered file small c (body_calls file.bodies 0 g c (subst (λ x. In c (calls (body_of file g) x)) e h))

  waits_entry : (h : How) → 2 ≤ rank h → h ≡ Waits
  waits_entry Never l = absurd (omega arith)
  waits_entry Tail l = absurd (omega arith)
  waits_entry Waits l = refl

  -- what a CL of f makes: its frame waits below g
  after_CL : (p g : ℕ) (ss : List ℕ) {t : Term} {under : List Frame} {f : ℕ} (slots : List Held) → Covered sq (CL p g ss t) f → Standing sq under f
      → Standing sq (record { todo = t; slots = slots } ∷ under) g
  unfolding calls
  after_CL p g ss {f} slots k s = above s (λ c h. k c (there h)) (wait (waits_entry (entry sq f g) (k (call f g Waits) here)) stay)

  after_TL : (p g : ℕ) (ss : List ℕ) {under : List Frame} {f : ℕ} → Covered sq (TL p g ss) f → Standing sq under f → Standing sq under g
  unfolding calls
  after_TL p g ss {under} {f} k s = go (entry sq f g) refl (k (call f g Tail) here)
    where
      go : (h : How) → entry sq f g ≡ h → 1 ≤ rank h → Standing sq under g
      go Never e l = absurd (omega arith)
      go Tail e l = tail_call e s
      go Waits e l = wait_call e s

  after_branch : (bs : Branches) (f k p : ℕ) (store : Store) (slots : List Held) (under : List Frame)
      → ((c : Call) → In c (calls_branches bs f) → rank c.how ≤ rank (entry sq c.caller c.callee)) → Standing sq under f
      → (st' : State) → (elim (branch bs k) as (λ _. Step) [ none ↦ stuck 31 p | some u ↦ next (state store u slots under) ]) ≡ next st' → Good sq st'
  after_branch bs f k p store slots under w s st' e = go (branch bs k) refl e
    where
      go : (o : Option Term) → branch bs k ≡ o → (elim o as (λ _. Step) [ none ↦ stuck 31 p | some u ↦ next (state store u slots under) ]) ≡ next st' → Good sq st'
      go none q e = absurd (not_stuck e)
      go (some u) q e = subst (Good sq) (moved e) (f, λ c h. w c (branch_calls bs k u f c q h), s)

  -- one step keeps it
  kept : (store : Store) (t : Term) (slots : List Held) (under : List Frame) (f : ℕ) → Covered sq t f → Standing sq under f
      → (st' : State) → step file (state store t slots under) ≡ next st' → Good sq st'
  unfolding step calls
  kept store (GV p s) slots [] f k w st' e = absurd (not_moved e)
  kept store (GV p s) slots (fr ∷ rest) f k w st' e = subst (Good sq) (moved e) (given w)
    where
      given : {g : ℕ} → Standing sq (fr ∷ rest) g → (f : ℕ) × Covered sq fr.todo f × Standing sq rest f
      given (above {f} s c w) = (f, c, s)
  kept store (AT p c t) slots under f k w st' e = subst (Good sq) (moved e) (f, k, w)
  kept store (MK p c r ss t) slots under f k w st' e = subst (Good sq) (moved e) (f, k, w)
  kept store (CL p g ss t) slots under f k w st' e = go (ltb (length under) 31) e
    where
      go : (b : Bool)
          → (elim b as (λ _. Step) [
            | false ↦ stuck 33 p
            | true ↦ next (state store (body_of file g) (argued (function_of file g).parameters slots ss)
                (record { todo = t; slots = without (function_of file g).parameters slots ss } ∷ under))
          ]) ≡ next st'
          → Good sq st'
      go false e = absurd (not_stuck e)
      go true e = subst (Good sq) (moved e) (g, body_covered g, after_CL p g ss (without (function_of file g).parameters slots ss) k w)
  kept store (TL p g ss) slots under f k w st' e = subst (Good sq) (moved e) (g, body_covered g, after_TL p g ss k w)
  kept store (OP p s bs) slots under f k w st' e =
      let x = word (held slots s) in
      let c = constructor_of store x in
      after_branch bs f c p store (give_up slots s ++ (fields opened store (cell x) 1 (fields_of file c) ++ credit_for (fields_of file c) (cell x))) under k w st' e
  kept store (LK p s bs) slots under f k w st' e =
      let x = word (held slots s) in
      let c = constructor_of store x in
      after_branch bs f c p store (slots ++ fields looked store (cell x) 1 (fields_of file c)) under k w st' e
  kept store (NU p n t) slots under f k w st' e = subst (Good sq) (moved e) (f, k, w)
  kept store (AR p o x y t) slots under f k w st' e = go (arithmetic o (word (held slots x)) (word (held slots y))) e
    where
      go : (m : Option ℕ) → (elim m as (λ _. Step) [ none ↦ stuck 34 p | some n ↦ next (state store t (slots ++ (Held.number n ∷ [])) under) ]) ≡ next st' → Good sq st'
      go none e = absurd (not_stuck e)
      go (some n) e = subst (Good sq) (moved e) (f, k, w)
  kept store (IF p s t u) slots under f k w st' e = go (word (held slots s)) e
    where
      go : (n : ℕ) → (elim n as (λ _. Step) [ zero ↦ next (state store u slots under) | suc _ ↦ next (state store t slots under) ]) ≡ next st' → Good sq st'
      go zero e = subst (Good sq) (moved e) (f, λ c h. k c (in_right (calls t f) h), w)
      go (suc n) e = subst (Good sq) (moved e) (f, λ c h. k c (in_left (calls u f) h), w)

  -- never 33
  module _ (D : ℕ) (depth : IsDepth sq D) (few : D ≤ 32) where
    not_33 : (p : ℕ) (bs : Branches) (k q a : ℕ) (store : Store) (slots : List Held) (under : List Frame)
        → (elim (branch bs k) as (λ _. Step) [ none ↦ stuck 31 p | some u ↦ next (state store u slots under) ]) ≡ stuck a q → a ≡ 33 → ⊥
    not_33 p bs k q a store slots under e = go (branch bs k) e
      where
        go : (o : Option Term) → (elim o as (λ _. Step) [ none ↦ stuck 31 p | some u ↦ next (state store u slots under) ]) ≡ stuck a q → a ≡ 33 → ⊥
        go none e z = let y : 31 ≡ a = cc in omega arith
        go (some u) e z = absurd (not_stuck (sym e))

    never_33 : (store : Store) (t : Term) (slots : List Held) (under : List Frame) (f : ℕ) → Covered sq t f → Standing sq under f
        → (a q : ℕ) → step file (state store t slots under) ≡ stuck a q → a ≡ 33 → ⊥
    unfolding step calls
    never_33 store (GV p s) slots [] f k w a q e = let z : ◌≡◌ {A = ℕ} 0 1 = cc in absurd (contradiction z)
    never_33 store (GV p s) slots (fr ∷ rest) f k w a q e = absurd (not_stuck (sym e))
    never_33 store (AT p c t) slots under f k w a q e = absurd (not_stuck (sym e))
    never_33 store (MK p c r ss t) slots under f k w a q e = absurd (not_stuck (sym e))
    never_33 store (CL p g ss t) slots under f k w a q e = go (ltb (length under) 31) refl e
      where
        go : (b : Bool) → ltb (length under) 31 ≡ b
            → (elim b as (λ _. Step) [
              | false ↦ stuck 33 p
              | true ↦ next (state store (body_of file g) (argued (function_of file g).parameters slots ss)
                  (record { todo = t; slots = without (function_of file g).parameters slots ss } ∷ under))
            ]) ≡ stuck a q
            → a ≡ 33 → ⊥
        go false l e = absurd (omega (arith, ltb-false (length under) 31 l, no_more depth (after_CL p g ss {t = t} (without (function_of file g).parameters slots ss) k w)))
        go true l e = absurd (not_stuck (sym e))
    never_33 store (TL p g ss) slots under f k w a q e = absurd (not_stuck (sym e))
    never_33 store (OP p s bs) slots under f k w a q e =
        let x = word (held slots s) in
        let c = constructor_of store x in
        not_33 p bs c q a store (give_up slots s ++ (fields opened store (cell x) 1 (fields_of file c) ++ credit_for (fields_of file c) (cell x))) under e
    never_33 store (LK p s bs) slots under f k w a q e =
        let x = word (held slots s) in
        let c = constructor_of store x in
        not_33 p bs c q a store (slots ++ fields looked store (cell x) 1 (fields_of file c)) under e
    never_33 store (NU p n t) slots under f k w a q e = absurd (not_stuck (sym e))
    never_33 store (AR p o x y t) slots under f k w a q e = go (arithmetic o (word (held slots x)) (word (held slots y))) e
      where
        go : (m : Option ℕ) → (elim m as (λ _. Step) [ none ↦ stuck 34 p | some n ↦ next (state store t (slots ++ (Held.number n ∷ [])) under) ]) ≡ stuck a q → a ≡ 33 → ⊥
        go none e z = let y : 34 ≡ a = cc in omega arith
        go (some n) e z = absurd (not_stuck (sym e))
    never_33 store (IF p s t u) slots under f k w a q e = go (word (held slots s)) e
      where
        go : (n : ℕ) → (elim n as (λ _. Step) [ zero ↦ next (state store u slots under) | suc _ ↦ next (state store t slots under) ]) ≡ stuck a q → a ≡ 33 → ⊥
        go zero e = absurd (not_stuck (sym e))
        go (suc n) e = absurd (not_stuck (sym e))

    -- a run of any length
    run_fine : (left : ℕ) (st : State) (k g : ℕ) → Good sq st → g ≤ D → ((run file left st k g).frames ≤ D) × ((run file left st k g).answer ≡ 33 → ⊥)
    unfolding run
    run_fine zero st k g w l = (l, λ e. omega arith)
    run_fine (suc n) st k g w l = go (step file st) refl (λ st' w' l'. run_fine n st' (suc k) (max g (suc (length st'.under))) w' l')
      where
        go : (s : Step) → step file st ≡ s
            → ((st' : State) → Good sq st' → max g (suc (length st'.under)) ≤ D
            → ((run file n st' (suc k) (max g (suc (length st'.under)))).frames ≤ D) × ((run file n st' (suc k) (max g (suc (length st'.under)))).answer ≡ 33 → ⊥))
            → ((elim s as (λ _. Answer) [
              | next st' ↦ run file n st' (suc k) (max g (suc (length st'.under)))
              | finished v ↦ answers 0 v (suc k) 0 g st.store
              | stuck a p ↦ answers a 0 (suc k) p g st.store
            ]).frames ≤ D)
            × ((elim s as (λ _. Answer) [
              | next st' ↦ run file n st' (suc k) (max g (suc (length st'.under)))
              | finished v ↦ answers 0 v (suc k) 0 g st.store
              | stuck a p ↦ answers a 0 (suc k) p g st.store
            ]).answer ≡ 33 → ⊥)
        go (next st') e ih =
            let w' = kept st.store st.top.todo st.top.slots st.under w.0 w.1 w.2 st' e in
            let m = no_more depth w'.2 in
            ih st' w' (omega arith)
        go (finished v) e ih = (l, λ q. omega arith)
        go (stuck a p) e ih = (l, never_33 st.store st.top.todo st.top.slots st.under w.0 w.1 w.2 a p e)

-- the states of a run
pub data Later (file : File) (st : State) : State → Type 0 where
  now : Later file st st
  then : {a b : State} → Later file st a → step file a ≡ next b → Later file st b

-- function 0's start
abbrev pub first_state : File → Store → List Held → State
first_state file store slots = state store (body_of file 0) slots []

module _ (file : File) (small : Callable file) (D R : ℕ) (verdict : shape file ≡ flat D R) (store : Store) (slots : List Held) where
  begins : Good (square file) (first_state file store slots)
  begins = (0, body_covered file small 0, lowest stay)

  later_good : {st : State} → Later file (first_state file store slots) st → Good (square file) st
  later_good now = begins
  later_good (then {a} {b} l e) =
      let w = later_good l in
      kept file small a.store a.top.todo a.top.slots a.under w.0 w.1 w.2 b e

  pub frames_at_most : {st : State} → Later file (first_state file store slots) st → suc (length st.under) ≤ D
  frames_at_most l = no_more ((shape_flat file D R).0 verdict).1 (later_good l).2

  -- function 0's start counts one frame
  pub run_at_most : (budget : ℕ) → ((run file budget (first_state file store slots) 0 1).frames ≤ D) × ((run file budget (first_state file store slots) 0 1).answer ≡ 33 → ⊥)
  run_at_most budget =
      let d = ((shape_flat file D R).0 verdict).1 in
      let b = shape_bounds file D R verdict in
      run_fine file small D d (omega (arith, b.0, b.1)) budget (first_state file store slots) 0 1 begins (omega (arith, d.one_more))
