-- The running program's answer, by the states of its run: store, frames, end, and in place. Assumes nothing.
use Prim.Native.Nat.{ℕ, zero, suc, ◌≤◌}
use mathlib.Core.Bool.{Bool, true, false}
use mathlib.Core.List.{List, [], ◌∷◌}
use mathlib.Core.Option.{Option, none, some}
use mathlib.Core.Path.{◌≡◌, refl, ap, ◌∙◌, subst}
use mathlib.Core.Logic.{◌⊎◌, inl, inr}
use native.Mathlib.Omega.{arith}
use lib.ListN.{length}
use lib.Dec.{ltb}
use borrow.Author.Tests.{ltb-true}
use Rattle.meaning.specs.Syntax.{Term, File}
use Rattle.meaning.specs.Syntax.{GV, AT, MK, CL, TL, OP, LK, NU, AR, IF}
use Rattle.meaning.specs.Outcome.{ok}
use Rattle.meaning.specs.Plain.{branch, arithmetic}
use Rattle.meaning.specs.Machine.{Held, Store, Frame, State, state, Step, next, finished, stuck, step, run, Answer, word, held, constructor_of, function_of}
use Rattle.meaning.specs.Start.{start, answer_to}
use Rattle.meaning.specs.Verdict.{accepted}
use Rattle.meaning.specs.InPlace.{after, height, greatest, Ended, InPlace, value_word, begins, RunsInPlace}
use Rattle.theory.proofs.Iterate.{run_store, run_frames, run_ends, greatest_first}

-- a step that ends without a value ends in 31, 33 or 34
abbrev pub EndsSo : Step → Type 0
EndsSo (next st) = Unit {0}
EndsSo (finished v) = Unit {0}
EndsSo (stuck a p) = (a ≡ 31) ⊎ ((a ≡ 33) ⊎ (a ≡ 34))

module _ (file : File) where
  if_so : (n : ℕ) (a b : State) → EndsSo (elim n as (λ _. Step) [ zero ↦ next a | suc _ ↦ next b ])
  if_so zero a b = tt
  if_so (suc n) a b = tt

  call_so : (b : Bool) (p : ℕ) (st : State) → EndsSo (elim b as (λ _. Step) [ false ↦ stuck 33 p | true ↦ next st ])
  call_so true p st = tt
  call_so false p st = inr (inl refl)

  branch_so : (o : Option Term) (p : ℕ) (f : Term → State) → EndsSo (elim o as (λ _. Step) [ none ↦ stuck 31 p | some t ↦ next (f t) ])
  branch_so none p f = inl refl
  branch_so (some t) p f = tt

  arith_so : (o : Option ℕ) (p : ℕ) (f : ℕ → State) → EndsSo (elim o as (λ _. Step) [ none ↦ stuck 34 p | some n ↦ next (f n) ])
  arith_so none p f = inr (inr refl)
  arith_so (some n) p f = tt

  stops_so : (t : Term) (hs : List Held) (store : Store) (under : List Frame) → EndsSo (step file (state store t hs under))
  unfolding step
  stops_so (GV p s) hs store [] = tt
  stops_so (GV p s) hs store (f ∷ rest) = tt
  stops_so (AT p c t) hs store under = tt
  stops_so (MK p c k ss t) hs store under = tt
  stops_so (CL p f ss t) hs store under = call_so (ltb (length under) 31) p _
  stops_so (TL p f ss) hs store under = tt
  stops_so (OP p s bs) hs store under = branch_so (branch bs (constructor_of store (word (held hs s)))) p _
  stops_so (LK p s bs) hs store under = branch_so (branch bs (constructor_of store (word (held hs s)))) p _
  stops_so (NU p n t) hs store under = tt
  stops_so (AR p o x y t) hs store under = arith_so (arithmetic o (word (held hs x)) (word (held hs y))) p _
  stops_so (IF p s t u) hs store under = if_so (word (held hs s)) _ _

  pub stuck_so : (st : State) (a p : ℕ) → step file st ≡ stuck a p → (a ≡ 31) ⊎ ((a ≡ 33) ⊎ (a ≡ 34))
  stuck_so st a p e = subst EndsSo e (stops_so st.top.todo st.top.slots st.store st.under)

  pub stuck_within : (st : State) (a p : ℕ) → step file st ≡ stuck a p → (31 ≤ a) × (a ≤ 34)
  stuck_within st a p e = go (stuck_so st a p e)
    where
      go : (a ≡ 31) ⊎ ((a ≡ 33) ⊎ (a ≡ 34)) → (31 ≤ a) × (a ≤ 34)
      go (inl q) = (omega arith, omega arith)
      go (inr (inl q)) = (omega arith, omega arith)
      go (inr (inr q)) = (omega arith, omega arith)

-- never more than 32 frames
abbrev pub Few : Step → Type 0
Few (next st) = height st ≤ 32
Few (finished v) = Unit {0}
Few (stuck a p) = Unit {0}

module _ (file : File) where
  few_if : (n : ℕ) (a b : State) → height a ≤ 32 → height b ≤ 32 → Few (elim n as (λ _. Step) [ zero ↦ next a | suc _ ↦ next b ])
  few_if zero a b l m = l
  few_if (suc n) a b l m = m

  few_branch : (o : Option Term) (p : ℕ) (f : Term → State) → ((t : Term) → height (f t) ≤ 32) → Few (elim o as (λ _. Step) [ none ↦ stuck 31 p | some t ↦ next (f t) ])
  few_branch none p f l = tt
  few_branch (some t) p f l = l t

  few_arith : (o : Option ℕ) (p : ℕ) (f : ℕ → State) → ((n : ℕ) → height (f n) ≤ 32) → Few (elim o as (λ _. Step) [ none ↦ stuck 34 p | some n ↦ next (f n) ])
  few_arith none p f l = tt
  few_arith (some n) p f l = l n

  few_call : (n p : ℕ) (b : Bool) (st : State) → ltb n 31 ≡ b → height st ≡ suc (suc n) → Few (elim b as (λ _. Step) [ false ↦ stuck 33 p | true ↦ next st ])
  few_call n p true st e q = omega (arith, ltb-true n 31 e)
  few_call n p false st e q = tt

  few_step : (t : Term) (hs : List Held) (store : Store) (under : List Frame) → suc (length under) ≤ 32 → Few (step file (state store t hs under))
  unfolding step
  few_step (GV p s) hs store [] l = tt
  few_step (GV p s) hs store (f ∷ rest) l = omega arith
  few_step (AT p c t) hs store under l = l
  few_step (MK p c k ss t) hs store under l = l
  few_step (CL p f ss t) hs store under l = few_call (length under) p (ltb (length under) 31) _ refl refl
  few_step (TL p f ss) hs store under l = l
  few_step (OP p s bs) hs store under l = few_branch (branch bs (constructor_of store (word (held hs s)))) p _ (λ t. l)
  few_step (LK p s bs) hs store under l = few_branch (branch bs (constructor_of store (word (held hs s)))) p _ (λ t. l)
  few_step (NU p n t) hs store under l = l
  few_step (AR p o x y t) hs store under l = few_arith (arithmetic o (word (held hs x)) (word (held hs y))) p _ (λ n. l)
  few_step (IF p s t u) hs store under l = few_if (word (held hs s)) _ _ l l

  pub few_after : (n : ℕ) (st : State) → height st ≤ 32 → height (after file n st) ≤ 32
  unfolding after
  few_after zero st l = l
  few_after (suc n) st l = go (step file st) (λ st' m. few_after n st' m) (few_step st.top.todo st.top.slots st.store st.under l)
    where
      go : (r : Step) → ((st' : State) → height st' ≤ 32 → height (after file n st') ≤ 32) → Few r
          → height (elim r as (λ _. State) [ next st' ↦ after file n st' | finished v ↦ st | stuck a p ↦ st ]) ≤ 32
      go (next st') ih m = ih st' m
      go (finished v) ih m = l
      go (stuck a p) ih m = l

  pub few_greatest : (n : ℕ) (st : State) → height st ≤ 32 → greatest file n st ≤ 32
  unfolding greatest
  few_greatest zero st l = l
  few_greatest (suc n) st l = omega (arith, few_greatest n st l, few_after (suc n) st l)

-- the answer is the run's
module _ (bytes : List ℕ) (file : File) (work : ℕ) (args : List ℕ) (store : Store) (budget : ℕ) (e : accepted bytes ≡ ok file) (s : start file work args store ≡ ok tt) where
  answer_run : answer_to bytes work args store budget ≡ run file budget (begins file args store) 0 1
  unfolding answer_to
  answer_run = rw (e, s, answer_to)

  pub answer_ended : Ended file budget (begins file args store) 0 1 (answer_to bytes work args store budget)
  answer_ended = rw answer_run (run_ends file budget (begins file args store) 0 1 (omega arith))

  pub answer_store : (answer_to bytes work args store budget).after ≡ (after file budget (begins file args store)).store
  answer_store = rw answer_run (run_store file budget (begins file args store) 0 1)

  pub answer_frames : (answer_to bytes work args store budget).frames ≡ greatest file budget (begins file args store)
  answer_frames =
      ap (λ x. x.frames) answer_run
      ∙ run_frames file budget (begins file args store) 0 1 (omega arith)
      ∙ omega (arith, greatest_first file budget (begins file args store))

  pub answer_few : (answer_to bytes work args store budget).frames ≤ 32
  answer_few = rw answer_frames (few_greatest file budget (begins file args store) (omega arith))

  -- a run that is done: the value's cells, in the store that comes back
  done_in_place : {a : Answer} (r : RunsInPlace file args store) → Ended file budget (begins file args store) 0 1 a → a.answer ≡ 0
      → InPlace file.constructors r.start store a.after (value_word (function_of file 0).result a.value) []
  done_in_place r (Ended.budget o) q = absurd (omega arith)
  done_in_place r (Ended.value {v} m l o f) q = r.value m v f
  done_in_place r (Ended.stop {a = n} {p} m l o f) q =
      let h = stuck_within file (after file m (begins file args store)) n p f in
      absurd (omega (arith, h.0))

  pub answer_in_place : (r : RunsInPlace file args store) → (answer_to bytes work args store budget).answer ≡ 0
      → InPlace file.constructors r.start store (answer_to bytes work args store budget).after
      (value_word (function_of file 0).result (answer_to bytes work args store budget).value) []
  answer_in_place r q = done_in_place r answer_ended q
