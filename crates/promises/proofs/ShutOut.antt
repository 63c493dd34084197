-- The wrong versions that document 01 shuts out: no function that meets the promise of `check`, and none that meets that of `run`, is one of them.
-- Assumes nothing.
use Prim.Native.Nat.{ℕ, ◌≤◌}
use mathlib.Core.List.{List, [], ◌∷◌, map}
use mathlib.Core.Path.{◌≡◌, sym, ap, ◌∙◌}
use native.Mathlib.Omega.{arith}
use lib.ListN.{get_or, replicate}
use Rattle.meaning.specs.Machine.{Store}
use Rattle.meaning.specs.Answers.{verdict_of, run_of, Ended, Answer, End, Verdict}
use Rattle.meaning.specs.Cases.{Told, verdict, answer, told_of, cases, reversal, waiting, two_cells, reversed_cells}
use Rattle.meaning.specs.WrongTurns.{turns}
use Rattle.meaning.proofs.Cases.{all_cases}
use Rattle.meaning.proofs.WrongTurns.{all_turns}

-- the entry of a table at a place
told_at : (i : ℕ) → get_or (map (λ c. told_of c.asked) cases) i (verdict (Verdict.Stacked 0)) ≡ get_or (map (λ c. c.expected) cases) i (verdict (Verdict.Stacked 0))
told_at i = ap (λ l. get_or l i (verdict (Verdict.Stacked 0))) all_cases

turn_at : (i : ℕ) → get_or (map (λ c. told_of c.asked) turns) i (verdict (Verdict.Stacked 0)) ≡ get_or (map (λ c. c.expected) turns) i (verdict (Verdict.Stacked 0))
turn_at i = ap (λ l. get_or l i (verdict (Verdict.Stacked 0))) all_turns

-- the parts of what is told
abbrev ran : Told → Answer
ran (verdict v) = record { end = End.Done; value = 0; steps = 0; place = 0; frames = 0 }
ran (answer a s) = a

abbrev cells : Told → Store
cells (verdict v) = []
cells (answer a s) = s

-- P1, the empty file, P11 with budgets 8, 7 and 1, P14
P1 : verdict_of reversal ≡ Verdict.Flat 1 1
unfolding told_of
P1 = let e = told_at 0 in cc

not_empty : verdict_of [] ≡ Verdict.Refused 2 0
unfolding told_of
not_empty = let e = told_at 8 in cc

abbrev P11 : (budget : ℕ) → Ended
P11 budget = run_of reversal (65536 ∷ 0 ∷ []) two_cells (replicate 4096 0) budget

ran_8 : answer (P11 8).answer (P11 8).store ≡ answer (record { end = End.Done; value = 65537; steps = 8; place = 0; frames = 1 }) reversed_cells
unfolding told_of
ran_8 = told_at 11

ran_7 : answer (P11 7).answer (P11 7).store ≡ answer (record { end = End.BudgetSpent; value = 0; steps = 7; place = 23; frames = 1 }) reversed_cells
unfolding told_of
ran_7 = told_at 12

ran_1 : answer (P11 1).answer (P11 1).store ≡ answer (record { end = End.BudgetSpent; value = 0; steps = 1; place = 29; frames = 1 }) two_cells
unfolding told_of
ran_1 = turn_at 6

abbrev P14 : Ended
P14 = run_of waiting [] [] (replicate 4096 0) 40

ran_14 : answer P14.answer P14.store ≡ answer (record { end = End.NoFrame; value = 0; steps = 32; place = 6; frames = 32 }) []
unfolding told_of
ran_14 = told_at 17

done_not_spent : End.Done ≡ End.BudgetSpent → ⊥
done_not_spent e = let z : ◌≡◌ {A = ℕ} 0 1 = cc in omega arith

flat_not_refused : {n p : ℕ} → Verdict.Flat 1 1 ≡ Verdict.Refused n p → ⊥
flat_not_refused e = let z : ◌≡◌ {A = ℕ} 0 1 = cc in omega arith

module _ (check : List ℕ → Verdict) (meets : (file : List ℕ) → check file ≡ verdict_of file) where
  -- a checker that refuses everything
  pub not_refusing_all : ((file : List ℕ) → (n p : ℕ) × (check file ≡ Verdict.Refused n p)) → ⊥
  not_refusing_all all = flat_not_refused (sym P1 ∙ sym (meets reversal) ∙ (all reversal).2)

  -- one with a constant verdict
  pub not_constant : (v : Verdict) → ((file : List ℕ) → check file ≡ v) → ⊥
  not_constant v all = flat_not_refused (sym P1 ∙ sym (meets reversal) ∙ all reversal ∙ sym (all []) ∙ meets [] ∙ not_empty)

  -- one that calls every file stacked
  pub not_all_stacked : ((file : List ℕ) (d r : ℕ) → check file ≡ Verdict.Flat d r → ⊥) → ⊥
  not_all_stacked none = none reversal 1 1 (meets reversal ∙ P1)

abbrev Machine : Type 0
Machine = (file args : List ℕ) → Store → (work : List ℕ) → (budget : ℕ) → Ended

module _ (run : Machine) (meets : (file args store work : List ℕ) (budget : ℕ) → run file args store work budget ≡ run_of file args store work budget) where
  -- P11's start with a budget, and P14's
  abbrev at_P11 : ℕ → Ended
  at_P11 budget = run reversal (65536 ∷ 0 ∷ []) two_cells (replicate 4096 0) budget

  met : (budget : ℕ) → at_P11 budget ≡ P11 budget
  met budget = meets reversal (65536 ∷ 0 ∷ []) two_cells (replicate 4096 0) budget

  -- a machine that moves nothing and says 32
  pub not_idle : ((file args store work : List ℕ) (budget : ℕ) → (run file args store work budget).answer.end ≡ End.BudgetSpent) → ⊥
  not_idle all =
      done_not_spent (sym (ap (λ t. (ran t).end) ran_8) ∙ sym (ap (λ x. x.answer.end) (met 8)) ∙ all reversal (65536 ∷ 0 ∷ []) two_cells (replicate 4096 0) 8)

  -- one that does the whole job at the first step and idles after: the store after one step would be that after eight
  pub not_all_at_once : ((file args store work : List ℕ) (budget : ℕ) → 1 ≤ budget → (run file args store work 1).store ≡ (run file args store work budget).store) → ⊥
  not_all_at_once all =
      let same : two_cells ≡ reversed_cells =
      sym (ap cells ran_1) ∙ sym (ap (λ x. x.store) (met 1)) ∙ all reversal (65536 ∷ 0 ∷ []) two_cells (replicate 4096 0) 8 (omega arith) ∙ ap (λ x. x.store) (met 8) ∙ ap cells ran_8 in
      let z : ◌≡◌ {A = ℕ} 65537 0 = ap (λ l. get_or l 2 0) same in
      omega arith

  -- one with an invented step count: no number is the steps of every run
  pub no_invented_steps : (k : ℕ) → ((file args store work : List ℕ) (budget : ℕ) → (run file args store work budget).answer.steps ≡ k) → ⊥
  no_invented_steps k all =
      let e : 8 ≡ k = sym (ap (λ t. (ran t).steps) ran_8) ∙ sym (ap (λ x. x.answer.steps) (met 8)) ∙ all reversal (65536 ∷ 0 ∷ []) two_cells (replicate 4096 0) 8 in
      let f : 7 ≡ k = sym (ap (λ t. (ran t).steps) ran_7) ∙ sym (ap (λ x. x.answer.steps) (met 7)) ∙ all reversal (65536 ∷ 0 ∷ []) two_cells (replicate 4096 0) 7 in
      omega arith

  -- one with an invented frame count: no number is the frames of every run
  pub no_invented_frames : (k : ℕ) → ((file args store work : List ℕ) (budget : ℕ) → (run file args store work budget).answer.frames ≡ k) → ⊥
  no_invented_frames k all =
      let e : 1 ≡ k = sym (ap (λ t. (ran t).frames) ran_8) ∙ sym (ap (λ x. x.answer.frames) (met 8)) ∙ all reversal (65536 ∷ 0 ∷ []) two_cells (replicate 4096 0) 8 in
      let f : 32 ≡ k = sym (ap (λ t. (ran t).frames) ran_14) ∙ sym (ap (λ x. x.answer.frames) (meets waiting [] [] (replicate 4096 0) 40)) ∙ all waiting [] [] (replicate 4096 0) 40 in
      omega arith
