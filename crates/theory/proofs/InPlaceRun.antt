-- An accepted file runs in place from every start that is not refused: after each step, at the end, and for each budget. Assumes nothing.
use Prim.Native.Nat.{ℕ}
use mathlib.Core.List.{List, []}
use mathlib.Core.Path.{◌≡◌, sym, subst}
use Rattle.meaning.specs.Syntax.{File}
use Rattle.meaning.specs.Outcome.{ok}
use Rattle.meaning.specs.Machine.{Store, function_of}
use Rattle.meaning.specs.Start.{start, answer_to}
use Rattle.meaning.specs.Verdict.{accepted}
use Rattle.meaning.specs.InPlace.{after, owned_words, credits, InPlace, value_word, begins, RunsInPlace}
use Rattle.theory.proofs.InPlace.{accepted_in_place}
use Rattle.theory.proofs.Answered.{answer_store, answer_in_place}
use Rattle.theory.proofs.Started.{accepted_started}

module _ (bytes : List ℕ) (file : File) (e : accepted bytes ≡ ok file) (work : ℕ) (args : List ℕ) (store : Store) (s : start file work args store ≡ ok tt) where
  pub starts_in_place : RunsInPlace file args store
  starts_in_place = let t = accepted_started bytes file e work args store s in accepted_in_place bytes file e args store t.match t.once t.apart

  -- a run leaves the store of the defined state after so many steps, for each budget
  pub each_budget : (n : ℕ) → (answer_to bytes work args store n).after ≡ (after file n (begins file args store)).store
  each_budget n = answer_store bytes file work args store n e s

  -- the store that comes back, whatever the end
  pub left_in_place : (budget : ℕ) → InPlace file.constructors starts_in_place.start store (answer_to bytes work args store budget).after
      (owned_words (after file budget (begins file args store))) (credits (after file budget (begins file args store)))
  left_in_place budget =
      let st = after file budget (begins file args store) in
      subst (λ x. InPlace file.constructors starts_in_place.start store x (owned_words st) (credits st)) (sym (answer_store bytes file work args store budget e s))
      (starts_in_place.each budget)

  -- and at the end, for the value
  pub value_in_place : (budget : ℕ) → (answer_to bytes work args store budget).answer ≡ 0
      → InPlace file.constructors starts_in_place.start store (answer_to bytes work args store budget).after
      (value_word (function_of file 0).result (answer_to bytes work args store budget).value) []
  value_in_place budget q = answer_in_place bytes file work args store budget e s starts_in_place q
