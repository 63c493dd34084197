-- A start tested without a run: what a call with budget 0 comes to. Assumes nothing.
use Prim.Native.Nat.{ℕ, ◌≤◌, ◌<◌}
use mathlib.Core.List.{List}
use mathlib.Core.Path.{◌≡◌, refl, sym, ap, ◌∙◌}
use mathlib.Core.Logic.{◌⊎◌, ⊎_elim}
use native.Mathlib.Omega.{arith}
use lib.ListN.{length}
use Rattle.meaning.specs.Choice.{pick}
use Rattle.meaning.specs.Syntax.{File}
use Rattle.meaning.specs.Outcome.{Outcome, ok, refuse}
use Rattle.meaning.specs.Verdict.{accepted}
use Rattle.meaning.specs.Plain.{place_of}
use Rattle.meaning.specs.Machine.{Store, run, answers, body_of}
use Rattle.meaning.specs.Start.{start}
use Rattle.meaning.specs.Answers.{end_of, number, wiped, ended, run_of, Answer, End}
use Rattle.theory.proofs.SoundAnswers.{Refusal}
use Rattle.theory.proofs.StartCounting.{le?}
use Rattle.theory.proofs.StartExact.{start_answers}
use Rattle.theory.proofs.Running.{refused_file, refused_size, refused_start, executed}

-- 32 at a place, with no step and one frame
abbrev pub untaken : (place : ℕ) → Answer
untaken p = record { end = End.BudgetSpent; value = 0; steps = 0; place = p; frames = 1 }

module _ (bytes args : List ℕ) (store : Store) (work : List ℕ) where
  -- M-103: "with budget 0 it is checked, no node begins, and the answer is 32 at the first node": the store is as lent, the work area's first
  -- 4,096 words are zero
  pub no_steps : (file : File) → accepted bytes ≡ ok file → start file (length work) args store ≡ ok tt
      → run_of bytes args store work 0 ≡ ended (untaken (place_of (body_of file 0))) store (wiped 4096 work)
  unfolding run end_of pick
  no_steps file e s = sym (executed bytes args store work 0 file e s (answers 32 0 0 (place_of (body_of file 0)) 1 store) refl)

  -- the refusals come first as ever: one with budget 0 is that of every budget
  pub refused_alike : Refusal (number (run_of bytes args store work 0).answer.end) → (budget : ℕ) → run_of bytes args store work budget ≡ run_of bytes args store work 0
  refused_alike r budget = by_file (accepted bytes) refl
    where
      by_start : (file : File) → accepted bytes ≡ ok file
          → (start file (length work) args store ≡ ok tt) ⊎ ((n : ℕ) × (20 ≤ n) × (n ≤ 24) × (start file (length work) args store ≡ refuse n 0))
          → run_of bytes args store work budget ≡ run_of bytes args store work 0
      by_start file e h =
          ⊎_elim
          (λ (s : start file (length work) args store ≡ ok tt).
          let z : 32 ≡ number (run_of bytes args store work 0).answer.end = sym (ap (λ x. number x.answer.end) (no_steps file e s)) in
          absurd (omega (arith, z, r.1)))
          (λ (h : (n : ℕ) × (20 ≤ n) × (n ≤ 24) × (start file (length work) args store ≡ refuse n 0)).
          ⊎_elim
          (λ (l : 22 ≤ h.0). sym (refused_start bytes args store work budget file h.0 l h.2 e h.3) ∙ refused_start bytes args store work 0 file h.0 l h.2 e h.3)
          (λ (l : h.0 < 22).
          let m : h.0 ≤ 21 = omega arith in
          sym (refused_size bytes args store work budget file h.0 h.1 m e h.3) ∙ refused_size bytes args store work 0 file h.0 h.1 m e h.3)
          (le? 22 h.0))
          h

      by_file : (o : Outcome File) → accepted bytes ≡ o → run_of bytes args store work budget ≡ run_of bytes args store work 0
      by_file (ok file) e = by_start file e (start_answers file (length work) args store)
      by_file (refuse n p) e = sym (refused_file bytes args store work budget n p e) ∙ refused_file bytes args store work 0 n p e
