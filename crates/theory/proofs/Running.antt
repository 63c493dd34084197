-- What `run` answers and leaves, in each of the ways that a call may go: by the file, by the start, or by the steps. Assumes nothing.
use Prim.Native.Nat.{ℕ, ◌≤◌, ◌<◌}
use mathlib.Core.List.{List}
use mathlib.Core.Path.{◌≡◌, sym, ap, ◌∙◌}
use mathlib.Core.Logic.{◌⊎◌, inl, inr, ⊎_elim}
use native.Mathlib.Omega.{arith}
use lib.ListN.{length}
use borrow.Author.Tests.{ne_eqb}
use Rattle.meaning.specs.Choice.{pick}
use Rattle.meaning.specs.Syntax.{File}
use Rattle.meaning.specs.Outcome.{ok, refuse}
use Rattle.meaning.specs.Verdict.{accepted}
use Rattle.meaning.specs.Machine.{Store, run, answers}
use Rattle.meaning.specs.Machine as M
use Rattle.meaning.specs.InPlace.{begins}
use Rattle.meaning.specs.Start.{start, answer_to}
use Rattle.meaning.specs.Answers.{end_of, wiped, left_in, ended, answered, run_of, Answer, End}
use Rattle.theory.proofs.Ends.{left_kept, left_wiped}
use Rattle.theory.proofs.SoundAnswers.{Refusal, ran}
use Rattle.theory.proofs.StartCounting.{le?, same?}
use Rattle.theory.proofs.Refusals.{accepted_numbers}

-- the answer of a refusal, and of the steps
abbrev pub refusal : (number place : ℕ) → Answer
refusal n p = record { end = End.Refused n; value = 0; steps = 0; place = p; frames = 0 }

abbrev pub stepped : M.Answer → Answer
stepped a = record { end = end_of a.answer; value = a.value; steps = a.steps; place = a.place; frames = a.frames }

refused_end : (n : ℕ) → 1 ≤ n → n ≤ 24 → end_of n ≡ End.Refused n
unfolding end_of pick
refused_end n l m =
    rw (ne_eqb n 0 (λ e. omega arith), ne_eqb n 31 (λ e. omega arith), ne_eqb n 32 (λ e. omega arith), ne_eqb n 33 (λ e. omega arith), ne_eqb n 34 (λ e. omega arith))

module _ (bytes args : List ℕ) (store : Store) (work : List ℕ) (budget : ℕ) where
  -- a refusal's answer in the terms of the definition
  told : (n p : ℕ) (left : List ℕ) → 1 ≤ n → n ≤ 24 → left_in n work ≡ left → answer_to bytes (length work) args store budget ≡ answers n 0 0 p 0 store
      → ended (refusal n p) store left ≡ run_of bytes args store work budget
  unfolding run_of
  told n p left l m w e = (λ i. ended (record { end = sym (refused_end n l m) i; value = 0; steps = 0; place = p; frames = 0 }) store (sym w i)) ∙ sym (ap (λ a. answered a work) e)

  file_answer : (n p : ℕ) → accepted bytes ≡ refuse n p → answer_to bytes (length work) args store budget ≡ answers n 0 0 p 0 store
  unfolding answer_to
  file_answer n p e = rw (e, answer_to)

  start_answer : (file : File) (n p : ℕ) → accepted bytes ≡ ok file → start file (length work) args store ≡ refuse n p
      → answer_to bytes (length work) args store budget ≡ answers n 0 0 p 0 store
  unfolding answer_to
  start_answer file n p e s = rw (e, s, answer_to)

  run_answer : (file : File) → accepted bytes ≡ ok file → start file (length work) args store ≡ ok tt
      → answer_to bytes (length work) args store budget ≡ run file budget (begins file args store) 0 1
  unfolding answer_to
  run_answer file e s = rw (e, s, answer_to)

  -- 1 to 12
  pub refused_file : (n p : ℕ) → accepted bytes ≡ refuse n p → ended (refusal n p) store work ≡ run_of bytes args store work budget
  refused_file n p e =
      let b = accepted_numbers bytes e in
      told n p work b.0 (omega (arith, b.1)) (left_kept n work b.0 (omega (arith, b.1))) (file_answer n p e)

  -- 20 and 21
  pub refused_size : (file : File) (n : ℕ) → 20 ≤ n → n ≤ 21 → accepted bytes ≡ ok file → start file (length work) args store ≡ refuse n 0
      → ended (refusal n 0) store work ≡ run_of bytes args store work budget
  refused_size file n l m e s = told n 0 work (omega arith) (omega arith) (left_kept n work (omega arith) m) (start_answer file n 0 e s)

  -- 22 to 24
  pub refused_start : (file : File) (n : ℕ) → 22 ≤ n → n ≤ 24 → accepted bytes ≡ ok file → start file (length work) args store ≡ refuse n 0
      → ended (refusal n 0) store (wiped 4096 work) ≡ run_of bytes args store work budget
  refused_start file n l m e s = told n 0 (wiped 4096 work) (omega arith) m (left_wiped n work (inr l)) (start_answer file n 0 e s)

  -- 0 and 31 to 34
  pub executed : (file : File) → accepted bytes ≡ ok file → start file (length work) args store ≡ ok tt → (a : M.Answer) → a ≡ run file budget (begins file args store) 0 1
      → ended (stepped a) a.after (wiped 4096 work) ≡ run_of bytes args store work budget
  unfolding run_of
  executed file e s a q =
      let r : answer_to bytes (length work) args store budget ≡ a = run_answer file e s ∙ sym q in
      let h : left_in a.answer work ≡ wiped 4096 work = left_wiped a.answer work (unrefused (λ f. ran bytes args store work budget file e s (kept r f))) in
      (λ i. ended (stepped a) a.after (sym h i)) ∙ sym (ap (λ x. answered x work) r)
    where
      kept : {x y : M.Answer} → x ≡ y → Refusal y.answer → Refusal x.answer
      kept p f = (omega (arith, f.0, ap (λ z. z.answer) p), omega (arith, f.1, ap (λ z. z.answer) p))

      unrefused : (Refusal a.answer → ⊥) → (a.answer ≡ 0) ⊎ (22 ≤ a.answer)
      unrefused n =
          ⊎_elim
          (λ (z : a.answer ≡ 0). inl z)
          (λ (z : a.answer ≡ 0 → ⊥).
          ⊎_elim (λ (l : 22 ≤ a.answer). inr l) (λ (l : a.answer < 22). absurd (n (omega (arith, z), omega arith))) (le? 22 a.answer))
          (same? a.answer 0)
