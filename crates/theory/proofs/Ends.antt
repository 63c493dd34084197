-- The end of a run and its number in document 01's table, and a run's answer held against the plain evaluation's. Assumes nothing.
use Prim.Native.Nat.{ℕ, zero, suc, ◌≤◌}
use mathlib.Core.Bool.{false}
use mathlib.Core.List.{List}
use mathlib.Core.Path.{◌≡◌, refl, sym}
use mathlib.Core.Logic.{◌⊎◌, inl, inr, ⊎_elim}
use native.Mathlib.Omega.{arith}
use lib.Dec.{ltb}
use borrow.Author.Tests.{eq-eqb, ne_eqb, lt-ltb, le-ltb, le-leb, lt-leb}
use Rattle.meaning.specs.Choice.{pick}
use Rattle.meaning.specs.Syntax.{File}
use Rattle.meaning.specs.Plain.{Run, value, stop}
use Rattle.meaning.specs.Machine.{Answer, function_of}
use Rattle.meaning.specs.Decode.{plain, mode_of, as_plain}
use Rattle.meaning.specs.Answers.{number, end_of, wiped, left_in, answered, End}
use Rattle.meaning.specs.Answers as A
use Rattle.theory.proofs.StartCounting.{same?}

-- every number has its end, and the end has that number
data EndedSo (n : ℕ) : End → Type 0 where
  done : n ≡ 0 → EndedSo n End.Done
  no_branch : n ≡ 31 → EndedSo n End.NoBranch
  budget_spent : n ≡ 32 → EndedSo n End.BudgetSpent
  no_frame : n ≡ 33 → EndedSo n End.NoFrame
  out_of_range : n ≡ 34 → EndedSo n End.OutOfRange
  refused : (n ≡ 0 → ⊥) → EndedSo n (End.Refused n)

ended_so : (n : ℕ) → EndedSo n (end_of n)
unfolding end_of pick
ended_so n =
    ⊎_elim
    (λ (a : n ≡ 0). rw (eq-eqb n 0 a) (EndedSo.done a))
    (λ (a : n ≡ 0 → ⊥).
    ⊎_elim
    (λ (b : n ≡ 31). rw (ne_eqb n 0 a, eq-eqb n 31 b) (EndedSo.no_branch b))
    (λ (b : n ≡ 31 → ⊥).
    ⊎_elim
    (λ (c : n ≡ 32). rw (ne_eqb n 0 a, ne_eqb n 31 b, eq-eqb n 32 c) (EndedSo.budget_spent c))
    (λ (c : n ≡ 32 → ⊥).
    ⊎_elim
    (λ (d : n ≡ 33). rw (ne_eqb n 0 a, ne_eqb n 31 b, ne_eqb n 32 c, eq-eqb n 33 d) (EndedSo.no_frame d))
    (λ (d : n ≡ 33 → ⊥).
    ⊎_elim
    (λ (e : n ≡ 34). rw (ne_eqb n 0 a, ne_eqb n 31 b, ne_eqb n 32 c, ne_eqb n 33 d, eq-eqb n 34 e) (EndedSo.out_of_range e))
    (λ (e : n ≡ 34 → ⊥). rw (ne_eqb n 0 a, ne_eqb n 31 b, ne_eqb n 32 c, ne_eqb n 33 d, ne_eqb n 34 e) (EndedSo.refused a))
    (same? n 34))
    (same? n 33))
    (same? n 32))
    (same? n 31))
    (same? n 0)

number_so : {n : ℕ} {e : End} → EndedSo n e → number e ≡ n
number_so (EndedSo.done q) = sym q
number_so (EndedSo.no_branch q) = sym q
number_so (EndedSo.budget_spent q) = sym q
number_so (EndedSo.no_frame q) = sym q
number_so (EndedSo.out_of_range q) = sym q
number_so (EndedSo.refused q) = refl

pub number_end : (n : ℕ) → number (end_of n) ≡ n
number_end n = number_so (ended_so n)

-- an answer of the running program, with its value as a tree in the store after it: to be held against the plain evaluation
abbrev pub plainly : File → A.Ended → Run
plainly file r =
    elim r.answer.end [
      | End.Done ↦ value (plain file.constructors r.store (mode_of (function_of file 0).result) r.answer.value) r.answer.steps r.answer.frames
      | End.Refused n ↦ stop n r.answer.place r.answer.steps r.answer.frames
      | End.NoBranch ↦ stop 31 r.answer.place r.answer.steps r.answer.frames
      | End.BudgetSpent ↦ stop 32 r.answer.place r.answer.steps r.answer.frames
      | End.NoFrame ↦ stop 33 r.answer.place r.answer.steps r.answer.frames
      | End.OutOfRange ↦ stop 34 r.answer.place r.answer.steps r.answer.frames
    ]

pub plainly_is : (file : File) (a : Answer) (work : List ℕ) → plainly file (answered a work) ≡ as_plain file a
plainly_is file a work = go (ended_so a.answer)
  where
    v : Run
    v = value (plain file.constructors a.after (mode_of (function_of file 0).result) a.value) a.steps a.frames

    s : ℕ → Run
    s n = stop n a.place a.steps a.frames

    later : (n m : ℕ) → n ≡ suc m → ◌≡◌ {A = Run} (s (suc m)) (elim n [ zero ↦ v | suc k ↦ s (suc k) ])
    later n m q = rw q

    other : (n : ℕ) → (n ≡ 0 → ⊥) → ◌≡◌ {A = Run} (s n) (elim n [ zero ↦ v | suc k ↦ s (suc k) ])
    other zero q = absurd (q refl)
    other (suc n) q = refl

    go : {n : ℕ} {e : End} → EndedSo n e
        → ◌≡◌ {A = Run} (elim e [ End.Done ↦ v | End.Refused m ↦ s m | End.NoBranch ↦ s 31 | End.BudgetSpent ↦ s 32 | End.NoFrame ↦ s 33 | End.OutOfRange ↦ s 34 ])
        (elim n [ zero ↦ v | suc k ↦ s (suc k) ])
    go {n} (EndedSo.done q) = rw q
    go {n} (EndedSo.no_branch q) = later n 30 q
    go {n} (EndedSo.budget_spent q) = later n 31 q
    go {n} (EndedSo.no_frame q) = later n 32 q
    go {n} (EndedSo.out_of_range q) = later n 33 q
    go {n} (EndedSo.refused q) = other n q

-- the work area
pub left_kept : (n : ℕ) (work : List ℕ) → 1 ≤ n → n ≤ 21 → left_in n work ≡ work
unfolding left_in pick
left_kept n work l m = rw (lt-ltb 0 n l, le-leb n 21 m)

pub left_wiped : (n : ℕ) (work : List ℕ) → (n ≡ 0) ⊎ (22 ≤ n) → left_in n work ≡ wiped 4096 work
unfolding left_in pick
left_wiped n work (inl e) = let q : ltb 0 n ≡ false = le-ltb 0 n (omega arith) in rw q
left_wiped n work (inr l) = rw (lt-ltb 0 n (omega arith), lt-leb n 21 (omega arith))
