-- One fault has one number, and the code's answers are told apart by what the definitions say of them. Assumes nothing.
use Rattle.std.specs.Prelude.{ℕ, ◌≡◌, List, [], ◌∷◌, get_or, Result, Ok, Err}
use mathlib.Core.Path.{refl, sym, ap, ◌∙◌}
use native.Mathlib.Omega.{arith}
use Rattle.meaning.specs.declared.Fault.{Fault}
use Rattle.meaning.specs.declared.Refusal.{Refusal}
use Rattle.meaning.specs.declared.Shape as code
use Rattle.meaning.specs.declared.RunEnd.{RunEnd}
use Rattle.meaning.specs.declared.Ran.{Ran}
use Rattle.meaning.specs.Answers.{Verdict, End, Answer, fault_number, as_verdict, as_answer}

-- the faults by their number; what stands at another number says nothing
abbrev pub faults : List Fault
faults =
    Fault.TooLong ∷ Fault.TooLong ∷ Fault.EndsEarly ∷ Fault.MarkNotAllowed ∷ Fault.OutOfRange ∷ Fault.LimitPassed ∷ Fault.BytesBehind ∷ Fault.NotBound ∷ Fault.WrongKind ∷ Fault.Used ∷ Fault.OtherSize ∷ Fault.LeftOver ∷ Fault.ConstructorTwice ∷ Fault.TooLong ∷ Fault.TooLong ∷ Fault.TooLong ∷ Fault.TooLong ∷ Fault.TooLong ∷ Fault.TooLong ∷ Fault.TooLong ∷ Fault.WrongSize ∷ Fault.WrongCount ∷ Fault.Malformed ∷ Fault.NamedTwice ∷ Fault.ReachesItself ∷ []

abbrev pub fault_at : ℕ → Fault
fault_at n = get_or faults n Fault.TooLong

pub by_number : (f : Fault) → fault_at (fault_number f) ≡ f
by_number Fault.TooLong = refl
by_number Fault.EndsEarly = refl
by_number Fault.MarkNotAllowed = refl
by_number Fault.OutOfRange = refl
by_number Fault.LimitPassed = refl
by_number Fault.BytesBehind = refl
by_number Fault.NotBound = refl
by_number Fault.WrongKind = refl
by_number Fault.Used = refl
by_number Fault.OtherSize = refl
by_number Fault.LeftOver = refl
by_number Fault.ConstructorTwice = refl
by_number Fault.WrongSize = refl
by_number Fault.WrongCount = refl
by_number Fault.Malformed = refl
by_number Fault.NamedTwice = refl
by_number Fault.ReachesItself = refl

pub one_fault : (f g : Fault) → fault_number f ≡ fault_number g → f ≡ g
one_fault f g e = sym (by_number f) ∙ ap fault_at e ∙ by_number g

-- what was answered, by the verdict
abbrev pub from_verdict : Verdict → Result code.Shape Refusal
from_verdict (Verdict.Flat d r) = Ok (code.Shape.Flat d r)
from_verdict (Verdict.Stacked r) = Ok (code.Shape.Stacked r)
from_verdict (Verdict.Refused n p) = Err (record { fault = fault_at n; place = p })

verdict_back : (r : Result code.Shape Refusal) → from_verdict (as_verdict r) ≡ r
verdict_back (Ok (code.Shape.Flat d n)) = refl
verdict_back (Ok (code.Shape.Stacked n)) = refl
verdict_back (Err f) = ap (λ x. Err (record { fault = x; place = f.place })) (by_number f.fault)

pub one_verdict : (r s : Result code.Shape Refusal) → as_verdict r ≡ as_verdict s → r ≡ s
one_verdict r s e = sym (verdict_back r) ∙ ap from_verdict e ∙ verdict_back s

-- what was answered, by the answer
abbrev pub from_answer : Answer → Result Ran Refusal
from_answer a = go a.end
  where
    ran : RunEnd → Result Ran Refusal
    ran e = Ok (record { end = e; place = a.place; steps = a.steps; frames = a.frames })

    go : End → Result Ran Refusal
    go End.Done = ran (RunEnd.Done a.value)
    go (End.Refused n) = Err (record { fault = fault_at n; place = a.place })
    go End.NoBranch = ran RunEnd.NoBranch
    go End.BudgetSpent = ran RunEnd.BudgetSpent
    go End.NoFrame = ran RunEnd.NoFrame
    go End.OutOfRange = ran RunEnd.OutOfRange

answer_back : (r : Result Ran Refusal) → from_answer (as_answer r) ≡ r
answer_back (Ok r) = go r.end
  where
    go : (e : RunEnd) → from_answer (as_answer (Ok (record { end = e; place = r.place; steps = r.steps; frames = r.frames }))) ≡ Ok (record { end = e; place = r.place; steps = r.steps; frames = r.frames })
    go (RunEnd.Done v) = refl
    go RunEnd.NoBranch = refl
    go RunEnd.BudgetSpent = refl
    go RunEnd.NoFrame = refl
    go RunEnd.OutOfRange = refl
answer_back (Err f) = ap (λ x. Err (record { fault = x; place = f.place })) (by_number f.fault)

pub one_answer : (r s : Result Ran Refusal) → as_answer r ≡ as_answer s → r ≡ s
one_answer r s e = sym (answer_back r) ∙ ap from_answer e ∙ answer_back s

-- no fault has the number 0
pub fault_some : (f : Fault) → fault_number f ≡ 0 → ⊥
fault_some Fault.TooLong e = absurd (omega arith)
fault_some Fault.EndsEarly e = absurd (omega arith)
fault_some Fault.MarkNotAllowed e = absurd (omega arith)
fault_some Fault.OutOfRange e = absurd (omega arith)
fault_some Fault.LimitPassed e = absurd (omega arith)
fault_some Fault.BytesBehind e = absurd (omega arith)
fault_some Fault.NotBound e = absurd (omega arith)
fault_some Fault.WrongKind e = absurd (omega arith)
fault_some Fault.Used e = absurd (omega arith)
fault_some Fault.OtherSize e = absurd (omega arith)
fault_some Fault.LeftOver e = absurd (omega arith)
fault_some Fault.ConstructorTwice e = absurd (omega arith)
fault_some Fault.WrongSize e = absurd (omega arith)
fault_some Fault.WrongCount e = absurd (omega arith)
fault_some Fault.Malformed e = absurd (omega arith)
fault_some Fault.NamedTwice e = absurd (omega arith)
fault_some Fault.ReachesItself e = absurd (omega arith)
