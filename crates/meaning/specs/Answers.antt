-- The answers as the code gives them, with document 01's number and values for each case; what `check` and `run` promise. Assumes nothing.
use Rattle.std.specs.Prelude.{ℕ, ◌&&◌, List, ◌++◌, length, drop, replicate, ltb, leb, eqb, Result, Ok, Err}
use Rattle.meaning.specs.declared.Fault.{Fault}
use Rattle.meaning.specs.declared.Refusal.{Refusal}
use Rattle.meaning.specs.declared.Shape.TheVariants as told_shape
use Rattle.meaning.specs.declared.Shape as code
use Rattle.meaning.specs.declared.RunEnd.{RunEnd}
use Rattle.meaning.specs.declared.Ran.{Ran}
use Rattle.meaning.specs.Choice.{pick}
use Rattle.meaning.specs.Outcome.{Outcome, ok, refuse}
use Rattle.meaning.specs.Calls.{Shape, flat, stacked}
use Rattle.meaning.specs.Verdict as checking
use Rattle.meaning.specs.Machine.{Store}
use Rattle.meaning.specs.Machine as M
use Rattle.meaning.specs.Start.{answer_to}

-- the checker's verdict: flat with depth and functions reached, stacked with functions reached, or refused by a number at a place
pub data Verdict : Type 0 where
  Flat : (depth reached : ℕ) → Verdict
  Stacked : (reached : ℕ) → Verdict
  Refused : (number place : ℕ) → Verdict

-- how a run ends: with a value, by a refusal's number, with no branch that fits, with the budget spent, for want of a frame, or at a sum or a
-- difference outside 0..65,535
pub data End : Type 0 where
  Done NoBranch BudgetSpent NoFrame OutOfRange : End
  Refused : (number : ℕ) → End

-- the answer of a run
pub record Answer : Type 0 where
  pub end : End
  pub value : ℕ
  pub steps : ℕ
  pub place : ℕ
  pub frames : ℕ

-- a verdict's number in the table, its place, its depth and the functions reached: "Fields with no meaning are 0, in the verdict too"
pub record Said : Type 0 where
  pub number : ℕ
  pub place : ℕ
  pub depth : ℕ
  pub reached : ℕ

abbrev pub said : Verdict → Said
said (Verdict.Flat d r) = record { number = 0; place = 0; depth = d; reached = r }
said (Verdict.Stacked r) = record { number = 0; place = 0; depth = 0; reached = r }
said (Verdict.Refused n p) = record { number = n; place = p; depth = 0; reached = 0 }

-- the verdict of a shape, or of a refusal
abbrev pub told : Outcome Shape → Verdict
told (ok (flat d r)) = Verdict.Flat d r
told (ok (stacked r)) = Verdict.Stacked r
told (refuse n p) = Verdict.Refused n p

-- what `check` answers
unfoldable pub verdict_of : (file : List ℕ) → Verdict
verdict_of file = told (checking.verdict file)

-- the number in the table for each end of a run, and the end that has a number
abbrev pub number : End → ℕ
number End.Done = 0
number (End.Refused n) = n
number End.NoBranch = 31
number End.BudgetSpent = 32
number End.NoFrame = 33
number End.OutOfRange = 34

unfoldable pub end_of : ℕ → End
end_of n =
    pick (eqb n 0) End.Done (pick (eqb n 31) End.NoBranch (pick (eqb n 32) End.BudgetSpent (pick (eqb n 33) End.NoFrame (pick (eqb n 34) End.OutOfRange (End.Refused n)))))

-- the first n words zero, and the rest untouched
unfoldable pub wiped : ℕ → List ℕ → List ℕ
wiped n l = replicate n 0 ++ drop n l

-- "1 to 21 leave the work area as lent; every other end leaves its first 4,096 words zero and the rest untouched."
unfoldable pub left_in : (number : ℕ) → (work : List ℕ) → List ℕ
left_in n work = pick (ltb 0 n && leb n 21) work (wiped 4096 work)

-- a run's answer, with every word of the store and of the work area as they are after it
pub record Ended : Type 0 where
  pub answer : Answer
  pub store : Store
  pub work : List ℕ

abbrev pub ended : Answer → Store → List ℕ → Ended
ended a s w = record { answer = a; store = s; work = w }

abbrev pub answered : M.Answer → (work : List ℕ) → Ended
answered a work =
    ended (record { end = end_of a.answer; value = a.value; steps = a.steps; place = a.place; frames = a.frames }) a.after (left_in a.answer work)

-- what `run` answers and leaves
unfoldable pub run_of : (file args : List ℕ) → Store → (work : List ℕ) → (budget : ℕ) → Ended
run_of file args store work budget = answered (answer_to file (length work) args store budget) work

-- each fault's number in the table
abbrev pub fault_number : Fault → ℕ
fault_number Fault.TooLong = 1
fault_number Fault.EndsEarly = 2
fault_number Fault.MarkNotAllowed = 3
fault_number Fault.OutOfRange = 4
fault_number Fault.LimitPassed = 5
fault_number Fault.BytesBehind = 6
fault_number Fault.NotBound = 7
fault_number Fault.WrongKind = 8
fault_number Fault.Used = 9
fault_number Fault.OtherSize = 10
fault_number Fault.LeftOver = 11
fault_number Fault.ConstructorTwice = 12
fault_number Fault.WrongSize = 20
fault_number Fault.WrongCount = 21
fault_number Fault.Malformed = 22
fault_number Fault.NamedTwice = 23
fault_number Fault.ReachesItself = 24

-- the verdict that `check` gives, by its cases
abbrev pub as_shape : code.Shape → Verdict
as_shape (told_shape.Flat d r) = Verdict.Flat d r
as_shape (told_shape.Stacked r) = Verdict.Stacked r

abbrev pub as_verdict : Result code.Shape Refusal → Verdict
as_verdict (Ok s) = as_shape s
as_verdict (Err f) = Verdict.Refused (fault_number f.fault) f.place

-- the end of a run that was made, and its value: 0 where it has none
abbrev pub as_end : RunEnd → End
as_end (RunEnd.Done v) = End.Done
as_end RunEnd.NoBranch = End.NoBranch
as_end RunEnd.BudgetSpent = End.BudgetSpent
as_end RunEnd.NoFrame = End.NoFrame
as_end RunEnd.OutOfRange = End.OutOfRange

abbrev pub value_of : RunEnd → ℕ
value_of (RunEnd.Done v) = v
value_of RunEnd.NoBranch = 0
value_of RunEnd.BudgetSpent = 0
value_of RunEnd.NoFrame = 0
value_of RunEnd.OutOfRange = 0

-- the answer that `run` gives, by its cases
abbrev pub as_answer : Result Ran Refusal → Answer
as_answer (Ok r) = record { end = as_end r.end; value = value_of r.end; steps = r.steps; place = r.place; frames = r.frames }
as_answer (Err f) = record { end = End.Refused (fault_number f.fault); value = 0; steps = 0; place = f.place; frames = 0 }
