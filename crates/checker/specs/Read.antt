-- What a read comes to: where reading goes on, or the answer that refuses the file and its place. Assumes nothing.
use Rattle.std.specs.Prelude.{ℕ, Result, Ok, Err}
use Rattle.meaning.specs.declared.Mark.{Mark}
use Rattle.meaning.specs.declared.Fault as faults
use Rattle.meaning.specs.declared.Refusal.{Refusal}
use Rattle.meaning.specs.Marks.{place_of}
use Rattle.meaning.specs.Answers.{fault_number}

pub data Read : Type 0 where
  Next : (at : ℕ) → Read
  Fault : (answer place : ℕ) → Read

abbrev pub refusal : faults.Fault → (place : ℕ) → Refusal
refusal f p = record { fault = f; place = p }

-- what the code answers
abbrev pub as_read : Result ℕ Refusal → Read
as_read (Ok at) = Next at
as_read (Err r) = Fault (fault_number r.fault) r.place

abbrev pub as_mark : Result Mark Refusal → Read
as_mark (Ok m) = Next (place_of m)
as_mark (Err r) = Fault (fault_number r.fault) r.place
