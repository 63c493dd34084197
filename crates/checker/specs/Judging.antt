-- What `judge` answers: the table of declarations of an accepted file, or the refusal. Assumes nothing.
use Rattle.std.specs.Prelude.{ℕ, List, replicate, Result, Ok, Err}
use Rattle.meaning.specs.declared.Refusal.{Refusal}
use Rattle.meaning.specs.Syntax.{File}
use Rattle.meaning.specs.Outcome.{Outcome, ok, refuse}
use Rattle.meaning.specs.Verdict.{accepted}
use Rattle.standing.specs.Table.{table_of}
use Rattle.standing.specs.declared.Table as code
use Rattle.meaning.specs.Answers.{fault_number}

-- number and place of a refusal with a table that declares nothing, or 0 and the table of an accepted file
pub record Judged : Type 0 where
  pub number : ℕ
  pub place : ℕ
  pub table : List ℕ

-- a refusal's table declares nothing
abbrev pub refusal : (number place : ℕ) → Judged
refusal n p = record { number = n; place = p; table = replicate 128 255 }

abbrev pub acceptance : File → Judged
acceptance file = record { number = 0; place = 0; table = table_of file }

abbrev pub judged : Outcome File → Judged
judged (ok file) = acceptance file
judged (refuse n p) = refusal n p

unfoldable pub judged_of : (file : List ℕ) → Judged
judged_of file = judged (accepted file)

-- what `judge` answers, by its cases
abbrev pub as_judged : Result code.Table Refusal → Judged
as_judged (Ok t) = record { number = 0; place = 0; table = t.words }
as_judged (Err r) = refusal (fault_number r.fault) r.place
