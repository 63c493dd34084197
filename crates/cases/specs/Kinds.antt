-- The kind that a byte says, and the line of a case of each kind: a file is checked, a request is run. Assumes nothing.
use Rattle.std.specs.Prelude.{ℕ, zero, suc, List}
use Rattle.meaning.specs.Lines.{check_line, run_line}
use Rattle.cases.specs.declared.Kind.{Kind}
use Rattle.cases.specs.declared.Kind.TheVariants as kind

abbrev pub kind_of : (byte : ℕ) → Kind
kind_of zero = kind.Check
kind_of (suc other) = kind.Run

abbrev pub line_by_kind : (kind : Kind) → (bytes : List ℕ) → List ℕ
line_by_kind kind.Check bytes = check_line bytes
line_by_kind kind.Run bytes = run_line bytes
