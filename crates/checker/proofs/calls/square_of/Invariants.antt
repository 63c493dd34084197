-- `calls::square_of` meets its contract. Assumes nothing.
use Rattle.std.proofs.Common.{◌≡◌, get_or, replicate}
use Rattle.meaning.specs.declared.How.TheVariants.{Never}
use Rattle.checker.specs.Filled.{filled}
use Rattle.checker.specs.Square.{row_of}
use Rattle.checker.proofs.calls.square_of.Given as goal

abbrev pub invariant-loop-f : goal.invariant-loop-f
invariant-loop-f l = l.row-items ≡ filled (replicate 32 Never) l.f (λ f. row_of (get_or l.calls f 0))
