-- `calls::best` meets its contract. Assumes nothing.
use Rattle.std.proofs.Common.{◌≡◌}
use Rattle.meaning.specs.Calls.{best}
use Rattle.checker.proofs.calls.best.Given as goal

abbrev pub invariant-loop-g : goal.invariant-loop-g
invariant-loop-g l = l.most ≡ best l.g l.square l.f l.table
