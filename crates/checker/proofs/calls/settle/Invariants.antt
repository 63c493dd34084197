-- `calls::settle` meets its contract. Assumes nothing.
use Rattle.std.proofs.Common.{◌≡◌}
use Rattle.meaning.specs.Calls.{rounds}
use Rattle.checker.specs.Bits.{bits_of}
use Rattle.checker.proofs.calls.settle.Given as goal

abbrev pub invariant-loop : goal.invariant-loop
invariant-loop l = l.table ≡ rounds l.counter l.square (bits_of 32 l.seen)
