-- `calls::callees` meets its contract. Assumes nothing.
use Rattle.std.proofs.Common.{◌≡◌, false}
use Rattle.meaning.specs.Calls.{called, entry}
use Rattle.checker.specs.Bits.{bits_of}
use Rattle.checker.specs.Filled.{filled}
use Rattle.checker.proofs.calls.callees.Given as goal

abbrev pub invariant-loop-g : goal.invariant-loop-g
invariant-loop-g l = bits_of 32 l.out ≡ filled false l.g (λ g. called (entry l.square l.f g))
