-- `calls::reach` meets its contract. Assumes nothing.
use Prim.Native.Nat.{◌-◌}
use mathlib.Core.Path.{◌≡◌}
use Rattle.meaning.specs.Calls.{visits, reach}
use Rattle.checker.specs.Bits.{bits_of}
use Rattle.checker.proofs.calls.reach.Given as goal

abbrev pub invariant-loop : goal.invariant-loop
invariant-loop l = reach l.square ≡ visits (32 - l.counter) l.square (bits_of 32 l.todo) (bits_of 32 l.seen)
