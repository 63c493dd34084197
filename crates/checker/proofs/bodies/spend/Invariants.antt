-- What is left to spend falls, and what is spent with it stays.
use mathlib.Core.Path.{◌≡◌}
use Rattle.checker.specs.Bits.{bits_of}
use Rattle.checker.specs.Slots.{spent_by}
use Rattle.checker.proofs.bodies.spend.Given as goal

abbrev pub invariant-loop-todo : goal.invariant-loop-todo
invariant-loop-todo l = spent_by (bits_of 32 l.initial.todo) l.initial.slots ≡ spent_by (bits_of 32 l.todo) l.slots

abbrev pub decreases-loop-todo : goal.decreases-loop-todo
decreases-loop-todo l = l.todo
