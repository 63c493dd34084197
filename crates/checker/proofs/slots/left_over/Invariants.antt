-- `checker::slots::left_over` meets its contract. Assumes nothing.
use mathlib.Core.Path.{◌≡◌}
use lib.ListN.{drop}
use Rattle.meaning.specs.Ownership.{leftover}
use Rattle.checker.specs.Bits.{bits_of}
use Rattle.checker.specs.Slots.{slots_of, spent_by}
use Rattle.checker.proofs.slots.left_over.Given as goal

abbrev pub invariant-loop-i : goal.invariant-loop-i
invariant-loop-i l = leftover (slots_of l.bound (spent_by (bits_of 32 l.spent) l.slots)) ≡ leftover (drop l.i (slots_of l.bound (spent_by (bits_of 32 l.spent) l.slots)))
