-- The proof of `known_steps`. Assumes nothing.
use Rattle.std.proofs.Common.{◌≡◌, ◌≤◌, length, drop}
use Rattle.machine.specs.Layout.{at_work}
use Rattle.machine.specs.Represents.{Reached}
use Rattle.machine.proofs.step.known_steps.Given as goal

abbrev pub invariant-loop-left : goal.invariant-loop-left
invariant-loop-left l = (l.left ≤ l.limit) × (length l.store ≡ length l.initial.store) × (length l.work ≡ length l.initial.work) × Reached l.rules.file.now l.rules.table.now.words l.initial.store (at_work l.initial.cur l.initial.work) l.limit l.left l.store (at_work l.cur l.work) × (drop 4096 l.work ≡ drop 4096 l.initial.work)

abbrev pub decreases-loop-left : goal.decreases-loop-left
decreases-loop-left l = l.left
