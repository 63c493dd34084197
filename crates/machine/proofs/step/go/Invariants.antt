-- The proof of `go`. Assumes nothing.
use Rattle.std.proofs.Common.{◌≡◌, ◌≤◌, length, drop}
use Rattle.machine.specs.Layout.{at_work}
use Rattle.machine.specs.Represents.{Reached}
use Rattle.machine.proofs.step.go.Given as goal

abbrev pub invariant-loop-t : goal.invariant-loop-t
invariant-loop-t l = (l.t.left ≤ l.initial.t.left) × (length l.store ≡ length l.initial.store) × (length l.work ≡ length l.initial.work) × Reached l.rules.file.now l.rules.table.now.words l.initial.store (at_work l.initial.t.state l.initial.work) l.initial.t.left l.t.left l.store (at_work l.t.state l.work) × (drop 4096 l.work ≡ drop 4096 l.initial.work)

abbrev pub decreases-loop-t : goal.decreases-loop-t
decreases-loop-t l = l.t.left
