-- The proof of `load`. Assumes nothing.
use Rattle.std.proofs.Common.{◌≡◌, ◌+◌, ◌-◌, ◌≤◌, length}
use Rattle.machine.specs.Layout.{laid, words}
use Rattle.machine.proofs.frame.load.Given as goal

abbrev pub invariant-loop-j : goal.invariant-loop-j
invariant-loop-j l = (l.j ≤ l.k) × (length l.work ≡ length l.initial.work) × (laid l.initial.work l.to (words l.from l.p l.k) ≡ laid l.work (l.to + l.j) (words l.from (l.p + l.j) (l.k - l.j)))
