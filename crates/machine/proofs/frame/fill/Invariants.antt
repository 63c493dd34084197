-- The proof of `fill`. Assumes nothing.
use Rattle.std.proofs.Common.{◌≡◌, ◌+◌, ◌-◌, ◌≤◌, length}
use Rattle.machine.specs.Layout.{laid, gathered}
use Rattle.machine.proofs.frame.fill.Given as goal

abbrev pub invariant-loop-j : goal.invariant-loop-j
invariant-loop-j l = (l.j ≤ l.k) × (length l.store ≡ length l.initial.store) × (laid l.initial.store l.p (gathered l.file l.work l.base l.at l.k) ≡ laid l.store (l.p + l.j) (gathered l.file l.work l.base (l.at + l.j) (l.k - l.j)))
