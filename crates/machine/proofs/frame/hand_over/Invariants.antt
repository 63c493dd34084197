-- The proof of `hand_over`. Assumes nothing.
use Rattle.std.proofs.Common.{◌≡◌, ℕ, ◌+◌, ◌-◌, ◌<◌, ◌≤◌, ◌⊎◌, length, get_or}
use Rattle.machine.specs.Layout.{laid, gathered}
use Rattle.machine.proofs.frame.hand_over.Given as goal

abbrev pub invariant-loop-j : goal.invariant-loop-j
invariant-loop-j l = (l.j ≤ l.n) × (length l.work ≡ length l.initial.work) × (laid l.initial.work l.to (gathered l.file l.initial.work l.base l.at l.n) ≡ laid l.work (l.to + l.j) (gathered l.file l.initial.work l.base (l.at + l.j) (l.n - l.j))) × ((q : ℕ) → (q < l.to) ⊎ (l.to + l.j ≤ q) → get_or l.work q 0 ≡ get_or l.initial.work q 0)
