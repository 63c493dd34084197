-- `Runs::nine_tenths` meets its contract. The loop's invariant: the figure lies between the two bounds. Assumes nothing.
use Rattle.std.proofs.Common.{◌-◌, ◌*◌, ◌≡◌, ◌≤◌, length}
use Rattle.month.specs.Month.{runs_of, steps_of, nine_tenths}
use Rattle.month.proofs.Runs.nine_tenths.Given as goal

abbrev pub invariant-loop-low : goal.invariant-loop-low
invariant-loop-low l =
    (l.wanted ≡ 9 * length (steps_of (runs_of l.self.words.now)))
    × (l.low ≤ nine_tenths (steps_of (runs_of l.self.words.now)))
    × (nine_tenths (steps_of (runs_of l.self.words.now)) ≤ l.high)
    × (l.high ≤ l.top)

abbrev pub decreases-loop-low : goal.decreases-loop-low
decreases-loop-low l = l.high - l.low
