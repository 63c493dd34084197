-- `Runs::count` meets its contract. The loop's invariant: as many of the runs so far as pass. Assumes nothing.
use Rattle.std.proofs.Common.{◌≡◌, ◌≤◌, Bool, map, take, count_by}
use Rattle.std.specs.Iterator.{ActsAsAt}
use Rattle.month.specs.declared.Run.{Run}
use Rattle.month.proofs.Chunks.{run_in}
use Rattle.month.proofs.Runs.count.Given as goal

abbrev pub invariant-loop-words : goal.invariant-loop-words
invariant-loop-words g l =
    (l.counted ≤ l.words-index)
    × ((t : Run → Bool) → ActsAsAt g.F.FnMut l.fn.test t → (l.test ≡ l.fn.test) × (l.counted ≡ count_by t (map run_in (take l.words-index l.words-items))))
