-- `Runs::greatest` meets its contract. The loop's invariant: the greatest of the runs so far. Assumes nothing.
use Rattle.std.proofs.Common.{◌≡◌, ℕ, map, take, fold}
use Rattle.std.specs.Iterator.{ActsAs}
use Rattle.month.specs.declared.Run.{Run}
use Rattle.month.proofs.Chunks.{run_in}
use Rattle.month.proofs.Counting.{raised}
use Rattle.month.proofs.Runs.greatest.Given as goal

abbrev pub invariant-loop-words : goal.invariant-loop-words
invariant-loop-words g l = (f : Run → ℕ) → ActsAs g.F.FnMut l.fn.figure f → (l.figure ≡ l.fn.figure) × (l.greatest ≡ fold (raised f) 0 (map run_in (take l.words-index l.words-items)))
