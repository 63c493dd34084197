-- `Runs::least_steps` meets its contract. The loop's invariant: the least of the runs so far, from the greatest on downwards. Assumes nothing.
use Rattle.std.proofs.Common.{◌≡◌, map, take, fold}
use Rattle.month.proofs.Chunks.{run_in}
use Rattle.month.proofs.Counting.{lowered}
use Rattle.month.proofs.Runs.least_steps.Given as goal

abbrev pub invariant-loop-words : goal.invariant-loop-words
invariant-loop-words l = l.least ≡ fold (lowered l.greatest) l.greatest (map run_in (take l.words-index l.words-items))
