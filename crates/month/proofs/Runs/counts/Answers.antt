-- `Runs::counts` meets its contract. Assumes nothing.
use mathlib.Core.Path.{refl}
use Rattle.std.proofs.Common.{rules}
use Rattle.month.specs.Month.{runs_of, count, counts_of, numbers}
use Rattle.month.proofs.Counting.{mapped}
use Rattle.month.proofs.Runs.counts.Goals as goal

pub returns : goal.returns
unfolding counts_of numbers
returns c = mapped _ _ (λ n. count n (runs_of c.args.self.now.words.now)) (λ x r q k. search rules) numbers _ c.map.ensures.items refl
