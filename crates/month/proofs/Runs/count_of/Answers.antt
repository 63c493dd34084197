-- `Runs::count_of` meets its contract. Assumes nothing.
use mathlib.Core.Path.{sym, ◌∙◌}
use Rattle.std.proofs.Common.{rules, tests, eqb}
use Rattle.month.specs.Month.{runs_of}
use Rattle.month.proofs.Counting.{count_counts}
use Rattle.month.proofs.Runs.count_of.Goals as goal

pub returns : goal.returns
returns c = c.count.ensures.value (λ r. eqb r.number c.args.number) (λ x b q k. search (rules, tests)) ∙ sym (count_counts c.args.number (runs_of c.args.self.now.words.now))
