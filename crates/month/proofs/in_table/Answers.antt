-- `in_table` meets its contract. Assumes nothing.
use mathlib.Core.Path.{◌∙◌}
use Rattle.month.specs.Month.{numbers}
use Rattle.month.proofs.Counting.{among_any}
use Rattle.month.proofs.in_table.Goals as goal

pub returns : goal.returns
unfolding numbers
returns c = c.contains.ensures.value ∙ among_any c.args.number numbers
