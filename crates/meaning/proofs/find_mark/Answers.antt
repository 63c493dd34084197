-- `find_mark` meets its contract. Assumes nothing.
use mathlib.Core.Path.{ap, sym, ◌∙◌}
use Rattle.meaning.specs.Marks.{row_at}
use Rattle.meaning.proofs.Table.{by_row, no_row}
use Rattle.meaning.proofs.find_mark.Goals as goal

pub returns-then-row-mark : goal.returns-then-row-mark
returns-then-row-mark c = c.keyed_mark-keyed.ensures ∙ by_row _ (ap (λ i. (row_at i).mark) (sym c.keyed_mark-keyed.ensures) ∙ ap (λ x. x.mark) (sym c.row.ensures) ∙ c.if-row-mark.true)

pub returns-else-row-mark : goal.returns-else-row-mark
returns-else-row-mark c = no_row _ (λ e. c.if-row-mark.false (ap (λ x. x.mark) c.row.ensures ∙ ap (λ i. (row_at i).mark) c.keyed_mark-keyed.ensures ∙ e))
