-- `checker::ownership::bind_all` meets its contract. Assumes nothing.
use mathlib.Core.Path.{refl, ap, ◌∙◌}
use Rattle.checker.specs.Slots.{mode_kind}
use Rattle.checker.proofs.ownership.Turns.{laid_again, bound_credit, bound_plain}
use Rattle.checker.proofs.ownership.bind_all.Goals as goal

pub loop-j-preserved : goal.loop-j-preserved
loop-j-preserved c = laid_again _ _ _ _ _ _ _ _ _ _ _ c.loop-j.invariant c.loop-j-test.true refl (c.kind-kind.ensures ∙ ap mode_kind c.at.ensures)

pub returns-then-credit : goal.returns-then-credit
returns-then-credit c = bound_credit _ _ _ _ _ _ _ _ _ _ c.loop-j.invariant c.loop-j-test.false c.if-credit.true

pub returns-else-credit : goal.returns-else-credit
returns-else-credit c = bound_plain _ _ _ _ _ _ _ _ _ _ c.loop-j.invariant c.loop-j-test.false c.if-credit.false
