-- `checker::slots::left_over` meets its contract. Assumes nothing.
use mathlib.Core.Path.{sym, ◌∙◌}
use Rattle.checker.proofs.ownership.Turns.{left_end, left_found, left_later}
use Rattle.checker.proofs.slots.left_over.Goals as goal

pub returns-then-is_left : goal.returns-then-is_left
returns-then-is_left c = sym (c.loop-i.invariant ∙ left_found _ _ _ _ _ _ _ c.loop-i-test.true c.has.ensures c.current-kind.ensures c.is_left.ensures c.if-is_left.true)

pub loop-i-preserved : goal.loop-i-preserved
loop-i-preserved c = c.loop-i.invariant ∙ left_later _ _ _ _ _ _ _ c.loop-i-test.true c.has.ensures c.current-kind.ensures c.is_left.ensures c.if-is_left.false

pub returns : goal.returns
returns c = sym (c.loop-i.invariant ∙ left_end _ _ _ _ c.loop-i-test.false)
