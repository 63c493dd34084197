-- `checker::bodies::spend` meets its contract: a slot is spent and leaves the set. Assumes nothing.
use native.Mathlib.Omega.{arith}
use mathlib.Core.Path.{sym, ◌∙◌}
use Rattle.checker.proofs.reading.Steps.{pred_is}
use Rattle.checker.proofs.ownership.Turns.{kept_turn, kept_none}
use Rattle.checker.proofs.bodies.spend.Goals as goal

pub loop-todo-preserved : goal.loop-todo-preserved
loop-todo-preserved c = c.loop-todo.invariant ∙ kept_turn _ _ _ _ _ c.lowest-slot.ensures.0 (c.lowest-slot.ensures.2 (omega (arith, pred_is _ c.loop-todo-test.true))) c.without_lowest-todo.ensures.0 c.used.ensures

pub returns : goal.returns
returns c = sym (c.loop-todo.invariant ∙ kept_none _ _ c.loop-todo-test.false)
