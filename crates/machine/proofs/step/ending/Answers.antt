-- The proof of `ending`. Assumes nothing.
use Rattle.std.proofs.Common.{sym, ap, ◌∙◌}
use Rattle.meaning.specs.declared.RunEnd.{RunEnd}
use Rattle.machine.specs.Layout.{at_work}
use Rattle.machine.specs.Steps.{ending, ending_at}
use Rattle.machine.proofs.step.Tries.{no_end}
use Rattle.machine.proofs.step.ending.Goals as goal

pub returns-in-GV : goal.returns-in-GV
unfolding ending
returns-in-GV c = ap RunEnd.Done c.slot.ensures ∙ ap (λ k. ending_at k c.args.file.now (at_work c.args.s c.args.work.now)) (sym c.in-GV.is ∙ c.node_mark.ensures)

pub returns-in-CL : goal.returns-in-CL
unfolding ending
returns-in-CL c = ap (λ k. ending_at k c.args.file.now (at_work c.args.s c.args.work.now)) (sym c.in-CL.is ∙ c.node_mark.ensures)

pub returns-in-AR : goal.returns-in-AR
unfolding ending
returns-in-AR c = ap (λ k. ending_at k c.args.file.now (at_work c.args.s c.args.work.now)) (sym c.in-AR.is ∙ c.node_mark.ensures)

pub returns-in_default : goal.returns-in_default
unfolding ending
returns-in_default c = no_end c.node_mark.result c.args.file.now (at_work c.args.s c.args.work.now) c.in_default.not-GV c.in_default.not-CL c.in_default.not-AR ∙ ap (λ k. ending_at k c.args.file.now (at_work c.args.s c.args.work.now)) c.node_mark.ensures
