-- The proof of `step`. Assumes nothing.
use Rattle.std.proofs.Common.{not, eqb, refl, sym, ◌∙◌, arith}
use Rattle.meaning.specs.declared.Mark.{Mark}
use Rattle.machine.proofs.step.Marked.{no_node}
use Rattle.machine.proofs.step.Needed.{fit_needs, fit_mark, steps_of}
use Rattle.machine.proofs.step.Tries.{fit_node, gv_still, cl_still, ar_still, stepped, stepped_on}
use Rattle.machine.proofs.step.step.Goals as goal

pub node_mark-requires : goal.node_mark-requires
node_mark-requires g c = (omega (arith, fit_mark c.requires), fit_node c.requires)

pub give-requires : goal.give-requires
give-requires g c = fit_needs c.requires Mark.GV (sym c.node_mark.ensures ∙ c.in-GV.is)

pub atom-requires : goal.atom-requires
atom-requires g c = fit_needs c.requires Mark.AT (sym c.node_mark.ensures ∙ c.in-AT.is)

pub make-requires : goal.make-requires
make-requires g c = fit_needs c.requires Mark.MK (sym c.node_mark.ensures ∙ c.in-MK.is)

pub call-requires : goal.call-requires
call-requires g c = fit_needs c.requires Mark.CL (sym c.node_mark.ensures ∙ c.in-CL.is)

pub tail-requires : goal.tail-requires
tail-requires g c = fit_needs c.requires Mark.TL (sym c.node_mark.ensures ∙ c.in-TL.is)

pub take_branch-requires : goal.take_branch-requires
take_branch-requires g c = fit_needs c.requires Mark.OP (sym c.node_mark.ensures ∙ c.in-OP.is)

pub take_branch-requires-in-LK : goal.take_branch-requires-in-LK
take_branch-requires-in-LK g c = fit_needs c.requires Mark.LK (sym c.node_mark.ensures ∙ c.in-LK.is)

pub number-requires : goal.number-requires
number-requires g c = fit_needs c.requires Mark.NU (sym c.node_mark.ensures ∙ c.in-NU.is)

pub arith-requires : goal.arith-requires
arith-requires g c = fit_needs c.requires Mark.AR (sym c.node_mark.ensures ∙ c.in-AR.is)

pub choose-requires : goal.choose-requires
choose-requires g c = fit_needs c.requires Mark.IF (sym c.node_mark.ensures ∙ c.in-IF.is)

pub returns-in-GV : goal.returns-in-GV
returns-in-GV g c = stepped (not (eqb g.row.WORK_OUT 0)) c.args.rules.file.now c.args.rules.table.now.words c.args.store.now c.args.s c.args.work.now Mark.GV (sym c.node_mark.ensures ∙ c.in-GV.is) c.give.result c.give.new.work c.give.ensures (refl, refl) (gv_still _ _)

pub returns-in-AT : goal.returns-in-AT
returns-in-AT g c = steps_of Mark.AT (sym c.node_mark.ensures ∙ c.in-AT.is) (refl, c.atom.ensures)

pub returns-in-MK : goal.returns-in-MK
returns-in-MK g c = steps_of Mark.MK (sym c.node_mark.ensures ∙ c.in-MK.is) c.make.ensures

pub returns-in-CL : goal.returns-in-CL
returns-in-CL g c = stepped (not (eqb g.row.WORK_OUT 0)) c.args.rules.file.now c.args.rules.table.now.words c.args.store.now c.args.s c.args.work.now Mark.CL (sym c.node_mark.ensures ∙ c.in-CL.is) c.call.result c.call.new.work c.call.ensures (refl, refl) (cl_still _ _ _)

pub returns-in-TL : goal.returns-in-TL
returns-in-TL g c = steps_of Mark.TL (sym c.node_mark.ensures ∙ c.in-TL.is) (refl, c.tail.ensures)

pub returns-in-OP : goal.returns-in-OP
returns-in-OP g c = stepped_on (not (eqb g.row.WORK_OUT 0)) c.args.rules.file.now c.args.rules.table.now.words c.args.store.now c.args.s c.args.work.now Mark.OP (sym c.node_mark.ensures ∙ c.in-OP.is) _ c.take_branch.result c.take_branch.new.work (λ x s. (refl, s)) c.take_branch.ensures

pub returns-in-LK : goal.returns-in-LK
returns-in-LK g c = stepped_on (not (eqb g.row.WORK_OUT 0)) c.args.rules.file.now c.args.rules.table.now.words c.args.store.now c.args.s c.args.work.now Mark.LK (sym c.node_mark.ensures ∙ c.in-LK.is) _ c.take_branch-in-LK.result c.take_branch-in-LK.new.work (λ x s. (refl, s)) c.take_branch-in-LK.ensures

pub returns-in-NU : goal.returns-in-NU
returns-in-NU g c = steps_of Mark.NU (sym c.node_mark.ensures ∙ c.in-NU.is) (refl, c.number.ensures)

pub returns-in-AR : goal.returns-in-AR
returns-in-AR g c = stepped (not (eqb g.row.WORK_OUT 0)) c.args.rules.file.now c.args.rules.table.now.words c.args.store.now c.args.s c.args.work.now Mark.AR (sym c.node_mark.ensures ∙ c.in-AR.is) c.arith.result c.arith.new.work c.arith.ensures (refl, refl) (ar_still _ _)

pub returns-in-IF : goal.returns-in-IF
returns-in-IF g c = stepped_on (not (eqb g.row.WORK_OUT 0)) c.args.rules.file.now c.args.rules.table.now.words c.args.store.now c.args.s c.args.work.now Mark.IF (sym c.node_mark.ensures ∙ c.in-IF.is) _ c.choose.result c.choose.new.work (λ x s. (refl, s)) c.choose.ensures

pub returns-in_default : goal.returns-in_default
returns-in_default g c = steps_of c.node_mark.result (sym c.node_mark.ensures) (no_node c.node_mark.result _ _ _ _ c.in_default.not-GV c.in_default.not-AT c.in_default.not-MK c.in_default.not-CL c.in_default.not-TL c.in_default.not-OP c.in_default.not-LK c.in_default.not-NU c.in_default.not-AR c.in_default.not-IF)
