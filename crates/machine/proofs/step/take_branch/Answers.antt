-- The proof of `take_branch`. Assumes nothing.
use Rattle.std.proofs.Common.{◌+◌, refl, not, eqb, subst, arith, ne_eqb}
use Rattle.meaning.specs.Choice.{pick}
use Rattle.machine.specs.Layout.{op_of}
use Rattle.machine.specs.Skips.{BranchFound}
use Rattle.machine.proofs.step.take_branch.Goals as goal

pub returns-in_err-b : goal.returns-in_err-b
unfolding op_of pick
returns-in_err-b g c =
    let f = subst (λ o. BranchFound (not (eqb g.row.WORK_OUT 0)) c.args.rules.file.now c.args.rules.table.now.words c.constructor-con.result (c.args.s.frame.at + 4) c.byte-count.result c.args.work.now o c.find_branch.new.work) c.in_err-b.was c.find_branch.ensures in
    rw c.from_residual.ensures (λ z. record { at = 0; found = rw (c.constructor-con.ensures, c.slot-w.ensures, c.byte-count.ensures.0) at (f.0 z).0; work = _; keeps = (f.0 z).1; is = refl }, f.1)

pub returns : goal.returns
unfolding op_of pick
returns g c =
    let f = subst (λ o. BranchFound (not (eqb g.row.WORK_OUT 0)) c.args.rules.file.now c.args.rules.table.now.words c.constructor-con.result (c.args.s.frame.at + 4) c.byte-count.result c.args.work.now o c.find_branch.new.work) c.in_ok-b.was c.find_branch.ensures in
    record { at = c.in_ok-b.b; found = rw (c.constructor-con.ensures, c.slot-w.ensures, c.byte-count.ensures.0) at f.0; work = _; keeps = f.2; is = rw (ne_eqb c.in_ok-b.b 0 (λ z. omega (arith, f.1)), c.opened.ensures, c.constructor-con.ensures, c.slot-w.ensures) }
