-- The proof of `run`. Assumes nothing.
use Rattle.std.proofs.Common.{◌≡◌, sym, ◌∙◌}
use borrow.Author.Rules.{rules}
use Rattle.std.specs.Prelude.{Err}
use Rattle.machine.proofs.Running.{run_refused, run_unfit, run_miscounted, run_opened}
use Rattle.machine.proofs.run.Goals as goal

pub returns-in_err-table-clause-answered : goal.returns-in_err-table-clause-answered
returns-in_err-table-clause-answered c =
    let q : c.from_residual.result ≡ Err c.in_err-table.field-0.0 = search rules in
    rw q (run_refused c.args.file.now c.args.args.now c.args.store.now c.args.work.now c.args.budget c.in_err-table.field-0.0 c.in_err-table.ensures.judged)

pub returns-then-unfit-clause-answered : goal.returns-then-unfit-clause-answered
returns-then-unfit-clause-answered c = run_unfit _ _ _ _ _ c.in_ok-table.table c.in_ok-table.ensures.judged (sym c.unfit.ensures ∙ c.if-unfit.true)

pub returns-then-args-parameters-clause-answered : goal.returns-then-args-parameters-clause-answered
returns-then-args-parameters-clause-answered c = run_miscounted _ _ _ _ _ c.in_ok-table.table c.in_ok-table.ensures.judged (sym c.unfit.ensures ∙ c.if-unfit.false) (λ e. c.if-args-parameters.true (e ∙ sym c.parameters.ensures.0))

pub begin-requires : goal.begin-requires
begin-requires c = run_opened _ _ _ _ 0 c.in_ok-table.table c.in_ok-table.ensures.judged (sym c.unfit.ensures ∙ c.if-unfit.false) (c.if-args-parameters.false ∙ c.parameters.ensures.0)
