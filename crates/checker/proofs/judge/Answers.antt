-- `checker::judge` meets its contract. Assumes nothing.
use mathlib.Core.Path.{◌≡◌}
use borrow.Author.Rules.{rules}
use Rattle.std.specs.Prelude.{Err}
use Rattle.checker.proofs.Joining.{refused_judged, fine_judged}
use Rattle.checker.proofs.judge.Goals as goal

pub returns-in_err-check_file-clause-judged : goal.returns-in_err-check_file-clause-judged
returns-in_err-check_file-clause-judged c =
    let q : c.from_residual.result ≡ Err c.in_err-check_file.field-0.0 = search rules in
    rw q (refused_judged c.args.file.now c.check_file.new.table.words c.check_file.new.calls c.in_err-check_file.field-0.0 c.in_err-check_file.ensures)

pub returns-clause-judged : goal.returns-clause-judged
returns-clause-judged c = fine_judged c.args.file.now c.check_file.new.table.words c.check_file.new.calls c.in_ok-check_file.ensures
