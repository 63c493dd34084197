-- `checker::check` meets its contract. Assumes nothing.
use mathlib.Core.Path.{◌≡◌}
use borrow.Author.Rules.{rules}
use Rattle.std.specs.Prelude.{Err}
use Rattle.checker.proofs.Joining.{refused_told, words_told}
use Rattle.checker.proofs.check.Goals as goal

pub returns-in_err-check_file-clause-told : goal.returns-in_err-check_file-clause-told
returns-in_err-check_file-clause-told c =
    let q : c.from_residual.result ≡ Err c.in_err-check_file.field-0.0 = search rules in
    rw q (refused_told c.args.file.now c.check_file.new.table.words c.check_file.new.calls c.in_err-check_file.field-0.0 c.in_err-check_file.ensures)

pub returns-clause-told : goal.returns-clause-told
returns-clause-told c = words_told c.args.file.now c.check_file.new.table.words c.check_file.new.calls c.in_ok-check_file.ensures c.shape_of.ensures
