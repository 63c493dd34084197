-- `checker::bodies::check_file` meets its contract. Assumes nothing.
use mathlib.Core.Path.{◌≡◌, refl, sym, ◌∙◌}
use borrow.Author.Rules.{rules}
use Rattle.std.specs.Prelude.{Err}
use Rattle.checker.proofs.reading.Tabled.{table_blank}
use Rattle.checker.proofs.bodies.Filing.{finished_long, header_stops, header_goes}
use Rattle.checker.proofs.bodies.check_file.Goals as goal

pub returns-then-file-gt-BYTES : goal.returns-then-file-gt-BYTES
returns-then-file-gt-BYTES c = finished_long c.args.file.now c.args.table.now.words c.args.calls.now c.if-file-gt-BYTES.true

pub read_header-requires : goal.read_header-requires
read_header-requires c = (c.if-file-gt-BYTES.false, c.requires.0 ∙ sym (table_blank 128 refl))

pub returns-in_err-header : goal.returns-in_err-header
returns-in_err-header c =
    let q : c.from_residual.result ≡ Err c.in_err-header.field-0.0 = search rules in
    rw q (header_stops c.args.file.now c.read_header.new.table.words c.read_header.new.table.words c.args.calls.now c.in_err-header.field-0.0 c.read_header.ensures c.in_err-header.was)

pub check_bodies-requires : goal.check_bodies-requires
check_bodies-requires c = (c.if-file-gt-BYTES.false, header_goes _ _ _ c.read_header.ensures c.in_ok-header.was, c.requires.1)
