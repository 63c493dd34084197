-- `checker::bodies::check_bodies` meets its contract. Assumes nothing.
use native.Mathlib.Omega.{arith}
use mathlib.Core.Path.{◌≡◌, ap}
use borrow.Author.Rules.{rules}
use Rattle.std.specs.Prelude.{Err}
use Rattle.checker.specs.Read.{as_read}
use Rattle.checker.proofs.reading.Body.{few_slots}
use Rattle.checker.proofs.bodies.Filing.{all_left, body_next, left_next, body_refused, end_refused, end_fine, end_faulty}
use Rattle.checker.proofs.bodies.check_bodies.Goals as goal

pub loop-f-init : goal.loop-f-init
loop-f-init c = (c.requires.1, all_left _ _ c.requires.2)

pub check_body-requires : goal.check_body-requires
check_body-requires c =
    let b = c.loop-f.invariant.0 in
    let w = b.few_functions in
    (record { small = c.requires.0; wide = b.wide; inside = b.inside; slots = omega arith; nodes = omega arith }, omega (arith, w, c.loop-f-test.true), few_slots _ _ _ _ _ b c.loop-f-test.true, b.heads _ c.loop-f-test.true)

pub loop-f-preserved : goal.loop-f-preserved
loop-f-preserved c =
    let e = ap as_read c.in_ok-next.was in
    (body_next _ _ _ _ _ c.loop-f.invariant.0 c.loop-f-test.true c.check_body.ensures _ e, left_next _ _ _ _ _ c.loop-f.invariant.0 c.loop-f-test.true c.check_body.ensures _ e c.loop-f.invariant.1)

pub returns-in_err-next : goal.returns-in_err-next
returns-in_err-next c =
    let q : c.from_residual.result ≡ Err c.in_err-next.field-0.0 = search rules in
    rw q (body_refused _ _ _ _ _ c.requires.0 c.loop-f.invariant.0 c.loop-f-test.true c.loop-f.table.words c.loop-f.calls c.in_err-next.field-0.0 c.in_err-next.was c.check_body.ensures)

pub returns-in_err-read_end : goal.returns-in_err-read_end
returns-in_err-read_end c =
    let q : c.from_residual-in_err-read_end.result ≡ Err c.in_err-read_end.field-0.0 = search rules in
    let e : c.loop-f.f ≡ c.args.header.count = omega arith in
    rw q (end_refused c.args.file.now c.loop-f.table.words c.loop-f.calls c.args.header.count c.loop-f.at c.requires.0 (rw e at c.loop-f.invariant.0) c.in_err-read_end.field-0.0 c.read_end.ensures c.in_err-read_end.was)

pub returns-in-Some : goal.returns-in-Some
returns-in-Some c =
    let e : c.loop-f.f ≡ c.args.header.count = omega arith in
    end_faulty c.args.file.now c.loop-f.table.words c.loop-f.calls c.args.header.count c.loop-f.at c.requires.0 (rw e at c.loop-f.invariant.0) c.loop-f.fault (rw e at c.loop-f.invariant.1) c.read_end.result _ c.read_end.ensures c.in_ok-read_end.was
    c.in-Some.refusal c.in-Some.is

pub returns-in-None : goal.returns-in-None
returns-in-None c =
    let e : c.loop-f.f ≡ c.args.header.count = omega arith in
    end_fine c.args.file.now c.loop-f.table.words c.loop-f.calls c.args.header.count c.loop-f.at c.requires.0 (rw e at c.loop-f.invariant.0) c.loop-f.fault (rw e at c.loop-f.invariant.1) c.read_end.result _ c.read_end.ensures c.in_ok-read_end.was
    c.in-None.is
