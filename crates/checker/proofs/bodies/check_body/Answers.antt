-- `checker::bodies::check_body` meets its contract. Assumes nothing.
use native.Mathlib.Omega.{arith}
use mathlib.Core.Path.{◌≡◌, sym, ap, ◌∙◌}
use borrow.Author.Rules.{rules}
use Rattle.std.specs.Prelude.{Err}
use Prim.Native.Nat.{◌+◌}
use Rattle.checker.specs.Slots.{digit, sort_number}
use Rattle.checker.specs.Ownership.{bound_of}
use Rattle.checker.proofs.bodies.Filing.{known_is, body_unread, made_passable, made_placed, made_passed}
use Rattle.checker.proofs.bodies.check_body.Goals as goal

pub returns-in_err-start : goal.returns-in_err-start
returns-in_err-start c =
    let q : c.from_residual.result ≡ Err c.in_err-start.field-0.0 = search rules in
    rw q (body_unread _ _ _ _ _ _ c.requires.0.inside (sym c.in_err-start.ensures))

pub bind_all-slots-requires : goal.bind_all-slots-requires
bind_all-slots-requires c =
    let k = known_is c.args.rules.file.now c.args.rules.table.now.words c.args.at c.args.f c.requires.1 in
    (omega (arith, k, c.of_parameters-parameters.ensures.1, c.requires.2), omega (arith, c.head.ensures, c.requires.3.modes, c.requires.3.inside, c.requires.0.small))

pub check_term-requires : goal.check_term-requires
check_term-requires c =
    let p = c.of_parameters-parameters in
    let e = sym c.in_ok-start.ensures in
    let b = c.bind_all-slots.ensures ∙ ap (λ o. bound_of c.args.rules.file.now (1 + digit o) c.head.result p.result.count p.result.first 0 c.fresh_slots.result 0) p.ensures.2 in (
      made_passable _ _ _ _ c.requires.1 _ _ p.ensures.1 e c.requires.0.small c.requires.0.wide c.requires.2,
      made_placed _ _ _ _ c.requires.1 _ _ p.ensures.1 e c.requires.2 c.requires.3 _ _ c.head.ensures c.fresh_slots.ensures b,
    )

pub returns : goal.returns
returns c =
    let p = c.of_parameters-parameters in
    let e = sym c.in_ok-start.ensures in
    let b = c.bind_all-slots.ensures ∙ ap (λ o. bound_of c.args.rules.file.now (1 + digit o) c.head.result p.result.count p.result.first 0 c.fresh_slots.result 0) p.ensures.2 in
    made_passed _ _ _ _ c.requires.1 _ _ p.ensures.1 e _ _ _ _ _ _ p.ensures.0 (ap sort_number c.result_sort.ensures) c.fresh_slots.ensures b c.check_term.ensures
