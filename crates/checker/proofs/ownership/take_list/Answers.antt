-- `checker::ownership::take_list` meets its contract. Assumes nothing.
use mathlib.Core.Path.{◌≡◌, refl, sym, ap, ◌∙◌}
use Rattle.std.proofs.Common.{arith, rules}
use Rattle.std.specs.Prelude.{Err}
use Rattle.checker.specs.Slots.{mode_want}
use Rattle.checker.specs.Ownership.{as_taken}
use Rattle.meaning.proofs.Told.{fault_some}
use Rattle.checker.proofs.ownership.Turns.{list_end, list_out, list_fault, list_again}
use Rattle.checker.proofs.ownership.take_list.Goals as goal

pub returns-in_err-i : goal.returns-in_err-i
returns-in_err-i c =
    let e : c.from_residual.result ≡ Err c.in_err-i.field-0.0 = search rules in
    ap as_taken e ∙ ap (λ r. as_taken (Err r)) c.in_err-i.ensures.1 ∙ sym (list_out _ _ _ _ _ _ _ _ _ _ _ _ c.loop-j.invariant c.loop-j-test.true refl c.in_err-i.ensures.0)

pub returns-in_err-spent : goal.returns-in_err-spent
returns-in_err-spent c =
    let e : c.from_residual-in_err-spent.result ≡ Err c.in_err-spent.field-0.0 = search rules in
    ap as_taken e
    ∙ sym (list_fault _ _ _ _ _ _ _ _ _ _ _ _ c.loop-j.invariant c.loop-j-test.true c.in_ok-i.ensures.0 _ _ _ _ c.in_ok-i.ensures.1 refl
    (c.want-want.ensures ∙ ap mode_want c.at.ensures) c.bars-barred.ensures c.in_err-spent.ensures (fault_some c.in_err-spent.field-0.0.fault))

pub loop-j-preserved : goal.loop-j-preserved
loop-j-preserved c =
    list_again _ _ _ _ _ _ _ _ _ _ _ _ c.loop-j.invariant c.loop-j-test.true c.in_ok-i.ensures.0 _ _ _ _ c.in_ok-i.ensures.1 refl
    (c.want-want.ensures ∙ ap mode_want c.at.ensures) c.bars-barred.ensures c.in_ok-spent.ensures refl _ c.with-earlier.ensures.0

pub returns : goal.returns
returns c = sym (c.loop-j.invariant ∙ list_end _ _ _ _ _ _ _ _ _ (omega arith))
