-- The proof of `end_of`. Assumes nothing.
use Rattle.std.proofs.Common.{sym, ◌∙◌, arith}
use Rattle.machine.proofs.step.Skipping.{skips_one, skips_safe}
use Rattle.machine.proofs.step.Ends.{some_not_none, is_off, not_off, end_known, end_laid}
use Rattle.machine.proofs.step.end_of.Goals as goal
use Rattle.machine.proofs.step.end_of.Goals.{then-is_some-via-then-is_some, then-is_some-via-else-is_some+then-not-this}

pub returns-then-is_some : goal.returns-then-is_some
returns-then-is_some g c =
    let s = (skips_safe _ _ c.requires.2.1).0 in
    elim c.then-is_some.branch [
      | then-is_some-via-then-is_some w ↦ end_known _ _ _ c.args.work.now c.args.at c.kept-known.result c.requires.0 c.requires.1 s c.kept-known.ensures (λ z. absurd (some_not_none z (sym c.is_some.ensures ∙ w.if-is_some.true)))
      | then-is_some-via-else-is_some+then-not-this w ↦ end_known _ _ _ c.args.work.now c.args.at c.kept-known.result c.requires.0 c.requires.1 s c.kept-known.ensures (λ z. is_off w.if-not-this.true)
    ]

pub overflow_add-work : goal.overflow_add-work
overflow_add-work g c = omega (arith, (skips_safe _ _ c.requires.2.1).0, c.requires.0.1, c.requires.2.2, skips_one _ _ c.skip_term-next.ensures c.requires.2.1)

pub overflow_cast-work : goal.overflow_cast-work
overflow_cast-work g c = omega (arith, (skips_safe _ _ c.requires.2.1).0, c.requires.0.1, c.requires.2.2, skips_one _ _ c.skip_term-next.ensures c.requires.2.1)

pub returns : goal.returns
returns g c = (c.skip_term-next.ensures, end_laid _ _ c.requires.0 c.skip_term-next.ensures (omega (arith, c.requires.2.2, skips_one _ _ c.skip_term-next.ensures c.requires.2.1)), λ z. absurd (not_off c.if-not-this.false z))
