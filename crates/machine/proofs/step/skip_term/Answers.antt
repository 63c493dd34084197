-- The proof of `skip_term`: the terms that are open stand one after the other, up to the byte after the whole term. Assumes nothing.
use Rattle.std.proofs.Common.{refl, subst, arith}
use Rattle.machine.specs.Skips.{Skips, SkipsMany}
use Rattle.machine.proofs.step.Skipping.{skips_safe}
use Rattle.machine.proofs.step.Passing.{first_of, moves_on, pass_over, none_open}
use Rattle.machine.proofs.step.skip_term.Goals as goal

pub loop-p-init : goal.loop-p-init
loop-p-init c = (c.requires.0, c.requires.1, SkipsMany.more refl c.requires.1 (SkipsMany.none refl refl))

pub loop-p-smaller : goal.loop-p-smaller
loop-p-smaller c =
    let first = first_of _ _ c.loop-p.invariant.2 c.loop-p-test.true in
    omega (arith, moves_on _ _ first.1, (skips_safe _ _ first.1).0, c.pass_record-p.ensures.0)

pub loop-p-preserved : goal.loop-p-preserved
loop-p-preserved c =
    let first = first_of _ _ c.loop-p.invariant.2 c.loop-p-test.true in (
      c.loop-p.invariant.0,
      c.loop-p.invariant.1,
      rw (c.pass_record-p.ensures.0, c.pass_record-p.ensures.1) (pass_over _ _ first.1 first.2),
    )

pub returns : goal.returns
returns c =
    let end = none_open _ _ c.loop-p.invariant.2 (omega (arith, c.loop-p-test.false)) in
    subst (λ x. Skips c.args.rules.file.now c.args.rules.table.now.words c.args.at x) end c.loop-p.invariant.1
