-- The proof of `known_steps`. Assumes nothing.
use Rattle.std.proofs.Common.{false, drop, refl, ap, ◌∙◌, arith}
use Rattle.machine.proofs.step.Tries.{stays, goes_on}
use Rattle.machine.proofs.step.Runs.{reached_start, reached_next, reached_same}
use Rattle.machine.proofs.step.Behind.{step_behind}
use Rattle.machine.proofs.step.known_steps.Goals as goal

pub loop-left-init : goal.loop-left-init
loop-left-init c = (omega arith, refl, refl, reached_start _ _ _ _ _, refl)

pub step-requires : goal.step-requires
step-requires c = (c.loop-left.invariant.3 c.requires).0

pub returns-in-None : goal.returns-in-None
returns-in-None c = let s = stays c.args.rules.file.now c.args.rules.table.now.words c.loop-left.store c.loop-left.cur c.loop-left.work c.step.new.store c.step.new.work c.in-None.is c.step.ensures in (c.loop-left.invariant.0, reached_same c.args.limit c.loop-left.left s.0 s.1 c.loop-left.invariant.3, ap (λ l. drop 4096 l) s.1 ∙ c.loop-left.invariant.4)

pub loop-left-preserved : goal.loop-left-preserved
loop-left-preserved c =
    let s = goes_on c.args.rules.file.now c.args.rules.table.now.words c.loop-left.store c.loop-left.cur c.loop-left.work c.step.new.store c.step.new.work false c.in-Some.next c.in-Some.is c.step.ensures in
    (omega (arith, c.loop-left.invariant.0), c.step.auto.store ∙ c.loop-left.invariant.1, c.step.auto.work ∙ c.loop-left.invariant.2, reached_next c.loop-left-test.true c.loop-left.invariant.0 c.loop-left.invariant.3 s refl, step_behind (c.loop-left.invariant.3 c.requires).0 s ∙ c.loop-left.invariant.4)
