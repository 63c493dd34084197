-- The proof of `fill`. Assumes nothing.
use Rattle.std.proofs.Common.{refl, arith, length-set}
use Rattle.machine.proofs.frame.Laid.{turn_gathered, end_gathered, two_gathered}
use Rattle.machine.proofs.frame.fill.Goals as goal

pub returns-then-k-eq2 : goal.returns-then-k-eq2
returns-then-k-eq2 c = two_gathered _ _ _ _ _ _ _ _ _ c.if-k-eq2.true c.slot.ensures c.slot-then-k-eq2.ensures

pub loop-j-preserved : goal.loop-j-preserved
loop-j-preserved c = (omega arith, simp length-set c.loop-j.invariant.1, turn_gathered _ _ _ _ _ _ _ _ _ _ _ c.loop-j-test.true refl c.slot-in-loop-j.ensures c.loop-j.invariant.2)

pub returns : goal.returns
returns c = end_gathered _ _ _ _ _ _ _ _ _ c.loop-j-test.false c.loop-j.invariant.2
