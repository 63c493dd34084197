-- The proof of `hand_over`. Assumes nothing.
use Rattle.std.proofs.Common.{arith, length-set}
use Rattle.machine.proofs.frame.Laid.{turn_handed, end_gathered}
use Rattle.machine.proofs.frame.hand_over.Goals as goal

pub loop-j-preserved : goal.loop-j-preserved
loop-j-preserved c = let t = turn_handed _ _ _ _ _ _ _ _ _ _ c.loop-j-test.true c.slot-v.ensures (c.requires.3 _ c.loop-j-test.true) c.loop-j.invariant.3 c.loop-j.invariant.2 in (omega arith, simp length-set c.loop-j.invariant.1, t.0, t.1)

pub returns : goal.returns
returns c = end_gathered _ _ _ _ _ _ _ _ _ c.loop-j-test.false c.loop-j.invariant.2
