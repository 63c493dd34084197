-- The proof of `load`. Assumes nothing.
use Rattle.std.proofs.Common.{refl, arith, length-set}
use Rattle.machine.proofs.frame.Laid.{turn_words, end_words, two_words}
use Rattle.machine.proofs.frame.load.Goals as goal

pub returns-then-k-eq2 : goal.returns-then-k-eq2
returns-then-k-eq2 c = two_words _ _ _ _ _ c.if-k-eq2.true

pub loop-j-preserved : goal.loop-j-preserved
loop-j-preserved c = (omega arith, simp length-set c.loop-j.invariant.1, turn_words _ _ _ _ _ _ _ _ c.loop-j-test.true refl c.loop-j.invariant.2)

pub returns : goal.returns
returns c = end_words _ _ _ _ _ _ _ c.loop-j-test.false c.loop-j.invariant.2
