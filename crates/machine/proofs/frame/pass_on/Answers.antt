-- The proof of `pass_on`. Assumes nothing.
use Rattle.std.proofs.Common.{arith}
use Rattle.machine.proofs.frame.Laid.{gathered_laid, two_gathered}
use Rattle.machine.proofs.frame.pass_on.Goals as goal

pub returns-then-n-eq2 : goal.returns-then-n-eq2
returns-then-n-eq2 c = two_gathered _ _ _ _ _ _ _ _ _ c.if-n-eq2.true c.slot-first.ensures c.slot-second.ensures

pub returns : goal.returns
returns c = gathered_laid _ _ _ _ _ _ c.requires.2 c.requires.1 (omega arith) c.gather-values.ensures c.copy_from_slice.ensures.after
