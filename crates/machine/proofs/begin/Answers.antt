-- The proof of `begin`. Assumes nothing.
use Rattle.machine.proofs.Running.{begin_refused, begin_begun, begin_ran}
use Rattle.machine.proofs.begin.Goals as goal

pub returns-in-Err-clause-answered : goal.returns-in-Err-clause-answered
returns-in-Err-clause-answered c = begin_refused c.requires _ _ _ c.in-Err.ensures.meant c.start_answer.ensures.behind c.wipe.ensures

pub execute-ran-requires : goal.execute-ran-requires
execute-ran-requires c = begin_begun c.requires _ c.in_default.ensures.meant c.start_answer.auto.work c.clear.ensures

pub returns-clause-answered : goal.returns-clause-answered
returns-clause-answered c = begin_ran c.requires _ _ _ c.execute-ran.result c.in_default.ensures.meant c.start_answer.auto.work c.start_answer.ensures.behind c.clear.ensures c.execute-ran.ensures.0 c.execute-ran.ensures.1 c.wipe-2.ensures
