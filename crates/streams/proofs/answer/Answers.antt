-- What is written is the line of what was read, which is that of the whole input.
use Rattle.streams.proofs.Answering.{whole_line}
use Rattle.streams.proofs.answer.Goals as goal

pub returns : goal.returns
returns g c same = whole_line _ 65536 same _ _ _ _ _ c.in_ok-n.ensures.first c.write_line.ensures
