-- What is written is the line of what was read, which is that of the whole input.
use Rattle.std.proofs.Common.{arith}
use Rattle.meaning.specs.Lines.{check_line}
use Rattle.streams.proofs.Answering.{first_bytes}
use Rattle.check_rules.proofs.Long.{one_line}
use Rattle.check_rules.proofs.answer.Goals as goal

pub returns : goal.returns
returns g c = c.answer.ensures (first_bytes check_line 4096 65536 (omega arith) one_line)
