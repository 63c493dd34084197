-- The bytes that are written are those of the line.
use Rattle.lines.proofs.Writing.{line_bytes}
use Rattle.streams.proofs.Answering.{same_text}
use Rattle.streams.proofs.write_line.Goals as goal

pub returns : goal.returns
returns g c = same_text _ _ _ (line_bytes c.lay-count.ensures) c.write_all.ensures.bytes
