-- The room begins with the line, and goes on as it was.
use Rattle.std.proofs.Common.{arith}
use Rattle.lines.proofs.Writing.{line_laid}
use Rattle.lines.proofs.lay.Goals as goal

pub returns : goal.returns
returns c = rw (c.copy_from_slice.ensures.after, c.as_bytes-bytes.ensures.value) (line_laid c.args.line.now c.args.out.now (omega (arith, c.requires, c.told-out)))
