-- What is laid is the line of the verdict that `check` ensures.
use Rattle.std.proofs.Common.{}
use Rattle.meaning.specs.Lines.{check_line}
use Rattle.lines.proofs.check_line.Goals as goal

pub returns : goal.returns
unfolding check_line
returns c = rw (c.as_str.ensures.value, c.verdict_line.ensures, c.check.ensures.told) at c.lay.ensures
