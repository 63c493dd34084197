-- What is laid is the line of what the input asks for.
use Rattle.lines.proofs.Requests.{line_of_none, line_of_some}
use Rattle.lines.proofs.run_line.Goals as goal

pub returns-in_default : goal.returns-in_default
returns-in_default c = rw (line_of_none _ (rw c.in_default.is at c.parse.ensures)) at c.lay.ensures

pub returns : goal.returns
returns c = rw (c.as_str.ensures.value, c.answer_line.ensures, c.answer.ensures, line_of_some _ _ (rw c.in-Some.is at c.parse.ensures)) at c.lay-2.ensures
