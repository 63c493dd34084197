-- The library's number of four bytes is that of the definitions.
use Rattle.std.proofs.Common.{arith, ◌∙◌}
use Rattle.meaning.specs.Lines.{word_in}
use Rattle.lines.proofs.word.word_at.Goals as goal

pub returns : goal.returns
unfolding word_in
returns c = c.from_be_bytes.ensures ∙ omega arith
