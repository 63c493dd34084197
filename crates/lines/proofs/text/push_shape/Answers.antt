-- The pieces one behind the other are the text of the definitions.
use Rattle.std.proofs.Common.{append_assoc}
use Rattle.meaning.specs.Lines.{verdict_line}
use Rattle.lines.proofs.text.push_shape.Goals as goal

pub returns-in-Flat-clause-bytes : goal.returns-in-Flat-clause-bytes
unfolding verdict_line
returns-in-Flat-clause-bytes c = rw (c.push_field-in-Flat.ensures.bytes, c.push_field.ensures.bytes, c.requires, c.in-Flat.is) (simp append_assoc)

pub returns-in-Stacked-clause-bytes : goal.returns-in-Stacked-clause-bytes
unfolding verdict_line
returns-in-Stacked-clause-bytes c = rw (c.push_field-in-Stacked.ensures.bytes, c.requires, c.in-Stacked.is) (simp append_assoc)
