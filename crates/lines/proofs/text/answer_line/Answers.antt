-- The pieces one behind the other are the line of the definitions.
use Rattle.std.proofs.Common.{◌∙◌, append_assoc}
use Rattle.meaning.specs.Lines.{answer_line}
use Rattle.lines.proofs.Digits.{zero_digits}
use Rattle.lines.proofs.text.answer_line.Goals as goal
use Rattle.lines.proofs.text.answer_line.Goals.{in-Ok, in-Err}

pub returns : goal.returns
unfolding answer_line
returns c =
    c.push_str.ensures.bytes ∙ elim c.match-answer.branch [
      | in-Ok w ↦ rw (w.line-is, w.push_field-in-Ok-4.ensures.bytes, w.push_field-in-Ok-3.ensures.bytes, w.push_field-in-Ok-2.ensures.bytes, w.push_field-in-Ok.ensures.bytes, w.push_field.ensures.bytes, c.new-line.ensures, w.number.ensures, w.value.ensures, w.in-Ok.is) (simp append_assoc)
      | in-Err w ↦ rw (w.line-is, w.push_field-in-Err-3.ensures.bytes, w.push_field-in-Err-2.ensures.bytes, w.push_field-in-Err.ensures.bytes, c.new-line.ensures, w.number-in-Err.ensures, w.in-Err.is) (simp (append_assoc, zero_digits))
    ]
