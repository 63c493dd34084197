-- The pieces one behind the other are the line of the definitions.
use Rattle.std.proofs.Common.{◌≡◌, ℕ, List, ◌∷◌, ◌++◌, refl, ◌∙◌, append_assoc}
use Rattle.meaning.specs.Lines.{verdict_line, ascii, newline}
use Rattle.lines.proofs.text.verdict_line.Goals as goal
use Rattle.lines.proofs.text.verdict_line.Goals.{in-Ok, in-Err}

-- the line of a refusal, by the digits of its number and of its place
refused : (d p : List ℕ) → (((ascii "refused " ++ d) ++ ascii " at ") ++ p) ++ newline ≡ (ascii "refused " ++ d ++ (32 ∷ 97 ∷ 116 ∷ 32 ∷ p)) ++ newline
refused d p = simp append_assoc

pub returns : goal.returns
unfolding verdict_line
returns c =
    c.push_str.ensures.bytes ∙ elim c.match-verdict.branch [
      | in-Ok w ↦ rw (w.line-is, w.push_shape.ensures.bytes, w.in-Ok.is) refl
      | in-Err w ↦ rw (w.line-is, w.push_field-in-Err.ensures.bytes, w.push_field.ensures.bytes, c.new-line.ensures, w.number.ensures, w.in-Err.is) (refused _ _)
    ]
