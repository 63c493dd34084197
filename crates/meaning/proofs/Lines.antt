-- The lines that the programs print for the table of cases, and for two inputs that are no request. Assumes nothing.
use Rattle.std.specs.Prelude.{[], ◌∷◌, ◌++◌, map, ◌≡◌, refl}
use Rattle.std.proofs.Common.{ap, ◌∙◌}
use Rattle.meaning.specs.Choice.{pick}
use Rattle.meaning.specs.Cases.{told_of, cases}
use Rattle.meaning.specs.Lines.{ascii, digits, digits_within, verdict_line, answer_line, newline, check_line, word_in, words_in, well_formed, request, decoded, zeros, answer_of, run_line, asked, line_for, line_of, printed}
use Rattle.meaning.proofs.Cases.{all_cases}

asked_lines : map (λ c. line_for c.asked) cases ≡ map line_of (map (λ c. told_of c.asked) cases)
unfolding check_line run_line decoded pick well_formed request words_in word_in zeros answer_of told_of
asked_lines = refl

expected_lines : map line_of (map (λ c. c.expected) cases) ≡ map (λ t. ascii t ++ newline) printed
unfolding verdict_line answer_line digits digits_within pick
expected_lines = refl

pub all_lines : map (λ c. line_for c.asked) cases ≡ map (λ t. ascii t ++ newline) printed
all_lines = asked_lines ∙ ap (map line_of) all_cases ∙ expected_lines

-- an input that is empty, and one with a byte too many
pub bad_lines : (run_line [] ≡ ascii "bad input" ++ newline) × (run_line (asked (record { file = []; args = []; store = []; budget = 0 }) ++ (0 ∷ [])) ≡ ascii "bad input" ++ newline)
unfolding run_line decoded pick well_formed word_in
bad_lines = (refl, refl)
