-- Worked months: the definitions' answers on small slices of words. Assumes nothing.
use Rattle.std.specs.Prelude.{ℕ, ◌≡◌, refl, List, [], ◌∷◌, map, replicate}
use Rattle.meaning.specs.Choice.{pick}
use Rattle.month.specs.Month.{Report, runs_of, numbers, among, known, count, counts_of, those, ended, steps_of, frames_of, highest, greatest, lowest, least, within, enough, nine_tenths, figures, refused, month_of}

pub record Case : Type 0 where
  pub words : List ℕ
  pub answer : Report

-- no run; a part of one; a number not in the table; ten runs done, of which one takes far longer, beside one out of budget and one out of range
abbrev pub cases : List Case
cases =
    record { words = []; answer = record { number = 0; counts = replicate 22 0; least = 0; greatest = 0; most = 0; frames = 0 } }
    ∷ record { words = 0 ∷ 5 ∷ []; answer = refused 80 }
    ∷ record { words = 13 ∷ 5 ∷ 1 ∷ []; answer = refused 81 }
    ∷ record { words = 0 ∷ 3 ∷ 1 ∷ 0 ∷ 4 ∷ 2 ∷ 0 ∷ 5 ∷ 1 ∷ 0 ∷ 6 ∷ 1 ∷ 0 ∷ 90 ∷ 1 ∷ 0 ∷ 8 ∷ 1 ∷ 0 ∷ 9 ∷ 1 ∷ 0 ∷ 10 ∷ 1 ∷ 0 ∷ 11 ∷ 1 ∷ 0 ∷ 12 ∷ 1 ∷ 32 ∷ 100 ∷ 9 ∷ 34 ∷ 7 ∷ 1 ∷ []; answer = record { number = 0; counts = 10 ∷ 0 ∷ 0 ∷ 0 ∷ 0 ∷ 0 ∷ 0 ∷ 0 ∷ 0 ∷ 0 ∷ 0 ∷ 0 ∷ 0 ∷ 0 ∷ 0 ∷ 0 ∷ 0 ∷ 0 ∷ 0 ∷ 1 ∷ 0 ∷ 1 ∷ []; least = 3; greatest = 90; most = 12; frames = 2 } }
    ∷ []

pub all_cases : map (λ c. month_of c.words) cases ≡ map (λ c. c.answer) cases
unfolding runs_of numbers among known count counts_of those ended steps_of frames_of highest greatest lowest least within enough nine_tenths figures refused month_of pick
all_cases = refl
