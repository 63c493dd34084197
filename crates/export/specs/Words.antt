-- A verdict and an answer as words, in the order in which a caller in another language reads them. Assumes nothing.
use Rattle.std.specs.Prelude.{ℕ, ◌≡◌, List, [], ◌∷◌}
use Rattle.meaning.specs.Answers.{Ended, number, Answer, Verdict}

-- flat is 0 with depth and functions reached, stacked 1 with functions reached, refused 2 with number and place; the rest is 0
abbrev pub verdict_words : Verdict → List ℕ
verdict_words (Verdict.Flat depth reached) = 0 ∷ depth ∷ reached ∷ 0 ∷ []
verdict_words (Verdict.Stacked reached) = 1 ∷ reached ∷ 0 ∷ 0 ∷ []
verdict_words (Verdict.Refused number place) = 2 ∷ number ∷ place ∷ 0 ∷ []

-- the number in document 01's table, then value, steps, place and frames
abbrev pub answer_words : Answer → List ℕ
answer_words a = number a.end ∷ a.value ∷ a.steps ∷ a.place ∷ a.frames ∷ []

-- the words are those of a run's answer, and store and work area are as the run leaves them
pub record Ran (run : Ended) (words store work : List ℕ) : Type 0 where
  pub said : words ≡ answer_words run.answer
  pub stored : store ≡ run.store
  pub worked : work ≡ run.work
