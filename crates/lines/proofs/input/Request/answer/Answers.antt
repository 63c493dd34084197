-- The run is that of the request's parts.
use Rattle.std.proofs.Common.{arith, refl, ◌∙◌}
use Rattle.meaning.specs.Lines.{zeros}
use Rattle.lines.proofs.Requests.{answer_in, same_run, first_words}
use Rattle.lines.proofs.input.Request.answer.Goals as goal

pub returns : goal.returns
unfolding zeros
returns c =
    rw (← c.self.view_is)
    (answer_in _ _ _ _
    (c.run.ensures.answered ∙ same_run _ _
    (first_words _ _ _ _ (omega (arith, c.self.invariant.0)) c.copy_words.ensures)
    (first_words _ _ _ _ (omega (arith, c.self.invariant.1)) c.copy_words-2.ensures)
    refl))
