-- `Runs::figures` meets its contract. Assumes nothing.
use Rattle.std.proofs.Common.{rules}
use Rattle.month.specs.Month.{steps_of, frames_of, figures}
use Rattle.month.proofs.Runs.figures.Goals as goal

pub nine_tenths-requires : goal.nine_tenths-requires
unfolding steps_of
nine_tenths-requires c = c.greatest-greatest.ensures (λ r. r.steps) (λ x r q k. search rules)

pub returns : goal.returns
unfolding figures steps_of frames_of
returns c = rw (c.counts.ensures, c.least_steps.ensures, c.greatest-greatest.ensures (λ r. r.steps) (λ x r q k. search rules), c.nine_tenths.ensures, c.greatest.ensures (λ r. r.frames) (λ x r q k. search rules))
