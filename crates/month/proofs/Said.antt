-- No two answers of a month say the same. Assumes nothing.
use mathlib.Core.Path.{◌≡◌, refl, sym, ap, ◌∙◌}
use lib.Dec.{eqb}
use Rattle.std.proofs.Common.{Result, Ok, Err}
use Rattle.meaning.specs.Choice.{pick}
use Rattle.month.specs.declared.Summary.{Summary}
use Rattle.month.specs.declared.Refusal.{Refusal}
use Rattle.month.specs.declared.Refusal.TheVariants.{WrongLength, UnknownNumber}
use Rattle.month.specs.Month.{Report, refused, said}

-- the answer of which a report is said
meant : Report → Result Summary Refusal
meant r = pick (eqb r.number 80) (Err WrongLength) (pick (eqb r.number 81) (Err UnknownNumber) (Ok (record { counts = r.counts; least = r.least; greatest = r.greatest; most = r.most; frames = r.frames })))

said_back : (r : Result Summary Refusal) → meant (said r) ≡ r
unfolding meant pick refused
said_back (Ok s) = refl
said_back (Err WrongLength) = refl
said_back (Err UnknownNumber) = refl

pub said_once : (r s : Result Summary Refusal) → said r ≡ said s → r ≡ s
said_once r s e = sym (said_back r) ∙ ap meant e ∙ said_back s
