-- `checker::bodies::spend_taken` meets its contract: of what is fine no fault is noted, and of a fault nothing is spent. Assumes nothing.
use mathlib.Core.Path.{refl, sym}
use Rattle.checker.specs.Bodies.{number_in, place_in}
use Rattle.checker.proofs.ownership.Turns.{kept_none}
use Rattle.checker.proofs.bodies.Telling.{after_none}
use Rattle.checker.proofs.bodies.spend_taken.Goals as goal

pub returns-in-Ok-clause-number : goal.returns-in-Ok-clause-number
returns-in-Ok-clause-number c = rw c.in-Ok.is (sym (after_none (number_in c.args.notes.now.fault) 0 0 0 refl).0)

pub returns-in-Ok-clause-place : goal.returns-in-Ok-clause-place
returns-in-Ok-clause-place c = rw c.in-Ok.is (sym (after_none (number_in c.args.notes.now.fault) (place_in c.args.notes.now.fault) 0 0 refl).1)

pub returns-in-Err-clause-slots : goal.returns-in-Err-clause-slots
returns-in-Err-clause-slots c = rw c.in-Err.is (sym (kept_none c.args.slots.now 0 refl))
