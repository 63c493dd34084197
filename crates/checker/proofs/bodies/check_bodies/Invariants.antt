-- What is read, noted and left behind so many bodies.
use Rattle.checker.specs.Opening.{Bodied}
use Rattle.checker.specs.Bodies.{number_in, place_in}
use Rattle.checker.proofs.bodies.Filing.{Left}
use Rattle.checker.proofs.bodies.check_bodies.Given as goal

abbrev pub invariant-loop-f : goal.invariant-loop-f
invariant-loop-f l = Bodied l.file l.table.words l.fn.header.count l.f l.at × Left l.file l.calls l.f (number_in l.fault) (place_in l.fault)
