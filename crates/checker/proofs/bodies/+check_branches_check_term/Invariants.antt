-- The measures of `check_term` and `check_branches`, the bytes left; what the loop over the branches keeps.
use Prim.Native.Nat.{◌-◌}
use lib.ListN.{length}
use Rattle.checker.specs.Slots.{digit, sort_number}
use Rattle.checker.specs.Bodies.{number_in, place_in}
use Rattle.checker.proofs.bodies.Terms.{Walked}
use Rattle.checker.proofs.bodies.+check_branches_check_term.Given as goal

abbrev pub decreases-check_branches : goal.decreases-check_branches
decreases-check_branches l = length l.rules.file.now - l.start

abbrev pub decreases-check_term : goal.decreases-check_term
decreases-check_term l = length l.rules.file.now - l.at

abbrev pub invariant-check_branches-branches : goal.invariant-check_branches-branches
invariant-check_branches-branches l =
    Walked l.rules.file.now l.rules.table.now.words l.start l.count (digit l.credit) (sort_number l.sort) l.slots l.path l.initial.notes.calls (number_in l.initial.notes.fault) (place_in l.initial.notes.fault)
    l.at (l.count - l.counter) l.seen l.notes.calls (number_in l.notes.fault) (place_in l.notes.fault)
