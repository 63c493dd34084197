use Rattle.std.proofs.Common.{◌+◌, ◌-◌}
use Rattle.machine.specs.StartWords.{trees_fine}
use Rattle.machine.specs.StartArea.{fields_at}
use Rattle.machine.specs.StartWalk.{area_of}
use Rattle.machine.proofs.start.Goes.{Going}
use Rattle.machine.proofs.start.Walk.name_fields.Given as goal

abbrev pub invariant-loop-w : goal.invariant-loop-w
invariant-loop-w l =
    let a = l.initial.self in
    Going a l.self (trees_fine a.codes.now a.store.now 4 l.bits l.at) (trees_fine a.codes.now a.store.now (4 - l.w-index) l.rest (l.at + l.w-index)) (fields_at a.codes.now a.store.now a.base 4 l.bits l.at (area_of a)) (fields_at a.codes.now a.store.now a.base (4 - l.w-index) l.rest (l.at + l.w-index) (area_of l.self))
