use Rattle.std.proofs.Common.{◌+◌, ◌-◌, ◌≤◌}
use Rattle.machine.specs.StartArea.{drain_at, drain_fine}
use Rattle.machine.specs.StartWalk.{area_of}
use Rattle.machine.proofs.start.Goes.{Going}
use Rattle.machine.proofs.start.Walk.drain.Given as goal

abbrev pub invariant-loop-head : goal.invariant-loop-head
invariant-loop-head l =
    let a = l.initial.self in
    (l.from ≤ l.head) × Going a l.self (drain_fine a.codes.now a.store.now a.base 1024 l.from (area_of a)) (drain_fine a.codes.now a.store.now a.base (1024 + l.from - l.head) l.head (area_of l.self)) (drain_at a.codes.now a.store.now a.base 1024 l.from (area_of a)) (drain_at a.codes.now a.store.now a.base (1024 + l.from - l.head) l.head (area_of l.self))
