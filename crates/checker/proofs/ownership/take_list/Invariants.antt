-- `checker::ownership::take_list` meets its contract. Assumes nothing.
use Prim.Native.Nat.{◌+◌, ◌-◌}
use mathlib.Core.Path.{◌≡◌}
use Rattle.checker.specs.Slots.{digit}
use Rattle.checker.specs.Ownership.{list_of}
use Rattle.checker.proofs.ownership.take_list.Given as goal

abbrev pub invariant-loop-j : goal.invariant-loop-j
invariant-loop-j l =
    list_of l.rules.file.now l.slots l.bound (1 + digit l.modes.owned) l.modes.count l.modes.first l.at 0 l.initial.spent
    ≡ list_of l.rules.file.now l.slots l.bound (1 + digit l.modes.owned) (l.modes.count - l.j) (l.modes.first + l.j) (l.at + l.j) l.earlier l.spent
