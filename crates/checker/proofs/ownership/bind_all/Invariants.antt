-- `checker::ownership::bind_all` meets its contract. Assumes nothing.
use Prim.Native.Nat.{◌+◌, ◌-◌}
use mathlib.Core.Path.{◌≡◌}
use Rattle.checker.specs.Slots.{digit}
use Rattle.checker.specs.Ownership.{laid_of}
use Rattle.checker.proofs.ownership.bind_all.Given as goal

abbrev pub invariant-loop-j : goal.invariant-loop-j
invariant-loop-j l =
    laid_of l.rules.file.now (1 + digit l.modes.owned) l.at l.modes.count l.modes.first l.bound l.initial.slots
    ≡ laid_of l.rules.file.now (1 + digit l.modes.owned) l.at (l.modes.count - l.j) (l.modes.first + l.j) (l.bound + l.j) l.slots
