use Rattle.std.proofs.Common.{◌≡◌, ◌+◌, ◌-◌}
use Rattle.machine.specs.StartWords.{numbers_fine}
use Rattle.machine.proofs.start.numbers_in.Given as goal

abbrev pub invariant-loop-w : goal.invariant-loop-w
invariant-loop-w l = numbers_fine l.store 4 l.bits l.at ≡ numbers_fine l.store (4 - l.w-index) l.rest (l.at + l.w-index)
