use Rattle.std.proofs.Common.{◌≡◌, ◌+◌, ◌-◌, ◌≤◌, get_or}
use Rattle.machine.specs.StartWords.{all_from}
use Rattle.machine.specs.StartArea.{used_once}
use Rattle.machine.proofs.start.Walk.used_once.Given as goal

abbrev pub invariant-loop-i : goal.invariant-loop-i
invariant-loop-i l = (l.from ≤ l.i) × (all_from (λ k. used_once l.self.work.now (get_or l.self.work.now (1024 + k) 0)) (l.to - l.from) l.from ≡ all_from (λ k. used_once l.self.work.now (get_or l.self.work.now (1024 + k) 0)) (l.to - l.i) l.i)
