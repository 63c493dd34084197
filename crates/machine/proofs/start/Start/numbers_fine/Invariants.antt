use Rattle.std.proofs.Common.{◌≡◌, ◌-◌, length, get_or}
use Rattle.machine.specs.StartWords.{mode_at, number_arg, all_from}
use Rattle.machine.proofs.start.Start.numbers_fine.Given as goal

abbrev pub invariant-loop-i : goal.invariant-loop-i
invariant-loop-i l = all_from (λ k. number_arg (mode_at l.self.rules.file.now l.self.rules.table.now.words k) (get_or l.self.args.now k 0)) (length l.self.args.now) 0 ≡ all_from (λ k. number_arg (mode_at l.self.rules.file.now l.self.rules.table.now.words k) (get_or l.self.args.now k 0)) (length l.self.args.now - l.i) l.i
