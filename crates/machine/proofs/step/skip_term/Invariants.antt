-- The proof of `skip_term`: the terms that are open stand one after the other, up to the byte after the whole term. Assumes nothing.
use Rattle.std.proofs.Common.{ℕ, ◌-◌, length}
use Rattle.machine.specs.Skips.{Skips, SkipsMany}
use Rattle.machine.proofs.step.skip_term.Given as goal

abbrev pub invariant-loop-p : goal.invariant-loop-p
invariant-loop-p l = (next : ℕ) × Skips l.rules.file.now l.rules.table.now.words l.at next × SkipsMany l.rules.file.now l.rules.table.now.words l.p.at l.p.terms next

abbrev pub decreases-loop-p : goal.decreases-loop-p
decreases-loop-p l = length l.rules.file.now - l.p.at
