-- The proof of `find_branch`. Assumes nothing.
use Rattle.std.proofs.Common.{◌≡◌, ℕ, ◌-◌, ◌≤◌, false, not, eqb}
use Rattle.machine.specs.Skips.{SkipsAll, Found, Keeps}
use Rattle.machine.proofs.step.find_branch.Given as goal

abbrev pub invariant-loop : goal.invariant-loop
invariant-loop g l =
    (l.counter ≤ l.count) × ((next : ℕ) × SkipsAll l.rules.file.now l.rules.table.now.words l.p (l.count - l.counter) next × (next ≤ 4096))
    × ((r : ℕ) → Found l.rules.file.now l.rules.table.now.words l.con l.p (l.count - l.counter) r → Found l.rules.file.now l.rules.table.now.words l.con l.at l.count r)
    × Keeps l.rules.file.now l.rules.table.now.words l.initial.work l.work × (not (eqb g.row.WORK_OUT 0) ≡ false → l.work ≡ l.initial.work)
