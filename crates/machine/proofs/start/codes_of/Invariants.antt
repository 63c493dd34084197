-- The proof of `codes_of`. Assumes nothing.
use Rattle.std.proofs.Common.{◌≡◌, ℕ, ◌%◌, ◌<◌, length, get_or}
use Rattle.machine.specs.StartWords.{code_from}
use Rattle.machine.proofs.start.codes_of.Given as goal

abbrev pub invariant-loop-i : goal.invariant-loop-i
invariant-loop-i l = (length l.codes ≡ 64) × ((k : ℕ) → k < l.i → (get_or l.codes k 0 ≡ code_from l.rules.file.now (get_or l.rules.table.now.words k 0) 4 0) × (get_or l.rules.table.now.words k 0 % 256 ≡ 255 → ⊥))
