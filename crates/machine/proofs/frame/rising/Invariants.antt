-- The proof of `rising`. Assumes nothing.
use Rattle.std.proofs.Common.{ℕ, ◌+◌, ◌<◌, ◌≤◌}
use Rattle.standing.specs.Bytes.{byte_at}
use Rattle.machine.proofs.frame.rising.Given as goal

abbrev pub invariant-loop-j : goal.invariant-loop-j
invariant-loop-j l = (i : ℕ) → i < l.j → i ≤ byte_at l.file (l.at + i)
