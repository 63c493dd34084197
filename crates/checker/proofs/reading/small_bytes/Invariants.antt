-- What is left of the bytes comes to what all of them come to. Assumes nothing.
use Prim.Native.Nat.{◌-◌, ◌≤◌}
use lib.ListN.{length}
use mathlib.Core.Path.{◌≡◌}
use Rattle.checker.specs.ReadingBytes.{small_bytes}
use Rattle.checker.proofs.reading.small_bytes.Given as goal

abbrev pub invariant-loop-place : goal.invariant-loop-place
invariant-loop-place l = (l.place ≤ length l.file) × (small_bytes l.fn.count l.file l.fn.at l.greatest ≡ small_bytes (l.end - l.place) l.file l.place l.greatest)
