-- A line laid over the front of a room, and the bytes that are counted there. Assumes nothing.
use Rattle.std.proofs.Common.{◌≡◌, ℕ, ◌≤◌, List, ◌++◌, arith, length, take, drop, length-append, refl, sym, ap, ◌∙◌}
use lib.Seq.{take_at, length-take-le}
use Rattle.meaning.specs.Lines.{written}
use Rattle.lines.specs.Writing.{Line}

-- a line laid over the front
pub line_laid : (line old : List ℕ) → length line ≤ length old → Line line old (line ++ drop (length line) old) (length line)
unfolding written
line_laid line old h =
    let within : length line ≤ length (line ++ drop (length line) old) = simp length-append (omega arith) in
    record { bytes = refl; counted = refl; within = within; part = sym (length-take-le _ _ within) }

-- the bytes counted are the line's
pub line_bytes : {line old new : List ℕ} {count : ℕ} → Line line old new count → take count new ≡ line
unfolding written
line_bytes {line} {old} {new} {count} p = ap (take count) p.bytes ∙ take_at line (drop (length line) old) count (sym p.counted)
