-- A line laid into a room from its first byte on. Assumes nothing.
use Rattle.std.specs.Prelude.{ℕ, ◌≤◌, ◌≡◌, List, length, take}
use Rattle.meaning.specs.Lines.{written}

-- the room holds a whole line from its first byte on, the further bytes stay, and the line's bytes are counted
pub record Line (line old new : List ℕ) (count : ℕ) : Type 0 where
  pub bytes : new ≡ written line old
  pub counted : count ≡ length line
  pub within : count ≤ length new
  pub part : count ≡ length (take count new)
