-- The inputs whose line needs their first bytes alone. Assumes nothing.
use Rattle.std.specs.Prelude.{◌≡◌, ℕ, List, take}

-- an input that does not fit the buffer of 65,536 bytes has the line of its first bytes
abbrev pub SameWhenCut : (List ℕ → List ℕ) → Type 0
SameWhenCut text = (input : List ℕ) → text (take 65536 input) ≡ text input
