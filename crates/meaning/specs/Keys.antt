-- How a mark is found in the table: by a key that is another for each of its marks. Worked out, not believed: the code's `find_mark` promises
-- that of Marks. Assumes nothing.
use Rattle.std.specs.Prelude.{ℕ, ◌+◌, ◌*◌, ◌/◌, ◌%◌, true, false, List, [], ◌∷◌, eqb}
use Rattle.meaning.specs.declared.Mark.{Mark}
use Rattle.meaning.specs.Marks.{names, place_of, code}

-- the first letter and four times the second, below 64
abbrev pub key_of : (mark : ℕ) → ℕ
key_of w = (w / 256 + w % 256 * 4) % 64

unfoldable pub place_in : List Mark → (key : ℕ) → ℕ
place_in [] k = 15
place_in (m ∷ ms) k = elim (eqb k (key_of (code m))) [ true ↦ place_of m | false ↦ place_in ms k ]

-- the place of the mark with a key, 15 for none
unfoldable pub by_key : (key : ℕ) → ℕ
by_key k = place_in names k
