-- The square that the noted calls of all bodies make, and what the way to its depth needs of a table. Assumes nothing.
use Rattle.std.specs.Prelude.{ℕ, ◌+◌, ◌<◌, false, List, get_or}
use Rattle.meaning.specs.declared.How.{How}
use Rattle.meaning.specs.declared.How.TheVariants.{Never, Tail, Waits}
use Rattle.meaning.specs.Choice.{pick}
use Rattle.meaning.specs.Sets.{upto}
use Rattle.meaning.specs.Calls.{Square}
use Rattle.checker.specs.Bits.{bits_of}

-- how a body calls a function, by the word of its calls: a call that waits wins over a tail call
unfoldable pub way_of : (word callee : ℕ) → How
way_of w g = pick (get_or (bits_of 64 w) g false) Waits (pick (get_or (bits_of 64 w) (32 + g) false) Tail Never)

unfoldable pub row_of : (word : ℕ) → List How
row_of w = upto 32 (way_of w)

unfoldable pub square_of : (words : List ℕ) → Square
square_of words = upto 32 (λ f. row_of (get_or words f 0))

-- a table whose 32 entries have room for one more
abbrev pub Low : List ℕ → Type 0
Low t = (f : ℕ) → f < 32 → get_or t f 0 < 255
