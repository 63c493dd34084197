-- A number's low digits as a list of Bools, lowest first: the set that the number's bits stand for. Assumes nothing.
use Rattle.std.specs.Prelude.{ℕ, zero, suc, ◌/◌, ◌%◌, List, [], ◌∷◌, Bool, eqb}

unfoldable pub bits_of : ℕ → ℕ → List Bool
bits_of zero x = []
bits_of (suc d) x = eqb (x % 2) 1 ∷ bits_of d (x / 2)
