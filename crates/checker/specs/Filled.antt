-- A list of 32 that is filled from the front. Assumes nothing.
use Rattle.std.specs.Prelude.{ℕ, ◌-◌, List, ◌++◌, replicate}
use Rattle.meaning.specs.Sets.{upto}

-- 32 entries, of which the first n are given by a function
unfoldable pub filled : {A : Type 0} → A → ℕ → (ℕ → A) → List A
filled d n g = upto n g ++ replicate (32 - n) d
