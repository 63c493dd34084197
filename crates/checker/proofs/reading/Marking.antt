-- The mark that the code reads at a place. Assumes nothing.
use Prim.Native.Nat.{ℕ, ◌+◌, ◌≤◌}
use mathlib.Core.Bool.{Bool, true, false}
use mathlib.Core.List.{List}
use mathlib.Core.Path.{◌≡◌, refl, ap, ◌∙◌}
use lib.Dec.{ltb}
use lib.ListN.{length}
use native.Mathlib.Omega.{arith}
use Rattle.meaning.specs.Choice.{pick}
use Rattle.meaning.specs.declared.Mark.{Mark}
use Rattle.meaning.specs.Marks.{place_of, number_of, mark_of, find_mark}
use Rattle.meaning.proofs.Table.{place_below}
use Rattle.standing.specs.Bytes.{mark_at, number_at}
use Rattle.checker.specs.Read.{Next, Fault}
use Rattle.checker.specs.ReadingBytes.{mark_read}

below : (w : ℕ) → find_mark w ≤ 15
unfolding find_mark number_of
below w = place_below (mark_of w)

module _ (f : List ℕ) (at : ℕ) where
  pub marked : (m : Mark) → place_of m ≡ number_at f at → Next (place_of m) ≡ mark_read f at
  unfolding mark_read number_at pick
  marked m e = go (ltb (length f) (at + 2)) refl
    where
      go : (u : Bool) → ltb (length f) (at + 2) ≡ u → Next (place_of m) ≡ mark_read f at
      go true q = let z : place_of m ≡ 16 = e ∙ rw q in absurd (omega (arith, z, place_below m))
      go false q = let z : place_of m ≡ find_mark (mark_at f at) = e ∙ rw q in ap Next z ∙ rw q

  pub unmarked : 16 ≡ number_at f at → Fault 2 (length f) ≡ mark_read f at
  unfolding mark_read number_at pick
  unmarked e = go (ltb (length f) (at + 2)) refl
    where
      go : (u : Bool) → ltb (length f) (at + 2) ≡ u → Fault 2 (length f) ≡ mark_read f at
      go true q = rw q
      go false q = let z : 16 ≡ find_mark (mark_at f at) = e ∙ rw q in absurd (omega (arith, z, below (mark_at f at)))
