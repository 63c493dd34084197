-- What stands at a place as a mark: none where the file ends within it. Assumes nothing.
use Prim.Native.Nat.{ℕ, ◌+◌, ◌≤◌, ◌<◌}
use mathlib.Core.List.{List}
use mathlib.Core.Path.{◌≡◌, refl, sym, ap, ◌∙◌}
use native.Mathlib.Omega.{arith}
use Rattle.std.specs.Prelude.{Option, None, Some}
use Rattle.std.specs.Option.{unwrap_or}
use lib.ListN.{length}
use borrow.Author.Tests.{lt-ltb, le-ltb}
use Rattle.meaning.specs.Choice.{pick}
use Rattle.meaning.specs.Marks.{place_of, number_of, mark_of, find_mark}
use Rattle.meaning.specs.declared.Mark.{Mark}
use Rattle.meaning.proofs.Table.{one_place, place_below}
use Rattle.standing.specs.Bytes.{mark_at, number_at, read_number}

pub early : (file : List ℕ) (at : ℕ) → length file < at + 2 → 16 ≡ number_at file at
unfolding number_at pick
early file at h = simp (lt-ltb _ _ h)

pub marked : (file : List ℕ) (at n : ℕ) → at + 2 ≤ length file → n ≡ find_mark (mark_at file at) → n ≡ number_at file at
unfolding number_at pick
marked file at n h e = simp (le-ltb _ _ h) e

pub one_read : (a b : Option Mark) → read_number a ≡ read_number b → a ≡ b
one_read None None e = refl
one_read (Some m) (Some n) e = ap Some (one_place m n e)
one_read None (Some n) e = absurd (omega (arith, e, place_below n))
one_read (Some m) None e = absurd (omega (arith, e, place_below m))

found_below : (w : ℕ) → find_mark w ≤ 15
unfolding find_mark number_of
found_below w = place_below (mark_of w)

-- the mark at a place where the file has both its bytes
pub there : (file : List ℕ) (at : ℕ) (o : Option Mark) {m : Mark} → at + 2 ≤ length file → read_number o ≡ number_at file at → m ≡ unwrap_or o Mark.Other → place_of m ≡ find_mark (mark_at file at)
there file at (Some n) h e d = ap place_of d ∙ e ∙ sym (marked file at _ h refl)
there file at None h e d = absurd (omega (arith, e ∙ sym (marked file at _ h refl), found_below (mark_at file at)))
