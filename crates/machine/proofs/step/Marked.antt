-- A mark by its place in the table, and the byte after a record's fixed fields. Assumes nothing.
use Rattle.std.proofs.Common.{◌≡◌, ℕ, ◌+◌, List, sym, refl, ap, ◌∙◌, arith}
use Rattle.machine.specs.Layout.{Top}
use Rattle.machine.specs.Skips.{Then, past, then_at, then_of}
use Rattle.machine.specs.Steps.{StepsAt}
use Rattle.meaning.specs.declared.Mark.{Mark}
use Rattle.meaning.specs.declared.MarkRow.{MarkRow}
use Rattle.standing.specs.Bytes.{mark_at}
use Rattle.meaning.proofs.Table.{one_place}
use Rattle.meaning.specs.Marks.{place_of, row_at, number_of, mark_of, find_mark}

pub marked : (w : ℕ) {m : Mark} → place_of m ≡ find_mark w → m ≡ mark_of w
unfolding find_mark number_of
marked w {m} e = one_place m (mark_of w) e

pub past_is : (k : Mark) {n : ℕ} → (row_at (number_of k)).fields ≡ n → (p : ℕ) → past k p ≡ p + (2 + n)
unfolding past
past_is k {n} e p = omega (arith, e)

-- what follows a node, by its mark
pub followed : (bytes decl : List ℕ) (at : ℕ) {m k : Mark} → m ≡ mark_of (mark_at bytes at) → m ≡ k → then_of bytes decl at ≡ then_at k bytes decl at
unfolding then_of
followed bytes decl at e f = ap (λ x. then_at x bytes decl at) (sym e ∙ f)

pub past_row : (at : ℕ) {row : MarkRow} {m k : Mark} {n : ℕ} → row ≡ row_at (place_of m) → n ≡ row.fields → m ≡ k → at + 2 + n ≡ past k at
unfolding past number_of
past_row at r n f = ap (λ x. at + 2 + x) (n ∙ ap (λ x. x.fields) r ∙ ap (λ x. (row_at (place_of x)).fields) f)

-- a mark that is none of those that something else follows
pub leaf_follows : (k : Mark) (bytes decl : List ℕ) (at : ℕ) → (k ≡ Mark.AT → ⊥) → (k ≡ Mark.MK → ⊥) → (k ≡ Mark.CL → ⊥) → (k ≡ Mark.TL → ⊥) → (k ≡ Mark.OP → ⊥) → (k ≡ Mark.LK → ⊥) → (k ≡ Mark.BR → ⊥) → (k ≡ Mark.NU → ⊥) → (k ≡ Mark.AR → ⊥) → (k ≡ Mark.IF → ⊥) → then_at k bytes decl at ≡ Then.Leaf (past k at)
leaf_follows Mark.CN bytes decl at a b c d e f g h i j = refl
leaf_follows Mark.FN bytes decl at a b c d e f g h i j = refl
leaf_follows Mark.BD bytes decl at a b c d e f g h i j = refl
leaf_follows Mark.ND bytes decl at a b c d e f g h i j = refl
leaf_follows Mark.GV bytes decl at a b c d e f g h i j = refl
leaf_follows Mark.AT bytes decl at a b c d e f g h i j = absurd (a refl)
leaf_follows Mark.MK bytes decl at a b c d e f g h i j = absurd (b refl)
leaf_follows Mark.CL bytes decl at a b c d e f g h i j = absurd (c refl)
leaf_follows Mark.TL bytes decl at a b c d e f g h i j = absurd (d refl)
leaf_follows Mark.OP bytes decl at a b c d e f g h i j = absurd (e refl)
leaf_follows Mark.LK bytes decl at a b c d e f g h i j = absurd (f refl)
leaf_follows Mark.BR bytes decl at a b c d e f g h i j = absurd (g refl)
leaf_follows Mark.NU bytes decl at a b c d e f g h i j = absurd (h refl)
leaf_follows Mark.AR bytes decl at a b c d e f g h i j = absurd (i refl)
leaf_follows Mark.IF bytes decl at a b c d e f g h i j = absurd (j refl)
leaf_follows Mark.Other bytes decl at a b c d e f g h i j = refl

-- a mark of no node: nothing is done
pub no_node : (k : Mark) (bytes decl store : List ℕ) (x : Top) → (k ≡ Mark.GV → ⊥) → (k ≡ Mark.AT → ⊥) → (k ≡ Mark.MK → ⊥) → (k ≡ Mark.CL → ⊥) → (k ≡ Mark.TL → ⊥) → (k ≡ Mark.OP → ⊥) → (k ≡ Mark.LK → ⊥) → (k ≡ Mark.NU → ⊥) → (k ≡ Mark.AR → ⊥) → (k ≡ Mark.IF → ⊥) → StepsAt k bytes decl store x store x
no_node Mark.CN bytes decl store x a b c d e f g h i j = (refl, refl)
no_node Mark.FN bytes decl store x a b c d e f g h i j = (refl, refl)
no_node Mark.BD bytes decl store x a b c d e f g h i j = (refl, refl)
no_node Mark.ND bytes decl store x a b c d e f g h i j = (refl, refl)
no_node Mark.GV bytes decl store x a b c d e f g h i j = absurd (a refl)
no_node Mark.AT bytes decl store x a b c d e f g h i j = absurd (b refl)
no_node Mark.MK bytes decl store x a b c d e f g h i j = absurd (c refl)
no_node Mark.CL bytes decl store x a b c d e f g h i j = absurd (d refl)
no_node Mark.TL bytes decl store x a b c d e f g h i j = absurd (e refl)
no_node Mark.OP bytes decl store x a b c d e f g h i j = absurd (f refl)
no_node Mark.LK bytes decl store x a b c d e f g h i j = absurd (g refl)
no_node Mark.BR bytes decl store x a b c d e f g h i j = (refl, refl)
no_node Mark.NU bytes decl store x a b c d e f g h i j = absurd (h refl)
no_node Mark.AR bytes decl store x a b c d e f g h i j = absurd (i refl)
no_node Mark.IF bytes decl store x a b c d e f g h i j = absurd (j refl)
no_node Mark.Other bytes decl store x a b c d e f g h i j = (refl, refl)
