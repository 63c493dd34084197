-- The records that declare the functions: the FN behind each function's word in the table. Assumes nothing.
use Prim.Native.Nat.{ℕ, ◌+◌, ◌*◌, ◌/◌, ◌%◌, ◌≤◌, ◌<◌}
use mathlib.Core.Bool.{Bool, true, false}
use mathlib.Core.List.{List}
use mathlib.Core.Path.{◌≡◌, refl, sym, ap, ◌∙◌, subst}
use native.Mathlib.Omega.{arith}
use lib.ListN.{length, get_or, set}
use lib.Seq.{get_or-set_same, get_or-set_other}
use lib.Dec.{ltb, eqb}
use borrow.Author.Tests.{eqb-true, eqb-false}
use Rattle.meaning.specs.Choice.{pick}
use Rattle.meaning.specs.Marks.{find_mark}
use Rattle.standing.specs.Bytes.{mark_at, number_at}
use Rattle.checker.specs.Paths.{Head}

fun_mark : (f : List ℕ) (at : ℕ) → number_at f at ≡ 1 → find_mark (mark_at f at) ≡ 1
unfolding number_at pick
fun_mark f at e = go (ltb (length f) (at + 2)) refl
  where
    go : (u : Bool) → ltb (length f) (at + 2) ≡ u → find_mark (mark_at f at) ≡ 1
    go true q = let z : 16 ≡ number_at f at = rw q in absurd (omega arith)
    go false q = let z : number_at f at ≡ find_mark (mark_at f at) = rw q in sym z ∙ e

-- another word of the table is written
pub head_kept : {f d : List ℕ} {g : ℕ} (i w : ℕ) → (64 + g ≡ i → ⊥) → Head f d g → Head f (set d i w) g
head_kept {f} {d} {g} i w n h =
    let e : get_or (set d i w) (64 + g) 0 ≡ get_or d (64 + g) 0 = get_or-set_other d i (64 + g) w 0 n in
    record { place = h.place; mark = h.mark; count = h.count ∙ ap (λ x. x % 256) (sym e); modes = ap (λ x. x / 256) e ∙ h.modes; inside = h.inside }

-- the word of one function more
pub head_more : (f d : List ℕ) (k at w : ℕ) → length d ≡ 128 → k < 32 → number_at f at ≡ 1 → at + 3 ≤ length f → w ≡ get_or f (at + 2) 0 + 256 * (at + 2 + 1) → w % 256 ≡ get_or f (at + 2) 0
    → ((g : ℕ) → g < k → Head f d g) → (g : ℕ) → g < k + 1 → Head f (set d (64 + k) w) g
head_more f d k at w wide low e inside word count heads g l = go (eqb g k) refl
  where
    here : Head f (set d (64 + k) w) k
    here =
        let s : get_or (set d (64 + k) w) (64 + k) 0 ≡ w = get_or-set_same d (64 + k) w 0 (omega arith) in
        let q : w / 256 ≡ at + 3 = omega arith in
        record { place = at; mark = fun_mark f at e; count = sym count ∙ ap (λ x. x % 256) (sym s); modes = ap (λ x. x / 256) s ∙ q; inside = inside }

    go : (b : Bool) → eqb g k ≡ b → Head f (set d (64 + k) w) g
    go true q = subst (λ i. Head f (set d (64 + k) w) i) (sym (eqb-true g k q)) here
    go false q = let n = eqb-false g k q in head_kept (64 + k) w (λ i. n (omega (arith, i))) (heads g (omega arith))
