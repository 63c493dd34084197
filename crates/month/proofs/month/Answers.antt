-- `month` meets its contract. Assumes nothing.
use Prim.Native.Nat.{ℕ, ◌≤◌, ◌%◌}
use mathlib.Core.Path.{◌≡◌, refl}
use mathlib.Core.Bool.{Bool, true, false}
use mathlib.Core.List.{List}
use lib.Dec.{ltb, eqb}
use borrow.Author.Tests.{eq-eqb, le-ltb, ltb-false}
use Rattle.std.proofs.Common.{length}
use Rattle.std.proofs.lemmas.Bool.{eqb-true, false≢true}
use Rattle.std.proofs.lemmas.Result.{err_from_is_err_and}
use Rattle.meaning.specs.Choice.{pick}
use Rattle.month.specs.Month.{runs_of, known, figures, refused, month_of}
use Rattle.month.proofs.month.Goals as goal

wrong_length : (words : List ℕ) → ((length words ≤ 12288) × (length words % 3 ≡ 0) → ⊥) → refused 80 ≡ month_of words
unfolding month_of pick
wrong_length words h = go (ltb 12288 (length words)) refl (eqb (length words % 3) 0) refl
  where
    go : (a : Bool) → ltb 12288 (length words) ≡ a → (b : Bool) → eqb (length words % 3) 0 ≡ b → refused 80 ≡ month_of words
    go true e b f = rw e
    go false e true f = absurd (h (ltb-false 12288 (length words) e, eqb-true (length words % 3) 0 f))
    go false e false f = rw (e, f)

whole : (words : List ℕ) → length words ≤ 12288 → length words % 3 ≡ 0 → month_of words ≡ pick (known (runs_of words)) (figures (runs_of words)) (refused 81)
unfolding month_of pick
whole words h k = rw (le-ltb 12288 (length words) h, eq-eqb (length words % 3) 0 k)

pub returns-in_err-runs : goal.returns-in_err-runs
returns-in_err-runs c = let p = err_from_is_err_and c.from_residual.result c.from_residual.ensures.1 in rw (p.1, p.2, c.in_err-runs.ensures.refused) (wrong_length c.args.runs.now (λ h. false≢true (c.in_err-runs.ensures.whole.1 h)))

pub returns-then-not-all_known : goal.returns-then-not-all_known
unfolding pick
returns-then-not-all_known c = let q = c.in_ok-runs.ensures.whole.0 refl in rw (whole c.args.runs.now q.0 q.1, ← c.in_ok-runs.ensures.found, ← c.if-not-all_known.ensures)

pub returns : goal.returns
unfolding pick
returns c = let q = c.in_ok-runs.ensures.whole.0 refl in rw (c.figures.ensures, whole c.args.runs.now q.0 q.1, ← c.in_ok-runs.ensures.found, ← c.if-not-all_known.ensures)
