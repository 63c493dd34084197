-- What a word that is not malformed says of the cell that it names. Assumes nothing.
use Rattle.std.proofs.Common.{◌≡◌, ℕ, ◌+◌, ◌-◌, ◌*◌, ◌<◌, ◌≤◌, true, false, ltb, leb, List, length, get_or, ap, ◌∙◌, ⊎_elim, arith, ltb-false, le-leb, leb-false}
use mathlib.Core.Bool.{false≢true}
use Rattle.meaning.specs.Choice.{pick}
use Rattle.theory.proofs.StartCounting.{bool?}
use Rattle.machine.specs.StartWords.{cell_fine, word_fine}

module _ (codes store : List ℕ) where
  -- it lies in the store, and its constructor is declared
  pub fine_cell : (x : ℕ) → word_fine codes store (65536 + x) ≡ true → (5 * x + 5 ≤ length store) × (get_or store (5 * x) 0 < length codes)
  unfolding word_fine cell_fine pick
  fine_cell x f =
      let a : leb 65536 (65536 + x) ≡ true = le-leb 65536 (65536 + x) (omega arith) in
      let b : 65536 + x - 65536 ≡ x = omega arith in
      ⊎_elim
      (λ (p : ltb (length store) (5 * x + 5) ≡ true). let z : false ≡ true = rw (a, b, p) at f in absurd (false≢true z))
      (λ (p : ltb (length store) (5 * x + 5) ≡ false).
      ⊎_elim
      (λ (q : leb (length codes) (get_or store (5 * x) 0) ≡ true). let z : false ≡ true = rw (a, b, p, q) at f in absurd (false≢true z))
      (λ (q : leb (length codes) (get_or store (5 * x) 0) ≡ false). (ltb-false (length store) (5 * x + 5) p, leb-false (length codes) (get_or store (5 * x) 0) q))
      (bool? (leb (length codes) (get_or store (5 * x) 0))))
      (bool? (ltb (length store) (5 * x + 5)))

  pub word_small : (w : ℕ) → length store ≤ 5120 → 65536 ≤ w → word_fine codes store w ≡ true → w - 65536 < 1024
  word_small w h p f =
      let e : 65536 + (w - 65536) ≡ w = omega arith in
      omega (arith, (fine_cell (w - 65536) (ap (word_fine codes store) e ∙ f)).0)
