-- The rounds of a table of longest walks: an entry grows by one a round at most, and behind a round that changes nothing no round does.
-- Assumes nothing.
use borrow.Author.Tests.{eq-eqb}
use Prim.Native.Nat.{ℕ, zero, suc, ◌+◌, ◌-◌, ◌≤◌, ◌<◌, max}
use mathlib.Core.Bool.{Bool, true, false}
use mathlib.Core.List.{List}
use mathlib.Core.Path.{◌≡◌, refl, sym, ap, ◌∙◌}
use native.Mathlib.Omega.{arith}
use native.Mathlib.Numerals.{add-one}
use lib.ListN.{length, get_or, get_or-replicate}
use lib.Seq.{ext_get_or}
use Rattle.meaning.specs.declared.How.{How}
use Rattle.meaning.specs.declared.How.TheVariants.{Never, Tail, Waits}
use Rattle.meaning.specs.Calls.{Square, entry, through, best, relax, rounds, same, flat, stacked, settle}
use Rattle.theory.proofs.Bools.{upto_length, upto_at}
use Rattle.theory.proofs.Depth.{same_all}

pub best_more : (k : ℕ) (sq : Square) (f : ℕ) (t : List ℕ) → best (k + 1) sq f t ≡ max (best k sq f t) (through (entry sq f k) (get_or t k 0))
unfolding best
best_more k sq f t = rw (add-one k)

through_low : (h : How) (x n : ℕ) → x ≤ n → through h x ≤ suc n
through_low Never x n l = omega arith
through_low Tail x n l = omega arith
through_low Waits x n l = omega arith

best_low : (k : ℕ) (sq : Square) (f : ℕ) (t : List ℕ) (n : ℕ) → ((g : ℕ) → g < k → get_or t g 0 ≤ n) → best k sq f t ≤ suc n
unfolding best
best_low zero sq f t n h = omega arith
best_low (suc k) sq f t n h = omega (arith, best_low k sq f t n (λ g l. h g (omega arith)), through_low (entry sq f k) (get_or t k 0) n (h k (omega arith)))

same_self : (k : ℕ) (a : List ℕ) → same k a a ≡ true
unfolding same
same_self zero a = refl
same_self (suc k) a = rw (eq-eqb (get_or a k 0) (get_or a k 0) refl) (same_self k a)

module _ (sq : Square) (seen : List Bool) where
  -- what a round makes of a table at a function
  abbrev pub next : List ℕ → ℕ → ℕ
  next t f = elim (get_or seen f false) as (λ _. ℕ) [ true ↦ best 32 sq f t | false ↦ 0 ]

  next_low : (t : List ℕ) (n : ℕ) → ((g : ℕ) → g < 32 → get_or t g 0 ≤ n) → (f : ℕ) → next t f ≤ suc n
  next_low t n h f = go (get_or seen f false)
    where
      go : (b : Bool) → elim b as (λ _. ℕ) [ true ↦ best 32 sq f t | false ↦ 0 ] ≤ suc n
      go true = best_low 32 sq f t n h
      go false = omega arith

  rounds_length : (k : ℕ) → length (rounds k sq seen) ≡ 32
  unfolding rounds relax
  rounds_length zero = refl
  rounds_length (suc k) = upto_length 32 (next (rounds k sq seen))

  pub rounds_low : (k f : ℕ) → f < 32 → get_or (rounds k sq seen) f 0 ≤ k
  unfolding rounds relax
  rounds_low zero f l = omega (arith, get_or-replicate {A = ℕ} 32 f 0 0 l)
  rounds_low (suc k) f l = omega (arith, upto_at 32 (next (rounds k sq seen)) f 0 l, next_low (rounds k sq seen) k (rounds_low k) f)

  module _ (k n : ℕ) (e : rounds (suc k) sq seen ≡ rounds k sq seen) where
    steady : (m j : ℕ) → j ≡ m + k → rounds j sq seen ≡ rounds k sq seen
    unfolding rounds
    steady zero j q = let p : j ≡ k = omega arith in rw p
    steady (suc m) j q = let p : j ≡ suc (m + k) = omega arith in rw p (ap (relax sq seen) (steady m (m + k) refl) ∙ e)

    pub flat_at : k ≤ n → settle sq seen n (rounds n sq seen) ≡ flat (suc (get_or (rounds k sq seen) 0 0)) n
    unfolding settle rounds
    flat_at l = let t = steady (n - k) n (omega arith) in rw t (rw (e, same_self 32 (rounds k sq seen), settle))

  pub stacked_at : (k : ℕ) → (rounds (suc k) sq seen ≡ rounds k sq seen → ⊥) → settle sq seen k (rounds k sq seen) ≡ stacked k
  unfolding settle rounds
  stacked_at k h = go (same 32 (rounds (suc k) sq seen) (rounds k sq seen)) refl
    where
      go : (b : Bool) → same 32 (rounds (suc k) sq seen) (rounds k sq seen) ≡ b → settle sq seen k (rounds k sq seen) ≡ stacked k
      go true e = absurd (h (ext_get_or 0 _ _ (rounds_length (suc k) ∙ sym (rounds_length k)) (λ f l. same_all 32 _ _ e f (omega (arith, rounds_length (suc k))))))
      go false e = rw (e, settle)
