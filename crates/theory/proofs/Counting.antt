-- Lists of numbers without repetition. Assumes nothing.
use Prim.Native.Nat.{ℕ, zero, suc, ◌≤◌, ◌<◌}
use mathlib.Core.List.{List, [], ◌∷◌}
use mathlib.Core.Path.{◌≡◌, refl, ap, subst}
use mathlib.Core.Logic.{◌⊎◌, inl, inr}
use native.Mathlib.Omega.{arith}
use native.Mathlib.Decide.{ℕ_discrete}
use lib.ListN.{length}
use Rattle.meaning.specs.Derivation.{Split, left, right, Has, here, there}
use Rattle.meaning.specs.Calls.{Distinct, more}
use Rattle.theory.proofs.Splits.{nothing_left, has_split}

split_length : {x : ℕ} {xs ys : List ℕ} → Split xs (x ∷ []) ys → length xs ≡ suc (length ys)
split_length (left s) = ap (λ l. suc (length l)) (nothing_left s)
split_length (right s) = ap suc (split_length s)

split_other : {x y : ℕ} {xs ys : List ℕ} → Split xs (x ∷ []) ys → Has y xs → (y ≡ x) ⊎ Has y ys
split_other (left s) here = inl refl
split_other {y} (left s) (there h) = inr (subst (λ l. Has y l) (nothing_left s) h)
split_other (right s) here = inr here
split_other (right s) (there h) = elim (split_other s h) [ inl e ↦ inl e | inr g ↦ inr (there g) ]

-- what is distinct and lies in a list is no longer than it
pub no_longer : {xs : List ℕ} → Distinct xs → (ys : List ℕ) → ((x : ℕ) → Has x xs → Has x ys) → length xs ≤ length ys
no_longer Distinct.none ys h = omega arith
no_longer (more {x} {xs} new d) ys h =
    let s = has_split (h x here) in
    omega (arith, split_length s.1, no_longer d s.0 (λ y g. other y g (split_other s.1 (h y (there g)))))
  where
    other : {zs : List ℕ} (y : ℕ) → Has y xs → (y ≡ x) ⊎ Has y zs → Has y zs
    other y g (inl e) = absurd (new (subst (λ z. Has z xs) e g))
    other y g (inr k) = k

pub nowhere : {x : ℕ} → Has x [] → ⊥
nowhere = elim [ ]

pub has_inv : {x y : ℕ} {xs : List ℕ} → Has x (y ∷ xs) → (x ≡ y) ⊎ Has x xs
has_inv here = inl refl
has_inv (there h) = inr h

pub member : (x : ℕ) (xs : List ℕ) → Has x xs ⊎ (Has x xs → ⊥)
member x [] = inr nowhere
member x (y ∷ xs) = go (ℕ_discrete x y) (member x xs)
  where
    go : Dec (x ≡ y) → Has x xs ⊎ (Has x xs → ⊥) → Has x (y ∷ xs) ⊎ (Has x (y ∷ xs) → ⊥)
    go (yes e) m = inl (subst (λ z. Has x (z ∷ xs)) e here)
    go (no n) (inl h) = inl (there h)
    go (no n) (inr k) = inr (λ h. elim (has_inv h) [ inl e ↦ n e | inr g ↦ k g ])

-- the numbers below n
pub numbers : ℕ → List ℕ
numbers zero = []
numbers (suc n) = n ∷ numbers n

pub numbers_length : (n : ℕ) → length (numbers n) ≡ n
unfolding numbers
numbers_length zero = refl
numbers_length (suc n) = ap suc (numbers_length n)

pub in_numbers : (n x : ℕ) → x < n → Has x (numbers n)
unfolding numbers
in_numbers zero x h = absurd (omega arith)
in_numbers (suc n) x h = go (ℕ_discrete x n) (λ k. in_numbers n x k)
  where
    go : Dec (x ≡ n) → (x < n → Has x (numbers n)) → Has x (n ∷ numbers n)
    go (yes e) ih = subst (λ z. Has x (z ∷ numbers n)) e here
    go (no k) ih = there (ih (omega arith))
