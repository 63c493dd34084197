-- Lists of Bools as sets. Assumes nothing.
use Prim.Native.Nat.{ℕ, zero, suc, ◌+◌, ◌≤◌, ◌<◌}
use mathlib.Core.Bool.{Bool, true, false}
use mathlib.Core.List.{List, [], ◌∷◌, ◌++◌}
use mathlib.Core.Path.{◌≡◌, refl, sym, ap, ◌∙◌, subst}
use mathlib.Core.Logic.{◌⊎◌, inl, inr}
use native.Mathlib.Omega.{arith}
use native.Mathlib.Decide.{ℕ_discrete}
use lib.ListN.{length, get_or, length-append, get_or-append}
use lib.Seq.{get_or_at}
use Rattle.meaning.specs.Derivation.{Has, here, there}
use Rattle.meaning.specs.Calls.{Distinct, more}
use Rattle.meaning.specs.Sets.{upto, first, how_many, zip}
use Rattle.theory.proofs.Counting.{nowhere, has_inv}
use Rattle.theory.proofs.Passing.{contradiction}

pub upto_length : {A : Type 0} (n : ℕ) (g : ℕ → A) → length (upto n g) ≡ n
unfolding upto
upto_length zero g = refl
upto_length (suc n) g = simp length-append (omega (arith, upto_length n g))

pub upto_at : {A : Type 0} (n : ℕ) (g : ℕ → A) (i : ℕ) (d : A) → i < n → get_or (upto n g) i d ≡ g i
unfolding upto
upto_at zero g i d h = absurd (omega arith)
upto_at (suc n) g i d h = go (ℕ_discrete i n) (λ k. upto_at n g i d k)
  where
    go : Dec (i ≡ n) → (i < n → get_or (upto n g) i d ≡ g i) → get_or (upto n g ++ (g n ∷ [])) i d ≡ g i
    go (yes e) ih = rw e (get_or_at (upto n g) (g n) [] d n (upto_length n g))
    go (no k) ih = get_or-append (upto n g) (g n ∷ []) d i (omega (arith, upto_length n g)) ∙ ih (omega arith)

pub zip_length : (f : Bool → Bool → Bool) (l m : List Bool) → length l ≡ length m → length (zip f l m) ≡ length l
unfolding zip
zip_length f [] m e = refl
zip_length f (a ∷ l) [] e = absurd (omega arith)
zip_length f (a ∷ l) (b ∷ m) e = ap suc (zip_length f l m (omega arith))

pub zip_at : (f : Bool → Bool → Bool) → f false false ≡ false → (l m : List Bool) (i : ℕ) → length l ≡ length m
    → get_or (zip f l m) i false ≡ f (get_or l i false) (get_or m i false)
unfolding zip
zip_at f z [] [] i e = sym z
zip_at f z [] (b ∷ m) i e = absurd (omega arith)
zip_at f z (a ∷ l) [] i e = absurd (omega arith)
zip_at f z (a ∷ l) (b ∷ m) zero e = refl
zip_at f z (a ∷ l) (b ∷ m) (suc i) e = zip_at f z l m i (omega arith)

-- the smallest member
pub first_in : (l : List Bool) → first l < length l → get_or l (first l) false ≡ true
unfolding first
first_in [] h = absurd (omega arith)
first_in (true ∷ l) h = refl
first_in (false ∷ l) h = first_in l (omega arith)

pub first_none : (l : List Bool) → length l ≤ first l → (i : ℕ) → get_or l i false ≡ false
unfolding first
first_none [] h i = refl
first_none (true ∷ l) h i = absurd (omega arith)
first_none (false ∷ l) h zero = refl
first_none (false ∷ l) h (suc i) = first_none l (omega arith) i

-- the members, from number n on
pub members : ℕ → List Bool → List ℕ
members n [] = []
members n (true ∷ l) = n ∷ members (suc n) l
members n (false ∷ l) = members (suc n) l

pub members_length : (n : ℕ) (l : List Bool) → length (members n l) ≡ how_many l
unfolding members how_many
members_length n [] = refl
members_length n (true ∷ l) = ap suc (members_length (suc n) l)
members_length n (false ∷ l) = members_length (suc n) l

pub member_from : (n : ℕ) (l : List Bool) (x : ℕ) → Has x (members n l) → (i : ℕ) × (x ≡ n + i) × (get_or l i false ≡ true)
unfolding members
member_from n [] x h = absurd (nowhere h)
member_from n (true ∷ l) x h = go (has_inv h) (λ k. member_from (suc n) l x k)
  where
    go : (x ≡ n) ⊎ Has x (members (suc n) l) → (Has x (members (suc n) l) → (i : ℕ) × (x ≡ suc n + i) × (get_or l i false ≡ true))
        → (i : ℕ) × (x ≡ n + i) × (get_or (true ∷ l) i false ≡ true)
    go (inl e) ih = (0, omega arith, refl)
    go (inr k) ih = let r = ih k in let e = r.1 in (suc r.0, omega arith, r.2)
member_from n (false ∷ l) x h = let r = member_from (suc n) l x h in let e = r.1 in (suc r.0, omega arith, r.2)

pub member_at : (n : ℕ) (l : List Bool) (i : ℕ) → get_or l i false ≡ true → Has (n + i) (members n l)
unfolding members
member_at n [] i e = let z : ◌≡◌ {A = ℕ} 0 1 = cc in absurd (contradiction z)
member_at n (true ∷ l) zero e = let q : n ≡ n + 0 = omega arith in subst (λ x. Has x (n ∷ members (suc n) l)) q here
member_at n (true ∷ l) (suc i) e = let q : suc n + i ≡ n + suc i = omega arith in subst (λ x. Has x (n ∷ members (suc n) l)) q (there (member_at (suc n) l i e))
member_at n (false ∷ l) zero e = let z : ◌≡◌ {A = ℕ} 0 1 = cc in absurd (contradiction z)
member_at n (false ∷ l) (suc i) e = let q : suc n + i ≡ n + suc i = omega arith in subst (λ x. Has x (members (suc n) l)) q (member_at (suc n) l i e)

pub members_distinct : (n : ℕ) (l : List Bool) → Distinct (members n l)
unfolding members
members_distinct n [] = Distinct.none
members_distinct n (true ∷ l) = more (λ h. let r = member_from (suc n) l n h in let e = r.1 in omega arith) (members_distinct (suc n) l)
members_distinct n (false ∷ l) = members_distinct (suc n) l
