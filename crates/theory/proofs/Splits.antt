-- Laws of `Split` and `Has`. Assumes nothing.
use Prim.Native.Nat.{ℕ}
use mathlib.Core.List.{List, [], ◌∷◌, ◌++◌}
use mathlib.Core.Path.{◌≡◌, refl, ap}
use mathlib.Core.Logic.{◌⊎◌, inl, inr}
use Rattle.meaning.specs.Derivation.{Split, left, right, Has, here, there}

module _ {A : Type 0} where
  pub all_right : (Γ : List A) → Split Γ [] Γ
  all_right [] = Split.none
  all_right (x ∷ Γ) = right (all_right Γ)

  pub nothing_left : {Γ Γ' : List A} → Split Γ [] Γ' → Γ ≡ Γ'
  nothing_left Split.none = refl
  nothing_left (right {x} s) = ap (λ l. x ∷ l) (nothing_left s)

  pub nothing_right : {Γ Γ' : List A} → Split Γ Γ' [] → Γ ≡ Γ'
  nothing_right Split.none = refl
  nothing_right (left {x} s) = ap (λ l. x ∷ l) (nothing_right s)

  pub before : (pre : List A) {Γ Γ₁ Γ₂ : List A} → Split Γ Γ₁ Γ₂ → Split (pre ++ Γ) Γ₁ (pre ++ Γ₂)
  before [] s = s
  before (x ∷ pre) s = right (before pre s)

  -- (Γ₁ of Γ) of which A is a part: A first
  pub first : {Γ Γ₁ Γ₂ B C : List A} → Split Γ Γ₁ Γ₂ → Split Γ₁ B C → (Γ' : List A) × Split Γ B Γ' × Split Γ' C Γ₂
  first Split.none Split.none = ([], Split.none, Split.none)
  first (left s) (left t) = let r = first s t in (r.0, left r.1, r.2)
  first (left {x} s) (right t) = let r = first s t in (x ∷ r.0, right r.1, left r.2)
  first (right {x} s) t = let r = first s t in (x ∷ r.0, right r.1, right r.2)

  -- and back
  pub join : {Γ Γ' B C Γ₂ : List A} → Split Γ B Γ' → Split Γ' C Γ₂ → (Γ₁ : List A) × Split Γ Γ₁ Γ₂ × Split Γ₁ B C
  join Split.none Split.none = ([], Split.none, Split.none)
  join (left {x} s) t = let r = join s t in (x ∷ r.0, left r.1, left r.2)
  join (right {x} s) (left t) = let r = join s t in (x ∷ r.0, left r.1, right r.2)
  join (right s) (right t) = let r = join s t in (r.0, right r.1, r.2)

  pub swap : {Γ Γ₁ Γ₂ : List A} → Split Γ Γ₁ Γ₂ → Split Γ Γ₂ Γ₁
  swap Split.none = Split.none
  swap (left s) = right (swap s)
  swap (right s) = left (swap s)

pub has_split : {x : ℕ} {xs : List ℕ} → Has x xs → (ys : List ℕ) × Split xs (x ∷ []) ys
has_split (here {xs}) = (xs, left (all_right xs))
has_split (there {y} h) = let r = has_split h in (y ∷ r.0, right r.1)

pub split_has : {x : ℕ} {xs ys : List ℕ} → Split xs (x ∷ []) ys → Has x xs
split_has (left s) = here
split_has (right s) = there (split_has s)

pub has_left : {x : ℕ} {xs : List ℕ} (ys : List ℕ) → Has x xs → Has x (xs ++ ys)
has_left ys here = here
has_left ys (there h) = there (has_left ys h)

pub has_right : {x : ℕ} (xs : List ℕ) {ys : List ℕ} → Has x ys → Has x (xs ++ ys)
has_right [] h = h
has_right (y ∷ xs) h = there (has_right xs h)

pub has_cases : {x : ℕ} (xs : List ℕ) {ys : List ℕ} → Has x (xs ++ ys) → Has x xs ⊎ Has x ys
has_cases [] h = inr h
has_cases (y ∷ xs) here = inl here
has_cases (y ∷ xs) (there h) = elim (has_cases xs h) [ inl g ↦ inl (there g) | inr g ↦ inr g ]
