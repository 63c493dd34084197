-- The contexts that a slot list stands for, and what a taken slot does to them. Assumes nothing.
use Prim.Native.Nat.{ℕ, zero, suc, ◌+◌}
use mathlib.Core.Bool.{Bool, true, false}
use mathlib.Core.List.{List, [], ◌∷◌, ◌++◌, map, append_assoc}
use mathlib.Core.Option.{some, none-ne-some}
use mathlib.Core.Path.{◌≡◌, refl, sym, ap, ◌∙◌, subst}
use mathlib.Core.Logic.{◌⊎◌, inl, inr}
use native.Mathlib.Nat.{add-zero, add-suc, suc-add, zero-add}
use native.Mathlib.Omega.{arith}
use lib.ListN.{length, get_elem?, set, length-append, length-map}
use Rattle.meaning.specs.Ownership.{Kind, Slot, Slots, fresh, bind}
use Rattle.meaning.specs.Derivation.{Item, own, credit, Split, left, right, Context, extend, added, as_number, as_lent, as_owned}
use Rattle.theory.proofs.Splits.{all_right, before, nothing_left}

abbrev pub used_up : Slot → Slot
used_up x = record { kind = x.kind; used = true }

-- what one slot adds: a used one nothing
abbrev pub from : {A : Type 0} → (ℕ → Kind → List A) → ℕ → Kind → Bool → List A
from f n k true = []
from f n k false = f n k

abbrev pub gather : {A : Type 0} → (ℕ → Kind → List A) → ℕ → Slots → List A
gather f n [] = []
gather f n (x ∷ xs) = from f n x.kind x.used ++ gather f (suc n) xs

abbrev pub context : Slots → Context
context slots =
    record {
      next = length slots;
      numbers = gather as_number 0 slots;
      lent = gather as_lent 0 slots;
      owned = gather as_owned 0 slots;
    }

module _ {A : Type 0} (f : ℕ → Kind → List A) where
  pub gather_append : (n : ℕ) (xs ys : Slots) → gather f n (xs ++ ys) ≡ gather f n xs ++ gather f (n + length xs) ys
  gather_append n [] ys = rw add-zero
  gather_append n (x ∷ xs) ys =
      ap (λ l. from f n x.kind x.used ++ l) (gather_append (suc n) xs ys ∙ rw (suc-add n (length xs), add-suc n (length xs)))
      ∙ sym (append_assoc (from f n x.kind x.used) (gather f (suc n) xs) (gather f (n + suc (length xs)) ys))

  pub gather_fresh : (n : ℕ) (ks : List Kind) → gather f n (map fresh ks) ≡ added f n ks
  gather_fresh n [] = refl
  gather_fresh n (k ∷ ks) = ap (λ l. f n k ++ l) (gather_fresh (suc n) ks)

  pub gather_bind : (slots : Slots) (ks : List Kind) → gather f 0 (bind slots ks) ≡ gather f 0 slots ++ added f (length slots) ks
  gather_bind slots ks =
      gather_append 0 slots (map fresh ks) ∙ ap (λ l. gather f 0 slots ++ l) (gather_fresh (0 + length slots) ks ∙ rw zero-add)

  from_empty : (n : ℕ) (k : Kind) (u : Bool) → f n k ≡ [] → from f n k u ≡ []
  from_empty n k true h = refl
  from_empty n k false h = h

  -- a slot that is taken is split off
  pub taken : (n : ℕ) (xs : Slots) (s : ℕ) (x : Slot) (a : A)
      → get_elem? xs s ≡ some x → x.used ≡ false → f (n + s) x.kind ≡ a ∷ []
      → Split (gather f n xs) (a ∷ []) (gather f n (set xs s (used_up x)))
  taken n (y ∷ ys) zero x a e u h =
      let q : y ≡ x = cc in
      let h' : f n x.kind ≡ a ∷ [] = rw add-zero at h in
      rw (q, u, h') (left (all_right _))
  taken n (y ∷ ys) (suc s) x a e u h =
      let q : suc n + s ≡ n + suc s = omega arith in
      before (from f n y.kind y.used) (taken (suc n) ys s x a e u (rw q h))
  taken n [] s x a e u h = absurd (none-ne-some x e)

  -- one that stood elsewhere leaves no trace
  pub untouched : (n : ℕ) (xs : Slots) (s : ℕ) (x : Slot)
      → get_elem? xs s ≡ some x → f (n + s) x.kind ≡ []
      → gather f n (set xs s (used_up x)) ≡ gather f n xs
  untouched n [] s x e h = refl
  untouched n (y ∷ ys) zero x e h =
      let q : y ≡ x = cc in
      let h' : f n x.kind ≡ [] = rw add-zero at h in
      rw (q, from_empty n x.kind x.used h')
  untouched n (y ∷ ys) (suc s) x e h =
      let q : suc n + s ≡ n + suc s = omega arith in
      ap (λ l. from f n y.kind y.used ++ l) (untouched (suc n) ys s x e (rw q h))

-- and back: what is split off is a slot, and the rest is what taking it leaves.
-- `f` puts a variable of a kind nowhere, or in one place, under its number
pub record Places {A : Type 0} (f : ℕ → Kind → List A) (slot_of : A → ℕ) : Type 0 where
  pub shape : (n : ℕ) (k : Kind) → (f n k ≡ []) ⊎ ((a : A) × (f n k ≡ a ∷ []) × (slot_of a ≡ n))

-- the slot that `a` comes from
pub record Source {A : Type 0} (f : ℕ → Kind → List A) (n : ℕ) (xs : Slots) (s : ℕ) (a : A) (rest : List A) : Type 0 where
  pub slot : Slot
  pub stands : get_elem? xs s ≡ some slot
  pub live : slot.used ≡ false
  pub puts : f (n + s) slot.kind ≡ a ∷ []
  pub leaves : rest ≡ gather f n (set xs s (used_up slot))

cut : {A : Type 0} {a b : A} {Γ rest : List A} → Split (b ∷ Γ) (a ∷ []) rest
    → ((b ≡ a) × (rest ≡ Γ)) ⊎ ((rest' : List A) × (rest ≡ b ∷ rest') × Split Γ (a ∷ []) rest')
cut (left s) = inl (refl, sym (nothing_left s))
cut (right {Γ₂} s) = inr (Γ₂, refl, s)

module _ {A : Type 0} (f : ℕ → Kind → List A) (slot_of : A → ℕ) (P : Places f slot_of) where
  abbrev Found : (n : ℕ) (xs : Slots) (a : A) (rest : List A) → Type 0
  Found n xs a rest = (s : ℕ) × (slot_of a ≡ n + s) × Source f n xs s a rest

  shift : (n : ℕ) (x : Slot) (xs : Slots) (a : A) (rest rest' : List A)
      → rest ≡ from f n x.kind x.used ++ rest' → Found (suc n) xs a rest' → Found n (x ∷ xs) a rest
  shift n x xs a rest rest' e r =
      let s = r.0 in
      let q : suc n + s ≡ n + suc s = omega arith in
      let src = r.2 in (
        suc s,
        r.1 ∙ q,
        record {
          slot = src.slot;
          stands = src.stands;
          live = src.live;
          puts = rw q at src.puts;
          leaves = e ∙ ap (λ l. from f n x.kind x.used ++ l) src.leaves;
        },
      )

  step : (n : ℕ) (x : Slot) (xs : Slots) (a : A) (rest : List A)
      → ((rest' : List A) → Split (gather f (suc n) xs) (a ∷ []) rest' → Found (suc n) xs a rest')
      → (u : Bool) → x.used ≡ u → Split (from f n x.kind u ++ gather f (suc n) xs) (a ∷ []) rest → Found n (x ∷ xs) a rest
  step n x xs a rest ih true e h = shift n x xs a rest rest (rw e) (ih rest h)
  step n x xs a rest ih false e h = elim (P.shape n x.kind) [
    | inl q ↦ shift n x xs a rest rest (rw (e, q)) (ih rest (rw q at h))
    | inr r ↦ elim (cut (rw r.1 at h)) [
      | inl c ↦ (
        0,
        ap slot_of (sym c.0) ∙ r.2 ∙ sym (add-zero n),
        record { slot = x; stands = refl; live = e; puts = rw add-zero (r.1 ∙ ap (λ b. b ∷ []) c.0); leaves = c.1 },
      )
      | inr c ↦ shift n x xs a rest c.0 (c.1 ∙ rw (e, r.1)) (ih c.0 c.2)
    ]
  ]

  pub source : (n : ℕ) (xs : Slots) {a : A} {rest : List A} → Split (gather f n xs) (a ∷ []) rest → Found n xs a rest
  source n (x ∷ xs) {a} {rest} h = step n x xs a rest (λ r g. source (suc n) xs g) x.used refl h
  source n [] {a = a} {rest = rest} h = elim h [ ]

-- the three contexts
abbrev pub slot_in : Item → ℕ
slot_in (own s) = s
slot_in (credit s k) = s

pub number_places : Places as_number (λ s. s)
number_places = record { shape = go }
  where
    go : (n : ℕ) (k : Kind) → (as_number n k ≡ []) ⊎ ((a : ℕ) × (as_number n k ≡ a ∷ []) × (a ≡ n))
    go n Kind.number = inr (n, refl, refl)
    go n Kind.lent = inl refl
    go n Kind.owned = inl refl
    go n (Kind.credit k) = inl refl

pub lent_places : Places as_lent (λ s. s)
lent_places = record { shape = go }
  where
    go : (n : ℕ) (k : Kind) → (as_lent n k ≡ []) ⊎ ((a : ℕ) × (as_lent n k ≡ a ∷ []) × (a ≡ n))
    go n Kind.number = inl refl
    go n Kind.lent = inr (n, refl, refl)
    go n Kind.owned = inl refl
    go n (Kind.credit k) = inl refl

pub owned_places : Places as_owned slot_in
owned_places = record { shape = go }
  where
    go : (n : ℕ) (k : Kind) → (as_owned n k ≡ []) ⊎ ((a : Item) × (as_owned n k ≡ a ∷ []) × (slot_in a ≡ n))
    go n Kind.number = inl refl
    go n Kind.lent = inl refl
    go n Kind.owned = inr (own n, refl, refl)
    go n (Kind.credit k) = inr (credit n k, refl, refl)

-- binding extends the context
pub context_bind : (slots : Slots) (ks : List Kind) → context (bind slots ks) ≡ extend (context slots) ks
context_bind slots ks i =
    record {
      next = (length-append slots (map fresh ks) ∙ ap (λ n. length slots + n) (length-map ks fresh)) i;
      numbers = gather_bind as_number slots ks i;
      lent = gather_bind as_lent slots ks i;
      owned = gather_bind as_owned slots ks i;
    }

-- the source at the whole list: the slot's own number
pub record Stands (slots : Slots) (s : ℕ) (k : Kind) : Type 0 where
  pub slot : Slot
  pub stands : get_elem? slots s ≡ some slot
  pub live : slot.used ≡ false
  pub of_kind : slot.kind ≡ k

module _ {A : Type 0} (f : ℕ → Kind → List A) (slot_of : A → ℕ) (P : Places f slot_of) where
  -- what is split off stands at its own number
  pub at_its_number : (xs : Slots) {a : A} {rest : List A} → Split (gather f 0 xs) (a ∷ []) rest → Source f 0 xs (slot_of a) a rest
  at_its_number xs {a} {rest} h =
      let r = source f slot_of P 0 xs h in
      let q : r.0 ≡ slot_of a = sym (r.1 ∙ zero-add r.0) in
      subst (λ s. Source f 0 xs s a rest) q r.2

  pub stands_at : (xs : Slots) {a : A} {rest : List A} (k : Kind) → ((n : ℕ) (j : Kind) → f n j ≡ a ∷ [] → j ≡ k)
      → Split (gather f 0 xs) (a ∷ []) rest → Stands xs (slot_of a) k
  stands_at xs k only h =
      let r = at_its_number xs h in
      record { slot = r.slot; stands = r.stands; live = r.live; of_kind = only _ r.slot.kind r.puts }

  pub leaves_at : (xs : Slots) {a : A} {rest : List A} (k : Kind) → (h : Split (gather f 0 xs) (a ∷ []) rest)
      → (only : (n : ℕ) (j : Kind) → f n j ≡ a ∷ [] → j ≡ k)
      → rest ≡ gather f 0 (set xs (slot_of a) (used_up (stands_at xs k only h).slot))
  unfolding stands_at
  leaves_at xs k h only = (at_its_number xs h).leaves

pub only_number : (s n : ℕ) (j : Kind) → as_number n j ≡ s ∷ [] → j ≡ Kind.number
only_number s n Kind.number e = refl
only_number s n Kind.lent e = cc
only_number s n Kind.owned e = cc
only_number s n (Kind.credit k) e = cc

pub only_lent : (s n : ℕ) (j : Kind) → as_lent n j ≡ s ∷ [] → j ≡ Kind.lent
only_lent s n Kind.number e = cc
only_lent s n Kind.lent e = refl
only_lent s n Kind.owned e = cc
only_lent s n (Kind.credit k) e = cc

pub only_own : (s n : ℕ) (j : Kind) → as_owned n j ≡ own s ∷ [] → j ≡ Kind.owned
only_own s n Kind.number e = cc
only_own s n Kind.lent e = cc
only_own s n Kind.owned e = refl
only_own s n (Kind.credit k) e = cc

pub only_credit : (s m n : ℕ) (j : Kind) → as_owned n j ≡ credit s m ∷ [] → j ≡ Kind.credit m
only_credit s m n Kind.number e = cc
only_credit s m n Kind.lent e = cc
only_credit s m n Kind.owned e = cc
only_credit s m n (Kind.credit k) e = cc
