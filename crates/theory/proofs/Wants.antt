-- Taking a slot and splitting the context, want by want, both ways. Assumes nothing.
use Prim.Native.Nat.{ℕ}
use mathlib.Core.Bool.{Bool, true, false, ◌||◌}
use mathlib.Core.List.{List, [], ◌∷◌}
use mathlib.Core.Path.{◌≡◌, refl, sym, ap, ◌∙◌}
use mathlib.Core.Logic.{◌⊎◌, inl, inr}
use native.Mathlib.Nat.{zero-add}
use lib.ListN.{length, set, length-set}
use borrow.Author.Tests.{eqb-true}
use Rattle.meaning.specs.Ownership.{Kind, Slots, Want, fits, sized, spends, spend}
use Rattle.meaning.specs.Derivation.{Item, own, credit, Split, Has, keeping, as_number, as_lent, as_owned}
use Rattle.theory.proofs.Splits.{has_split, split_has}
use Rattle.theory.proofs.Gather.{used_up, gather, context, taken, untouched, Stands, stands_at, leaves_at, number_places, lent_places, owned_places, slot_in, only_number, only_lent, only_own, only_credit}
use Rattle.theory.proofs.Taking.{Takes}

abbrev pub N : Slots → List ℕ
N slots = gather as_number 0 slots

abbrev pub L : Slots → List ℕ
L slots = gather as_lent 0 slots

abbrev pub G : Slots → List Item
G slots = gather as_owned 0 slots

-- only Γ has changed
pub record Kept (slots slots' : Slots) : Type 0 where
  pub numbers : N slots' ≡ N slots
  pub lents : L slots' ≡ L slots
  pub size : length slots' ≡ length slots

pub kept_refl : (slots : Slots) → Kept slots slots
kept_refl slots = record { numbers = refl; lents = refl; size = refl }

pub kept_trans : {a b c : Slots} → Kept a b → Kept b c → Kept a c
kept_trans k l = record { numbers = l.numbers ∙ k.numbers; lents = l.lents ∙ k.lents; size = l.size ∙ k.size }

pub kept_context : {slots slots' : Slots} → Kept slots slots' → context slots' ≡ keeping (context slots) (G slots')
kept_context {slots'} k i = record { next = k.size i; numbers = k.numbers i; lent = k.lents i; owned = G slots' }

or_left : (u b : Bool) → (u || b) ≡ false → u ≡ false
or_left true b e = e
or_left false b e = refl

fit_number : (k : Kind) → fits Want.number k ≡ true → k ≡ Kind.number
fit_number Kind.number e = refl
fit_number Kind.lent e = cc
fit_number Kind.owned e = cc
fit_number (Kind.credit n) e = cc

fit_looked : (k : Kind) → fits Want.looked k ≡ true → k ≡ Kind.lent
fit_looked Kind.number e = cc
fit_looked Kind.lent e = refl
fit_looked Kind.owned e = cc
fit_looked (Kind.credit n) e = cc

fit_lent : (k : Kind) → fits Want.lent k ≡ true → (k ≡ Kind.lent) ⊎ (k ≡ Kind.owned)
fit_lent Kind.number e = inl cc
fit_lent Kind.lent e = inl refl
fit_lent Kind.owned e = inr refl
fit_lent (Kind.credit n) e = inl cc

fit_owned : (k : Kind) → fits Want.owned k ≡ true → k ≡ Kind.owned
fit_owned Kind.number e = cc
fit_owned Kind.lent e = cc
fit_owned Kind.owned e = refl
fit_owned (Kind.credit n) e = cc

fit_credit : (m : ℕ) (k : Kind) → fits (Want.credit m) k ≡ true → sized (Want.credit m) k ≡ true → k ≡ Kind.credit m
fit_credit m Kind.number e f = cc
fit_credit m Kind.lent e f = cc
fit_credit m Kind.owned e f = cc
fit_credit m (Kind.credit n) e f = ap Kind.credit (sym (eqb-true m n f))

-- a slot that stands is in its context
pub number_has : {slots : Slots} {s : ℕ} → Stands slots s Kind.number → Has s (N slots)
number_has {slots} {s} t = split_has (taken as_number 0 slots s t.slot s t.stands t.live (rw (t.of_kind, zero-add)))

pub lent_has : {slots : Slots} {s : ℕ} → Stands slots s Kind.lent → Has s (L slots)
lent_has {slots} {s} t = split_has (taken as_lent 0 slots s t.slot s t.stands t.live (rw (t.of_kind, zero-add)))

pub own_split : {slots : Slots} {s : ℕ} (t : Stands slots s Kind.owned) → Split (G slots) (own s ∷ []) (G (set slots s (used_up t.slot)))
own_split {slots} {s} t = taken as_owned 0 slots s t.slot (own s) t.stands t.live (rw (t.of_kind, zero-add))

pub credit_split : {slots : Slots} {s m : ℕ} (t : Stands slots s (Kind.credit m)) → Split (G slots) (credit s m ∷ []) (G (set slots s (used_up t.slot)))
credit_split {slots} {s} {m} t = taken as_owned 0 slots s t.slot (credit s m) t.stands t.live (rw (t.of_kind, zero-add))

-- and the other way
pub has_number : (slots : Slots) {s : ℕ} → Has s (N slots) → Stands slots s Kind.number
has_number slots {s} h = stands_at as_number (λ s. s) number_places slots Kind.number (only_number s) (has_split h).1

pub has_lent : (slots : Slots) {s : ℕ} → Has s (L slots) → Stands slots s Kind.lent
has_lent slots {s} h = stands_at as_lent (λ s. s) lent_places slots Kind.lent (only_lent s) (has_split h).1

pub split_own : (slots : Slots) {s : ℕ} {Γ : List Item} → Split (G slots) (own s ∷ []) Γ → (t : Stands slots s Kind.owned) × (Γ ≡ G (set slots s (used_up t.slot)))
split_own slots {s} h =
    (stands_at as_owned slot_in owned_places slots Kind.owned (only_own s) h, leaves_at as_owned slot_in owned_places slots Kind.owned h (only_own s))

pub split_credit : (slots : Slots) {s m : ℕ} {Γ : List Item} → Split (G slots) (credit s m ∷ []) Γ → (t : Stands slots s (Kind.credit m)) × (Γ ≡ G (set slots s (used_up t.slot)))
split_credit slots {s} {m} h = (
  stands_at as_owned slot_in owned_places slots (Kind.credit m) (only_credit s m) h,
  leaves_at as_owned slot_in owned_places slots (Kind.credit m) h (only_credit s m),
)

-- what a taking slot leaves of the others
pub owned_kept : {slots : Slots} {s : ℕ} (t : Stands slots s Kind.owned) → Kept slots (set slots s (used_up t.slot))
owned_kept {slots} {s} t =
    record {
      numbers = untouched as_number 0 slots s t.slot t.stands (rw t.of_kind);
      lents = untouched as_lent 0 slots s t.slot t.stands (rw t.of_kind);
      size = length-set slots s (used_up t.slot);
    }

pub credit_kept : {slots : Slots} {s m : ℕ} (t : Stands slots s (Kind.credit m)) → Kept slots (set slots s (used_up t.slot))
credit_kept {slots} {s} t =
    record {
      numbers = untouched as_number 0 slots s t.slot t.stands (rw t.of_kind);
      lents = untouched as_lent 0 slots s t.slot t.stands (rw t.of_kind);
      size = length-set slots s (used_up t.slot);
    }

-- `take` and standing
abbrev stood : {b : Bool} {w : Want} {s : ℕ} {slots slots' : Slots} {k : Kind} (t : Takes b w s slots slots') → t.slot.kind ≡ k → Stands slots s k
stood {b} t e = record { slot = t.slot; stands = t.stands; live = or_left t.slot.used b t.live; of_kind = e }

pub took_number : {b : Bool} {s : ℕ} {slots slots' : Slots} → Takes b Want.number s slots slots' → Stands slots s Kind.number × (slots ≡ slots')
took_number t = (stood t (fit_number _ t.fit), t.after)

pub took_looked : {b : Bool} {s : ℕ} {slots slots' : Slots} → Takes b Want.looked s slots slots' → Stands slots s Kind.lent × (slots ≡ slots')
took_looked t = (stood t (fit_looked _ t.fit), t.after)

pub took_lent : {b : Bool} {s : ℕ} {slots slots' : Slots} → Takes b Want.lent s slots slots' → (Stands slots s Kind.lent ⊎ Stands slots s Kind.owned) × (slots ≡ slots')
took_lent t = (elim (fit_lent t.slot.kind t.fit) [ inl e ↦ inl (stood t e) | inr e ↦ inr (stood t e) ], t.after)

pub took_owned : {b : Bool} {s : ℕ} {slots slots' : Slots} → Takes b Want.owned s slots slots' → (t : Stands slots s Kind.owned) × (set slots s (used_up t.slot) ≡ slots')
took_owned t = (stood t (fit_owned _ t.fit), t.after)

pub took_credit : {b : Bool} {s m : ℕ} {slots slots' : Slots} → Takes b (Want.credit m) s slots slots' → (t : Stands slots s (Kind.credit m)) × (set slots s (used_up t.slot) ≡ slots')
took_credit {m} t = (stood t (fit_credit m _ t.fit t.size), t.after)

-- a slot that stands can be taken
pub takes : {slots : Slots} {s : ℕ} {k : Kind} (w : Want) (t : Stands slots s k) → fits w k ≡ true → sized w k ≡ true
    → Takes false w s slots (spend (spends w) slots s t.slot)
takes w t f z =
    record {
      slot = t.slot;
      stands = t.stands;
      fit = rw t.of_kind f;
      live = rw t.live;
      size = rw t.of_kind z;
      after = refl;
    }
