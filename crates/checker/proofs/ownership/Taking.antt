-- What a record takes by the bytes is what the definition takes: one slot, a list of slots, and nothing left over. Assumes nothing.
use Prim.Native.Nat.{ℕ, zero, suc, ◌+◌, ◌*◌, ◌^◌, ◌≤◌, ◌<◌}
use mathlib.Core.Path.{◌≡◌, refl, sym, ap, ◌∙◌}
use mathlib.Core.List.{List, [], ◌∷◌, map}
use mathlib.Core.Bool.{Bool, true, false, not, ◌||◌, ◌&&◌}
use mathlib.Core.Option.{Option, none, some}
use native.Mathlib.Omega.{arith}
use native.Mathlib.Numerals.{add-one}
use native.Mathlib.Decide.{ℕ_discrete}
use lib.ListN.{length, set, get_or, get_elem?, replicate}
use lib.Seq.{get_or-set_same, get_or-set_other}
use lib.Dec.{leb, eqb}
use lib.Bits.{bit_or}
use borrow.Author.Tests.{leb-true, leb-false, eq-eqb, ne_eqb}
use Rattle.meaning.specs.declared.Kind.{Kind}
use Rattle.meaning.specs.declared.Slot.{Slot}
use Rattle.meaning.specs.Choice.{pick}
use Rattle.meaning.specs.Syntax.{Sort, Mode}
use Rattle.meaning.specs.Outcome.{Outcome, ok, refuse, then, require, present}
use Rattle.meaning.specs.Ownership as tree
use Rattle.standing.specs.Bytes.{byte_at}
use Rattle.standing.specs.Stands.{Listed}
use Rattle.standing.specs.Table.{Sorts, Modes, mode_byte}
use Rattle.checker.specs.declared.slots.Want.{Want}
use Rattle.checker.specs.Bits.{bits_of}
use Rattle.checker.specs.Slots.{kind_of, used_in, slot_of, slots_of, now_kind, spent_by, unbound, want_of, spends_of, test_of, want_at, mode_of}
use Rattle.checker.specs.Ownership.{Taken, fine, fault, on_fine, take_kind, take_of, bars_of, list_of, close_of}
use Rattle.checker.proofs.sets.Digits.{bits_length, bits_none, or_bit}
use Rattle.checker.proofs.ownership.Spending.{slot_bound, slot_unbound, spent_at, left_of, left_with}

-- what was taken, as the definition tells it
unfoldable pub told : List Slot → ℕ → Taken → Outcome tree.Slots
told slots bound t = pick (eqb t.number 0) (ok (left_of slots bound t.spent)) (refuse t.number t.place)

told_on : {A : Type 0} (slots : List Slot) (bound : ℕ) (t : Taken) (o : Outcome A) (k : tree.Slots → Outcome A)
    → (eqb t.number 0 ≡ true → o ≡ k (left_of slots bound t.spent))
    → pick (eqb t.number 0) o (refuse t.number t.place) ≡ then (told slots bound t) k
unfolding told pick
told_on slots bound t o k h = go (eqb t.number 0) refl
  where
    go : (x : Bool) → eqb t.number 0 ≡ x → pick (eqb t.number 0) o (refuse t.number t.place) ≡ then (pick (eqb t.number 0) (ok (left_of slots bound t.spent)) (refuse t.number t.place)) k
    go true e = rw e (h e)
    go false e = rw e refl

told_fine : (slots : List Slot) (bound : ℕ) (t u : Taken) → told slots bound (on_fine t u) ≡ pick (eqb t.number 0) (told slots bound u) (refuse t.number t.place)
unfolding told on_fine pick
told_fine slots bound t u = go (eqb t.number 0) refl
  where
    go : (x : Bool) → eqb t.number 0 ≡ x → told slots bound (pick (eqb t.number 0) u t) ≡ pick (eqb t.number 0) (told slots bound u) (refuse t.number t.place)
    go true e = rw e refl
    go false e = rw e (rw e refl)

-- a record that takes one thing and then another
pub told_then : (slots : List Slot) (bound : ℕ) (t u : Taken) (k : tree.Slots → Outcome tree.Slots)
    → (eqb t.number 0 ≡ true → told slots bound u ≡ k (left_of slots bound t.spent)) → told slots bound (on_fine t u) ≡ then (told slots bound t) k
told_then slots bound t u k h = told_fine slots bound t u ∙ told_on slots bound t (told slots bound u) k h

told_fault : (slots : List Slot) (bound n p : ℕ) → eqb n 0 ≡ false → told slots bound (fault n p) ≡ refuse n p
unfolding told pick
told_fault slots bound n p e = rw e refl

left_at : (slots : List Slot) (bound spent i : ℕ) → i < bound → get_elem? (left_of slots bound spent) i ≡ some (slot_of (get_or (spent_by (bits_of 32 spent) slots) i unbound))
unfolding left_of
left_at slots bound spent i h = slot_bound bound (spent_by (bits_of 32 spent) slots) i h

left_none : (slots : List Slot) (bound spent i : ℕ) → bound ≤ i → get_elem? (left_of slots bound spent) i ≡ none
unfolding left_of
left_none slots bound spent i h = slot_unbound bound (spent_by (bits_of 32 spent) slots) i h

told_spent : (slots : List Slot) (bound spent : ℕ) → told slots bound (fine spent) ≡ ok (left_of slots bound spent)
unfolding told pick
told_spent slots bound spent = refl

-- the tests of a slot in their order
tests : (p : ℕ) (f u z s : Bool) (A B S : tree.Slots) (i : ℕ) (x : tree.Slot) → Outcome tree.Slots
tests p f u z s A B S i x = pick (eqb (pick f (pick u 9 (pick z 0 10)) 8) 0) (ok (pick s A B)) (refuse (pick f (pick u 9 (pick z 0 10)) 8) p)

tests_are : (p : ℕ) (f u z s : Bool) (A B S : tree.Slots) (i : ℕ) (x : tree.Slot) → (s ≡ true → f ≡ true → A ≡ tree.spend true S i x) → B ≡ S
    → tests p f u z s A B S i x ≡ then (require 8 p f) (λ _. then (require 9 p (not u)) (λ _. then (require 10 p z) (λ _. ok (tree.spend s S i x))))
unfolding tests pick
tests_are p false u z s A B S i x a b = refl
tests_are p true true z s A B S i x a b = refl
tests_are p true false false s A B S i x a b = refl
tests_are p true false true true A B S i x a b = ap ok (a refl refl)
tests_are p true false true false A B S i x a b = ap ok b

module _ (slots : List Slot) (wide : length slots ≡ 32) (bound : ℕ) (few : bound ≤ 32) where
  told_kind : (k : Kind) (i p : ℕ) (w : Want) (barred : Bool) (spent : ℕ)
      → let now = now_kind (get_or (bits_of 32 spent) i false) k in
      told slots bound (take_kind k i p w barred spent)
      ≡ tests p (tree.fits (want_of w) (kind_of now)) (used_in now || barred) (tree.sized (want_of w) (kind_of now)) (spends_of w)
      (left_of slots bound (bit_or spent (2 ^ i))) (left_of slots bound spent) (left_of slots bound spent) i (record { kind = kind_of now; used = used_in now })
  unfolding told take_kind test_of tests pick
  told_kind k i p w barred spent =
      let now = now_kind (get_or (bits_of 32 spent) i false) k in
      go (tree.fits (want_of w) (kind_of now)) (used_in now || barred) (tree.sized (want_of w) (kind_of now)) (spends_of w)
    where
      go : (f u z s : Bool) → told slots bound (pick (eqb (pick f (pick u 9 (pick z 0 10)) 8) 0) (pick s (fine (bit_or spent (2 ^ i))) (fine spent)) (fault (pick f (pick u 9 (pick z 0 10)) 8) p))
          ≡ pick (eqb (pick f (pick u 9 (pick z 0 10)) 8) 0) (ok (pick s (left_of slots bound (bit_or spent (2 ^ i))) (left_of slots bound spent))) (refuse (pick f (pick u 9 (pick z 0 10)) 8) p)
      go false u z s = refl
      go true true z s = refl
      go true false false s = refl
      go true false true true = refl
      go true false true false = refl

  -- one slot
  pub take_tells : (i p : ℕ) (w : Want) (barred : Bool) (spent : ℕ)
      → told slots bound (take_of slots bound i p w barred spent) ≡ tree.take barred (want_of w) i p (left_of slots bound spent)
  unfolding tree.take take_of pick
  take_tells i p w barred spent = go (leb bound i) refl
    where
      now : Kind
      now = now_kind (get_or (bits_of 32 spent) i false) (get_or slots i unbound).kind

      S : tree.Slots
      S = left_of slots bound spent

      x : tree.Slot
      x = record { kind = kind_of now; used = used_in now }

      Goal : Bool → Option tree.Slot → Type 0
      Goal b o = told slots bound (pick b (fault 7 p) (take_kind (get_or slots i unbound).kind i p w barred spent))
          ≡ then (present 7 p o) (λ y. then (require 8 p (tree.fits (want_of w) y.kind)) (λ _. then (require 9 p (not (y.used || barred))) (λ _. then (require 10 p (tree.sized (want_of w) y.kind)) (λ _. ok (tree.spend (tree.spends (want_of w)) S i y)))))

      bound_slot_is : i < bound → get_elem? S i ≡ some x
      bound_slot_is h = left_at slots bound spent i h ∙ ap (λ (k : Kind). some (record { kind = kind_of k; used = used_in k })) (spent_at (bits_of 32 spent) slots i)

      go : (b : Bool) → leb bound i ≡ b → Goal (leb bound i) (get_elem? S i)
      go true e = rw (e, left_none slots bound spent i (leb-true bound i e)) (told_fault slots bound 7 p refl)
      go false e =
          let h = leb-false bound i e in
          rw (e, bound_slot_is h) (told_kind (get_or slots i unbound).kind i p w barred spent
          ∙ tests_are p (tree.fits (want_of w) (kind_of now)) (used_in now || barred) (tree.sized (want_of w) (kind_of now)) (spends_of w)
          (left_of slots bound (bit_or spent (2 ^ i))) S S i x (λ s f. left_with slots bound spent i w wide (omega arith) s f) refl)

-- ---- a list of slots

-- a set as the bits of a number and as a list
abbrev pub Alike : (width : ℕ) → List ℕ → ℕ → Type 0
Alike d list set = (i : ℕ) → tree.member i list ≡ get_or (bits_of d set) i false

pub alike_none : (d : ℕ) → Alike d [] 0
alike_none d i = sym (ap (λ (l : List Bool). get_or l i false) (bits_none d) ∙ none_there d i)
  where
    none_there : (n j : ℕ) → get_or (replicate n false) j false ≡ false
    none_there zero j = refl
    none_there (suc n) zero = refl
    none_there (suc n) (suc j) = none_there n j

pub alike_with : (d : ℕ) (list : List ℕ) (set s : ℕ) → s < d → Alike d list set → Alike d (s ∷ list) (bit_or set (2 ^ s))
alike_with d list earlier s h a i = go (ℕ_discrete i s)
  where
    go : Dec (i ≡ s) → (eqb i s || tree.member i list) ≡ get_or (bits_of d (bit_or earlier (2 ^ s))) i false
    go (yes e) =
        let l : s < length (bits_of d earlier) = omega (arith, bits_length d earlier) in
        rw (eq-eqb i s e, or_bit d earlier s h, e) (sym (get_or-set_same (bits_of d earlier) s true false l))
    go (no n) = rw (ne_eqb i s n, or_bit d earlier s h) (a i ∙ sym (get_or-set_other (bits_of d earlier) s i true false n))

-- modes whose bytes, times a scale, stand from a place on
abbrev pub Scaled : (bytes : List ℕ) → (scale place : ℕ) → List Mode → Type 0
Scaled bytes scale p [] = Unit {0}
Scaled bytes scale p (m ∷ ms) = (byte_at bytes p * scale ≡ mode_byte m) × Scaled bytes scale (p + 1) ms

pub modes_scaled : (bytes : List ℕ) (p : ℕ) (ms : List Mode) → Modes bytes p ms → Scaled bytes 1 p ms
modes_scaled bytes p [] h = tt
modes_scaled bytes p (m ∷ ms) h = (omega (arith, h.0), modes_scaled bytes (p + 1) ms h.2)

pub sorts_scaled : (bytes : List ℕ) (p : ℕ) (ss : List Sort) → Sorts bytes p ss → Scaled bytes 2 p (map tree.mode_owned ss)
sorts_scaled bytes p [] h = tt
sorts_scaled bytes p (Sort.number ∷ ss) h = (omega (arith, h.0), sorts_scaled bytes (p + 1) ss h.2)
sorts_scaled bytes p (Sort.tree ∷ ss) h = (omega (arith, h.0), sorts_scaled bytes (p + 1) ss h.2)

want_is : (m : Mode) → want_of (want_at (mode_byte m)) ≡ tree.want m
unfolding mode_of pick
want_is Mode.number = refl
want_is Mode.lent = refl
want_is Mode.owned = refl

module _ (bytes : List ℕ) (slots : List Slot) (wide : length slots ≡ 32) (bound : ℕ) (few : bound ≤ 32) where
  fine_low : (i p : ℕ) (w : Want) (barred : Bool) (spent : ℕ) → eqb (take_of slots bound i p w barred spent).number 0 ≡ true → i < bound
  unfolding take_of pick
  fine_low i p w barred spent h = go (leb bound i) refl h
    where
      go : (b : Bool) → leb bound i ≡ b → eqb (pick b (fault 7 p) (take_kind (get_or slots i unbound).kind i p w barred spent)).number 0 ≡ true → i < bound
      go true e q = let z : ◌≡◌ {A = ℕ} 0 1 = cc in absurd (omega arith)
      go false e q = leb-false bound i e

  pub list_tells : (ms : List Mode) (ss : List ℕ) (scale modes at earlier spent : ℕ) (list : List ℕ) → Alike 32 list earlier → Scaled bytes scale modes ms → Listed bytes at ss
      → length ss ≡ length ms
      → told slots bound (list_of bytes slots bound scale (length ms) modes at earlier spent) ≡ tree.pass list ms ss at (left_of slots bound spent)
  unfolding list_of tree.pass
  list_tells [] [] scale modes at earlier spent list a m l e = told_spent slots bound spent
  list_tells [] (s ∷ ss) scale modes at earlier spent list a m l e = absurd (omega arith)
  list_tells (x ∷ ms) [] scale modes at earlier spent list a m l e = absurd (omega arith)
  list_tells (x ∷ ms) (s ∷ ss) scale modes at earlier spent list a m l e =
      let w = want_at (byte_at bytes modes * scale) in
      let i = byte_at bytes at in
      let t = take_of slots bound i at w (bars_of w earlier i) spent in
      told_then slots bound t (list_of bytes slots bound scale (length ms) (modes + 1) (at + 1) (bit_or earlier (2 ^ i)) t.spent) (λ S. tree.pass (s ∷ list) ms ss (suc at) S)
      (λ q. let low = fine_low i at w (bars_of w earlier i) spent q in
      rw (← add-one at, ← l.0) (list_tells ms ss scale (modes + 1) (at + 1) (bit_or earlier (2 ^ i)) t.spent (i ∷ list) (alike_with 32 list earlier i (omega arith) a) m.1 l.1 (omega arith)))
      ∙ ap (λ o. then o (λ S. tree.pass (s ∷ list) ms ss (suc at) S)) (taken x s m l)
    where
      taken : (y : Mode) (v : ℕ) → Scaled bytes scale modes (y ∷ ms) → Listed bytes at (v ∷ ss)
          → told slots bound (take_of slots bound (byte_at bytes at) at (want_at (byte_at bytes modes * scale)) (bars_of (want_at (byte_at bytes modes * scale)) earlier (byte_at bytes at)) spent)
          ≡ tree.take (tree.spends (tree.want y) && tree.member v list) (tree.want y) v at (left_of slots bound spent)
      taken y v m' l' =
          take_tells slots wide bound few (byte_at bytes at) at (want_at (byte_at bytes modes * scale)) (bars_of (want_at (byte_at bytes modes * scale)) earlier (byte_at bytes at)) spent
          ∙ rw (m'.0, want_is y, ← (a (byte_at bytes at)), l'.0)

-- ---- a leaf's record
unfoldable pub leafed : Taken → Outcome (Unit {0})
leafed t = pick (eqb t.number 0) (ok tt) (refuse t.number t.place)

pub close_tells : (t : Taken) (at : ℕ) (slots : List Slot) (bound : ℕ) → leafed (close_of t at slots bound) ≡ then (told slots bound t) (tree.done at)
unfolding leafed close_of on_fine told pick left_of
close_tells t at slots bound = go (eqb t.number 0) refl
  where
    S : tree.Slots
    S = slots_of bound (spent_by (bits_of 32 t.spent) slots)

    Rest : Bool → Taken
    Rest x = pick x (fault 11 at) (fine 0)

    left : (x : Bool) → pick (eqb (Rest x).number 0) (ok tt) (refuse (Rest x).number (Rest x).place) ≡ require 11 at (not x)
    left true = refl
    left false = refl

    go : (x : Bool) → eqb t.number 0 ≡ x
        → pick (eqb (pick (eqb t.number 0) (Rest (tree.leftover S)) t).number 0) (ok tt) (refuse (pick (eqb t.number 0) (Rest (tree.leftover S)) t).number (pick (eqb t.number 0) (Rest (tree.leftover S)) t).place)
        ≡ then (pick (eqb t.number 0) (ok S) (refuse t.number t.place)) (tree.done at)
    go true e = rw e (left (tree.leftover S))
    go false e = rw e (rw e refl)
