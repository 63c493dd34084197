-- What is noted of a part of a file, from the first fault before it to the one behind it: of nothing, of a record and the rest, of two parts in
-- a row. Assumes nothing.
use Prim.Native.Nat.{ℕ}
use mathlib.Core.Bool.{Bool, true, false}
use mathlib.Core.Path.{◌≡◌, refl, sym, ap, ◌∙◌, subst}
use lib.Dec.{eqb}
use borrow.Author.Tests.{eqb-true, eqb-false, eq-eqb, ne_eqb}
use Rattle.meaning.specs.Choice.{pick}
use Rattle.checker.specs.Read.{Read, Next, Fault}
use Rattle.std.specs.Prelude.{Option, None, Some}
use Rattle.std.specs.Option.{option_or}
use Rattle.meaning.specs.declared.Refusal.{Refusal}
use Rattle.meaning.specs.declared.Fault as faults
use Rattle.checker.specs.Bits.{bits_of}
use Rattle.checker.specs.Slots.{digit}
use Rattle.checker.specs.Ownership.{repeat_of, repeated}
use native.Mathlib.Omega.{arith}
use Prim.Native.Nat.{◌≤◌}
use lib.ListN.{get_or}
use Rattle.meaning.specs.Answers.{fault_number}
use Rattle.checker.specs.Bodies.{fault_after, place_after, told_by, Told, number_in, place_in}
use Rattle.meaning.proofs.Told.{fault_some}

-- a number is 0 or not
pub zero_or : {A : Type 0} (x : ℕ) → (x ≡ 0 → A) → ((x ≡ 0 → ⊥) → A) → A
zero_or {A} x a b = go (eqb x 0) refl
  where
    go : (t : Bool) → eqb x 0 ≡ t → A
    go true e = a (eqb-true x 0 e)
    go false e = b (eqb-false x 0 e)

pub told_next : (n x q : ℕ) → x ≡ 0 → told_by n x q ≡ Next n
unfolding told_by pick
told_next n x q e = rw (eq-eqb x 0 e)

pub told_fault : (n x q : ℕ) → (x ≡ 0 → ⊥) → told_by n x q ≡ Fault x q
unfolding told_by pick
told_fault n x q h = rw (ne_eqb x 0 h)

fault_told : (n : ℕ) {x q y z : ℕ} → x ≡ y → q ≡ z → (y ≡ 0 → ⊥) → told_by n x q ≡ Fault y z
fault_told n {x} {q} c d h = told_fault n x q (λ i. h (sym c ∙ i)) ∙ (λ i. Fault (c i) (d i))

-- what noting a fault leaves
module _ (x q number place : ℕ) where
  pub after_found : (x ≡ 0 → ⊥) → (fault_after x number ≡ x) × (place_after x q number place ≡ q)
  unfolding fault_after place_after pick
  after_found h = (rw (ne_eqb x 0 h), go (eqb number 0))
    where
      go : (t : Bool) → pick t q (pick (eqb x 0) place q) ≡ q
      go true = refl
      go false = rw (ne_eqb x 0 h)

  pub after_none : number ≡ 0 → (fault_after x number ≡ x) × (place_after x q number place ≡ q)
  unfolding fault_after place_after pick
  after_none e = (go (eqb x 0) refl, rw (eq-eqb number 0 e))
    where
      go : (t : Bool) → eqb x 0 ≡ t → fault_after x number ≡ x
      go true z = rw z (e ∙ sym (eqb-true x 0 z))
      go false z = rw z

  pub after_first : x ≡ 0 → (number ≡ 0 → ⊥) → (fault_after x number ≡ number) × (place_after x q number place ≡ place)
  unfolding fault_after place_after pick
  after_first e h = (rw (eq-eqb x 0 e), rw (ne_eqb number 0 h, eq-eqb x 0 e))

after_some : (x : ℕ) {number : ℕ} → (number ≡ 0 → ⊥) → fault_after x number ≡ 0 → ⊥
unfolding fault_after pick
after_some x {number} h e = zero_or x (λ o. h (sym (after_first x 0 number 0 o h).0 ∙ e)) (λ o. o (sym (after_found x 0 number 0 o).0 ∙ e))

-- of nothing
pub none_told : {n x q : ℕ} → Told (λ r. r ≡ Next n) (Unit {0}) n x q x q
none_told {n} {x} {q} = record { first = told_next n x q; kept = λ _. (refl, refl); calls = λ _. tt }

-- of the rest of a part as of the whole
pub told_on : {J K : Read → Type 0} {M N : Type 0} {n x q x' q' : ℕ} → ((r : Read) → J r → K r) → (M → N) → Told J M n x q x' q' → Told K N n x q x' q'
told_on j m t = record { first = λ e. j _ (t.first e); kept = t.kept; calls = λ e. m (t.calls e) }

-- of a record, whose fault is noted, and the rest
pub told_past : {J K : Read → Type 0} {M N : Type 0} {n number place x q y z x' q' : ℕ} → y ≡ fault_after x number → z ≡ place_after x q number place
    → (number ≡ 0 → (r : Read) → J r → K r) → ((number ≡ 0 → ⊥) → K (Fault number place)) → (number ≡ 0 → M → N) → Told J M n y z x' q' → Told K N n x q x' q'
told_past {K = K} {n = n} {number = number} {place = place} {x = x} {q = q} {y = y} ey ez j k m t = record {
  first = λ e.
      zero_or number (λ o. j o _ (t.first (ey ∙ (after_none x q number place o).0 ∙ e))) (λ o.
      let a = after_first x q number place e o in
      let b = t.kept (λ i. o (sym (ey ∙ a.0) ∙ i)) in
      subst K (sym (fault_told n (b.0 ∙ ey ∙ a.0) (b.1 ∙ ez ∙ a.1) o)) (k o));
  kept = λ h.
      let a = after_found x q number place h in
      let b = t.kept (λ i. h (sym (ey ∙ a.0) ∙ i)) in
      (b.0 ∙ ey ∙ a.0, b.1 ∙ ez ∙ a.1);
  calls = λ e. zero_or number (λ o. m o (t.calls e)) (λ o. let h : y ≡ 0 → ⊥ = λ i. after_some x o (sym ey ∙ i) in absurd (h (sym (t.kept h).0 ∙ e)));
}

-- of two parts in a row
pub told_both : {J K L : Read → Type 0} {M N O : Type 0} {b n x q y z x' q' : ℕ} → Told J M b x q y z → (J (Next b) → (r : Read) → K r → L r)
    → ((k s : ℕ) → J (Fault k s) → L (Fault k s)) → (J (Next b) → M → N → O) → Told K N n y z x' q' → Told L O n x q x' q'
told_both {J = J} {L = L} {b = b} {n = n} {x = x} {y = y} {z = z} s j k m t = record {
  first = λ e.
      zero_or y (λ o. j (subst J (told_next b y z o) (s.first e)) _ (t.first o)) (λ o.
      subst L (sym (fault_told n (t.kept o).0 (t.kept o).1 o)) (k y z (subst J (told_fault b y z o) (s.first e))));
  kept = λ h.
      let a = s.kept h in
      let c = t.kept (λ i. h (sym a.0 ∙ i)) in
      (c.0 ∙ a.0, c.1 ∙ a.1);
  calls = λ e.
      zero_or y (λ o.
      zero_or x (λ i. m (subst J (told_next b y z o) (s.first i)) (s.calls o) (t.calls e)) (λ i. absurd (i (sym (s.kept i).0 ∙ o)))) (λ o. absurd (o (sym (t.kept o).0 ∙ e)));
}

-- a fault that is noted where it is the first
pub or_number : (a b : Option Refusal) → number_in (option_or a b) ≡ fault_after (number_in a) (number_in b)
unfolding fault_after pick
or_number None b = refl
or_number (Some r) b = sym (after_found (fault_number r.fault) 0 (number_in b) 0 (fault_some r.fault)).0

pub or_place : (a b : Option Refusal) → place_in (option_or a b) ≡ place_after (number_in a) (place_in a) (number_in b) (place_in b)
unfolding place_after pick
or_place None None = refl
or_place None (Some r) = sym (after_first 0 0 (fault_number r.fault) r.place refl (fault_some r.fault)).1
or_place (Some r) b = sym (after_found (fault_number r.fault) r.place (number_in b) (place_in b) (fault_some r.fault)).1

-- the fault of a constructor that has a second branch, as it is noted
module _ (seen c place : ℕ) where
  pub repeat_number : {n : Option Refusal} → n ≡ repeated seen c place → number_in n ≡ repeat_of seen c
  unfolding repeated repeat_of pick
  repeat_number e = ap number_in e ∙ go (get_or (bits_of 64 seen) c false)
    where
      go : (b : Bool) → number_in (pick b (Some (record { fault = faults.Fault.ConstructorTwice; place = place })) None) ≡ pick b 12 0
      go true = refl
      go false = refl

  pub repeat_place : {n : Option Refusal} (x q : ℕ) → n ≡ repeated seen c place → place_after x q (number_in n) (place_in n) ≡ place_after x q (repeat_of seen c) place
  unfolding repeated repeat_of place_after pick
  repeat_place x q e = ap (λ n. place_after x q (number_in n) (place_in n)) e ∙ go (get_or (bits_of 64 seen) c false)
    where
      go : (b : Bool) → place_after x q (number_in (pick b (Some (record { fault = faults.Fault.ConstructorTwice; place = place })) None)) (place_in (pick b (Some (record { fault = faults.Fault.ConstructorTwice; place = place })) None))
          ≡ place_after x q (pick b 12 0) place
      go true = refl
      go false = refl

pub digit_low : (b : Bool) → digit b ≤ 1
digit_low true = omega arith
digit_low false = omega arith
