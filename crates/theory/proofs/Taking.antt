-- What `take` tests, as one statement both ways. Assumes nothing.
use Prim.Native.Nat.{ℕ}
use mathlib.Core.Bool.{Bool, true, false, not, ◌||◌}
use mathlib.Core.Option.{Option, none, some}
use mathlib.Core.Path.{◌≡◌, refl, ap}
use native.Mathlib.Omega.{arith}
use borrow.Author.Tests.{not-true}
use lib.ListN.{get_elem?}
use Rattle.meaning.specs.Outcome.{Outcome, ok, refuse, ◌>>=◌, require, present}
use Rattle.meaning.specs.Ownership.{Slot, Slots, Want, fits, sized, spends, spend, take}

pub refused : {A : Type 0} {n p : ℕ} {a : A} → refuse n p ≡ ok a → ⊥
refused e = let z : ◌≡◌ {A = ℕ} 0 1 = cc in omega arith

-- an answer that comes of two steps: both went well
pub steps_ok : {A B : Type 0} (r : Outcome A) (k : A → Outcome B) {b : B} → ◌>>=◌ r k ≡ ok b → (a : A) × (r ≡ ok a) × (k a ≡ ok b)
steps_ok (ok a) k e = (a, refl, e)
steps_ok (refuse n p) k e = absurd (refused e)

pub require_then : (n p : ℕ) (t : Bool) {B : Type 0} (k : Unit {0} → Outcome B) {b : B} → ◌>>=◌ (require n p t) k ≡ ok b → (t ≡ true) × (k tt ≡ ok b)
require_then n p true k e = (refl, e)
require_then n p false k e = absurd (refused e)

pub present_then : {A : Type 0} (n p : ℕ) (o : Option A) {B : Type 0} (k : A → Outcome B) {b : B} → ◌>>=◌ (present n p o) k ≡ ok b → (a : A) × (o ≡ some a) × (k a ≡ ok b)
present_then n p none k e = absurd (refused e)
present_then n p (some a) k e = (a, refl, e)

pub record Takes (barred : Bool) (w : Want) (s : ℕ) (slots slots' : Slots) : Type 0 where
  pub slot : Slot
  pub stands : get_elem? slots s ≡ some slot
  pub fit : fits w slot.kind ≡ true
  pub live : (slot.used || barred) ≡ false
  pub size : sized w slot.kind ≡ true
  pub after : spend (spends w) slots s slot ≡ slots'

pub take_ok : (b : Bool) (w : Want) (s p : ℕ) (slots slots' : Slots) → Takes b w s slots slots' → take b w s p slots ≡ ok slots'
unfolding take
take_ok b w s p slots slots' t = rw (t.stands, t.fit, t.live, t.size, take) (ap ok t.after)

pub take_inv : (b : Bool) (w : Want) (s p : ℕ) (slots slots' : Slots) → take b w s p slots ≡ ok slots' → Takes b w s slots slots'
unfolding take
take_inv b w s p slots slots' e =
    let a = present_then 7 p (get_elem? slots s) _ e in
    let x = a.0 in
    let c = require_then 8 p (fits w x.kind) _ a.2 in
    let d = require_then 9 p (not (x.used || b)) _ c.1 in
    let f = require_then 10 p (sized w x.kind) _ d.1 in
    record {
      slot = x;
      stands = a.1;
      fit = c.0;
      live = not-true (x.used || b) d.0;
      size = f.0;
      after = let q = f.1 in cc;
    }
