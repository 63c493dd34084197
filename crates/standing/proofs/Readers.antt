-- The primitive readers, run on the bytes from a place on: whatever holds of a reader's refusals and of how it goes on, holds of it.
-- Assumes nothing.
use Prim.Native.Nat.{ℕ, zero, suc, ◌+◌, ◌≤◌, ◌<◌}
use mathlib.Core.List.{List, ◌∷◌}
use mathlib.Core.Bool.{Bool, true, false}
use mathlib.Core.Option.{Option, none, some}
use mathlib.Core.Path.{◌≡◌, refl, sym, subst}
use lib.ListN.{length, drop, get_or, get_elem?, drop_of_length-le}
use lib.Seq.{drop-cons}
use lib.Dec.{leb, ltb}
use native.Mathlib.Omega.{arith}
use borrow.Author.Tests.{leb-true, leb-false}
use Rattle.meaning.specs.Outcome.{Outcome, ok, refuse, then}
use Rattle.meaning.specs.Reading.{Reader, byte, ensure, times, declared, below}
use Rattle.standing.specs.Bytes.{bytes_at}

module _ {B : Type 0} (f : List ℕ) (Goal : Outcome (B × ℕ × List ℕ) → Type 0) where
  pub byte_gen : (a : ℕ) (k : ℕ × ℕ × List ℕ → Outcome (B × ℕ × List ℕ)) → a ≤ length f → (length f ≤ a → Goal (refuse 2 (length f)))
      → (a < length f → Goal (k (get_or f a 0, suc a, drop (suc a) f))) → Goal (then (byte a (drop a f)) k)
  byte_gen a k h short goes = go (leb (length f) a) refl
    where
      go : (x : Bool) → leb (length f) a ≡ x → Goal (then (byte a (drop a f)) k)
      go true e =
          let l = leb-true (length f) a e in
          let z : length f ≡ a = omega arith in
          subst (λ b. Goal (then (byte a b) k)) (sym (drop_of_length-le f l)) (subst (λ n. Goal (refuse 2 n)) z ((short l)))
      go false e = subst (λ b. Goal (then (byte a b) k)) (sym (drop-cons f a 0 (leb-false (length f) a e))) (goes (leb-false (length f) a e))

  pub ensure_gen : (x p a : ℕ) (bytes : List ℕ) (t : Bool) (k : Unit {0} × ℕ × List ℕ → Outcome (B × ℕ × List ℕ)) → (t ≡ false → Goal (refuse x p))
      → (t ≡ true → Goal (k (tt, a, bytes))) → Goal (then (ensure x p t a bytes) k)
  ensure_gen x p a bytes true k short goes = goes refl
  ensure_gen x p a bytes false k short goes = (short refl)

  pub declared_gen : {A : Type 0} (xs : List A) (test : A → Bool) (a : ℕ) (k : (ℕ × A) × ℕ × List ℕ → Outcome (B × ℕ × List ℕ)) → a ≤ length f
      → (length f ≤ a → Goal (refuse 2 (length f)))
      → (a < length f → get_elem? xs (get_or f a 0) ≡ none → Goal (refuse 4 a))
      → (a < length f → (x : A) → get_elem? xs (get_or f a 0) ≡ some x → test x ≡ false → Goal (refuse 4 a))
      → (a < length f → (x : A) → get_elem? xs (get_or f a 0) ≡ some x → test x ≡ true → Goal (k ((get_or f a 0, x), suc a, drop (suc a) f)))
      → Goal (then (declared xs test a (drop a f)) k)
  unfolding declared
  declared_gen {A} xs test a k h short none_there fails goes = go (leb (length f) a) refl
    where
      Told : Option A → Type 0
      Told o = Goal (then ((elim o as (λ _. Reader (ℕ × A)) [ none ↦ λ at bytes. refuse 4 a | some x ↦ λ at bytes. then (ensure 4 a (test x) at bytes) (λ u. ok ((get_or f a 0, x), u.1, u.2)) ]) (suc a) (drop (suc a) f)) k)

      tested : a < length f → (x : A) → get_elem? xs (get_or f a 0) ≡ some x → (t : Bool) → test x ≡ t
          → Goal (then (then (ensure 4 a t (suc a) (drop (suc a) f)) (λ u. ok ((get_or f a 0, x), u.1, u.2))) k)
      tested l x e true q = goes l x e q
      tested l x e false q = (fails l x e q)

      found : a < length f → (o : Option A) → get_elem? xs (get_or f a 0) ≡ o → Told o
      found l none e = (none_there l e)
      found l (some x) e = tested l x e (test x) refl

      go : (x : Bool) → leb (length f) a ≡ x → Goal (then (declared xs test a (drop a f)) k)
      go true e =
          let l = leb-true (length f) a e in
          let z : length f ≡ a = omega arith in
          subst (λ b. Goal (then (declared xs test a b) k)) (sym (drop_of_length-le f l)) (subst (λ n. Goal (refuse 2 n)) z ((short l)))
      go false e =
          subst (λ b. Goal (then (declared xs test a b) k)) (sym (drop-cons f a 0 (leb-false (length f) a e))) (found (leb-false (length f) a e) (get_elem? xs (get_or f a 0)) refl)

  pub below_gen : (limit a : ℕ) (k : ℕ × ℕ × List ℕ → Outcome (B × ℕ × List ℕ)) → a ≤ length f → (length f ≤ a → Goal (refuse 2 (length f)))
      → (a < length f → ltb (get_or f a 0) limit ≡ false → Goal (refuse 4 a))
      → (a < length f → ltb (get_or f a 0) limit ≡ true → Goal (k (get_or f a 0, suc a, drop (suc a) f))) → Goal (then (below limit a (drop a f)) k)
  unfolding below
  below_gen limit a k h short fails goes = go (leb (length f) a) refl
    where
      tested : a < length f → (t : Bool) → ltb (get_or f a 0) limit ≡ t
          → Goal (then (then (ensure 4 a t (suc a) (drop (suc a) f)) (λ u. ok (get_or f a 0, u.1, u.2))) k)
      tested l true q = goes l q
      tested l false q = (fails l q)

      go : (x : Bool) → leb (length f) a ≡ x → Goal (then (below limit a (drop a f)) k)
      go true e =
          let l = leb-true (length f) a e in
          let z : length f ≡ a = omega arith in
          subst (λ b. Goal (then (below limit a b) k)) (sym (drop_of_length-le f l)) (subst (λ n. Goal (refuse 2 n)) z ((short l)))
      go false e =
          subst (λ b. Goal (then (below limit a b) k)) (sym (drop-cons f a 0 (leb-false (length f) a e))) (tested (leb-false (length f) a e) (ltb (get_or f a 0) limit) refl)

  -- two bytes, and a reader that goes by them
  pub two_gen : {A : Type 0} (J : ℕ → ℕ → Reader A) (a : ℕ) (k : A × ℕ × List ℕ → Outcome (B × ℕ × List ℕ)) → a ≤ length f
      → (length f < a + 2 → Goal (refuse 2 (length f)))
      → (a + 2 ≤ length f → Goal (then (J (get_or f a 0) (get_or f (a + 1) 0) (a + 2) (drop (a + 2) f)) k))
      → Goal (then (then (byte a (drop a f)) (λ x. then (byte x.1 x.2) (λ y. J x.0 y.0 y.1 y.2))) k)
  two_gen {A} J a k h short goes = go (leb (length f) a) refl
    where
      Whole : List ℕ → Type 0
      Whole b = Goal (then (then (byte a b) (λ x. then (byte x.1 x.2) (λ y. J x.0 y.0 y.1 y.2))) k)

      Half : List ℕ → Type 0
      Half b = Goal (then (then (byte (suc a) b) (λ y. J (get_or f a 0) y.0 y.1 y.2)) k)

      last : a < length f → (x : Bool) → leb (length f) (suc a) ≡ x → Half (drop (suc a) f)
      last l true e =
          let m = leb-true (length f) (suc a) e in
          let z : length f ≡ suc a = omega arith in
          subst Half (sym (drop_of_length-le f m)) (subst (λ n. Goal (refuse 2 n)) z ((short (omega arith))))
      last l false e =
          let m = leb-false (length f) (suc a) e in
          let z : a + 1 ≡ suc a = omega arith in
          let w : a + 2 ≡ suc (suc a) = omega arith in
          subst Half (sym (drop-cons f (suc a) 0 m))
          (subst (λ n. Goal (then (J (get_or f a 0) (get_or f n 0) (suc (suc a)) (drop (suc (suc a)) f)) k)) z
          (subst (λ n. Goal (then (J (get_or f a 0) (get_or f (a + 1) 0) n (drop n f)) k)) w (goes (omega arith))))

      go : (x : Bool) → leb (length f) a ≡ x → Whole (drop a f)
      go true e =
          let l = leb-true (length f) a e in
          let z : length f ≡ a = omega arith in
          subst Whole (sym (drop_of_length-le f l)) (subst (λ n. Goal (refuse 2 n)) z ((short (omega arith))))
      go false e =
          let l = leb-false (length f) a e in
          subst Whole (sym (drop-cons f a 0 l)) (last l (leb (length f) (suc a)) refl)

-- n bytes
again : {A B C : Type 0} (o : Outcome (A × ℕ × List ℕ)) (h : A × ℕ × List ℕ → B) (k : B × ℕ × List ℕ → Outcome (C × ℕ × List ℕ))
    → then (then o (λ y. ok (h y, y.1, y.2))) k ≡ then o (λ y. k (h y, y.1, y.2))
again (ok y) h k = refl
again (refuse x p) h k = refl

pub bytes_gen : {B : Type 0} (f : List ℕ) (Goal : Outcome (B × ℕ × List ℕ) → Type 0) (n a : ℕ) (k : List ℕ × ℕ × List ℕ → Outcome (B × ℕ × List ℕ)) → a ≤ length f
    → (length f < a + n → Goal (refuse 2 (length f))) → ((b : ℕ) → b ≡ a + n → b ≤ length f → Goal (k (bytes_at f a n, b, drop b f)))
    → Goal (then (times n byte a (drop a f)) k)
unfolding times bytes_at
bytes_gen f Goal zero a k h short goes = goes a (omega arith) h
bytes_gen {B} f Goal (suc n) a k h short goes = go (leb (length f) a) refl (λ k' l goes'. bytes_gen f Goal n (suc a) k' l (λ m. short (omega arith)) goes')
  where
    go : (x : Bool) → leb (length f) a ≡ x
        → ((k' : List ℕ × ℕ × List ℕ → Outcome (B × ℕ × List ℕ)) → suc a ≤ length f
        → ((b : ℕ) → b ≡ suc a + n → b ≤ length f → Goal (k' (bytes_at f (suc a) n, b, drop b f))) → Goal (then (times n byte (suc a) (drop (suc a) f)) k'))
        → Goal (then (times (suc n) byte a (drop a f)) k)
    go true e more =
        let l = leb-true (length f) a e in
        let z : length f ≡ a = omega arith in
        subst (λ b. Goal (then (times (suc n) byte a b) k)) (sym (drop_of_length-le f l)) (subst (λ m. Goal (refuse 2 m)) z (short (omega arith)))
    go false e more =
        let l = leb-false (length f) a e in
        subst (λ b. Goal (then (times (suc n) byte a b) k)) (sym (drop-cons f a 0 l))
        (subst Goal (sym (again (times n byte (suc a) (drop (suc a) f)) (λ y. get_or f a 0 ∷ y.0) k))
        (more (λ y. k (get_or f a 0 ∷ y.0, y.1, y.2)) l (λ b q m. goes b (omega arith) m)))
