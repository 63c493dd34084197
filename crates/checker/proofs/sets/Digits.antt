-- The machine's operations on a number, on the list of its digits: the set that they stand for. Assumes nothing.
use Rattle.std.proofs.Common.{ℕ, zero, suc, ◌+◌, ◌-◌, ◌*◌, ◌/◌, ◌%◌, ◌^◌, ◌<◌, min, max, ◌≡◌, refl, sym, ap, ◌∙◌, List, ◌∷◌, Bool, true, false, eqb, length, set, get_or, replicate, arith, get_or-set_same, get_or-set_other, length-set, w32}
use Rattle.std.proofs.lemmas.Nat.Bits.{bit_at-lt, bit_at_lowest, bit_at-suc, bit_at_or, bit_at_xor, bit_at-pow_same, bit_at-pow_other, bit_at-trailing_zeros}
use Rattle.std.proofs.lemmas.Grind.{one_shifted}
use Rattle.std.specs.Int.{bit_at}
use native.Mathlib.Decide.{ℕ_discrete}
use native.Mathlib.Nat.{pow-suc}
use lib.Bits.{bit_or, bit_and, bit_xor, and_step, and_self, and_le_r}
use lib.Count.{count_trailing_zeros, under, ones, ones_step, ones-ones, ones-le, trailing_le}
use lib.Seq.{ext_get_or}
use Rattle.meaning.specs.Sets.{first, how_many, zip, or, differ}
use Rattle.theory.proofs.Bools.{zip_length, zip_at}
use Rattle.checker.specs.Bits.{bits_of}

-- a digit is 0 or 1
by_digit : (P : ℕ → Type 0) (x : ℕ) → P 0 → P 1 → P (x % 2)
by_digit P x none one = go (x % 2) (omega arith)
  where
    go : (r : ℕ) → r < 2 → P r
    go zero l = none
    go (suc zero) l = one
    go (suc (suc r)) l = absurd (omega arith)

pub bits_none : (d : ℕ) → bits_of d 0 ≡ replicate d false
unfolding bits_of
bits_none zero = refl
bits_none (suc d) = ap (λ (l : List Bool). false ∷ l) (bits_none d)

pub bits_length : (d x : ℕ) → length (bits_of d x) ≡ d
unfolding bits_of
bits_length zero x = refl
bits_length (suc d) x = ap suc (bits_length d (x / 2))

pub has_bit : (d x i : ℕ) → i < d → eqb (x / 2 ^ i % 2) 1 ≡ get_or (bits_of d x) i false
unfolding bits_of
has_bit zero x i h = absurd (omega arith)
has_bit (suc d) x zero h = rw (bit_at_lowest x)
has_bit (suc d) x (suc i) h = rw (bit_at-suc x i) (has_bit d (x / 2) i (omega arith))

-- a number's digits, one by one
by_bits : (d x : ℕ) (l : List Bool) → length l ≡ d → ((i : ℕ) → i < d → eqb (bit_at x i) 1 ≡ get_or l i false) → bits_of d x ≡ l
by_bits d x l e h =
    ext_get_or false (bits_of d x) l (bits_length d x ∙ sym e) (λ i k. let m : i < d = omega (arith, bits_length d x) in sym (has_bit d x i m) ∙ h i m)

pub or_bit : (d x i : ℕ) → i < d → bits_of d (bit_or x (2 ^ i)) ≡ set (bits_of d x) i true
or_bit d x i h = by_bits d (bit_or x (2 ^ i)) (set (bits_of d x) i true) (length-set (bits_of d x) i true ∙ bits_length d x) (λ j l. rw (bit_at_or x (2 ^ i) j) (go j l (ℕ_discrete j i)))
  where
    go : (j : ℕ) → j < d → Dec (j ≡ i) → eqb (max (bit_at x j) (bit_at (2 ^ i) j)) 1 ≡ get_or (set (bits_of d x) i true) j false
    go j l (yes e) =
        let m : max (bit_at x i) 1 ≡ 1 = omega (arith, bit_at-lt x i) in
        rw (e, bit_at-pow_same i, m) (sym (get_or-set_same (bits_of d x) i true false (omega (arith, bits_length d x))))
    go j l (no n) =
        let m : max (bit_at x j) 0 ≡ bit_at x j = omega arith in
        rw (bit_at-pow_other i j n, m, get_or-set_other (bits_of d x) i j true false n) (has_bit d x j l)

-- an operation h on two digits that is k on the Bools
module _ (op h : ℕ → ℕ → ℕ) (k : Bool → Bool → Bool) (each : (x y i : ℕ) → bit_at (op x y) i ≡ h (bit_at x i) (bit_at y i))
    (a : eqb (h 0 0) 1 ≡ k false false) (b : eqb (h 0 1) 1 ≡ k false true) (c : eqb (h 1 0) 1 ≡ k true false) (e : eqb (h 1 1) 1 ≡ k true true) (z : k false false ≡ false) where
  both : (d x y : ℕ) → bits_of d (op x y) ≡ zip k (bits_of d x) (bits_of d y)
  both d x y =
      let same = bits_length d x ∙ sym (bits_length d y) in
      by_bits d (op x y) (zip k (bits_of d x) (bits_of d y)) (zip_length k (bits_of d x) (bits_of d y) same ∙ bits_length d x)
      (λ i l. rw (each x y i, zip_at k z (bits_of d x) (bits_of d y) i same, ← has_bit d x i l, ← has_bit d y i l)
      (by_digit (λ m. eqb (h m (bit_at y i)) 1 ≡ k (eqb m 1) (eqb (bit_at y i) 1)) (x / 2 ^ i)
      (by_digit (λ n. eqb (h 0 n) 1 ≡ k false (eqb n 1)) (y / 2 ^ i) a b)
      (by_digit (λ n. eqb (h 1 n) 1 ≡ k true (eqb n 1)) (y / 2 ^ i) c e)))

pub or_bits : (d x y : ℕ) → bits_of d (bit_or x y) ≡ zip or (bits_of d x) (bits_of d y)
or_bits = both bit_or max or bit_at_or refl refl refl refl refl

pub xor_bits : (d x y : ℕ) → bits_of d (bit_xor x y) ≡ zip differ (bits_of d x) (bits_of d y)
xor_bits = both bit_xor (λ m n. (m + n) % 2) differ bit_at_xor refl refl refl refl refl

pub low_bit : (d x : ℕ) → count_trailing_zeros d x ≡ first (bits_of d x)
unfolding bits_of first count_trailing_zeros
low_bit zero x = refl
low_bit (suc d) x = by_digit (λ r. under r (count_trailing_zeros d (x / 2)) ≡ first (eqb r 1 ∷ bits_of d (x / 2))) x (ap suc (low_bit d (x / 2))) refl

-- clearing the lowest digit that is set
cleared : (d x y : ℕ) → min (x % 2) (y % 2) ≡ 0 → bits_of (suc d) (bit_and x y) ≡ false ∷ bits_of d (bit_and (x / 2) (y / 2))
unfolding bits_of
cleared d x y m =
    let h = bit_and (x / 2) (y / 2) in
    let q : (h * 2 + 0) % 2 ≡ 0 = omega arith in
    let r : (h * 2 + 0) / 2 ≡ h = omega arith in
    rw (and_step x y, m, q, r)

pub and_low : (d x : ℕ) → 0 < x → bits_of d (bit_and x (x - 1)) ≡ set (bits_of d x) (first (bits_of d x)) false
unfolding bits_of first
and_low zero x h = refl
and_low (suc d) x h =
    let clear = λ (r : ℕ). set (eqb r 1 ∷ bits_of d (x / 2)) (first (eqb r 1 ∷ bits_of d (x / 2))) false in
    cleared d x (x - 1) (omega arith)
    ∙ by_digit (λ r. x % 2 ≡ r → false ∷ bits_of d (bit_and (x / 2) ((x - 1) / 2)) ≡ clear r) x
    (λ e. let a : (x - 1) / 2 ≡ x / 2 - 1 = omega arith in rw a (ap (λ (l : List Bool). false ∷ l) (and_low d (x / 2) (omega arith))))
    (λ e. let a : (x - 1) / 2 ≡ x / 2 = omega arith in rw (a, and_self (x / 2)))
    refl

pub and_less : (x : ℕ) → 0 < x → bit_and x (x - 1) < x
and_less x h = omega (arith, and_le_r x (x - 1))

pub ones_bits : (d x : ℕ) → x < 2 ^ d → ones x ≡ how_many (bits_of d x)
unfolding bits_of how_many
ones_bits zero x h = let e : x ≡ 0 = omega arith in rw e (ones-ones 0)
ones_bits (suc d) x h =
    let ih = ones_bits d (x / 2) (omega (arith, pow-suc 2 d)) in
    rw (ones_step x, ih) (by_digit (λ r. r + how_many (bits_of d (x / 2)) ≡ how_many (eqb r 1 ∷ bits_of d (x / 2))) x (omega arith) (omega arith))

-- what the check tries at each operation of the module `sets`
pub some_bit : (x : ℕ) → 0 < x → x < 2 ^ 32 → count_trailing_zeros 32 x < 32
some_bit x h l = (bit_at-trailing_zeros w32 x h l).0

pub ruleset laws = (has_bit, or_bit, one_shifted, low_bit, trailing_le, some_bit, and_low, and_less, ones_bits, ones-le, or_bits, xor_bits)
