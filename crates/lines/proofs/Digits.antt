-- The digits of a number, as the definitions say them, are those that the library writes. Assumes nothing.
use Rattle.std.proofs.Common.{◌≡◌, ℕ, suc, ◌+◌, ◌/◌, ◌%◌, ◌^◌, ◌<◌, ◌≤◌, [], ◌∷◌, ◌++◌, length, arith}
use Rattle.std.proofs.lemmas.Bool.{lt-ltb, le-ltb}
use Rattle.std.proofs.lemmas.Fmt.{decimal_from_appends, length-decimal-le_succ, length-decimal-le}
use Rattle.std.specs.Fmt.{decimal}
use Rattle.meaning.specs.Choice.{pick}
use Rattle.meaning.specs.Lines.{digits, digits_within}

within_small : (k n : ℕ) → n < 10 → digits_within (suc k) n ≡ (48 + n) ∷ []
unfolding digits_within pick
within_small k n h = simp (lt-ltb n 10 h)

within_large : (k n : ℕ) → 10 ≤ n → digits_within (suc k) n ≡ digits_within k (n / 10) ++ ((48 + n % 10) ∷ [])
unfolding digits_within pick
within_large k n h = simp (le-ltb n 10 h)

pub digits_decimal : (n : ℕ) → n < 2 ^ 64 → digits n ≡ decimal n
unfolding digits
digits_decimal n h = decimal_from_appends digits_within (record { one = within_small; more = within_large }) (suc n) n h (omega (arith, length-decimal-le_succ n h))

-- a word has ten digits at the most
pub ten_digits : (n : ℕ) → n < 2 ^ 32 → length (decimal n) ≤ 10
ten_digits n h = length-decimal-le 10 n (omega arith) (omega arith) (omega arith)

pub zero_digits : digits 0 ≡ 48 ∷ []
unfolding digits
zero_digits = within_small 0 0 (omega arith)
