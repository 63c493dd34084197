-- Walks over the square. Assumes nothing.
use Prim.Native.Nat.{ℕ, suc, ◌+◌, ◌≤◌, ◌<◌}
use mathlib.Core.Bool.{true}
use mathlib.Core.Path.{◌≡◌, refl}
use native.Mathlib.Omega.{arith}
use native.Mathlib.Nat.{zero-add, suc-add}
use native.Mathlib.Decide.{dec_lt}
use Rattle.meaning.specs.declared.How.{How}
use Rattle.meaning.specs.declared.How.TheVariants.{Never, Tail, Waits}
use Rattle.meaning.specs.Calls.{Square, entry, Walk, stay, tail, wait, Reaches, called}
use Rattle.theory.proofs.Passing.{contradiction}

-- no entry stands past the 32 columns
abbrev pub Narrow : Square → Type 0
Narrow sq = (f g : ℕ) → 32 ≤ g → entry sq f g ≡ Never

pub join : {sq : Square} {f g h m n : ℕ} → Walk sq f g m → Walk sq g h n → Walk sq f h (m + n)
join stay w = rw zero-add w
join (tail e v) w = tail e (join v w)
join (wait e v) w = rw suc-add (wait e (join v w))

pub then_tail : {sq : Square} {f g h n : ℕ} → Walk sq f g n → entry sq g h ≡ Tail → Walk sq f h n
then_tail stay d = tail d stay
then_tail (tail e v) d = tail e (then_tail v d)
then_tail (wait e v) d = wait e (then_tail v d)

pub then_wait : {sq : Square} {f g h n : ℕ} → Walk sq f g n → entry sq g h ≡ Waits → Walk sq f h (suc n)
then_wait stay d = wait d stay
then_wait (tail e v) d = tail e (then_wait v d)
then_wait (wait e v) d = wait e (then_wait v d)

pub reaches_next : (sq : Square) (f g : ℕ) → Reaches sq f → called (entry sq f g) ≡ true → Reaches sq g
reaches_next sq f g r c = go (entry sq f g) refl c
  where
    go : (h : How) → entry sq f g ≡ h → called h ≡ true → Reaches sq g
    go Never e c = let z : ◌≡◌ {A = ℕ} 0 1 = cc in absurd (contradiction z)
    go Tail e c = (r.0, then_tail r.1 e)
    go Waits e c = (suc r.0, then_wait r.1 e)

pub inside : (sq : Square) → Narrow sq → (f g : ℕ) → (entry sq f g ≡ Never → ⊥) → g < 32
inside sq narrow f g k = go (dec_lt g 32)
  where
    go : Dec (g < 32) → g < 32
    go (yes l) = l
    go (no l) = absurd (k (narrow f g (omega arith)))

pub not_tail : {h : How} → h ≡ Tail → h ≡ Never → ⊥
not_tail a b = let z : ◌≡◌ {A = ℕ} 0 1 = cc in contradiction z

pub not_wait : {h : How} → h ≡ Waits → h ≡ Never → ⊥
not_wait a b = let z : ◌≡◌ {A = ℕ} 0 1 = cc in contradiction z

pub ends_inside : {sq : Square} {f g n : ℕ} → Narrow sq → f < 32 → Walk sq f g n → g < 32
ends_inside narrow l stay = l
ends_inside {sq} narrow l (tail {f} {g} e v) = ends_inside narrow (inside sq narrow f g (not_tail e)) v
ends_inside {sq} narrow l (wait {f} {g} e v) = ends_inside narrow (inside sq narrow f g (not_wait e)) v
