-- The exact numbers, where they are in 0..65,535, are AR's results. Assumes nothing.
use Prim.Native.Nat.{ℕ, zero, suc, ◌-◌}
use mathlib.Core.Bool.{Bool, true, false}
use mathlib.Core.Option.{some, none}
use mathlib.Core.Path.{◌≡◌, refl}
use lib.Dec.{leb, ltb, eqb}
use Rattle.meaning.specs.Choice.{pick}
use Rattle.meaning.specs.Plain.{arithmetic, flag, ranged}
use Rattle.sums.specs.Sums.{sum_of}

flag_ranged : (b : Bool) → ranged (flag b) ≡ some (flag b)
flag_ranged true = refl
flag_ranged false = refl

difference_ranged : (b : Bool) (d : ℕ) → ranged (pick b d 65536) ≡ elim b [ true ↦ ranged d | false ↦ none ]
unfolding pick
difference_ranged true d = refl
difference_ranged false d = refl

pub sum_ranged : (operation x y : ℕ) → ranged (sum_of operation x y) ≡ arithmetic operation x y
sum_ranged zero x y = refl
sum_ranged (suc zero) x y = difference_ranged (leb y x) (x - y)
sum_ranged (suc (suc zero)) x y = flag_ranged (ltb x y)
sum_ranged (suc (suc (suc n))) x y = flag_ranged (eqb x y)
