-- AR's operations as exact numbers. Assumes nothing.
use Rattle.std.specs.Prelude.{ℕ, zero, suc, ◌+◌, ◌-◌, leb, ltb, eqb}
use Rattle.meaning.specs.Choice.{pick}
use Rattle.meaning.specs.Plain.{flag}

-- 0 add, 1 subtract, 2 smaller, 3 and every other equal; 65,536 where a difference is below 0
abbrev pub sum_of : (operation left right : ℕ) → ℕ
sum_of zero x y = x + y
sum_of (suc zero) x y = pick (leb y x) (x - y) 65536
sum_of (suc (suc zero)) x y = flag (ltb x y)
sum_of (suc (suc (suc _))) x y = flag (eqb x y)
