-- The runs that arrays of three words give, and a loop over them. Assumes nothing.
use Prim.Native.Nat.{ℕ, zero, suc, ◌+◌, ◌*◌, ◌<◌, ◌≤◌}
use mathlib.Core.Path.{◌≡◌, refl, sym, ap}
use mathlib.Core.List.{List, [], ◌∷◌, map}
use native.Mathlib.Omega.{arith}
use lib.ListN.{length, get_or, take}
use Rattle.std.specs.List.{fold}
use Rattle.std.specs.Simd.{first_chunks}
use Rattle.std.proofs.lemmas.List.Folds.{fold-map}
use Rattle.std.proofs.lemmas.List.Sums.{fold_more}
use Rattle.month.specs.declared.Run.{Run}
use Rattle.month.specs.Month.{run, runs_of}

-- the run of an array's words
abbrev pub run_in : List ℕ → Run
run_in w = run (get_or w 0 0) (get_or w 1 0) (get_or w 2 0)

-- the runs of the first k arrays of three words, where no more than two words are left
pub array_runs : (xs : List ℕ) (k : ℕ) → 3 * k ≤ length xs → length xs < 3 * k + 3 → map run_in (first_chunks 3 k xs) ≡ runs_of xs
unfolding runs_of
array_runs [] zero a b = refl
array_runs (n ∷ []) zero a b = refl
array_runs (n ∷ (s ∷ [])) zero a b = refl
array_runs (n ∷ (s ∷ (f ∷ rest))) zero a b = absurd (omega arith)
array_runs [] (suc k) a b = absurd (omega arith)
array_runs (n ∷ []) (suc k) a b = absurd (omega arith)
array_runs (n ∷ (s ∷ [])) (suc k) a b = absurd (omega arith)
array_runs (n ∷ (s ∷ (f ∷ rest))) (suc k) a b = ap (λ l. run n s f ∷ l) (array_runs rest k (omega arith) (omega arith))

-- a loop's next turn, where its state is a fold over the runs so far
pub turn : {B : Type 0} (step : B → Run → B) (a : B) (xs : List (List ℕ)) {i : ℕ} {had next : B} {r : Run} → i < length xs → r ≡ run_in (get_or xs i []) → had ≡ fold step a (map run_in (take i xs)) → next ≡ step had r → next ≡ fold step a (map run_in (take (i + 1) xs))
turn step a xs {i = i} h e before k = rw (k, before, e, fold-map step run_in a (take (i + 1) xs), fold-map step run_in a (take i xs)) (sym (fold_more (λ b w. step b (run_in w)) a xs i [] h))
