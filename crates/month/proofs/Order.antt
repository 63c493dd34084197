-- The month in numbers does not depend on the order of the runs. Assumes nothing.
use Prim.Native.Nat.{ℕ, suc, ◌*◌, ◌%◌, max, min}
use mathlib.Core.Path.{◌≡◌, refl, ap, ap₂, ◌∙◌}
use mathlib.Core.Bool.{Bool, true, false}
use mathlib.Core.List.{List, [], ◌∷◌, map}
use native.Mathlib.Omega.{arith}
use lib.ListN.{length}
use lib.Dec.{leb, eqb}
use Rattle.meaning.specs.Choice.{pick}
use Rattle.month.specs.declared.Run.{Run}
use Rattle.month.specs.Month.{runs_of, numbers, among, known, count, counts_of, ended, steps_of, frames_of, highest, greatest, lowest, least, within, enough, those, nine_tenths, figures, month_of, Permutes, none, same, swap, both}

-- any list is in its own order
as_is : {A : Type 0} (xs : List A) → Permutes xs xs
as_is [] = none
as_is (x ∷ rest) = same (as_is rest)

length_order : {A : Type 0} {xs ys : List A} → Permutes xs ys → length xs ≡ length ys
length_order none = refl
length_order (same p) = ap suc (length_order p)
length_order swap = refl
length_order (both p q) = length_order p ∙ length_order q

map_order : {A B : Type 0} (f : A → B) {xs ys : List A} → Permutes xs ys → Permutes (map f xs) (map f ys)
map_order f none = none
map_order f (same p) = same (map_order f p)
map_order f swap = swap
map_order f (both p q) = both (map_order f p) (map_order f q)

same_if : {A : Type 0} (b : Bool) (x : A) {xs ys : List A} → Permutes xs ys → Permutes (pick b (x ∷ xs) xs) (pick b (x ∷ ys) ys)
unfolding pick
same_if true x p = same p
same_if false x p = p

swap_if : {A : Type 0} (a b : Bool) (x y : A) (xs : List A) → Permutes (pick a (x ∷ pick b (y ∷ xs) xs) (pick b (y ∷ xs) xs)) (pick b (y ∷ pick a (x ∷ xs) xs) (pick a (x ∷ xs) xs))
unfolding pick
swap_if true true x y xs = swap
swap_if true false x y xs = as_is (x ∷ xs)
swap_if false true x y xs = as_is (y ∷ xs)
swap_if false false x y xs = as_is xs

those_order : {A : Type 0} (test : A → Bool) {xs ys : List A} → Permutes xs ys → Permutes (those test xs) (those test ys)
unfolding those
those_order test none = none
those_order test (same {x = x} p) = same_if (test x) x (those_order test p)
those_order test (swap {x = x} {y = y} {xs = xs}) = swap_if (test x) (test y) x y (those test xs)
those_order test (both p q) = both (those_order test p) (those_order test q)

those_alike : (f g : ℕ → Bool) → ((x : ℕ) → f x ≡ g x) → (xs : List ℕ) → those f xs ≡ those g xs
unfolding those
those_alike f g e [] = refl
those_alike f g e (x ∷ rest) = rw (e x, those_alike f g e rest)

-- ---- counts

swap_known : (a b k : Bool) → pick a (pick b k false) false ≡ pick b (pick a k false) false
unfolding pick
swap_known true true k = refl
swap_known true false k = refl
swap_known false true k = refl
swap_known false false k = refl

known_order : {rs ss : List Run} → Permutes rs ss → known rs ≡ known ss
unfolding known
known_order none = refl
known_order (same {x = r} p) = ap (λ k. pick (among r.number numbers) k false) (known_order p)
known_order (swap {x = r} {y = s} {xs = rest}) = swap_known (among r.number numbers) (among s.number numbers) (known rest)
known_order (both p q) = known_order p ∙ known_order q

swap_counts : (a b : Bool) (n : ℕ) → pick a (suc (pick b (suc n) n)) (pick b (suc n) n) ≡ pick b (suc (pick a (suc n) n)) (pick a (suc n) n)
unfolding pick
swap_counts true true n = refl
swap_counts true false n = refl
swap_counts false true n = refl
swap_counts false false n = refl

count_order : (n : ℕ) {rs ss : List Run} → Permutes rs ss → count n rs ≡ count n ss
unfolding count
count_order n none = refl
count_order n (same {x = r} p) = ap (λ k. pick (eqb r.number n) (suc k) k) (count_order n p)
count_order n (swap {x = r} {y = s} {xs = rest}) = swap_counts (eqb r.number n) (eqb s.number n) (count n rest)
count_order n (both p q) = count_order n p ∙ count_order n q

counts_order : (l : List ℕ) {rs ss : List Run} → Permutes rs ss → map (λ n. count n rs) l ≡ map (λ n. count n ss) l
counts_order [] p = refl
counts_order (n ∷ rest) p = ap₂ (λ k l. k ∷ l) (count_order n p) (counts_order rest p)

within_order : (bound : ℕ) {xs ys : List ℕ} → Permutes xs ys → within bound xs ≡ within bound ys
unfolding within
within_order bound none = refl
within_order bound (same {x = x} p) = ap (λ k. pick (leb x bound) (suc k) k) (within_order bound p)
within_order bound (swap {x = x} {y = y} {xs = xs}) = swap_counts (leb x bound) (leb y bound) (within bound xs)
within_order bound (both p q) = within_order bound p ∙ within_order bound q

-- ---- figures

highest_order : (from : ℕ) {xs ys : List ℕ} → Permutes xs ys → highest from xs ≡ highest from ys
unfolding highest
highest_order from none = refl
highest_order from (same {x = x} p) = highest_order (max from x) p
highest_order from (swap {x = x} {y = y} {xs = xs}) = let e : max (max from x) y ≡ max (max from y) x = omega arith in ap (λ m. highest m xs) e
highest_order from (both p q) = highest_order from p ∙ highest_order from q

lowest_order : (from : ℕ) {xs ys : List ℕ} → Permutes xs ys → lowest from xs ≡ lowest from ys
unfolding lowest
lowest_order from none = refl
lowest_order from (same {x = x} p) = lowest_order (min from x) p
lowest_order from (swap {x = x} {y = y} {xs = xs}) = let e : min (min from x) y ≡ min (min from y) x = omega arith in ap (λ m. lowest m xs) e
lowest_order from (both p q) = lowest_order from p ∙ lowest_order from q

greatest_order : {xs ys : List ℕ} → Permutes xs ys → greatest xs ≡ greatest ys
unfolding greatest
greatest_order p = highest_order 0 p

least_order : {xs ys : List ℕ} → Permutes xs ys → least xs ≡ least ys
unfolding least
least_order {xs} {ys} p = ap (λ m. lowest m xs) (greatest_order p) ∙ lowest_order (greatest ys) p

enough_order : {xs ys : List ℕ} → Permutes xs ys → (bound : ℕ) → enough xs bound ≡ enough ys bound
unfolding enough
enough_order p bound = ap₂ (λ n k. leb (9 * n) (10 * k)) (length_order p) (within_order bound p)

nine_tenths_order : {xs ys : List ℕ} → Permutes xs ys → nine_tenths xs ≡ nine_tenths ys
unfolding nine_tenths
nine_tenths_order {xs} {ys} p = ap least (those_alike (enough xs) (enough ys) (enough_order p) xs) ∙ least_order (those_order (enough ys) p)

steps_order : {rs ss : List Run} → Permutes rs ss → Permutes (steps_of rs) (steps_of ss)
unfolding steps_of ended
steps_order p = map_order (λ r. r.steps) (those_order (λ r. eqb r.number 0) p)

frames_order : {rs ss : List Run} → Permutes rs ss → Permutes (frames_of rs) (frames_of ss)
unfolding frames_of ended
frames_order p = map_order (λ r. r.frames) (those_order (λ r. eqb r.number 0) p)

figures_order : {rs ss : List Run} → Permutes rs ss → figures rs ≡ figures ss
unfolding figures counts_of
figures_order p = rw (counts_order numbers p, least_order (steps_order p), greatest_order (steps_order p), nine_tenths_order (steps_order p), greatest_order (frames_order p))

-- ---- the month

whole_runs : (words : List ℕ) → length words % 3 ≡ 0 → length words ≡ 3 * length (runs_of words)
unfolding runs_of
whole_runs [] h = refl
whole_runs (n ∷ []) h = absurd (omega arith)
whole_runs (n ∷ (s ∷ [])) h = absurd (omega arith)
whole_runs (n ∷ (s ∷ (f ∷ rest))) h = let k : length rest % 3 ≡ 0 = omega arith in omega (arith, whole_runs rest k)

-- "Proved independent of the order of the runs": two slices of whole runs, with the same runs in any two orders, have the same month
pub order_free : (words others : List ℕ) → length words % 3 ≡ 0 → length others % 3 ≡ 0 → Permutes (runs_of words) (runs_of others) → month_of words ≡ month_of others
unfolding month_of
order_free words others h k p =
    let e : length words ≡ length others = omega (arith, whole_runs words h, whole_runs others k, length_order p) in
    rw (e, known_order p, figures_order p)
