-- The least, the greatest and the nine-tenths figure are what their sentences say. Assumes nothing.
use Prim.Native.Nat.{ℕ, zero, suc, ◌*◌, ◌≤◌, ◌<◌, max, min}
use mathlib.Core.Path.{◌≡◌, refl, sym, ap, subst, ◌∙◌}
use mathlib.Core.Logic.{◌⊎◌, inl, inr, ⊎_elim}
use mathlib.Core.Bool.{Bool, true, false}
use mathlib.Core.List.{List, [], ◌∷◌}
use native.Mathlib.Omega.{arith}
use native.Mathlib.Nat.{lt_of_not-le}
use borrow.Author.Tests.{le-leb, leb-true, leb-false}
use lib.ListN.{length}
use lib.Dec.{leb}
use Rattle.meaning.specs.Choice.{pick}
use Rattle.meaning.specs.Derivation.{Has, here, there}
use Rattle.month.specs.Month.{highest, greatest, lowest, least, within, enough, those, nine_tenths, IsNineTenths}

-- ---- the greatest and the least

highest_from : (from : ℕ) (xs : List ℕ) → from ≤ highest from xs
unfolding highest
highest_from from [] = omega arith
highest_from from (x ∷ rest) = omega (arith, highest_from (max from x) rest)

highest_above : {x : ℕ} (from : ℕ) {xs : List ℕ} → Has x xs → x ≤ highest from xs
unfolding highest
highest_above {x} from {xs = y ∷ rest} here = omega (arith, highest_from (max from x) rest)
highest_above {x} from {xs = y ∷ rest} (there h) = highest_above (max from y) h
highest_above {x = x} from {xs = []} h = elim h [ ]

max_one : (a b : ℕ) → (max a b ≡ a) ⊎ (max a b ≡ b)
max_one a b = go (leb a b) refl
  where
    go : (t : Bool) → leb a b ≡ t → (max a b ≡ a) ⊎ (max a b ≡ b)
    go true e = let h = leb-true a b e in inr (omega arith)
    go false e = let h = leb-false a b e in inl (omega arith)

min_one : (a b : ℕ) → (min a b ≡ a) ⊎ (min a b ≡ b)
min_one a b = go (leb a b) refl
  where
    go : (t : Bool) → leb a b ≡ t → (min a b ≡ a) ⊎ (min a b ≡ b)
    go true e = let h = leb-true a b e in inl (omega arith)
    go false e = let h = leb-false a b e in inr (omega arith)

highest_is : (from : ℕ) (xs : List ℕ) → (highest from xs ≡ from) ⊎ Has (highest from xs) xs
unfolding highest
highest_is from [] = inl refl
highest_is from (x ∷ rest) =
    ⊎_elim
    (λ e. ⊎_elim (λ m. inl (e ∙ m)) (λ m. inr (subst (λ v. Has v (x ∷ rest)) (sym (e ∙ m)) here)) (max_one from x))
    (λ h. inr (there h))
    (highest_is (max from x) rest)

lowest_from : (from : ℕ) (xs : List ℕ) → lowest from xs ≤ from
unfolding lowest
lowest_from from [] = omega arith
lowest_from from (x ∷ rest) = omega (arith, lowest_from (min from x) rest)

lowest_below : {x : ℕ} (from : ℕ) {xs : List ℕ} → Has x xs → lowest from xs ≤ x
unfolding lowest
lowest_below {x} from {xs = y ∷ rest} here = omega (arith, lowest_from (min from x) rest)
lowest_below {x} from {xs = y ∷ rest} (there h) = lowest_below (min from y) h
lowest_below {x = x} from {xs = []} h = elim h [ ]

lowest_is : (from : ℕ) (xs : List ℕ) → (lowest from xs ≡ from) ⊎ Has (lowest from xs) xs
unfolding lowest
lowest_is from [] = inl refl
lowest_is from (x ∷ rest) =
    ⊎_elim
    (λ e. ⊎_elim (λ m. inl (e ∙ m)) (λ m. inr (subst (λ v. Has v (x ∷ rest)) (sym (e ∙ m)) here)) (min_one from x))
    (λ h. inr (there h))
    (lowest_is (min from x) rest)

-- no element exceeds the greatest, and where there is one the greatest is one
pub greatest_above : {x : ℕ} {xs : List ℕ} → Has x xs → x ≤ greatest xs
unfolding greatest
greatest_above h = highest_above 0 h

pub greatest_has : {x : ℕ} {xs : List ℕ} → Has x xs → Has (greatest xs) xs
unfolding greatest
greatest_has {x} {xs} h = ⊎_elim (λ e. let z : x ≡ highest 0 xs = omega (arith, highest_above 0 h) in subst (λ v. Has v xs) z h) (λ k. k) (highest_is 0 xs)

-- the least exceeds no element, and where there is one the least is one
pub least_below : {x : ℕ} {xs : List ℕ} → Has x xs → least xs ≤ x
unfolding least
least_below {x} {xs} h = lowest_below (greatest xs) h

pub least_has : {x : ℕ} {xs : List ℕ} → Has x xs → Has (least xs) xs
unfolding least
least_has {x} {xs} h = ⊎_elim (λ e. subst (λ v. Has v xs) (sym e) (greatest_has h)) (λ k. k) (lowest_is (greatest xs) xs)

-- ---- those that pass a test

has_those : (test : ℕ → Bool) {x : ℕ} {xs : List ℕ} → Has x xs → test x ≡ true → Has x (those test xs)
unfolding those pick
has_those test {x} {xs = y ∷ rest} here e = rw e here
has_those test {x} {xs = y ∷ rest} (there h) e = go (test y) (has_those test h e)
  where
    go : (b : Bool) → Has x (those test rest) → Has x (pick b (y ∷ those test rest) (those test rest))
    go true k = there k
    go false k = k
has_those test {x = x} {xs = []} h e = elim h [ ]

head_or : {x y : ℕ} {rest : List ℕ} → Has x (y ∷ rest) → (x ≡ y) ⊎ Has x rest
head_or here = inl refl
head_or (there h) = inr h

those_pass : (test : ℕ → Bool) (xs : List ℕ) {x : ℕ} → Has x (those test xs) → test x ≡ true
unfolding those pick
those_pass test (y ∷ rest) {x} h = go (λ k. those_pass test rest k) (test y) refl h
  where
    go : (Has x (those test rest) → test x ≡ true) → (b : Bool) → test y ≡ b → Has x (pick b (y ∷ those test rest) (those test rest)) → test x ≡ true
    go later true e k = ⊎_elim (λ m. ap test m ∙ e) (λ m. later m) (head_or k)
    go later false e k = later k
those_pass test [] {x = x} h = elim h [ ]

those_among : (test : ℕ → Bool) (xs : List ℕ) {x : ℕ} → Has x (those test xs) → Has x xs
unfolding those pick
those_among test (y ∷ rest) {x} h = go (λ k. those_among test rest k) (test y) h
  where
    go : (Has x (those test rest) → Has x rest) → (b : Bool) → Has x (pick b (y ∷ those test rest) (those test rest)) → Has x (y ∷ rest)
    go later true k = ⊎_elim (λ m. subst (λ v. Has v (y ∷ rest)) (sym m) here) (λ m. there (later m)) (head_or k)
    go later false k = there (later k)
those_among test [] {x = x} h = elim h [ ]

-- ---- how many are within a bound

within_mono : (m n : ℕ) (xs : List ℕ) → m ≤ n → within m xs ≤ within n xs
unfolding within pick
within_mono m n [] h = omega arith
within_mono m n (x ∷ rest) h = go (leb x m) refl (leb x n) refl (within_mono m n rest h)
  where
    go : (a : Bool) → leb x m ≡ a → (b : Bool) → leb x n ≡ b → within m rest ≤ within n rest → pick a (suc (within m rest)) (within m rest) ≤ pick b (suc (within n rest)) (within n rest)
    go true e true f k = omega arith
    go true e false f k = let p = leb-true x m e in let q = leb-false x n f in absurd (omega arith)
    go false e true f k = omega arith
    go false e false f k = k

within_all : (m : ℕ) (xs : List ℕ) → ((x : ℕ) → Has x xs → x ≤ m) → within m xs ≡ length xs
unfolding within pick
within_all m [] h = refl
within_all m (x ∷ rest) h = rw (le-leb x m (h x here)) (ap suc (within_all m rest (λ y k. h y (there k))))

within_zero : (xs : List ℕ) → 0 < within 0 xs → Has 0 xs
unfolding within pick
within_zero [] h = absurd (omega arith)
within_zero (x ∷ rest) h = go (λ k. within_zero rest k) (leb x 0) refl h
  where
    go : (0 < within 0 rest → Has 0 rest) → (b : Bool) → leb x 0 ≡ b → 0 < pick b (suc (within 0 rest)) (within 0 rest) → Has 0 (x ∷ rest)
    go later true e k = let p = leb-true x 0 e in let z : x ≡ 0 = omega arith in subst (λ v. Has 0 (v ∷ rest)) (sym z) here
    go later false e k = there (later k)

within_up : (m : ℕ) (xs : List ℕ) → within m xs < within (suc m) xs → Has (suc m) xs
unfolding within pick
within_up m [] h = absurd (omega arith)
within_up m (x ∷ rest) h = go (λ k. within_up m rest k) (leb x m) refl (leb x (suc m)) refl h
  where
    go : (within m rest < within (suc m) rest → Has (suc m) rest) → (a : Bool) → leb x m ≡ a → (b : Bool) → leb x (suc m) ≡ b → pick a (suc (within m rest)) (within m rest) < pick b (suc (within (suc m) rest)) (within (suc m) rest) → Has (suc m) (x ∷ rest)
    go later true e true f k = there (later (omega arith))
    go later true e false f k = let p = leb-true x m e in let q = leb-false x (suc m) f in absurd (omega arith)
    go later false e true f k = let p = leb-false x m e in let q = leb-true x (suc m) f in let z : x ≡ suc m = omega arith in subst (λ v. Has (suc m) (v ∷ rest)) (sym z) here
    go later false e false f k = there (later k)

-- a bound that some do not exceed can be lowered to one of them
pub record Found (m : ℕ) (xs : List ℕ) : Type 0 where
  pub one : ℕ
  pub has : Has one xs
  pub below : one ≤ m
  pub same : within one xs ≡ within m xs

found : (m : ℕ) (xs : List ℕ) → 0 < within m xs → Found m xs
found zero xs h = record { one = 0; has = within_zero xs h; below = omega arith; same = refl }
found (suc m) xs h = go (λ k. found m xs k) (leb (within (suc m) xs) (within m xs)) refl
  where
    go : (0 < within m xs → Found m xs) → (b : Bool) → leb (within (suc m) xs) (within m xs) ≡ b → Found (suc m) xs
    go later true e =
        let p = leb-true (within (suc m) xs) (within m xs) e in
        let q = within_mono m (suc m) xs (omega arith) in
        let s : within m xs ≡ within (suc m) xs = omega arith in
        let f = later (omega arith) in
        record { one = f.one; has = f.has; below = omega (arith, f.below); same = f.same ∙ s }
    go later false e = record { one = suc m; has = within_up m xs (leb-false (within (suc m) xs) (within m xs) e); below = omega arith; same = refl }

-- ---- the nine-tenths figure

-- where nine tenths do not exceed a bound, one of them that is no greater passes
passing : (xs : List ℕ) (m : ℕ) → 0 < length xs → 9 * length xs ≤ 10 * within m xs → (x : ℕ) × (Has x (those (enough xs) xs) × (x ≤ m))
unfolding enough
passing xs m p h =
    let f = found m xs (omega arith) in
    (f.one, (has_those (enough xs) f.has (le-leb (9 * length xs) (10 * within f.one xs) (omega (arith, f.same))), f.below))

empty_zero : nine_tenths [] ≡ 0
unfolding nine_tenths those least greatest highest lowest
empty_zero = refl

pub enough_above : (xs : List ℕ) (m : ℕ) → 9 * length xs ≤ 10 * within m xs → nine_tenths xs ≤ m
unfolding nine_tenths
enough_above [] m h = omega (arith, empty_zero)
enough_above (x ∷ rest) m h = go (passing (x ∷ rest) m (omega arith) h)
  where
    go : (y : ℕ) × (Has y (those (enough (x ∷ rest)) (x ∷ rest)) × (y ≤ m)) → nine_tenths (x ∷ rest) ≤ m
    go f = omega (arith, least_below f.1.0, f.1.1)

within_greatest : (xs : List ℕ) → within (greatest xs) xs ≡ length xs
within_greatest xs = within_all (greatest xs) xs (λ x h. greatest_above h)

pub below_greatest : (xs : List ℕ) → nine_tenths xs ≤ greatest xs
below_greatest xs = enough_above xs (greatest xs) (omega (arith, within_greatest xs))

figure_has : (xs : List ℕ) → 0 < length xs → Has (nine_tenths xs) (those (enough xs) xs)
unfolding nine_tenths
figure_has xs h = least_has (passing xs (greatest xs) h (omega (arith, within_greatest xs))).1.0

figure_enough : (xs : List ℕ) → 0 < length xs → 9 * length xs ≤ 10 * within (nine_tenths xs) xs
unfolding enough
figure_enough xs h = leb-true (9 * length xs) (10 * within (nine_tenths xs) xs) (those_pass (enough xs) xs (figure_has xs h))

pub short_below : (xs : List ℕ) (m : ℕ) → 10 * within m xs < 9 * length xs → m < nine_tenths xs
short_below xs m h = lt_of_not-le (λ k. let p = figure_enough xs (omega arith) in let q = within_mono (nine_tenths xs) m xs k in absurd (omega arith))

-- the figure is what its sentence says
pub nine_tenths_exact : (xs : List ℕ) → 0 < length xs → IsNineTenths xs (nine_tenths xs)
nine_tenths_exact xs h = record { one_of_them = those_among (enough xs) xs (figure_has xs h); nine_tenths = figure_enough xs h; smallest = λ w k. enough_above xs w k }
