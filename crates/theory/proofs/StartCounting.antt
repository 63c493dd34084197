-- Sums over lists of numbers, lists without repetition by counting, and the places of a number in a list. Assumes nothing.
use Prim.Native.Nat.{ℕ, zero, suc, ◌+◌, ◌≤◌, ◌<◌}
use mathlib.Core.Path.{◌≡◌, refl, sym, ap, ◌∙◌}
use mathlib.Core.Logic.{◌⊎◌, inl, inr, ⊎_elim}
use mathlib.Core.List.{List, [], ◌∷◌, ◌++◌}
use mathlib.Core.Bool.{Bool, true, false}
use native.Mathlib.Omega.{arith}
use lib.Dec.{eqb, leb}
use lib.ListN.{length, get_or, take}
use borrow.Author.Tests.{eqb-true, eqb-false, eq-eqb, ne_eqb, leb-true, leb-false}
use Rattle.meaning.specs.Choice.{pick}
use Rattle.meaning.specs.Walk.{count}
use Rattle.theory.proofs.Counting.{numbers, numbers_length, in_numbers}
use Rattle.theory.proofs.Reached.{one_if, count_cons, has_count}

pub same? : (x y : ℕ) → (x ≡ y) ⊎ (x ≡ y → ⊥)
same? x y = go (eqb x y) refl
  where
    go : (b : Bool) → eqb x y ≡ b → (x ≡ y) ⊎ (x ≡ y → ⊥)
    go true e = inl (eqb-true x y e)
    go false e = inr (eqb-false x y e)

pub le? : (x y : ℕ) → (x ≤ y) ⊎ (y < x)
le? x y = go (leb x y) refl
  where
    go : (b : Bool) → leb x y ≡ b → (x ≤ y) ⊎ (y < x)
    go true e = inl (leb-true x y e)
    go false e = inr (leb-false x y e)

pub bool? : (b : Bool) → (b ≡ true) ⊎ (b ≡ false)
bool? true = inl refl
bool? false = inr refl

pub one_same : (x y : ℕ) → x ≡ y → one_if (eqb x y) ≡ 1
one_same x y e = rw (eq-eqb x y e)

pub one_other : (x y : ℕ) → (x ≡ y → ⊥) → one_if (eqb x y) ≡ 0
one_other x y e = rw (ne_eqb x y e)

unfoldable pub total : (ℕ → ℕ) → List ℕ → ℕ
total f [] = 0
total f (d ∷ l) = f d + total f l

pub total_append : (f : ℕ → ℕ) (a b : List ℕ) → total f (a ++ b) ≡ total f a + total f b
unfolding total
total_append f [] b = omega arith
total_append f (y ∷ a) b = omega (arith, total_append f a b)

pub total_cons : (f : ℕ → ℕ) (y : ℕ) (l : List ℕ) → total f (y ∷ l) ≡ f y + total f l
unfolding total
total_cons f y l = refl

pub total_nil : (f : ℕ → ℕ) → total f [] ≡ 0
unfolding total
total_nil f = refl

-- one of the numbers taken out of a list
remove : ℕ → List ℕ → List ℕ
remove a [] = []
remove a (y ∷ l) = pick (eqb a y) l (y ∷ remove a l)

remove_same : (a y : ℕ) (l : List ℕ) → a ≡ y → remove a (y ∷ l) ≡ l
unfolding remove pick
remove_same a y l e = rw (eq-eqb a y e)

remove_other : (a y : ℕ) (l : List ℕ) → (a ≡ y → ⊥) → remove a (y ∷ l) ≡ y ∷ remove a l
unfolding remove pick
remove_other a y l e = rw (ne_eqb a y e)

count_remove : (a d : ℕ) (l : List ℕ) → 1 ≤ count a l → count d l ≡ one_if (eqb d a) + count d (remove a l)
count_remove a d [] h = absurd (omega arith)
count_remove a d (y ∷ l) h =
    ⊎_elim
    (λ (e : a ≡ y). rw (remove_same a y l e, e) (count_cons d y l))
    (λ (e : a ≡ y → ⊥).
    let k : 1 ≤ count a l = omega (arith, count_cons a y l, one_other a y e) in
    rw (remove_other a y l e) (omega (arith, count_cons d y l, count_cons d y (remove a l), count_remove a d l k)))
    (same? a y)

total_remove : (f : ℕ → ℕ) (a : ℕ) (l : List ℕ) → 1 ≤ count a l → total f l ≡ f a + total f (remove a l)
total_remove f a [] h = absurd (omega arith)
total_remove f a (y ∷ l) h =
    ⊎_elim
    (λ (e : a ≡ y). rw (remove_same a y l e, e) (total_cons f y l))
    (λ (e : a ≡ y → ⊥).
    let k : 1 ≤ count a l = omega (arith, count_cons a y l, one_other a y e) in
    rw (remove_other a y l e) (omega (arith, total_cons f y l, total_cons f y (remove a l), total_remove f a l k)))
    (same? a y)

-- a sum over a list is at most that over one in which each number that counts occurs at least as often
pub total_le : (f : ℕ → ℕ) (l m : List ℕ) → ((d : ℕ) → 1 ≤ f d → count d l ≤ count d m) → total f l ≤ total f m
total_le f [] m h = omega (arith, total_nil f)
total_le f (a ∷ l) m h =
    ⊎_elim
    (λ (p : 1 ≤ f a).
    let q : 1 ≤ count a m = omega (arith, h a p, count_cons a a l, one_same a a refl) in
    let r : (d : ℕ) → 1 ≤ f d → count d l ≤ count d (remove a m) = λ d k. omega (arith, h d k, count_cons d a l, count_remove a d m q) in
    omega (arith, total_cons f a l, total_remove f a m q, total_le f l (remove a m) r))
    (λ (p : f a < 1). omega (arith, total_cons f a l, total_le f l m (λ d k. omega (arith, h d k, count_cons d a l))))
    (le? 1 (f a))

-- a member's part of a sum, and that of two members
pub total_ge : (f : ℕ → ℕ) (a : ℕ) (l : List ℕ) → 1 ≤ count a l → f a ≤ total f l
total_ge f a l h = omega (arith, total_remove f a l h)

pub total_both : (f : ℕ → ℕ) (a b : ℕ) (l : List ℕ) → (a ≡ b → ⊥) → 1 ≤ count a l → 1 ≤ count b l → f a + f b ≤ total f l
total_both f a b l n h g =
    let k : 1 ≤ count b (remove a l) = omega (arith, count_remove a b l h, one_other b a (λ e. n (sym e))) in
    omega (arith, total_remove f a l h, total_remove f b (remove a l) k)

pub total_ext : (f g : ℕ → ℕ) (l : List ℕ) → ((d : ℕ) → f d ≡ g d) → total f l ≡ total g l
unfolding total
total_ext f g [] h = refl
total_ext f g (a ∷ l) h = omega (arith, h a, total_ext f g l h)

-- lengths, by sums of 1
total_one : (l : List ℕ) → total (λ _. 1) l ≡ length l
unfolding total
total_one [] = refl
total_one (a ∷ l) = omega (arith, total_one l)

pub length_le : (l m : List ℕ) → ((d : ℕ) → count d l ≤ count d m) → length l ≤ length m
length_le l m h = omega (arith, total_one l, total_one m, total_le (λ _. 1) l m (λ d _. h d))

-- numbers below n, none twice: at most n
pub few : (n : ℕ) (l : List ℕ) → ((x : ℕ) → count x l ≤ 1) → ((x : ℕ) → 1 ≤ count x l → x < n) → length l ≤ n
few n l once small = omega (arith, numbers_length n, length_le l (numbers n) each)
  where
    each : (d : ℕ) → count d l ≤ count d (numbers n)
    each d =
        ⊎_elim
        (λ (p : 1 ≤ count d l). omega (arith, once d, has_count (in_numbers n d (small d p))))
        (λ (p : count d l < 1). omega arith)
        (le? 1 (count d l))

-- places in a list
pub count_take : (x m : ℕ) (l : List ℕ) → count x (take m l) ≤ count x l
count_take x zero l = omega arith
count_take x (suc m) [] = omega arith
count_take x (suc m) (y ∷ l) = omega (arith, count_take x m l, count_cons x y (take m l), count_cons x y l)

pub count_at : (l : List ℕ) (i : ℕ) → i < length l → 1 ≤ count (get_or l i 0) l
count_at [] i h = absurd (omega arith)
count_at (y ∷ l) zero h = omega (arith, count_cons y y l, one_same y y refl)
count_at (y ∷ l) (suc i) h = omega (arith, count_at l i (omega arith), count_cons (get_or l i 0) y l)

-- where a number stands
pub place_of : (x : ℕ) (l : List ℕ) → 1 ≤ count x l → (i : ℕ) × (i < length l) × (get_or l i 0 ≡ x)
place_of x [] h = absurd (omega arith)
place_of x (y ∷ l) h =
    ⊎_elim
    (λ (e : x ≡ y). (0, omega arith, sym e))
    (λ (e : x ≡ y → ⊥).
    let r = place_of x l (omega (arith, count_cons x y l, one_other x y e)) in
    (suc r.0, omega (arith, r.1), r.2))
    (same? x y)

-- a member with a property, or none has it
pub find : (p : ℕ → Bool) (l : List ℕ) → ((d : ℕ) × (1 ≤ count d l) × (p d ≡ true)) ⊎ ((d : ℕ) → 1 ≤ count d l → p d ≡ false)
find p [] = inr (λ d h. absurd (omega arith))
find p (a ∷ l) = at (p a) refl (find p l)
  where
    at : (b : Bool) → p a ≡ b → ((d : ℕ) × (1 ≤ count d l) × (p d ≡ true)) ⊎ ((d : ℕ) → 1 ≤ count d l → p d ≡ false)
        → ((d : ℕ) × (1 ≤ count d (a ∷ l)) × (p d ≡ true)) ⊎ ((d : ℕ) → 1 ≤ count d (a ∷ l) → p d ≡ false)
    at true e r = inl (a, omega (arith, count_cons a a l, one_same a a refl), e)
    at false e (inl r) = inl (r.0, omega (arith, count_cons r.0 a l, r.1), r.2)
    at false e (inr r) =
        inr (λ d h. ⊎_elim (λ (q : d ≡ a). ap p q ∙ e) (λ (q : d ≡ a → ⊥). r d (omega (arith, count_cons d a l, one_other d a q))) (same? d a))
