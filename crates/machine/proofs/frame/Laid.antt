-- Words laid from a place on: where they are, the loops that lay them one by one, and one or two laid without a loop. Assumes nothing.
use Rattle.std.proofs.Common.{◌≡◌, ℕ, zero, suc, ◌+◌, ◌-◌, ◌<◌, ◌≤◌, Bool, true, false, eqb, ◌⊎◌, List, [], ◌∷◌, ◌++◌, length, get_or, take, drop, set, replicate, sym, refl, ap, ◌∙◌, subst, inl, inr, arith, append_assoc, length-set, drop-drop, drop-cons, drop_of_length-le, get_or-set_other, get_or-set_same, drop-set-lt, eqb-true}
use borrow.Author.Tests.{eqb-false}
use borrow.Rule.Slice.PartMut.{put_mid}
use Rattle.std.proofs.Math.Seq.{take-append_seam}
use Rattle.std.proofs.lemmas.List.{take-append-drop, take_more_set}
use Rattle.machine.specs.Layout.{laid, words, gathered, slot_in, Low, Rising, Apart}
use Rattle.standing.specs.Bytes.{byte_at}

eqb? : (i j : ℕ) → (i ≡ j) ⊎ (i ≡ j → ⊥)
eqb? i j = go (eqb i j) refl
  where
    go : (x : Bool) → eqb i j ≡ x → (i ≡ j) ⊎ (i ≡ j → ⊥)
    go true e = inl (eqb-true i j e)
    go false e = inr (eqb-false i j e)

-- words that are laid
pub laid_length : (l : List ℕ) (p : ℕ) (ws : List ℕ) → length (laid l p ws) ≡ length l
unfolding laid
laid_length l p [] = refl
laid_length l p (w ∷ ws) = laid_length (set l p w) (p + 1) ws ∙ length-set l p w

pub laid_before : (l : List ℕ) (p : ℕ) (ws : List ℕ) (q : ℕ) → q < p → get_or (laid l p ws) q 0 ≡ get_or l q 0
unfolding laid
laid_before l p [] q h = refl
laid_before l p (w ∷ ws) q h = laid_before (set l p w) (p + 1) ws q (omega arith) ∙ get_or-set_other l p q w 0 (λ e. omega arith)

pub laid_after : (l : List ℕ) (p : ℕ) (ws : List ℕ) (q : ℕ) → p + length ws ≤ q → get_or (laid l p ws) q 0 ≡ get_or l q 0
unfolding laid
laid_after l p [] q h = refl
laid_after l p (w ∷ ws) q h = laid_after (set l p w) (p + 1) ws q (omega arith) ∙ get_or-set_other l p q w 0 (λ e. omega arith)

pub laid_behind : (n : ℕ) (l : List ℕ) (p : ℕ) (ws : List ℕ) → p + length ws ≤ n → drop n (laid l p ws) ≡ drop n l
unfolding laid
laid_behind n l p [] h = refl
laid_behind n l p (w ∷ ws) h = laid_behind n (set l p w) (p + 1) ws (omega arith) ∙ drop-set-lt n l p w (omega arith)

pub laid_at : (l : List ℕ) (p : ℕ) (ws : List ℕ) (j : ℕ) → j < length ws → p + length ws ≤ length l → get_or (laid l p ws) (p + j) 0 ≡ get_or ws j 0
unfolding laid
laid_at l p [] j h b = absurd (omega arith)
laid_at l p (w ∷ ws) zero h b =
    let e : p + 0 ≡ p = omega arith in
    rw e (laid_before (set l p w) (p + 1) ws p (omega arith) ∙ get_or-set_same l p w 0 (omega arith))
laid_at l p (w ∷ ws) (suc j) h b =
    let e : p + suc j ≡ p + 1 + j = omega arith in
    let z = length-set l p w in
    rw e (laid_at (set l p w) (p + 1) ws j (omega arith) (omega arith))

-- a loop that lays words: a turn, and its end
pub turn_words : (X m l : List ℕ) (to p n j i : ℕ) → j < n → i ≡ p + j → X ≡ laid m (to + j) (words l (p + j) (n - j))
    → X ≡ laid (set m (to + j) (get_or l i 0)) (to + (j + 1)) (words l (p + (j + 1)) (n - (j + 1)))
unfolding laid words
turn_words X m l to p n j i h e x =
    let a : n - j ≡ suc (n - (j + 1)) = omega arith in
    let b : to + (j + 1) ≡ to + j + 1 = omega arith in
    let c : p + (j + 1) ≡ p + j + 1 = omega arith in
    x ∙ ap (λ k. laid m (to + j) (words l (p + j) k)) a ∙ rw (e, b, c)

pub end_words : (X m l : List ℕ) (to p n j : ℕ) → n ≤ j → X ≡ laid m (to + j) (words l (p + j) (n - j)) → m ≡ X
unfolding laid words
end_words X m l to p n j h x = let a : n - j ≡ 0 = omega arith in sym (x ∙ ap (λ k. laid m (to + j) (words l (p + j) k)) a)

pub turn_gathered : (X m bytes work : List ℕ) (base to at n j i v : ℕ) → j < n → i ≡ to + j → v ≡ slot_in bytes work base (at + j) → X ≡ laid m (to + j) (gathered bytes work base (at + j) (n - j))
    → X ≡ laid (set m i v) (to + (j + 1)) (gathered bytes work base (at + (j + 1)) (n - (j + 1)))
unfolding laid gathered
turn_gathered X m bytes work base to at n j i v h f e x =
    let a : n - j ≡ suc (n - (j + 1)) = omega arith in
    let b : to + (j + 1) ≡ to + j + 1 = omega arith in
    let c : at + (j + 1) ≡ at + j + 1 = omega arith in
    x ∙ ap (λ k. laid m (to + j) (gathered bytes work base (at + j) k)) a ∙ rw (f, e, b, c)

pub end_gathered : (X m bytes work : List ℕ) (base to at n j : ℕ) → n ≤ j → X ≡ laid m (to + j) (gathered bytes work base (at + j) (n - j)) → m ≡ X
unfolding laid gathered
end_gathered X m bytes work base to at n j h x = let a : n - j ≡ 0 = omega arith in sym (x ∙ ap (λ k. laid m (to + j) (gathered bytes work base (at + j) k)) a)

-- two words, set one after the other
pub two_words : (m l : List ℕ) (to p n : ℕ) → n ≡ 2 → set (set m to (get_or l p 0)) (to + 1) (get_or l (p + 1) 0) ≡ laid m to (words l p n)
unfolding laid words
two_words m l to p n e = rw e

pub two_gathered : (m bytes work : List ℕ) (base to at n a b : ℕ) → n ≡ 2 → a ≡ slot_in bytes work base at → b ≡ slot_in bytes work base (at + 1)
    → set (set m to a) (to + 1) b ≡ laid m to (gathered bytes work base at n)
unfolding laid gathered
two_gathered m bytes work base to at n a b e x y = rw (e, x, y)

-- slots laid in the same list: what is not laid over yet is as it was
pub turn_handed : (X m bytes work : List ℕ) (base to at n j v : ℕ) → j < n → v ≡ slot_in bytes m base (at + j)
    → (base + byte_at bytes (at + j) < to) ⊎ (to + j ≤ base + byte_at bytes (at + j)) → ((q : ℕ) → (q < to) ⊎ (to + j ≤ q) → get_or m q 0 ≡ get_or work q 0)
    → X ≡ laid m (to + j) (gathered bytes work base (at + j) (n - j))
    → (X ≡ laid (set m (to + j) v) (to + (j + 1)) (gathered bytes work base (at + (j + 1)) (n - (j + 1))))
    × ((q : ℕ) → (q < to) ⊎ (to + (j + 1) ≤ q) → get_or (set m (to + j) v) q 0 ≡ get_or work q 0)
turn_handed X m bytes work base to at n j v h e l s x = (
  turn_gathered X m bytes work base to at n j (to + j) v h refl (e ∙ s (base + byte_at bytes (at + j)) l) x,
  λ q k. elim k [
    | inl y ↦ get_or-set_other m (to + j) q v 0 (λ z. omega arith) ∙ s q (inl y)
    | inr y ↦ get_or-set_other m (to + j) q v 0 (λ z. omega arith) ∙ s q (inr (let z : to + j ≤ q = omega arith in z))
  ],
)

pub low_apart : (bytes : List ℕ) (base at to n : ℕ) → base + 32 ≤ to → Low bytes at n → Apart bytes base at to n
low_apart bytes base at to n h l j k = inl (let z = l j k in let y : base + byte_at bytes (at + j) < to = omega arith in y)

pub rising_apart : (bytes : List ℕ) (base at n : ℕ) → Rising bytes at n → Apart bytes base at base n
rising_apart bytes base at n l j k = inr (let z = l j k in let y : base + j ≤ base + byte_at bytes (at + j) = omega arith in y)

pub rises : (bytes : List ℕ) (at j : ℕ) → Rising bytes at j → j ≤ byte_at bytes (at + j) → Rising bytes at (j + 1)
rises bytes at j r h i l =
    elim (eqb? i j) [
      | inl e ↦ subst (λ k. k ≤ byte_at bytes (at + k)) (sym e) h
      | inr e ↦ r i (omega arith)
    ]

pub not_so : false ≡ true → ⊥
not_so e = let z : ◌≡◌ {A = ℕ} 0 1 = cc in omega arith

gathered_same : (bytes work work' : List ℕ) (base at n : ℕ) → ((j : ℕ) → j < n → slot_in bytes work' base (at + j) ≡ slot_in bytes work base (at + j))
    → gathered bytes work' base at n ≡ gathered bytes work base at n
unfolding gathered
gathered_same bytes work work' base at zero h = refl
gathered_same bytes work work' base at (suc n) h =
    let e : at + 0 ≡ at = omega arith in
    let a = rw e at (h 0 (omega arith)) in
    let b = gathered_same bytes work work' base (at + 1) n (λ j l. let z : at + 1 + j ≡ at + suc j = omega arith in rw z (h (suc j) (omega arith))) in
    λ i. a i ∷ b i

-- two words above the slots are written
pub gathered_above : (bytes work : List ℕ) (base at n p v q w : ℕ) → base + 32 ≤ p → base + 32 ≤ q → Low bytes at n
    → gathered bytes (set (set work p v) q w) base at n ≡ gathered bytes work base at n
gathered_above bytes work base at n p v q w a b l =
    gathered_same bytes work (set (set work p v) q w) base at n
    (λ j k. let z = l j k in get_or-set_other (set work p v) q (base + byte_at bytes (at + j)) w 0 (λ e. omega arith) ∙ get_or-set_other work p (base + byte_at bytes (at + j)) v 0 (λ e. omega arith))

pub words_length : (l : List ℕ) (p k : ℕ) → length (words l p k) ≡ k
unfolding words
words_length l p zero = refl
words_length l p (suc k) = ap suc (words_length l (p + 1) k)

pub gathered_length : (bytes work : List ℕ) (base at n : ℕ) → length (gathered bytes work base at n) ≡ n
unfolding gathered
gathered_length bytes work base at zero = refl
gathered_length bytes work base at (suc n) = ap suc (gathered_length bytes work base (at + 1) n)

-- words laid at once
pub laid_flat : (l : List ℕ) (p : ℕ) (ws : List ℕ) → p + length ws ≤ length l → laid l p ws ≡ take p l ++ (ws ++ drop (length ws) (drop p l))
unfolding laid
laid_flat l p [] h = sym (take-append-drop p l)
laid_flat l p (w ∷ ws) h =
    let z = length-set l p w in
    let a = laid_flat (set l p w) (p + 1) ws (omega arith) in
    let t = take_more_set l p w (omega arith) in
    let d = drop-set-lt (p + 1) l p w (omega arith) in
    let n : p + 1 + length ws ≡ p + suc (length ws) = omega arith in
    let b = drop-drop (length ws) (p + 1) l ∙ ap (λ k. drop k l) n ∙ sym (drop-drop (suc (length ws)) p l) in
    a ∙ (λ i. t i ++ (ws ++ drop (length ws) (d i))) ∙ append_assoc (take p l) (w ∷ []) (ws ++ drop (length ws) (drop (p + 1) l)) ∙ (λ i. take p l ++ (w ∷ (ws ++ b i)))

-- words gathered in an array, and laid from it
pub gathered_laid : (bytes work : List ℕ) (base at n k : ℕ) {vs ws : List ℕ} → n ≤ 8 → base + 256 ≤ length work → k ≡ n → vs ≡ laid (replicate 8 0) 0 (gathered bytes work base at n) → ws ≡ take n vs
    → put_mid base k work ws ≡ laid work base (gathered bytes work base at n)
gathered_laid bytes work base at n k {vs} {ws} h b e v w =
    let g : List ℕ = gathered bytes work base at n in
    let l : length g ≡ n = gathered_length bytes work base at n in
    let f : ws ≡ g = w ∙ ap (take n) (v ∙ laid_flat (replicate 8 0) 0 g (let z : 0 + length g ≤ 8 = omega arith in z)) ∙ ap (λ m. take m (g ++ drop (length g) (replicate 8 0))) (sym l) ∙ take-append_seam g (drop (length g) (replicate 8 0)) in
    (λ i. take base work ++ (f i ++ drop ((e ∙ sym l) i) (drop base work))) ∙ sym (laid_flat work base g (omega arith))

-- the one word that is gathered is set
pub laid_one : (l bytes work : List ℕ) (to base at n : ℕ) → n ≡ 1 → set l to (slot_in bytes work base at) ≡ laid l to (gathered bytes work base at n)
unfolding laid gathered
laid_one l bytes work to base at n e = rw e

-- all words of a list
words_from : (l : List ℕ) (p k : ℕ) → p + k ≡ length l → words l p k ≡ drop p l
unfolding words
words_from l p zero e = sym (drop_of_length-le l (let h : length l ≤ p = omega arith in h))
words_from l p (suc k) e =
    let h : p < length l = omega arith in
    let z : p + 1 ≡ suc p = omega arith in
    (λ i. get_or l p 0 ∷ words l (z i) k) ∙ ap (λ r. get_or l p 0 ∷ r) (words_from l (suc p) k (omega arith)) ∙ sym (drop-cons l p 0 h)

pub words_all : (l : List ℕ) → words l 0 (length l) ≡ l
words_all l = words_from l 0 (length l) (omega arith)
