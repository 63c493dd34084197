-- Laws of the loops of the start check: what a turn does to what is still to do. Assumes nothing.
use Rattle.std.proofs.Common.{◌≡◌, ℕ, zero, suc, ◌+◌, ◌-◌, ◌/◌, ◌%◌, ◌<◌, ◌≤◌, Bool, true, false, List, get_or, sym, refl, ap, ◌∙◌, ⊎_elim, arith, le-leb}
use mathlib.Core.Bool.{false≢true}
use borrow.Author.Tests.{lt-leb}
use Rattle.meaning.specs.Choice.{pick}
use Rattle.theory.proofs.StartCounting.{le?}
use Rattle.machine.specs.StartWords.{number_fine, numbers_fine, field_fine, trees_fine, inside_fine, all_from}
use Rattle.machine.specs.StartArea.{Area, field_at, fields_at, expand_at, drain_at, drain_fine, arg_at, args_at}

pub all_in : (f : ℕ → Bool) (n m i : ℕ) → n ≡ suc m → f i ≡ true → all_from f n i ≡ all_from f m (i + 1)
unfolding all_from pick
all_in f n m i e t = let k : suc i ≡ i + 1 = omega arith in ap (λ j. all_from f j i) e ∙ rw (t, ← k)

pub all_out : (f : ℕ → Bool) (n m i : ℕ) → n ≡ suc m → f i ≡ false → all_from f n i ≡ false
unfolding all_from pick
all_out f n m i e t = ap (λ j. all_from f j i) e ∙ rw t

all_none : (f : ℕ → Bool) (i : ℕ) → all_from f 0 i ≡ true
unfolding all_from
all_none f i = refl

pub all_end : (f : ℕ → Bool) (n i : ℕ) → n ≡ 0 → all_from f n i ≡ true
all_end f n i e = ap (λ k. all_from f k i) e ∙ all_none f i

-- a test of the rest, where the first have passed it
both : (x y : Bool) → pick x y false ≡ true → (x ≡ true) × (y ≡ true)
unfolding pick
both true y h = (refl, h)
both false y h = absurd (false≢true h)

all_after : (f : ℕ → Bool) (n k i : ℕ) → all_from f n i ≡ true → all_from f k (i + n) ≡ all_from f (n + k) i
unfolding all_from pick
all_after f zero k i h =
    let e : i + 0 ≡ i = omega arith in
    let z : k ≡ 0 + k = omega arith in
    ap (all_from f k) e ∙ ap (λ j. all_from f j i) z
all_after f (suc n) k i h =
    let b = both (f i) (all_from f n (suc i)) h in
    let e : i + suc n ≡ suc i + n = omega arith in
    let z : suc (n + k) ≡ suc n + k = omega arith in
    let t : all_from f (n + k) (suc i) ≡ all_from f (suc (n + k)) i = sym (rw b.0) in
    ap (all_from f k) e ∙ all_after f n k (suc i) b.1 ∙ t ∙ ap (λ j. all_from f j i) z

all_fewer : (f : ℕ → Bool) (n m i : ℕ) → m ≤ n → all_from f n i ≡ true → all_from f m i ≡ true
unfolding all_from pick
all_fewer f n zero i l h = refl
all_fewer f zero (suc m) i l h = absurd (omega arith)
all_fewer f (suc n) (suc m) i l h =
    let b = both (f i) (all_from f n (suc i)) h in
    rw b.0 (all_fewer f n m (suc i) (omega arith) b.1)

pub all_whole : (f : ℕ → Bool) (n : ℕ) → all_from f (n - 0) 0 ≡ all_from f n 0
all_whole f n = let e : n - 0 ≡ n = omega arith in ap (λ k. all_from f k 0) e

pub all_rest : (f : ℕ → Bool) (n m : ℕ) → all_from f n 0 ≡ true → all_from f (m - n) n ≡ all_from f m 0
all_rest f n m h =
    ⊎_elim
    (λ (l : n ≤ m).
    let e : n + (m - n) ≡ m = omega arith in
    let z : n ≡ 0 + n = omega arith in
    ap (all_from f (m - n)) z ∙ all_after f n (m - n) 0 h ∙ ap (λ k. all_from f k 0) e)
    (λ (l : m < n). let e : m - n ≡ 0 = omega arith in ap (λ k. all_from f k n) e ∙ all_none f n ∙ sym (all_fewer f n m 0 (omega arith) h))
    (le? n m)

module _ (codes store : List ℕ) (base : ℕ) where
  pub drain_turn : (n h : ℕ) (a : Area) → 0 < n → h < a.tail
      → drain_at codes store base n h a
      ≡ drain_at codes store base (n - 1) (h + 1) (expand_at codes store base a (get_or a.work (base + 1024 + h) 0))
  unfolding drain_at pick
  drain_turn n h a p q =
      let m : n ≡ suc (n - 1) = omega arith in
      let k : suc h ≡ h + 1 = omega arith in
      ap (λ i. drain_at codes store base i h a) m
      ∙ simp (lt-leb a.tail h q) (ap (λ i. drain_at codes store base (n - 1) i (expand_at codes store base a (get_or a.work (base + 1024 + h) 0))) k)

  pub drain_stay : (n h : ℕ) (a : Area) → a.tail ≤ h → drain_at codes store base n h a ≡ a
  unfolding drain_at pick
  drain_stay zero h a q = refl
  drain_stay (suc n) h a q = simp (le-leb a.tail h q)

  pub fine_turn : (n h : ℕ) (a : Area) → 0 < n → h < a.tail → inside_fine codes store (get_or a.work (base + 1024 + h) 0) ≡ true
      → drain_fine codes store base n h a
      ≡ drain_fine codes store base (n - 1) (h + 1) (expand_at codes store base a (get_or a.work (base + 1024 + h) 0))
  unfolding drain_fine pick
  fine_turn n h a p q f =
      let m : n ≡ suc (n - 1) = omega arith in
      let k : suc h ≡ h + 1 = omega arith in
      ap (λ i. drain_fine codes store base i h a) m
      ∙ simp (lt-leb a.tail h q, f) (ap (λ i. drain_fine codes store base (n - 1) i (expand_at codes store base a (get_or a.work (base + 1024 + h) 0))) k)

  pub fine_out : (n h : ℕ) (a : Area) → 0 < n → h < a.tail → inside_fine codes store (get_or a.work (base + 1024 + h) 0) ≡ false
      → drain_fine codes store base n h a ≡ false
  unfolding drain_fine pick
  fine_out n h a p q f =
      let m : n ≡ suc (n - 1) = omega arith in
      ap (λ i. drain_fine codes store base i h a) m ∙ simp (lt-leb a.tail h q, f)

  pub fine_stay : (n h : ℕ) (a : Area) → a.tail ≤ h → drain_fine codes store base n h a ≡ true
  unfolding drain_fine pick
  fine_stay zero h a q = refl
  fine_stay (suc n) h a q = simp (le-leb a.tail h q)

  -- n words, by their bits
  pub field_other : (bits w : ℕ) (a : Area) → bits % 2 ≡ 0 → field_at codes store base bits w a ≡ a
  unfolding field_at pick
  field_other bits w a e = rw e

  pub fields_turn : (n bits x p q : ℕ) (a b : Area) → bits / 2 ≡ x → p + 1 ≡ q → field_at codes store base bits (get_or store p 0) a ≡ b
      → fields_at codes store base (suc n) bits p a ≡ fields_at codes store base n x q b
  unfolding fields_at
  fields_turn n bits x p q a b e f g = λ j. fields_at codes store base n (e j) (f j) (g j)

  pub fields_none : (n p : ℕ) (a : Area) → fields_at codes store base n 0 p a ≡ a
  unfolding fields_at
  fields_none zero p a = refl
  fields_none (suc n) p a = rw (field_other 0 (get_or store p 0) a refl) (fields_none n (p + 1) a)

  pub fields_more : (n m bits p : ℕ) (a b : Area) → n ≡ suc m → b ≡ field_at codes store base bits (get_or store p 0) a
      → fields_at codes store base n bits p a ≡ fields_at codes store base m (bits / 2) (p + 1) b
  fields_more n m bits p a b e q =
      ap (λ k. fields_at codes store base k bits p a) e ∙ fields_turn m bits (bits / 2) p (p + 1) a b refl refl (sym q)

pub trees_more : (codes store : List ℕ) (n m bits p : ℕ) → n ≡ suc m → field_fine codes store bits (get_or store p 0) ≡ true
    → trees_fine codes store n bits p ≡ trees_fine codes store m (bits / 2) (p + 1)
unfolding trees_fine pick
trees_more codes store n m bits p e t = ap (λ k. trees_fine codes store k bits p) e ∙ rw t

pub trees_out : (codes store : List ℕ) (n m bits p : ℕ) → n ≡ suc m → field_fine codes store bits (get_or store p 0) ≡ false → trees_fine codes store n bits p ≡ false
unfolding trees_fine pick
trees_out codes store n m bits p e t = ap (λ k. trees_fine codes store k bits p) e ∙ rw t

pub numbers_more : (store : List ℕ) (n m bits p : ℕ) → n ≡ suc m → number_fine bits (get_or store p 0) ≡ true
    → numbers_fine store n bits p ≡ numbers_fine store m (bits / 2) (p + 1)
unfolding numbers_fine pick
numbers_more store n m bits p e t = ap (λ k. numbers_fine store k bits p) e ∙ rw t

pub numbers_out : (store : List ℕ) (n m bits p : ℕ) → n ≡ suc m → number_fine bits (get_or store p 0) ≡ false → numbers_fine store n bits p ≡ false
unfolding numbers_fine pick
numbers_out store n m bits p e t = ap (λ k. numbers_fine store k bits p) e ∙ rw t

pub fields_end : (codes store : List ℕ) (base n bits p : ℕ) (a : Area) → n ≡ 0 → fields_at codes store base n bits p a ≡ a
unfolding fields_at
fields_end codes store base n bits p a e = ap (λ k. fields_at codes store base k bits p a) e

pub trees_end : (codes store : List ℕ) (n bits p : ℕ) → n ≡ 0 → trees_fine codes store n bits p ≡ true
unfolding trees_fine
trees_end codes store n bits p e = ap (λ k. trees_fine codes store k bits p) e

pub numbers_end : (store : List ℕ) (n bits p : ℕ) → n ≡ 0 → numbers_fine store n bits p ≡ true
unfolding numbers_fine
numbers_end store n bits p e = ap (λ k. numbers_fine store k bits p) e

module _ (bytes table codes store : List ℕ) (base : ℕ) where
  pub args_turn : (args : List ℕ) (mode n m i : ℕ) (a x : Area) → n ≡ suc m → x ≡ arg_at bytes table codes store base args mode i a
      → args_at bytes table codes store base args mode n i a ≡ args_at bytes table codes store base args mode m (i + 1) x
  unfolding args_at
  args_turn args mode n m i a x e q =
      let k : suc i ≡ i + 1 = omega arith in
      ap (λ j. args_at bytes table codes store base args mode j i a) e ∙ rw (q, ← k)

  pub args_end : (args : List ℕ) (mode n i : ℕ) (a : Area) → n ≡ 0 → args_at bytes table codes store base args mode n i a ≡ a
  unfolding args_at
  args_end args mode n i a e = ap (λ j. args_at bytes table codes store base args mode j i a) e
