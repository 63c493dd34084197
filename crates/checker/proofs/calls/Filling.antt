-- A list of 32 that is filled from the front: the first entries go by a function, and the rest are one value. Assumes nothing.
use Prim.Native.Nat.{ℕ, zero, suc, ◌+◌, ◌-◌, ◌≤◌, ◌<◌}
use mathlib.Core.Path.{◌≡◌, refl, sym, ap, ◌∙◌, subst}
use mathlib.Core.List.{List, ◌∷◌, ◌++◌, append-nil}
use native.Mathlib.Omega.{arith}
use native.Mathlib.Numerals.{add-one}
use native.Mathlib.Decide.{ℕ_discrete}
use denote.Param.Members.{Mut, Called}
use Rattle.std.specs.Array.{IsFromFnResultFrom, IsFromFnResult}
use lib.ListN.{length, set, get_or, replicate, get_or-replicate, get_or-append}
use lib.Seq.{ext_get_or, set_at, append_snoc, get_or-append-add}
use Rattle.meaning.specs.declared.How.TheVariants.{Never}
use Rattle.meaning.specs.Choice.{pick}
use Rattle.meaning.specs.Sets.{upto}
use Rattle.theory.proofs.Bools.{upto_length, upto_at}
use Rattle.checker.specs.Bits.{bits_of}
use Rattle.checker.specs.Filled.{filled}
use Rattle.checker.specs.Square.{way_of, row_of}

module _ {A : Type 0} (d : A) where
  pub fill_start : (g : ℕ → A) → replicate 32 d ≡ filled d 0 g
  unfolding filled upto
  fill_start g = refl

  filled_next : (j : ℕ) (g : ℕ → A) → j < 32 → filled d j g ≡ upto j g ++ (d ∷ replicate (32 - (j + 1)) d)
  unfolding filled
  filled_next j g h = let e : 32 - j ≡ suc (32 - (j + 1)) = omega arith in rw e

  pub fill_in : (j : ℕ) (g : ℕ → A) (x : A) → j < 32 → g j ≡ x → set (filled d j g) j x ≡ filled d (j + 1) g
  unfolding filled upto
  fill_in j g x h e = ap (λ l. set l j x) (filled_next j g h) ∙ set_at (upto j g) d _ x j (upto_length j g) ∙ sym (rw (add-one j, e) (append_snoc (upto j g) x (replicate (32 - suc j) d)))

  pub fill_out : (j : ℕ) (g : ℕ → A) → j < 32 → g j ≡ d → filled d j g ≡ filled d (j + 1) g
  unfolding filled upto
  fill_out j g h e = filled_next j g h ∙ sym (rw (add-one j, e) (append_snoc (upto j g) d (replicate (32 - suc j) d)))

  -- a loop that fills a list: one entry more, and the end
  pub fill_next : {l : List A} {x : A} (j : ℕ) (g : ℕ → A) → j < 32 → l ≡ filled d j g → x ≡ g j → set l j x ≡ filled d (j + 1) g
  fill_next {x = x} j g h p q = ap (λ l. set l j x) p ∙ fill_in j g x h (sym q)

  pub fill_end : {l : List A} (j : ℕ) (g : ℕ → A) → 32 ≤ j → j ≤ 32 → l ≡ filled d j g → l ≡ upto 32 g
  unfolding filled
  fill_end j g h k p = let e : j ≡ 32 = omega arith in p ∙ ap (λ i. filled d i g) e ∙ append-nil (upto 32 g)

  -- a list by its 32 entries
  pub by_entries : (l : List A) (g : ℕ → A) → length l ≡ 32 → ((i : ℕ) → i < 32 → get_or l i d ≡ g i) → l ≡ upto 32 g
  by_entries l g e h = ext_get_or d l (upto 32 g) (e ∙ sym (upto_length 32 g)) (λ i k. h i (omega arith) ∙ sym (upto_at 32 g i d (omega arith)))

  pub filled_at : (n : ℕ) (g : ℕ → A) (i : ℕ) (e : A) → i < n → get_or (filled d n g) i e ≡ g i
  unfolding filled
  filled_at n g i e h = get_or-append (upto n g) (replicate (32 - n) d) e i (omega (arith, upto_length n g)) ∙ upto_at n g i e h

  pub filled_past : (n : ℕ) (g : ℕ → A) (i : ℕ) (e : A) → n ≤ i → i < 32 → get_or (filled d n g) i e ≡ d
  unfolding filled
  filled_past n g i e h l =
      let q : i ≡ length (upto n g) + (i - n) = omega (arith, upto_length n g) in
      ap (λ k. get_or (upto n g ++ replicate (32 - n) d) k e) q ∙ get_or-append-add (upto n g) (replicate (32 - n) d) (i - n) e ∙ get_or-replicate (32 - n) (i - n) d e (omega arith)

-- the array that calls of a closure gave at each index in turn
module _ {F A : Type 0} (g : Mut F (ℕ × Unit {0}) A) (v : ℕ → A) (f : F) (gives : (i : ℕ) (x : A) (q : F) → i < 32 → Called g f (i, tt) x q → (x ≡ v i) × (q ≡ f)) where
  made_from : (xs : List A) (i n : ℕ) → i + n ≡ 32 → IsFromFnResultFrom g f xs i n → (k : ℕ) (d : A) → i ≤ k → k < 32 → get_or xs k d ≡ v k
  made_from xs i zero s r k d l h = absurd (omega arith)
  made_from xs i (suc n) s (q, x, at, c, r) k d l h =
      let given = gives i x q (omega arith) c in
      go (ℕ_discrete k i) given.0 (λ m. made_from xs (i + 1) n (omega arith) (subst (λ p. IsFromFnResultFrom g p xs (i + 1) n) given.1 r) k d m h)
    where
      go : Dec (k ≡ i) → x ≡ v i → (i + 1 ≤ k → get_or xs k d ≡ v k) → get_or xs k d ≡ v k
      go (yes e) m ih = rw e (at.1 d ∙ m)
      go (no e) m ih = ih (omega arith)

  pub made_by : (d : A) (xs : List A) → IsFromFnResult g f xs 32 → xs ≡ upto 32 v
  made_by d xs r = by_entries d xs v r.long (λ k l. made_from xs 0 32 refl r.each k d (omega arith) l)

-- a word without calls
pub row_none : row_of 0 ≡ replicate 32 Never
unfolding row_of way_of bits_of upto pick
row_none = refl
