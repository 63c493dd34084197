-- The words of a file's table, read one by one. Assumes nothing.
use Prim.Native.Nat.{ℕ, zero, suc, ◌+◌, ◌-◌, ◌*◌, ◌≤◌, ◌<◌}
use mathlib.Core.List.{List, [], ◌∷◌, ◌++◌}
use mathlib.Core.Path.{◌≡◌, refl, ap, ◌∙◌}
use lib.ListN.{length, get_or, replicate, length-append, length-replicate, get_or-replicate, get_or-append}
use lib.Seq.{get_or-append-add}
use native.Mathlib.Omega.{arith}
use Rattle.meaning.specs.Syntax.{Signature, Constructor}
use Rattle.meaning.specs.Ownership.{no_function}
use Rattle.standing.specs.Table.{con_words, fun_words, filled, Sorts}
use Rattle.standing.proofs.Records.{FunAt}
use Rattle.standing.proofs.Heads.{Cons, Funs}

-- ---- a list that is filled up, and lists behind each other
pub filled_length : (n : ℕ) (ws : List ℕ) → length ws ≤ n → length (filled n ws) ≡ n
unfolding filled
filled_length n ws h =
    let pad : List ℕ = replicate (n - length ws) 255 in
    let e : length (ws ++ pad) ≡ length ws + length pad = length-append ws pad in
    let z : length pad ≡ n - length ws = length-replicate {A = ℕ} (n - length ws) 255 in
    omega arith

pub filled_given : (n : ℕ) (ws : List ℕ) (i : ℕ) → i < length ws → get_or (filled n ws) i 0 ≡ get_or ws i 0
unfolding filled
filled_given n ws i h = get_or-append ws (replicate (n - length ws) 255) 0 i h

pub past : (xs ys : List ℕ) (m i n : ℕ) → length xs ≡ m → n ≡ m + i → get_or (xs ++ ys) n 0 ≡ get_or ys i 0
past xs ys m i n e q = let z : n ≡ length xs + i = omega arith in ap (λ k. get_or (xs ++ ys) k 0) z ∙ get_or-append-add xs ys i 0

pub filled_none : (n : ℕ) (ws : List ℕ) (i : ℕ) → length ws ≤ i → i < n → get_or (filled n ws) i 0 ≡ 255
unfolding filled
filled_none n ws i h l =
    past ws (replicate (n - length ws) 255) (length ws) (i - length ws) i refl (omega arith) ∙ get_or-replicate {A = ℕ} (n - length ws) (i - length ws) 255 0 (omega arith)

-- ---- every word fits into 32 bits
abbrev pub Fit : List ℕ → Type 0
Fit ws = (i : ℕ) → get_or ws i 0 < 4294967296

pub fit_append : (xs ys : List ℕ) → Fit xs → Fit ys → Fit (xs ++ ys)
fit_append [] ys h k i = k i
fit_append (x ∷ xs) ys h k zero = h 0
fit_append (x ∷ xs) ys h k (suc i) = fit_append xs ys (λ j. h (suc j)) k i

fit_255 : (n : ℕ) → Fit (replicate n 255)
fit_255 zero i = omega arith
fit_255 (suc n) zero = omega arith
fit_255 (suc n) (suc i) = fit_255 n i

pub fit_filled : (n : ℕ) (ws : List ℕ) → Fit ws → Fit (filled n ws)
unfolding filled
fit_filled n ws h = fit_append ws (replicate (n - length ws) 255) h (fit_255 (n - length ws))

module _ (f : List ℕ) where
  -- ---- constructors
  pub con_many : (cs : List Constructor) (at : ℕ) → length (con_words at cs) ≡ length cs
  unfolding con_words
  con_many [] at = refl
  con_many (c ∷ cs) at = ap suc (con_many cs (at + 3 + length c))

  pub con_word : (cs : List Constructor) (at i : ℕ) → Cons f at cs → i < length cs
      → (p : ℕ) × (get_or (con_words at cs) i 0 ≡ length (get_or cs i []) + 256 * p) × Sorts f p (get_or cs i []) × (p ≤ length f)
  unfolding con_words
  con_word [] at i h u = absurd (omega arith)
  con_word (c ∷ cs) at zero h u = (at + 3, refl, h.1, omega (arith, h.2))
  con_word (c ∷ cs) at (suc i) h u = con_word cs (at + 3 + length c) i h.3 (omega arith)

  pub con_small : (cs : List Constructor) (at i : ℕ) → Cons f at cs → length (get_or cs i []) ≤ 4
  con_small [] at i h = omega arith
  con_small (c ∷ cs) at zero h = h.0
  con_small (c ∷ cs) at (suc i) h = con_small cs (at + 3 + length c) i h.3

  pub con_fit : (cs : List Constructor) (at : ℕ) → length f ≤ 4096 → Cons f at cs → Fit (con_words at cs)
  unfolding con_words
  con_fit [] at l h i = omega arith
  con_fit (c ∷ cs) at l h zero = omega (arith, h.0, h.2)
  con_fit (c ∷ cs) at l h (suc i) = con_fit cs (at + 3 + length c) l h.3 i

  -- ---- functions
  pub fun_many : (gs : List Signature) (at : ℕ) → length (fun_words at gs) ≡ length gs
  unfolding fun_words
  fun_many [] at = refl
  fun_many (g ∷ gs) at = ap suc (fun_many gs (at + 4 + length g.parameters))

  pub fun_word : (gs : List Signature) (at i : ℕ) → Funs f at gs → i < length gs
      → (p : ℕ) × (get_or (fun_words at gs) i 0 ≡ length (get_or gs i no_function).parameters + 256 * (p + 3)) × FunAt f p (get_or gs i no_function)
  unfolding fun_words
  fun_word [] at i h u = absurd (omega arith)
  fun_word (g ∷ gs) at zero h u = (at, refl, h.0)
  fun_word (g ∷ gs) at (suc i) h u = fun_word gs (at + 4 + length g.parameters) i h.1 (omega arith)

  pub fun_small : (gs : List Signature) (at i : ℕ) → Funs f at gs → length (get_or gs i no_function).parameters ≤ 8
  fun_small [] at i h = omega arith
  fun_small (g ∷ gs) at zero h = h.0.0
  fun_small (g ∷ gs) at (suc i) h = fun_small gs (at + 4 + length g.parameters) i h.1

  pub fun_fit : (gs : List Signature) (at : ℕ) → length f ≤ 4096 → Funs f at gs → Fit (fun_words at gs)
  unfolding fun_words
  fun_fit [] at l h i = omega arith
  fun_fit (g ∷ gs) at l h zero = omega (arith, h.0.0, h.0.3)
  fun_fit (g ∷ gs) at l h (suc i) = fun_fit gs (at + 4 + length g.parameters) l h.1 i
