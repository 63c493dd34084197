-- Words that are read out of bytes, one more at a time, and out of a part of the bytes. Assumes nothing.
use Rattle.std.proofs.Common.{◌≡◌, ℕ, zero, suc, ◌+◌, ◌*◌, ◌<◌, ◌≤◌, List, [], ◌∷◌, ◌++◌, arith, length, get_or, set, take, drop, refl, sym, ap, ◌∙◌, add-one, length-append, get_or-drop, get_or-take, drop-cons}
use lib.Seq.{set_at, append_snoc}
use Rattle.meaning.specs.Lines.{word_in, words_in}

pub length_words : (bytes : List ℕ) (at count : ℕ) → length (words_in bytes at count) ≡ count
unfolding words_in
length_words bytes at zero = refl
length_words bytes at (suc n) = length-append (words_in bytes at n) (word_in bytes (at + 4 * n) ∷ []) ∙ ap (λ k. k + 1) (length_words bytes at n) ∙ add-one n

pub no_words : (bytes : List ℕ) (at : ℕ) (old : List ℕ) → old ≡ words_in bytes at 0 ++ drop 0 old
unfolding words_in
no_words bytes at old = refl

-- one word more
pub next_word : (bytes : List ℕ) (at i : ℕ) (old : List ℕ) → i < length old
    → set (words_in bytes at i ++ drop i old) i (word_in bytes (at + 4 * i)) ≡ words_in bytes at (i + 1) ++ drop (i + 1) old
unfolding words_in
next_word bytes at i old h =
    rw (add-one i, drop-cons old i 0 h)
    (set_at (words_in bytes at i) (get_or old i 0) (drop (suc i) old) (word_in bytes (at + 4 * i)) i (length_words bytes at i)
    ∙ sym (append_snoc (words_in bytes at i) (word_in bytes (at + 4 * i)) (drop (suc i) old)))

-- the words of the bytes from a place on
word_in-drop : (n at : ℕ) (bytes : List ℕ) → word_in (drop n bytes) at ≡ word_in bytes (n + at)
unfolding word_in
word_in-drop n at bytes = grind (arith, get_or-drop)

pub words_in-drop : (n at count : ℕ) (bytes : List ℕ) → words_in (drop n bytes) at count ≡ words_in bytes (n + at) count
unfolding words_in
words_in-drop n at zero bytes = refl
words_in-drop n at (suc k) bytes =
    let same : n + (at + 4 * k) ≡ n + at + 4 * k = omega arith in
    rw (words_in-drop n at k bytes, word_in-drop n (at + 4 * k) bytes, same)

-- the words of the first bytes
pub word_in-take : (n at : ℕ) (bytes : List ℕ) → at + 4 ≤ n → word_in (take n bytes) at ≡ word_in bytes at
unfolding word_in
word_in-take n at bytes h = grind (arith, get_or-take)

pub words_in-take : (n at count : ℕ) (bytes : List ℕ) → at + 4 * count ≤ n → words_in (take n bytes) at count ≡ words_in bytes at count
unfolding words_in
words_in-take n at zero bytes h = refl
words_in-take n at (suc k) bytes h = rw (words_in-take n at k bytes (omega arith), word_in-take n (at + 4 * k) bytes (omega arith))
