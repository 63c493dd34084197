-- What clearing some counts, and wiping the work area, leave. Assumes nothing.
use Rattle.std.proofs.Common.{◌≡◌, ℕ, zero, suc, ◌+◌, ◌-◌, ◌<◌, ◌≤◌, List, ◌++◌, length, get_or, drop, set, replicate, sym, refl, ap, ◌∙◌, ⊎_elim, add-one, arith, length-drop, length-set, get_or-drop, get_or-set_other, get_or-set_same, ext_get_or}
use Rattle.std.proofs.lemmas.List.Edits.{paste_none, fill_from_more}
use lib.Seq.{paste}
use Rattle.meaning.specs.Answers.{wiped}
use Rattle.theory.proofs.StartCounting.{same?}
use Rattle.machine.specs.StartArea.{cleared}

pub cleared_paste : (base n : ℕ) (l : List ℕ) → base + n ≤ length l → paste l base (replicate n 0) n ≡ cleared base n l
unfolding cleared
cleared_paste base zero l h = sym (paste_none l base (replicate 0 0))
cleared_paste base (suc n) l h =
    ap (λ j. paste l base (replicate j 0) j) (sym (add-one n)) ∙ sym (fill_from_more l base n 0 (omega arith)) ∙ ap (λ x. set x (base + n) 0) (cleared_paste base n l (omega arith))

pub cleared_length : (base n : ℕ) (l : List ℕ) → length (cleared base n l) ≡ length l
unfolding cleared
cleared_length base zero l = refl
cleared_length base (suc n) l = length-set (cleared base n l) (base + n) 0 ∙ cleared_length base n l

pub cleared_zero : (base n : ℕ) (l : List ℕ) (x : ℕ) → base + n ≤ length l → x < n → get_or (cleared base n l) (base + x) 0 ≡ 0
unfolding cleared
cleared_zero base zero l x h p = absurd (omega arith)
cleared_zero base (suc n) l x h p =
    ⊎_elim
    (λ (e : x ≡ n). rw e (get_or-set_same (cleared base n l) (base + n) 0 0 (omega (arith, cleared_length base n l))))
    (λ (e : x ≡ n → ⊥). get_or-set_other (cleared base n l) (base + n) (base + x) 0 0 (λ z. e (omega arith)) ∙ cleared_zero base n l x (omega arith) (omega arith))
    (same? x n)

pub cleared_under : (base n : ℕ) (l : List ℕ) (j : ℕ) → j < base → get_or (cleared base n l) j 0 ≡ get_or l j 0
unfolding cleared
cleared_under base zero l j h = refl
cleared_under base (suc n) l j h = get_or-set_other (cleared base n l) (base + n) j 0 0 (λ z. omega arith) ∙ cleared_under base n l j h

pub cleared_over : (base n : ℕ) (l : List ℕ) (j : ℕ) → base + n ≤ j → get_or (cleared base n l) j 0 ≡ get_or l j 0
unfolding cleared
cleared_over base zero l j h = refl
cleared_over base (suc n) l j h = get_or-set_other (cleared base n l) (base + n) j 0 0 (λ z. omega arith) ∙ cleared_over base n l j (omega arith)

-- areas of one length that agree behind n words are wiped to the same
pub wiped_same : (n : ℕ) (u v : List ℕ) → length u ≡ length v → ((j : ℕ) → n ≤ j → get_or u j 0 ≡ get_or v j 0) → wiped n u ≡ wiped n v
unfolding wiped
wiped_same n u v e h =
    ap (λ (l : List ℕ). replicate n 0 ++ l)
    (ext_get_or 0 (drop n u) (drop n v) (simp length-drop (ap (λ k. k - n) e))
    (λ i p. get_or-drop n u i 0 ∙ h (n + i) (omega arith) ∙ sym (get_or-drop n v i 0)))

pub wiped_set : (w : List ℕ) (i v : ℕ) → i < 4096 → wiped 4096 (set w i v) ≡ wiped 4096 w
wiped_set w i v h = wiped_same 4096 (set w i v) w (length-set w i v) (λ j k. get_or-set_other w i j v 0 (λ z. omega arith))

pub wiped_cleared : (base n : ℕ) (w : List ℕ) → base + n ≤ 4096 → wiped 4096 (cleared base n w) ≡ wiped 4096 w
wiped_cleared base n w h = wiped_same 4096 (cleared base n w) w (cleared_length base n w) (λ j k. cleared_over base n w j (omega arith))
