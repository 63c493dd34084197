-- The table of declarations with one word more. Assumes nothing.
use Prim.Native.Nat.{ℕ, suc, ◌+◌, ◌-◌, ◌*◌, ◌≤◌, ◌<◌}
use mathlib.Core.List.{List, [], ◌∷◌, ◌++◌, append_assoc}
use mathlib.Core.Path.{◌≡◌, refl, sym, ap, ◌∙◌}
use lib.ListN.{length, set, replicate, length-replicate, length-append}
use lib.Seq.{set-append_seam, set-append_left}
use Rattle.std.proofs.lemmas.List.{set-append_right}
use native.Mathlib.Omega.{arith}
use Rattle.meaning.specs.Syntax.{Signature, Constructor}
use Rattle.standing.specs.Table.{con_words, con_end, fun_words, fun_end, filled}
use Rattle.checker.specs.Opening.{table_with}

-- ---- the words of one record more
con_words_more : (at : ℕ) (cs : List Constructor) (c : Constructor) → con_words at (cs ++ (c ∷ [])) ≡ con_words at cs ++ ((length c + 256 * (con_end at cs + 3)) ∷ [])
unfolding con_words con_end
con_words_more at [] c = refl
con_words_more at (x ∷ cs) c = ap (λ l. (length x + 256 * (at + 3)) ∷ l) (con_words_more (at + 3 + length x) cs c)

pub con_end_more : (at : ℕ) (cs : List Constructor) (c : Constructor) → con_end at (cs ++ (c ∷ [])) ≡ con_end at cs + 3 + length c
unfolding con_end
con_end_more at [] c = refl
con_end_more at (x ∷ cs) c = con_end_more (at + 3 + length x) cs c

pub con_count : (at : ℕ) (cs : List Constructor) → length (con_words at cs) ≡ length cs
unfolding con_words
con_count at [] = refl
con_count at (x ∷ cs) = ap suc (con_count (at + 3 + length x) cs)

fun_words_more : (at : ℕ) (fs : List Signature) (g : Signature) → fun_words at (fs ++ (g ∷ [])) ≡ fun_words at fs ++ ((length g.parameters + 256 * (fun_end at fs + 3)) ∷ [])
unfolding fun_words fun_end
fun_words_more at [] g = refl
fun_words_more at (x ∷ fs) g = ap (λ l. (length x.parameters + 256 * (at + 3)) ∷ l) (fun_words_more (at + 4 + length x.parameters) fs g)

pub fun_end_more : (at : ℕ) (fs : List Signature) (g : Signature) → fun_end at (fs ++ (g ∷ [])) ≡ fun_end at fs + 4 + length g.parameters
unfolding fun_end
fun_end_more at [] g = refl
fun_end_more at (x ∷ fs) g = fun_end_more (at + 4 + length x.parameters) fs g

pub fun_count : (at : ℕ) (fs : List Signature) → length (fun_words at fs) ≡ length fs
unfolding fun_words
fun_count at [] = refl
fun_count at (x ∷ fs) = ap suc (fun_count (at + 4 + length x.parameters) fs)

-- ---- a part of the table
fill_next : (n : ℕ) (ws : List ℕ) (w : ℕ) → length ws < n → set (filled n ws) (length ws) w ≡ filled n (ws ++ (w ∷ []))
unfolding filled
fill_next n ws w h =
    let e : n - length ws ≡ suc (n - suc (length ws)) = omega arith in
    let q : n - length (ws ++ (w ∷ [])) ≡ n - suc (length ws) = let z : length (ws ++ (w ∷ [])) ≡ length ws + 1 = length-append ws (w ∷ []) in omega arith in
    ap (λ j. set (ws ++ replicate j 255) (length ws) w) e ∙ set-append_seam ws 255 (replicate (n - suc (length ws)) 255) w
    ∙ sym (ap (λ j. ws ++ (w ∷ []) ++ replicate j 255) q ∙ append_assoc ws (w ∷ []) (replicate (n - suc (length ws)) 255))

pub fill_wide : (n : ℕ) (ws : List ℕ) → length ws ≤ n → length (filled n ws) ≡ n
unfolding filled
fill_wide n ws h =
    let blanks : List ℕ = replicate (n - length ws) 255 in
    let e : length (ws ++ blanks) ≡ length ws + length blanks = length-append ws blanks in
    let q : length blanks ≡ n - length ws = length-replicate {A = ℕ} (n - length ws) 255 in
    omega arith

set_behind : (n : ℕ) (xs ys : List ℕ) (i a : ℕ) → length xs ≡ n → set (xs ++ ys) (n + i) a ≡ xs ++ set ys i a
set_behind n xs ys i a e =
    let z : n + i - n ≡ i = omega arith in
    set-append_right xs ys n (n + i) a e (omega arith) ∙ ap (λ j. xs ++ set ys j a) z

-- ---- one entry more in each part
pub table_con : (cs : List Constructor) (c : Constructor) (w : ℕ) → length cs < 64 → w ≡ length c + 256 * (con_end 0 cs + 3)
    → set (table_with cs [] []) (length cs) w ≡ table_with (cs ++ (c ∷ [])) [] []
unfolding table_with fun_words
table_con cs c w h e =
    let n = con_count 0 cs in
    let rest = filled 32 [] ++ filled 32 [] in
    ap (λ j. set (filled 64 (con_words 0 cs) ++ rest) j w) (sym n)
    ∙ set-append_left (filled 64 (con_words 0 cs)) rest (length (con_words 0 cs)) w (let l = fill_wide 64 (con_words 0 cs) (omega arith) in omega arith)
    ∙ ap (λ l. l ++ rest) (fill_next 64 (con_words 0 cs) w (omega arith) ∙ ap (filled 64) (ap (λ v. con_words 0 cs ++ (v ∷ [])) e ∙ sym (con_words_more 0 cs c)))

pub table_fun : (cs : List Constructor) (fs : List Signature) (g : Signature) (w : ℕ) → length cs ≤ 64 → length fs < 32 → w ≡ length g.parameters + 256 * (fun_end (con_end 0 cs) fs + 3)
    → set (table_with cs fs []) (64 + length fs) w ≡ table_with cs (fs ++ (g ∷ [])) []
unfolding table_with
table_fun cs fs g w h k e =
    let start = con_end 0 cs in
    let n = fun_count start fs in
    let front = filled 64 (con_words 0 cs) in
    let m = con_count 0 cs in
    set_behind 64 front (filled 32 (fun_words start fs) ++ filled 32 []) (length fs) w (fill_wide 64 (con_words 0 cs) (omega arith))
    ∙ ap (λ l. front ++ l) (ap (λ j. set (filled 32 (fun_words start fs) ++ filled 32 []) j w) (sym n)
    ∙ set-append_left (filled 32 (fun_words start fs)) (filled 32 []) (length (fun_words start fs)) w (let l = fill_wide 32 (fun_words start fs) (omega arith) in omega arith)
    ∙ ap (λ l. l ++ filled 32 []) (fill_next 32 (fun_words start fs) w (omega arith) ∙ ap (filled 32) (ap (λ v. fun_words start fs ++ (v ∷ [])) e ∙ sym (fun_words_more start fs g))))

pub table_body : (cs : List Constructor) (fs : List Signature) (ps : List ℕ) (w : ℕ) → length cs ≤ 64 → length fs ≤ 32 → length ps < 32
    → set (table_with cs fs ps) (96 + length ps) w ≡ table_with cs fs (ps ++ (w ∷ []))
unfolding table_with
table_body cs fs ps w h k l =
    let start = con_end 0 cs in
    let front = filled 64 (con_words 0 cs) in
    let next = filled 32 (fun_words start fs) in
    let n = fun_count start fs in
    let m = con_count 0 cs in
    let z : 96 + length ps ≡ 64 + (32 + length ps) = omega arith in
    ap (λ j. set (front ++ (next ++ filled 32 ps)) j w) z
    ∙ set_behind 64 front (next ++ filled 32 ps) (32 + length ps) w (fill_wide 64 (con_words 0 cs) (omega arith))
    ∙ ap (λ r. front ++ r) (set_behind 32 next (filled 32 ps) (length ps) w (fill_wide 32 (fun_words start fs) (omega arith))
    ∙ ap (λ r. next ++ r) (fill_next 32 ps w l))

pub table_blank : (n : ℕ) → n ≡ 128 → table_with [] [] [] ≡ replicate n 255
unfolding table_with filled con_words fun_words
table_blank n e = ap (λ k. replicate k 255) (sym e)
