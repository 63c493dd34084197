-- What is found in the table of marks: one of its rows, or none, by a mark's key too; and no record is long or binds many slots. Assumes nothing.
use Prim.Native.Nat.{ℕ, zero, suc, ◌+◌, ◌≤◌, max}
use mathlib.Core.List.{List, [], ◌∷◌}
use mathlib.Core.Path.{◌≡◌, refl, sym, ap, ◌∙◌}
use mathlib.Core.Logic.{◌⊎◌, inl, inr}
use mathlib.Core.Bool.{Bool, true, false}
use lib.Dec.{eqb}
use lib.ListN.{get_or, get_or-eq_default}
use borrow.Author.Tests.{eqb-true, eqb-false, ne_eqb}
use native.Mathlib.Omega.{arith}
use Rattle.meaning.specs.declared.MarkRow.{MarkRow}
use Rattle.meaning.specs.declared.Mark.{Mark}
use Rattle.meaning.specs.declared.Mark.TheVariants.{CN, FN, BD, ND, GV, AT, MK, CL, TL, OP, LK, BR, NU, AR, IF, Other}
use Rattle.meaning.specs.Marks.{marks, names, find, row, rows, row_at, code, place_of, number_of, mark_of, find_mark}
use Rattle.meaning.specs.Keys.{key_of, place_in, by_key}

-- the greatest of a column, with the row of zeros behind the table
abbrev most : (MarkRow → ℕ) → List MarkRow → ℕ
most column [] = column (row 0 0 0)
most column (r ∷ rs) = max (column r) (most column rs)

most_le : (column : MarkRow → ℕ) (rs : List MarkRow) (i : ℕ) → column (get_or rs i (row 0 0 0)) ≤ most column rs
most_le column [] i = omega arith
most_le column (r ∷ rs) zero = omega arith
most_le column (r ∷ rs) (suc i) = omega (arith, most_le column rs i)

pub row_small : (i : ℕ) → (row_at i).binds ≤ 5
unfolding row_at
row_small i = omega (arith, most_le (λ r. r.binds) rows i)

pub row_short : (i : ℕ) → (row_at i).fields ≤ 3
unfolding row_at
row_short i = most_le (λ r. r.fields) rows i

pub past_rows : (i : ℕ) → 15 ≤ i → row 0 0 0 ≡ row_at i
unfolding row_at
past_rows i h = sym (get_or-eq_default rows (row 0 0 0) h)

pub next_place : (k i : ℕ) → k ≤ i → (i ≡ k → ⊥) → k + 1 ≤ i
next_place k i h ne = omega (arith, h, ne)

-- what is found in a table is one of its entries, or the default
pub data Each (P : Mark → Type 0) (w : ℕ) : List (ℕ × Mark) → Type 0 where
  none : Each P w []
  more : {k : ℕ} {m : Mark} {table : List (ℕ × Mark)} → (w ≡ k → P m) → Each P w table → Each P w ((k, m) ∷ table)

found : {P : Mark → Type 0} {w : ℕ} {table : List (ℕ × Mark)} → Each P w table → P Other → P (find w table Other)
found none d = d
found {P} {w} (more {k} {m} {table} h t) d = go (found t d) (eqb w k) refl
  where
    go : P (find w table Other) → (x : Bool) → eqb w k ≡ x → P (find w ((k, m) ∷ table) Other)
    go rest true e = rw (e, find) (h (eqb-true w k e))
    go rest false e = rw (e, find) rest

-- the mark with a key is one of the table, or none
key_mark : (ms : List Mark) (k : ℕ) → (m : Mark) × (place_in ms k ≡ place_of m)
unfolding place_in
key_mark [] k = (Other, refl)
key_mark (m ∷ ms) k = go (key_mark ms k) (eqb k (key_of (code m))) refl
  where
    go : ((n : Mark) × (place_in ms k ≡ place_of n)) → (x : Bool) → eqb k (key_of (code m)) ≡ x → (n : Mark) × (place_in (m ∷ ms) k ≡ place_of n)
    go rest true e = (m, rw (e, place_in) refl)
    go rest false e = (rest.0, rw (e, place_in) rest.1)

-- a key that is none of a list's leads to none
abbrev pub Without : List Mark → ℕ → Type 0
Without [] k = Unit {0}
Without (m ∷ ms) k = (k ≡ key_of (code m) → ⊥) × Without ms k

pub no_key : (ms : List Mark) (k : ℕ) → Without ms k → 15 ≡ place_in ms k
unfolding place_in
no_key [] k w = refl
no_key (m ∷ ms) k w = rw (ne_eqb _ _ w.0, place_in) (no_key ms k w.1)

-- a mark's row leads back to it
row_mark : (m : Mark) → find_mark (row_at (place_of m)).mark ≡ place_of m
unfolding find_mark number_of mark_of row_at
row_mark CN = refl
row_mark FN = refl
row_mark BD = refl
row_mark ND = refl
row_mark GV = refl
row_mark AT = refl
row_mark MK = refl
row_mark CL = refl
row_mark TL = refl
row_mark OP = refl
row_mark LK = refl
row_mark BR = refl
row_mark NU = refl
row_mark AR = refl
row_mark IF = refl
row_mark Other = refl

-- a mark that is the row's of its key stands there in the table
pub by_row : (w : ℕ) → (row_at (by_key (key_of w))).mark ≡ w → by_key (key_of w) ≡ find_mark w
unfolding by_key
by_row w h =
    let m = key_mark names (key_of w) in
    m.1 ∙ sym (row_mark m.0) ∙ ap (λ i. find_mark (row_at i).mark) (sym m.1) ∙ ap find_mark h

-- a mark of the table has the key that leads to it
abbrev Keyed : ℕ → Mark → Type 0
Keyed w m = (place_of m ≡ 15) ⊎ ((by_key (key_of w) ≡ place_of m) × ((row_at (place_of m)).mark ≡ w))

key_of_lem : {w : ℕ} (m : Mark) → by_key (key_of (code m)) ≡ place_of m → w ≡ code m → Keyed w m
unfolding row_at
key_of_lem m h e = inr (rw e h, sym e)

keyed : (w : ℕ) → Keyed w (mark_of w)
unfolding mark_of by_key place_in
keyed w = found {P = Keyed w} {w = w} {table = marks} (more (key_of_lem CN refl) (more (key_of_lem FN refl) (more (key_of_lem BD refl) (more (key_of_lem ND refl) (more (key_of_lem GV refl) (more (key_of_lem AT refl) (more (key_of_lem MK refl) (more (key_of_lem CL refl) (more (key_of_lem TL refl) (more (key_of_lem OP refl) (more (key_of_lem LK refl) (more (key_of_lem BR refl) (more (key_of_lem NU refl) (more (key_of_lem AR refl) (more (key_of_lem IF refl) (none)))))))))))))))) (inl refl)

-- any other mark is none of the table
pub no_row : (w : ℕ) → ((row_at (by_key (key_of w))).mark ≡ w → ⊥) → 15 ≡ find_mark w
unfolding find_mark number_of
no_row w h = elim (keyed w) [
  | inl e ↦ sym e
  | inr e ↦ absurd (h (rw e.0 e.1))
]

pub is_CN : (w : ℕ) → eqb (find_mark w) 0 ≡ eqb w 17230
unfolding find_mark mark_of number_of
is_CN w = go (eqb w 17230) refl
  where
    go : (x : Bool) → eqb w 17230 ≡ x → eqb (find_mark w) 0 ≡ x
    go true e = simp (eqb-true w 17230 e)
    go false e = found {P = λ m. eqb (number_of m) 0 ≡ false} {w = w} {table = marks} (more (λ z. absurd (eqb-false w 17230 e z)) (more (λ _. refl) (more (λ _. refl) (more (λ _. refl) (more (λ _. refl) (more (λ _. refl) (more (λ _. refl) (more (λ _. refl) (more (λ _. refl) (more (λ _. refl) (more (λ _. refl) (more (λ _. refl) (more (λ _. refl) (more (λ _. refl) (more (λ _. refl) (none)))))))))))))))) refl

pub is_FN : (w : ℕ) → eqb (find_mark w) 1 ≡ eqb w 17998
unfolding find_mark mark_of number_of
is_FN w = go (eqb w 17998) refl
  where
    go : (x : Bool) → eqb w 17998 ≡ x → eqb (find_mark w) 1 ≡ x
    go true e = simp (eqb-true w 17998 e)
    go false e = found {P = λ m. eqb (number_of m) 1 ≡ false} {w = w} {table = marks} (more (λ _. refl) (more (λ z. absurd (eqb-false w 17998 e z)) (more (λ _. refl) (more (λ _. refl) (more (λ _. refl) (more (λ _. refl) (more (λ _. refl) (more (λ _. refl) (more (λ _. refl) (more (λ _. refl) (more (λ _. refl) (more (λ _. refl) (more (λ _. refl) (more (λ _. refl) (more (λ _. refl) (none)))))))))))))))) refl

pub is_BD : (w : ℕ) → eqb (find_mark w) 2 ≡ eqb w 16964
unfolding find_mark mark_of number_of
is_BD w = go (eqb w 16964) refl
  where
    go : (x : Bool) → eqb w 16964 ≡ x → eqb (find_mark w) 2 ≡ x
    go true e = simp (eqb-true w 16964 e)
    go false e = found {P = λ m. eqb (number_of m) 2 ≡ false} {w = w} {table = marks} (more (λ _. refl) (more (λ _. refl) (more (λ z. absurd (eqb-false w 16964 e z)) (more (λ _. refl) (more (λ _. refl) (more (λ _. refl) (more (λ _. refl) (more (λ _. refl) (more (λ _. refl) (more (λ _. refl) (more (λ _. refl) (more (λ _. refl) (more (λ _. refl) (more (λ _. refl) (more (λ _. refl) (none)))))))))))))))) refl

pub is_ND : (w : ℕ) → eqb (find_mark w) 3 ≡ eqb w 20036
unfolding find_mark mark_of number_of
is_ND w = go (eqb w 20036) refl
  where
    go : (x : Bool) → eqb w 20036 ≡ x → eqb (find_mark w) 3 ≡ x
    go true e = simp (eqb-true w 20036 e)
    go false e = found {P = λ m. eqb (number_of m) 3 ≡ false} {w = w} {table = marks} (more (λ _. refl) (more (λ _. refl) (more (λ _. refl) (more (λ z. absurd (eqb-false w 20036 e z)) (more (λ _. refl) (more (λ _. refl) (more (λ _. refl) (more (λ _. refl) (more (λ _. refl) (more (λ _. refl) (more (λ _. refl) (more (λ _. refl) (more (λ _. refl) (more (λ _. refl) (more (λ _. refl) (none)))))))))))))))) refl

pub is_BR : (w : ℕ) → eqb (find_mark w) 11 ≡ eqb w 16978
unfolding find_mark mark_of number_of
is_BR w = go (eqb w 16978) refl
  where
    go : (x : Bool) → eqb w 16978 ≡ x → eqb (find_mark w) 11 ≡ x
    go true e = simp (eqb-true w 16978 e)
    go false e = found {P = λ m. eqb (number_of m) 11 ≡ false} {w = w} {table = marks} (more (λ _. refl) (more (λ _. refl) (more (λ _. refl) (more (λ _. refl) (more (λ _. refl) (more (λ _. refl) (more (λ _. refl) (more (λ _. refl) (more (λ _. refl) (more (λ _. refl) (more (λ _. refl) (more (λ z. absurd (eqb-false w 16978 e z)) (more (λ _. refl) (more (λ _. refl) (more (λ _. refl) (none)))))))))))))))) refl

-- a mark by its place, and so one mark for one place
by_place : (m : Mark) → get_or names (place_of m) Other ≡ m
by_place CN = refl
by_place FN = refl
by_place BD = refl
by_place ND = refl
by_place GV = refl
by_place AT = refl
by_place MK = refl
by_place CL = refl
by_place TL = refl
by_place OP = refl
by_place LK = refl
by_place BR = refl
by_place NU = refl
by_place AR = refl
by_place IF = refl
by_place Other = refl

pub one_place : (m n : Mark) → place_of m ≡ place_of n → m ≡ n
one_place m n e = sym (by_place m) ∙ ap (λ i. get_or names i Other) e ∙ by_place n

pub place_below : (m : Mark) → place_of m ≤ 15
place_below CN = omega arith
place_below FN = omega arith
place_below BD = omega arith
place_below ND = omega arith
place_below GV = omega arith
place_below AT = omega arith
place_below MK = omega arith
place_below CL = omega arith
place_below TL = omega arith
place_below OP = omega arith
place_below LK = omega arith
place_below BR = omega arith
place_below NU = omega arith
place_below AR = omega arith
place_below IF = omega arith
place_below Other = omega arith
