-- "The fifteen marks and their fixed fields stand in one table": each record's mark, the count of its fixed fields in bytes, and
-- the count of slots that it binds. The code's own table is this one (`mark_row`), and every pass looks it up. Assumes nothing.
use Rattle.std.specs.Prelude.{ℕ, ◌+◌, true, false, List, [], ◌∷◌, get_or, eqb}
use Rattle.meaning.specs.declared.MarkRow.{MarkRow}
use Rattle.meaning.specs.declared.Mark.{Mark}
use Rattle.meaning.specs.declared.Mark.TheVariants.{CN, FN, BD, ND, GV, AT, MK, CL, TL, OP, LK, BR, NU, AR, IF, Other}

abbrev pub row : (mark fields binds : ℕ) → MarkRow
row m f b = record { mark = m; fields = f; binds = b }

abbrev pub rows : List MarkRow
rows =
    row 0x434E 1 0 ∷ row 0x464E 2 0 ∷ row 0x4244 0 0 ∷ row 0x4E44 0 0 ∷ row 0x4756 1 0 ∷ row 0x4154 1 1 ∷ row 0x4D4B 2 1 ∷ row 0x434C 1 1
    ∷ row 0x544C 1 0 ∷ row 0x4F50 2 0 ∷ row 0x4C4B 2 0 ∷ row 0x4252 1 0 ∷ row 0x4E55 2 1 ∷ row 0x4152 3 1 ∷ row 0x4946 1 0 ∷ []

abbrev pub names : List Mark
names = CN ∷ FN ∷ BD ∷ ND ∷ GV ∷ AT ∷ MK ∷ CL ∷ TL ∷ OP ∷ LK ∷ BR ∷ NU ∷ AR ∷ IF ∷ []

-- the entry of a key in a list of pairs
abbrev pub find : {A : Type 0} → ℕ → List (ℕ × A) → A → A
find m [] default = default
find m (e ∷ table) default = elim (eqb m e.0) [ true ↦ e.1 | false ↦ find m table default ]

abbrev pub pairs : List MarkRow → List Mark → List (ℕ × Mark)
pairs [] ms = []
pairs (r ∷ rs) [] = []
pairs (r ∷ rs) (m ∷ ms) = (r.mark, m) ∷ pairs rs ms

-- the marks with their names, by the table
abbrev pub marks : List (ℕ × Mark)
marks = pairs rows names

-- the row at a place in the table; past the table, a row of zeros
unfoldable pub row_at : ℕ → MarkRow
row_at i = get_or rows i (row 0 0 0)

-- the bytes of a mark
abbrev pub mark_size : ℕ
mark_size = 2

-- the bytes of a record's mark and fixed fields, and the count of slots that it binds, by its mark's place
abbrev pub size_at : ℕ → ℕ
size_at i = mark_size + (get_or rows i (row 0 0 0)).fields

abbrev pub binds_at : ℕ → ℕ
binds_at i = (get_or rows i (row 0 0 0)).binds

-- a mark's place in the table, 15 for none
abbrev pub place_of : Mark → ℕ
place_of CN = 0
place_of FN = 1
place_of BD = 2
place_of ND = 3
place_of GV = 4
place_of AT = 5
place_of MK = 6
place_of CL = 7
place_of TL = 8
place_of OP = 9
place_of LK = 10
place_of BR = 11
place_of NU = 12
place_of AR = 13
place_of IF = 14
place_of Other = 15

unfoldable pub number_of : Mark → ℕ
number_of m = place_of m

-- the row of a mark: its code, the bytes of its record up to the last fixed field, and the slots that it binds
abbrev pub row_of : Mark → MarkRow
row_of m = get_or rows (place_of m) (row 0 0 0)

abbrev pub code : Mark → ℕ
code m = (row_of m).mark

abbrev pub size : Mark → ℕ
size m = size_at (place_of m)

abbrev pub binds : Mark → ℕ
binds m = binds_at (place_of m)

-- the mark of two bytes as one number
unfoldable pub mark_of : ℕ → Mark
mark_of w = find w marks Other

unfoldable pub find_mark : ℕ → ℕ
find_mark w = number_of (mark_of w)
