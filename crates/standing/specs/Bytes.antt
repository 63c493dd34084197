-- Bytes and marks by their place in a file, and what the table of a file's declarations says. Assumes nothing.
use Rattle.std.specs.Prelude.{ℕ, zero, suc, ◌+◌, ◌*◌, ◌/◌, ◌%◌, List, [], ◌∷◌, length, get_or, ltb, Option, None, Some}
use Rattle.meaning.specs.Choice.{pick}
use Rattle.meaning.specs.declared.Mark.{Mark}
use Rattle.meaning.specs.Marks.{place_of, find_mark}

abbrev pub byte_at : List ℕ → ℕ → ℕ
byte_at bytes p = get_or bytes p 0

-- the two bytes of a mark as one number
abbrev pub mark_at : List ℕ → ℕ → ℕ
mark_at bytes p = byte_at bytes p * 256 + byte_at bytes (p + 1)

-- its place in the table of marks; 16 where the file ends within it
unfoldable pub number_at : List ℕ → ℕ → ℕ
number_at f at = pick (ltb (length f) (at + 2)) 16 (find_mark (mark_at f at))

-- the same of a mark that was read; none where the file ends within it
abbrev pub read_number : Option Mark → ℕ
read_number None = 16
read_number (Some m) = place_of m

-- n bytes from a place on
unfoldable pub bytes_at : List ℕ → ℕ → ℕ → List ℕ
bytes_at f a zero = []
bytes_at f a (suc n) = get_or f a 0 ∷ bytes_at f (suc a) n

-- A file's declarations as 128 words: 64 constructors, 32 functions, the places of 32 bodies. A constructor's word is its arity and 256 times
-- the place of its first field's byte; a function's word is its count of parameters and 256 times the place of its first parameter's byte
abbrev pub arity_in : List ℕ → ℕ → ℕ
arity_in table c = get_or table c 0 % 256

abbrev pub fields_in : List ℕ → ℕ → ℕ
fields_in table c = get_or table c 0 / 256

abbrev pub params_in : List ℕ → ℕ → ℕ
params_in table f = get_or table (64 + f) 0 % 256

abbrev pub modes_in : List ℕ → ℕ → ℕ
modes_in table f = get_or table (64 + f) 0 / 256

abbrev pub body_in : List ℕ → ℕ → ℕ
body_in table f = get_or table (96 + f) 0

-- the sort of a function's result, whose byte stands behind the modes
abbrev pub result_in : (bytes table : List ℕ) → ℕ → ℕ
result_in bytes table f = byte_at bytes (modes_in table f + params_in table f)
