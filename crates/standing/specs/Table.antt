-- The table of a file's declarations, and what stands in a file that was read with that table. Assumes nothing.
use Rattle.std.specs.Prelude.{ℕ, ◌+◌, ◌-◌, ◌*◌, ◌≤◌, ◌<◌, List, [], ◌∷◌, ◌++◌, map, ◌≡◌, length, get_or, replicate}
use Rattle.meaning.specs.Syntax.{Sort, Mode, Signature, Constructor, File}
use Rattle.meaning.specs.declared.Mark.{Mark}
use Rattle.meaning.specs.Marks.{size, mark_size}
use Rattle.meaning.specs.Plain.{place_of}
use Rattle.meaning.specs.Machine.{function_of, body_of}
use Rattle.standing.specs.Bytes.{byte_at, arity_in, fields_in, params_in, modes_in, body_in}
use Rattle.standing.specs.Stands.{arity, Stands}

-- the bytes of a mark and of the count behind it: from there on stand a constructor's sorts, or a function's modes
abbrev pub counted : ℕ
counted = mark_size + 1

-- the words of constructors whose records stand one after the other from a place on, and the place behind them
unfoldable pub con_words : (at : ℕ) → List Constructor → List ℕ
con_words at [] = []
con_words at (c ∷ cs) = (length c + 256 * (at + counted)) ∷ con_words (at + size Mark.CN + length c) cs

unfoldable pub con_end : (at : ℕ) → List Constructor → ℕ
con_end at [] = at
con_end at (c ∷ cs) = con_end (at + size Mark.CN + length c) cs

unfoldable pub fun_words : (at : ℕ) → List Signature → List ℕ
fun_words at [] = []
fun_words at (f ∷ fs) = (length f.parameters + 256 * (at + counted)) ∷ fun_words (at + size Mark.FN + length f.parameters) fs

unfoldable pub fun_end : (at : ℕ) → List Signature → ℕ
fun_end at [] = at
fun_end at (f ∷ fs) = fun_end (at + size Mark.FN + length f.parameters) fs

-- so many words, 255 behind those that are given: nothing is declared there
unfoldable pub filled : (size : ℕ) → List ℕ → List ℕ
filled n ws = ws ++ replicate (n - length ws) 255

unfoldable pub table_of : File → List ℕ
table_of file =
    filled 64 (con_words 0 file.constructors)
    ++ (filled 32 (fun_words (con_end 0 file.constructors) file.functions)
    ++ filled 32 (map place_of file.bodies))

-- the byte of a sort, and of a mode
abbrev pub sort_byte : Sort → ℕ
sort_byte Sort.number = 0
sort_byte Sort.tree = 1

abbrev pub mode_byte : Mode → ℕ
mode_byte Mode.number = 0
mode_byte Mode.lent = 1
mode_byte Mode.owned = 2

-- the sorts (the modes) whose bytes stand one after the other from a place on
abbrev pub Sorts : List ℕ → ℕ → List Sort → Type 0
Sorts bytes p [] = Unit {0}
Sorts bytes p (s ∷ ss) = (byte_at bytes p ≡ sort_byte s) × (p < length bytes) × Sorts bytes (p + 1) ss

abbrev pub Modes : List ℕ → ℕ → List Mode → Type 0
Modes bytes p [] = Unit {0}
Modes bytes p (m ∷ ms) = (byte_at bytes p ≡ mode_byte m) × (p < length bytes) × Modes bytes (p + 1) ms

-- what a table says of a file
pub record Declared (file : File) (bytes table : List ℕ) : Type 0 where
  pub wide : length table ≡ 128
  pub words : (i : ℕ) → get_or table i 0 < 4294967296
  pub constructors : length file.constructors ≤ 64
  pub functions : length file.functions ≤ 32
  pub first : 1 ≤ length file.functions
  pub arities : (c : ℕ) → c < length file.constructors → arity_in table c ≡ arity file bytes c
  pub small : (c : ℕ) → arity file bytes c ≤ 4
  pub no_constructor : (c : ℕ) → length file.constructors ≤ c → c < 64 → arity_in table c ≡ 255
  pub sorts : (c : ℕ) → c < length file.constructors → Sorts bytes (fields_in table c) (get_or file.constructors c [])
  pub parameters : (f : ℕ) → f < length file.functions → params_in table f ≡ length (function_of file f).parameters
  pub few : (f : ℕ) → length (function_of file f).parameters ≤ 8
  pub no_function : (f : ℕ) → length file.functions ≤ f → f < 32 → params_in table f ≡ 255
  pub modes : (f : ℕ) → f < length file.functions → Modes bytes (modes_in table f) (function_of file f).parameters
  pub result : (f : ℕ) → f < length file.functions
      → (byte_at bytes (modes_in table f + params_in table f) ≡ sort_byte (function_of file f).result) × (modes_in table f + params_in table f < length bytes)
  pub many : length file.bodies ≡ length file.functions
  pub bodies : (f : ℕ) → f < length file.functions → body_in table f ≡ place_of (body_of file f)
  pub ends : ℕ → ℕ
  pub stands : (f : ℕ) → f < length file.functions → Stands file bytes (length (function_of file f).parameters) (body_of file f) (ends f)
  pub size : length bytes ≤ 4096
