-- The words of a store, by the codes of a file's constructors, and a run's arguments, by the file's bytes and the table of its declarations. Assumes nothing.
use Rattle.std.specs.Prelude.{◌≡◌, ℕ, zero, suc, ◌+◌, ◌-◌, ◌*◌, ◌/◌, ◌%◌, Bool, true, false, List, [], ◌∷◌, map, length, ◌==◌, nat_le, nat_lt, slice_index}
use Rattle.meaning.specs.Choice.{pick}
use Rattle.meaning.specs.Syntax.{Sort, Constructor, File}
use Rattle.standing.specs.Bytes.{byte_at}
use Rattle.machine.specs.declared.start.Mode.{Mode}

-- a constructor's code: bit i where its field i is a tree, bit 4 + i where it is a number
unfoldable pub code_of : Constructor → ℕ
code_of [] = 0
code_of (Sort.number ∷ ss) = 16 + 2 * code_of ss
code_of (Sort.tree ∷ ss) = 1 + 2 * code_of ss

-- the codes of a file's constructors, by their number
abbrev pub Coded : File → List ℕ → Type 0
Coded file codes = codes ≡ map code_of file.constructors

-- the same by a constructor's word in the table: its field i, and n fields from i on
unfoldable pub bit_at : (bytes : List ℕ) (kind i : ℕ) → ℕ
bit_at bytes kind i = pick (nat_le (kind % 256) i) 0 (pick (byte_at bytes (kind / 256 + i) == 0) 16 1)

unfoldable pub code_from : (bytes : List ℕ) (kind n i : ℕ) → ℕ
code_from bytes kind zero i = 0
code_from bytes kind (suc n) i = bit_at bytes kind i + 2 * code_from bytes kind n (suc i)

-- a word whose bit is not set, or a number; n words from p on
unfoldable pub number_fine : (bits w : ℕ) → Bool
number_fine bits w = pick (bits % 2 == 1) (nat_lt w 65536) true

unfoldable pub numbers_fine : (store : List ℕ) (n bits p : ℕ) → Bool
numbers_fine store zero bits p = true
numbers_fine store (suc n) bits p = pick (number_fine bits (slice_index store p)) (numbers_fine store n (bits / 2) (p + 1)) false

-- the code of a cell's constructor
abbrev pub code_at : (codes store : List ℕ) → ℕ → ℕ
code_at codes store c = slice_index codes (slice_index store (5 * c))

unfoldable pub cell_fine : (codes store : List ℕ) → ℕ → Bool
cell_fine codes store c =
    pick (nat_lt (length store) (5 * c + 5)) false
    (pick (nat_le (length codes) (slice_index store (5 * c))) false
    (pick (code_at codes store c == 0) false (numbers_fine store 4 (code_at codes store c / 16) (5 * c + 1))))

-- a tree word that is not malformed
unfoldable pub word_fine : (codes store : List ℕ) → ℕ → Bool
word_fine codes store w =
    pick (nat_le 65536 w) (cell_fine codes store (w - 65536)) (pick (nat_le (length codes) w) false (slice_index codes w == 0))

-- a word whose bit is not set, or one that is not malformed; n words from p on; every word in the tree fields of a cell
unfoldable pub field_fine : (codes store : List ℕ) (bits w : ℕ) → Bool
field_fine codes store bits w = pick (bits % 2 == 1) (word_fine codes store w) true

unfoldable pub trees_fine : (codes store : List ℕ) (n bits p : ℕ) → Bool
trees_fine codes store zero bits p = true
trees_fine codes store (suc n) bits p = pick (field_fine codes store bits (slice_index store p)) (trees_fine codes store n (bits / 2) (p + 1)) false

unfoldable pub inside_fine : (codes store : List ℕ) → ℕ → Bool
inside_fine codes store c =
    pick (nat_lt (length store) (5 * c + 5)) true
    (pick (nat_le (length codes) (slice_index store (5 * c))) true
    (trees_fine codes store 4 (code_at codes store c % 16) (5 * c + 1)))

-- the byte of a mode
abbrev pub mode_byte : Mode → ℕ
mode_byte Mode.Number = 0
mode_byte Mode.Lent = 1
mode_byte Mode.Owned = 2

-- the byte that says how the first function takes its argument i
abbrev pub mode_at : (bytes table : List ℕ) → ℕ → ℕ
mode_at bytes table i = byte_at bytes (slice_index table 64 / 256 + i)

-- an argument of another mode, or a number
unfoldable pub number_arg : (mode w : ℕ) → Bool
number_arg mode w = pick (mode == 0) (nat_lt w 65536) true

-- an argument of another mode, or a tree word that is not malformed
unfoldable pub tree_arg : (bytes table codes store args : List ℕ) (mode i : ℕ) → Bool
tree_arg bytes table codes store args mode i = pick (mode_at bytes table i == mode) (word_fine codes store (slice_index args i)) true

-- f i, f (i + 1), .., n of them
unfoldable pub all_from : (ℕ → Bool) → (n i : ℕ) → Bool
all_from f zero i = true
all_from f (suc n) i = pick (f i) (all_from f n (suc i)) false
