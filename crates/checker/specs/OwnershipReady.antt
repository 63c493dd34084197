-- What the ownership check asks for, a term or branches of some file that stand at the place, and what it answers: what the check of that
-- term or those branches answers, and the calls that are written in them. Assumes nothing.
use Rattle.std.specs.Prelude.{ℕ, zero, suc, ◌+◌, ◌≤◌, ◌<◌, false, List, [], map, ◌≡◌, length, get_or}
use Rattle.meaning.specs.declared.Slot.{Slot}
use Rattle.meaning.specs.Marks.{find_mark, row_at}
use Rattle.meaning.specs.Syntax.{Sort, Term, Branches, Constructor, File}
use Rattle.meaning.specs.Plain.{place_of}
use Rattle.meaning.specs.Reading.{credits}
use Rattle.meaning.specs.Machine.{function_of}
use Rattle.meaning.specs.Outcome.{Outcome, ok, refuse}
use Rattle.meaning.specs.Ownership.{check, check_branches, member, bound_by_OP, bound_by_LK}
use Rattle.meaning.specs.Ownership as tree
use Rattle.meaning.specs.Calls.{calls, calls_branches}
use Rattle.standing.specs.Bytes.{byte_at, mark_at, arity_in, fields_in, params_in, modes_in}
use Rattle.standing.specs.Stands.{Stands, Each, count, arity}
use Rattle.standing.specs.Table.{Sorts, Modes, sort_byte}
use Rattle.checker.specs.Node.{Then}
use Rattle.checker.specs.Read.{Read, Next, Fault}
use Rattle.checker.specs.Bits.{bits_of}
use Rattle.checker.specs.Noting.{note_calls}
use Rattle.checker.specs.Slots.{slots_of, kept_of}
use Rattle.checker.specs.Ownership.{Taken, taken_of, kind_by, then_of}

-- the answer of a check that ends at a place
unfoldable pub spanned : ℕ → Outcome (Unit {0}) → Read
spanned next (ok u) = Next next
spanned next (refuse n p) = Fault n p

-- what a table says of a file's constructors and functions: its last 32 words, the places of the bodies, may still be missing
pub record Known (file : File) (bytes table : List ℕ) : Type 0 where
  pub wide : length table ≡ 128
  pub constructors : length file.constructors ≤ 64
  pub functions : length file.functions ≤ 32
  pub arities : (c : ℕ) → c < length file.constructors → arity_in table c ≡ arity file bytes c
  pub sorts : (c : ℕ) → c < length file.constructors → Sorts bytes (fields_in table c) (get_or file.constructors c [])
  pub parameters : (f : ℕ) → f < length file.functions → params_in table f ≡ length (function_of file f).parameters
  pub few : (f : ℕ) → length (function_of file f).parameters ≤ 8
  pub modes : (f : ℕ) → f < length file.functions → Modes bytes (modes_in table f) (function_of file f).parameters
  pub result : (f : ℕ) → f < length file.functions
      → (byte_at bytes (modes_in table f + params_in table f) ≡ sort_byte (function_of file f).result) × (modes_in table f + params_in table f < length bytes)
  pub size : length bytes ≤ 4096

pub record Ready (bytes decl : List ℕ) (at result bound : ℕ) : Type 0 where
  pub file : File
  pub declared : Known file bytes decl
  pub sort : Sort
  pub wanted : sort_byte sort ≡ result
  pub term : Term
  pub next : ℕ
  pub here : place_of term ≡ at
  pub stands : Stands file bytes bound term next
  pub few : bound ≤ 32

pub record Judged (bytes decl : List ℕ) (at result : ℕ) (slots : List Slot) (bound : ℕ) (r : Read) : Type 0 where
  pub judged : (g : Ready bytes decl at result bound)
      → r ≡ spanned g.next (check g.file.constructors g.file.functions g.sort g.term (slots_of bound slots))

-- the calls of the term noted in a word, from `word` to `word'`
pub record Noted (bytes decl : List ℕ) (at result bound word word' : ℕ) : Type 0 where
  pub noted : (g : Ready bytes decl at result bound) (f : ℕ) → word' ≡ note_calls (calls g.term f) word

-- a node whose record was taken: what it takes, what it leaves and binds, and what follows
pub record Made (bytes decl : List ℕ) (at result : ℕ) (slots : List Slot) (bound m : ℕ) (t : Taken) (more : ℕ) (inner : List Slot) (f : Then) : Type 0 where
  pub wide : length slots ≡ 32
  pub mark : m ≡ find_mark (mark_at bytes at)
  pub taken : t ≡ taken_of bytes decl at slots bound m result
  pub fine : t.number ≡ 0
  pub count : more ≡ bound + (row_at m).binds
  pub kept : inner ≡ kept_of slots t.spent bound more (kind_by bytes decl at m) at
  pub follows : f ≡ then_of bytes decl at m

-- what a branch of OP (credit 1) or LK (credit 0) binds besides the fields, and all that it binds
abbrev pub extra_by : ℕ → Constructor → ℕ
extra_by zero = λ c. 0
extra_by (suc n) = credits

abbrev pub bound_by : ℕ → Constructor → List tree.Kind
bound_by zero = bound_by_LK
bound_by (suc n) = bound_by_OP

pub record ReadyAll (bytes decl : List ℕ) (at left credit result bound : ℕ) : Type 0 where
  pub file : File
  pub declared : Known file bytes decl
  pub sort : Sort
  pub wanted : sort_byte sort ≡ result
  pub branches : Branches
  pub next : ℕ
  pub many : count branches ≡ left
  pub each : Each file bytes bound (extra_by credit) at branches next
  pub few : bound ≤ 32
  pub flag : credit ≤ 1

-- a set of constructors, as bits and as a list
abbrev pub Seen : List ℕ → ℕ → Type 0
Seen list seen = (c : ℕ) → member c list ≡ get_or (bits_of 64 seen) c false

pub record JudgedAll (bytes decl : List ℕ) (at left credit seen result : ℕ) (slots : List Slot) (bound : ℕ) (r : Read) : Type 0 where
  pub judged : (g : ReadyAll bytes decl at left credit result bound) (list : List ℕ) → Seen list seen
      → r ≡ spanned g.next (check_branches g.file.constructors g.file.functions g.sort g.branches (bound_by credit) list (slots_of bound slots))

pub record NotedAll (bytes decl : List ℕ) (at left credit result bound word word' : ℕ) : Type 0 where
  pub noted : (g : ReadyAll bytes decl at left credit result bound) (f : ℕ) → word' ≡ note_calls (calls_branches g.branches f) word

-- a body of function f behind its BD, which stands at `at`
pub record ReadyBody (bytes decl : List ℕ) (at f : ℕ) : Type 0 where
  pub file : File
  pub declared : Known file bytes decl
  pub low : f < length file.functions
  pub term : Term
  pub next : ℕ
  pub here : place_of term ≡ at + 2
  pub stands : Stands file bytes (length (function_of file f).parameters) term next

pub record JudgedBody (bytes decl : List ℕ) (at f : ℕ) (r : Read) : Type 0 where
  pub judged : (g : ReadyBody bytes decl at f)
      → r ≡ spanned g.next (check g.file.constructors g.file.functions (function_of g.file f).result g.term (tree.bind [] (map tree.kind_of (function_of g.file f).parameters)))

pub record NotedBody (bytes decl : List ℕ) (at f word word' : ℕ) : Type 0 where
  pub noted : (g : ReadyBody bytes decl at f) → word' ≡ note_calls (calls g.term f) word
