-- What the table of declarations holds while a file is read, and how far the reader of trees has come. Assumes nothing.
use Rattle.std.specs.Prelude.{ℕ, ◌+◌, ◌≤◌, ◌<◌, List, [], ◌++◌, map, ◌≡◌, ◌⊎◌, length, drop, Result, Ok, Err}
use Rattle.meaning.specs.declared.Refusal.{Refusal}
use Rattle.meaning.specs.Answers.{fault_number}
use Rattle.meaning.specs.Syntax.{Constructor, Signature, Term, File}
use Rattle.meaning.specs.Outcome.{Outcome, ok, refuse, then}
use Rattle.meaning.specs.Plain.{place_of}
use Rattle.meaning.specs.Reading.{header, between, bodies, read}
use Rattle.standing.specs.Bytes.{number_at}
use Rattle.standing.specs.Table.{con_words, con_end, fun_words, fun_end, filled, table_of}
use Rattle.checker.specs.Read.{Read, Next, Fault}
use Rattle.checker.specs.declared.reading.Records.{Records}
use Rattle.checker.specs.declared.reading.Records.TheVariants.{Constructors, Functions}
use Rattle.checker.specs.declared.reading.Header.{Header}
use Rattle.checker.specs.ReadingBytes.{path, known_count, con_at, fun_at, expect_at}
use Rattle.checker.specs.Reads.{Declares, ReadsTerm}
use Rattle.checker.specs.Paths.{Head}

-- the table with these constructors and functions, and with the places of these bodies
unfoldable pub table_with : List Constructor → List Signature → (places : List ℕ) → List ℕ
table_with cs fs places = filled 64 (con_words 0 cs) ++ (filled 32 (fun_words (con_end 0 cs) fs) ++ filled 32 places)

-- n constructors are read and stand in the table d, and the reader of trees goes on at `at` with them
pub record Conned (f d : List ℕ) (n at : ℕ) : Type 0 where
  pub constructors : List Constructor
  pub declares : Declares d constructors []
  pub table : d ≡ table_with constructors [] []
  pub wide : length d ≡ 128
  pub count : length constructors ≡ n
  pub few : n ≤ 64
  pub place : at ≡ con_end 0 constructors
  pub reached : n ≤ at
  pub inside : at ≤ length f
  pub reads : (m size : ℕ) → header (m + n) size [] [] 0 f ≡ header m size constructors [] at (drop at f)

-- the header is refused, at a place within the file
unfoldable pub Refused : List ℕ → (answer place : ℕ) → Type 0
Refused f answer place = (0 < answer) × (place ≤ length f) × ((m size : ℕ) → length f < m → header m size [] [] 0 f ≡ refuse answer place)

-- the constructors and k functions are read
pub record Headed (f d : List ℕ) (k at : ℕ) : Type 0 where
  pub constructors : List Constructor
  pub functions : List Signature
  pub declares : Declares d constructors functions
  pub table : d ≡ table_with constructors functions []
  pub wide : length d ≡ 128
  pub count : length functions ≡ k
  pub few : length constructors ≤ 64
  pub few_functions : k ≤ 32
  pub place : at ≡ fun_end (con_end 0 constructors) functions
  pub heads : (g : ℕ) → g < k → Head f d g
  pub reached : length constructors + k ≤ at
  pub inside : at ≤ length f
  pub reads : (m size : ℕ) → header (m + (length constructors + k)) size [] [] 0 f ≡ header m size constructors functions at (drop at f)

-- the records of one kind: the number of their mark, how many there may be, the first one's word in the table, and the fields behind a mark
abbrev pub mark_number : Records → ℕ
mark_number Constructors = 0
mark_number Functions = 1

abbrev pub limit_of : Records → ℕ
limit_of Constructors = 64
limit_of Functions = 32

abbrev pub first_of : Records → ℕ
first_of Constructors = 0
first_of Functions = 64

abbrev pub fields_of : Records → List ℕ → ℕ → Read
fields_of Constructors = con_at
fields_of Functions = fun_at

-- n of them are read
unfoldable pub Counted : Records → (f d : List ℕ) (n at : ℕ) → Type 0
Counted Constructors f d n at = Conned f d n at
Counted Functions f d n at = Headed f d n at × (n ≡ 0 → number_at f at ≡ 0 → ⊥)

-- all of them are read, or the header is refused
unfoldable pub RecordsRead : Records → (f d : List ℕ) → Result Header Refusal → Type 0
RecordsRead k f d (Ok r) = Counted k f d r.count r.at × (number_at f r.at ≡ mark_number k → ⊥)
RecordsRead k f d (Err r) = Refused f (fault_number r.fault) r.place

-- the reader of trees from `at` on: the bodies of `rest`, behind those that are done
unfoldable pub left_over : (f : List ℕ) → List Constructor → List Signature → (done : List Term) → (rest : List Signature) → (at : ℕ) → Outcome File
left_over f cs fs done rest at =
    then (between rest at (drop at f)) (λ u.
    then (bodies (length f) cs fs rest u.1 u.2) (λ r. ok (record { constructors = cs; functions = fs; bodies = done ++ r.0 })))

-- j bodies are read and their places stand in the table, and the reader of trees goes on at `at` with them
pub record Bodied (f d : List ℕ) (count j at : ℕ) : Type 0 where
  pub constructors : List Constructor
  pub functions : List Signature
  pub terms : List Term
  pub declares : Declares d constructors functions
  pub table : d ≡ table_with constructors functions (map place_of terms)
  pub wide : length d ≡ 128
  pub functions_count : length functions ≡ count
  pub few : length constructors ≤ 64
  pub few_functions : count ≤ 32
  pub heads : (g : ℕ) → g < count → Head f d g
  pub done : length terms ≡ j
  pub inside : at ≤ length f
  pub reads : read f ≡ left_over f constructors functions terms (drop j functions) at

-- the constructors and the functions are read, and the bodies come next; or the file is refused
unfoldable pub HeaderRead : (f d : List ℕ) → Result Header Refusal → Type 0
HeaderRead f d (Ok r) = Bodied f d r.count 0 r.at
HeaderRead f d (Err r) = (0 < fault_number r.fault) × (read f ≡ refuse (fault_number r.fault) r.place) × (r.place ≤ 4096)

-- BD, and a body of function j behind it
unfoldable pub ReadsBody : (f d : List ℕ) → (at j : ℕ) → Read → Type 0
ReadsBody f d at j r =
    ((x p : ℕ) × (expect_at f at 2 ≡ Fault x p) × (r ≡ Fault x p))
    ⊎ ((expect_at f at 2 ≡ Next (at + 2)) × ReadsTerm f d (at + 2) (path (known_count d j) 0) r)

-- the whole file is read, and d is its table; or it is refused
unfoldable pub Ends : (f d : List ℕ) → (count at number : ℕ) → Type 0
Ends f d count at number =
    ((number ≡ 0) × (file : File) × (read f ≡ ok file) × (d ≡ table_of file) × (length file.functions ≡ count))
    ⊎ ((0 < number) × (read f ≡ refuse number at) × (at ≤ 4096))
