-- What the pass over the bodies asks for and answers: reading's answer, told by `ReadsTerm`, the ownership check's, told by `Judged`, and the
-- calls, told by `Noted`, of one and the same term. Assumes nothing.
use Rattle.std.specs.Prelude.{ℕ, ◌+◌, ◌≤◌, List, ◌≡◌, length, eqb, Option, None, Some, Result, Ok, Err}
use Rattle.meaning.specs.declared.Refusal.{Refusal}
use Rattle.meaning.specs.declared.Slot.{Slot}
use Rattle.meaning.specs.Choice.{pick}
use Rattle.meaning.specs.Marks.{find_mark}
use Rattle.meaning.specs.Answers.{fault_number}
use Rattle.meaning.specs.Syntax.{File}
use Rattle.meaning.specs.Outcome.{ok, refuse}
use Rattle.meaning.specs.Verdict.{accepted}
use Rattle.standing.specs.Bytes.{mark_at}
use Rattle.standing.specs.Table.{table_of}
use Rattle.checker.specs.declared.reading.Path.{Path}
use Rattle.checker.specs.declared.slots.Sort.{Sort}
use Rattle.checker.specs.declared.bodies.Notes.{Notes}
use Rattle.checker.specs.Read.{Read, Next, Fault, as_read}
use Rattle.checker.specs.Reads.{From, ReadsTerm, ReadsBranches}
use Rattle.checker.specs.Opening.{ReadsBody}
use Rattle.checker.specs.Noting.{note_at, words_of}
use Rattle.checker.specs.Slots.{kept_of, sort_number}
use Rattle.checker.specs.Ownership.{Taken, taken_of, kind_by}
use Rattle.checker.specs.OwnershipReady.{Judged, Noted, JudgedAll, NotedAll, JudgedBody, NotedBody}

-- a file, its table and a path that keep the limits, at a place within the file
pub record Passable (f d : List ℕ) (at : ℕ) (p : Path) : Type 0 where
  pub small : length f ≤ 4096
  pub wide : length d ≡ 128
  pub inside : at ≤ length f
  pub slots : p.slots ≤ 32
  pub nodes : p.nodes ≤ 64

-- the first fault, by its number and its place, once a record was looked at: 0 is none
unfoldable pub fault_after : (fault number : ℕ) → ℕ
fault_after x n = pick (eqb x 0) n x

unfoldable pub place_after : (fault at number place : ℕ) → ℕ
place_after x q n p = pick (eqb n 0) q (pick (eqb x 0) p q)

-- the ownership check's answer, of what ends at a place and reads, by the first fault
unfoldable pub told_by : (next fault at : ℕ) → Read
told_by n x q = pick (eqb x 0) (Next n) (Fault x q)

-- what is noted, from a first fault `x` at `q` to `x'` at `q'`, where a part of the file is gone over that reads and ends at `n`: the answer to
-- it, and its calls if nothing is wrong; or the fault that was found before
pub record Told (Answers : Read → Type 0) (Calls : Type 0) (n x q x' q' : ℕ) : Type 0 where
  pub first : x ≡ 0 → Answers (told_by n x' q')
  pub kept : (x ≡ 0 → ⊥) → (x' ≡ x) × (q' ≡ q)
  pub calls : x' ≡ 0 → Calls

-- a term from a place on: how it reads, and, if it does, what is noted of it
pub record Passed (f d : List ℕ) (at result : ℕ) (slots : List Slot) (p : Path) (w x q w' x' q' : ℕ) (r : Read) : Type 0 where
  pub from : From f (at + 1) r
  pub reads : ReadsTerm f d at p r
  pub told : (n : ℕ) → r ≡ Next n → Told (Judged f d at result slots p.slots) (Noted f d at result p.slots w w') n x q x' q'

-- two terms, one after the other
pub data PassedTwo (f d : List ℕ) (at result : ℕ) (slots : List Slot) (p : Path) (w x q w' x' q' : ℕ) : Read → Type 0 where
  one : {k s : ℕ} → Passed f d at result slots p w x q w' x' q' (Fault k s) → PassedTwo f d at result slots p w x q w' x' q' (Fault k s)
  both : {b u y z : ℕ} {r : Read} → Passed f d at result slots p w x q u y z (Next b) → Passed f d b result slots p u y z w' x' q' r
      → PassedTwo f d at result slots p w x q w' x' q' r

pub record PassedAll (f d : List ℕ) (at count credit result : ℕ) (slots : List Slot) (p : Path) (w x q w' x' q' : ℕ) (r : Read) : Type 0 where
  pub from : From f at r
  pub reads : ReadsBranches f d at count credit p r
  pub told : (n : ℕ) → r ≡ Next n
      → Told (JudgedAll f d at count credit 0 result slots p.slots) (NotedAll f d at count credit result p.slots w w') n x q x' q'

-- BD, and the body of function j behind it
pub record PassedBody (f d : List ℕ) (at j w x q w' x' q' : ℕ) (r : Read) : Type 0 where
  pub from : From f (at + 3) r
  pub reads : ReadsBody f d at j r
  pub told : (n : ℕ) → r ≡ Next n → Told (JudgedBody f d at j) (NotedBody f d at j w w') n x q x' q'

-- so many records are read and reading stands at a place, with number 0; or number is the answer that refuses the file there
pub record Reached : Type 0 where
  pub count : ℕ
  pub at : ℕ
  pub number : ℕ

-- the first fault that is noted, by its number and its place: 0 is none
abbrev pub number_in : Option Refusal → ℕ
number_in None = 0
number_in (Some r) = fault_number r.fault

abbrev pub place_in : Option Refusal → ℕ
place_in None = 0
place_in (Some r) = r.place

-- a node whose record was taken, from the notes before to those after: what it takes is spent, what it binds is bound
pub record NodeTaken (f d : List ℕ) (at : ℕ) (s : Sort) (bound more : ℕ) (slots : List Slot) (a : Notes) (inner : List Slot) (b : Notes) : Type 0 where
  pub mark : ℕ
  pub taken : Taken
  pub is_mark : mark ≡ find_mark (mark_at f at)
  pub takes : taken ≡ taken_of f d at slots bound mark (sort_number s)
  pub kept : inner ≡ kept_of slots taken.spent bound more (kind_by f d at mark) at
  pub noted : b.calls ≡ note_at f at mark a.calls
  pub fault : number_in b.fault ≡ fault_after (number_in a.fault) taken.number
  pub place : place_in b.fault ≡ place_after (number_in a.fault) (place_in a.fault) taken.number taken.place

-- a term, a list of branches and a body as above, from notes to notes
abbrev pub Checked : (f d : List ℕ) → (at : ℕ) → Sort → List Slot → Path → (before after : Notes) → Result ℕ Refusal → Type 0
Checked f d at s slots p a b r = Passed f d at (sort_number s) slots p a.calls (number_in a.fault) (place_in a.fault) b.calls (number_in b.fault) (place_in b.fault) (as_read r)

abbrev pub CheckedAll : (f d : List ℕ) → (at count credit : ℕ) → Sort → List Slot → Path → (before after : Notes) → Result ℕ Refusal → Type 0
CheckedAll f d at count credit s slots p a b r =
    PassedAll f d at count credit (sort_number s) slots p a.calls (number_in a.fault) (place_in a.fault) b.calls (number_in b.fault) (place_in b.fault) (as_read r)

abbrev pub CheckedBody : (f d : List ℕ) → (at j : ℕ) → (before after : Notes) → Result ℕ Refusal → Type 0
CheckedBody f d at j a b r = PassedBody f d at j a.calls (number_in a.fault) (place_in a.fault) b.calls (number_in b.fault) (place_in b.fault) (as_read r)

-- the whole file: where it is accepted, d is its table and c has its calls; else it is refused as the definition refuses it
abbrev pub Finished : (f d c : List ℕ) → Result (Unit {0}) Refusal → Type 0
Finished f d c (Ok u) = (file : File) × (accepted f ≡ ok file) × (d ≡ table_of file) × (c ≡ words_of file)
Finished f d c (Err r) = (accepted f ≡ refuse (fault_number r.fault) r.place) × (r.place ≤ 4096)
