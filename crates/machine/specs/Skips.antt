-- The byte after a term, and the branch of a constructor, by the marks alone: a record's fixed fields by the table of marks. Assumes nothing.
use Rattle.std.specs.Prelude.{◌≡◌, ℕ, suc, ◌+◌, ◌/◌, ◌%◌, ◌<◌, ◌≤◌, Bool, true, false, List, length, drop, ◌==◌, ◌≢◌, slice_index, Some, None}
use Rattle.std.specs.declared.option.Option.{Option}
use Rattle.meaning.specs.Choice.{pick}
use Rattle.meaning.specs.declared.Mark.{Mark}
use Rattle.meaning.specs.Marks.{row_at, number_of, mark_of}
use Rattle.standing.specs.Bytes.{byte_at, mark_at, arity_in, params_in}

-- the byte after a record's fixed fields
unfoldable pub past : Mark → ℕ → ℕ
past k at = at + 2 + (row_at (number_of k)).fields

-- what follows a node, and where
pub data Then : Type 0 where
  Leaf : (next : ℕ) → Then
  One : (next : ℕ) → Then
  Two : (next : ℕ) → Then
  Many : (next count : ℕ) → Then

abbrev pub then_at : Mark → (bytes decl : List ℕ) → ℕ → Then
then_at Mark.GV bytes decl at = Then.Leaf (past Mark.GV at)
then_at Mark.AT bytes decl at = Then.One (past Mark.AT at)
then_at Mark.MK bytes decl at = Then.One (past Mark.MK at + arity_in decl (byte_at bytes (at + 2)))
then_at Mark.CL bytes decl at = Then.One (past Mark.CL at + params_in decl (byte_at bytes (at + 2)))
then_at Mark.TL bytes decl at = Then.Leaf (past Mark.TL at + params_in decl (byte_at bytes (at + 2)))
then_at Mark.OP bytes decl at = Then.Many (past Mark.OP at) (byte_at bytes (at + 3))
then_at Mark.LK bytes decl at = Then.Many (past Mark.LK at) (byte_at bytes (at + 3))
then_at Mark.NU bytes decl at = Then.One (past Mark.NU at)
then_at Mark.AR bytes decl at = Then.One (past Mark.AR at)
then_at Mark.IF bytes decl at = Then.Two (past Mark.IF at)
then_at Mark.CN bytes decl at = Then.Leaf (past Mark.CN at)
then_at Mark.FN bytes decl at = Then.Leaf (past Mark.FN at)
then_at Mark.BD bytes decl at = Then.Leaf (past Mark.BD at)
then_at Mark.ND bytes decl at = Then.Leaf (past Mark.ND at)
then_at Mark.BR bytes decl at = Then.One (past Mark.BR at)
then_at Mark.Other bytes decl at = Then.Leaf (past Mark.Other at)

-- the byte where that begins, and how many terms it is
abbrev pub next_of : Then → ℕ
next_of (Then.Leaf next) = next
next_of (Then.One next) = next
next_of (Then.Two next) = next
next_of (Then.Many next count) = next

abbrev pub opens_of : Then → ℕ
opens_of (Then.Leaf next) = 0
opens_of (Then.One next) = 1
opens_of (Then.Two next) = 2
opens_of (Then.Many next count) = count

unfoldable pub then_of : (bytes decl : List ℕ) → ℕ → Then
then_of bytes decl at = then_at (mark_of (mark_at bytes at)) bytes decl at

-- the bytes and the declarations that it is read from are there
abbrev pub SafeAt : Mark → List ℕ → ℕ → Type 0
SafeAt Mark.MK bytes at = byte_at bytes (at + 2) < 64
SafeAt Mark.CL bytes at = byte_at bytes (at + 2) < 32
SafeAt Mark.TL bytes at = byte_at bytes (at + 2) < 32
SafeAt Mark.OP bytes at = at + 4 ≤ length bytes
SafeAt Mark.LK bytes at = at + 4 ≤ length bytes
SafeAt Mark.GV bytes at = Unit {0}
SafeAt Mark.AT bytes at = Unit {0}
SafeAt Mark.NU bytes at = Unit {0}
SafeAt Mark.AR bytes at = Unit {0}
SafeAt Mark.IF bytes at = Unit {0}
SafeAt Mark.CN bytes at = Unit {0}
SafeAt Mark.FN bytes at = Unit {0}
SafeAt Mark.BD bytes at = Unit {0}
SafeAt Mark.ND bytes at = Unit {0}
SafeAt Mark.BR bytes at = Unit {0}
SafeAt Mark.Other bytes at = Unit {0}

abbrev pub Safe : List ℕ → ℕ → Type 0
Safe bytes at = (at + 3 ≤ length bytes) × SafeAt (mark_of (mark_at bytes at)) bytes at

module _ (bytes decl : List ℕ) where
  mutual
    pub data Skips : (at next : ℕ) → Type 0 where
      leaf : {at next : ℕ} → Safe bytes at → then_of bytes decl at ≡ Then.Leaf next → at < next → Skips at next
      one : {at m next : ℕ} → Safe bytes at → then_of bytes decl at ≡ Then.One m → at < m → Skips m next → Skips at next
      two : {at m k next : ℕ} → Safe bytes at → then_of bytes decl at ≡ Then.Two m → at < m → Skips m k → Skips k next → Skips at next
      many : {at m n next : ℕ} → Safe bytes at → then_of bytes decl at ≡ Then.Many m n → at < m → SkipsAll m n next → Skips at next

    pub data SkipsAll : (at n next : ℕ) → Type 0 where
      none : {at n next : ℕ} → n ≡ 0 → next ≡ at → SkipsAll at n next
      more : {at n k m next : ℕ} → n ≡ suc k → mark_of (mark_at bytes at) ≡ Mark.BR → Skips (at + 3) m → SkipsAll m k next → SkipsAll at n next

  -- so many open terms, one after the other; a branch's begins at its BR
  pub data SkipsMany : (at n next : ℕ) → Type 0 where
    none : {at n next : ℕ} → n ≡ 0 → next ≡ at → SkipsMany at n next
    more : {at n k m next : ℕ} → n ≡ suc k → Skips at m → SkipsMany m k next → SkipsMany at n next

  -- where the branch of a constructor has its term; 0 where there is none
  pub data Found (con : ℕ) : (at n r : ℕ) → Type 0 where
    none : {at n r : ℕ} → n ≡ 0 → r ≡ 0 → Found con at n r
    here : {at n k r : ℕ} → n ≡ suc k → byte_at bytes (at + 2) ≡ con → r ≡ at + 3 → Found con at n r
    later : {at n k m r : ℕ} → n ≡ suc k → (byte_at bytes (at + 2) ≢ con) → Skips (at + 3) m → Found con m k r → Found con at n r

-- What the work area keeps of the terms that were passed over: a word from 1088 on, one for two bytes of the file, that is a * 8192 + next says that the term at a
-- ends at next.
abbrev pub Known : (bytes decl work : List ℕ) → Type 0
Known bytes decl work = (q : ℕ) → 1088 ≤ q → q < 1088 + (length bytes / 2 + 1) → 0 < slice_index work q → Skips bytes decl (slice_index work q / 8192) (slice_index work q % 8192)

abbrev pub EndNeeds : (bytes decl work : List ℕ) → Type 0
EndNeeds bytes decl work = Known bytes decl work × (length bytes ≤ 4096) × (4096 ≤ length work)

-- a work area in which nothing but that has changed
pub record Keeps (bytes decl work work' : List ℕ) : Type 0 where
  pub long : length work' ≡ length work
  pub low : (q : ℕ) → q < 1088 → slice_index work' q ≡ slice_index work q
  pub behind : drop 4096 work' ≡ drop 4096 work
  pub known : Known bytes decl work'

-- the end that the work area keeps of the term at a place
unfoldable pub kept_at : (work : List ℕ) → (at : ℕ) → Option ℕ
kept_at work at = let w = slice_index work (1088 + at / 2) in pick (w / 8192 == at) (Some (w % 8192)) None

-- the end of a term that is looked for: found, or not known, where no end is worked out. There the work area stays as it was
abbrev pub EndFound : (work_out : Bool) (bytes decl : List ℕ) (at : ℕ) (work : List ℕ) → Option ℕ → (work' : List ℕ) → Type 0
EndFound out bytes decl at work (Some next) work' = Skips bytes decl at next × Keeps bytes decl work work' × (out ≡ false → work' ≡ work)
EndFound out bytes decl at work None work' = (out ≡ false) × (work' ≡ work)

-- the branch of a constructor that is looked for: where it has its term; or that there is none, or, where no end is worked out, none or an end
-- before it that is not known
abbrev pub BranchFound : (work_out : Bool) (bytes decl : List ℕ) (con at n : ℕ) (work : List ℕ) → Option ℕ → (work' : List ℕ) → Type 0
BranchFound out bytes decl con at n work (Some b) work' = Found bytes decl con at n b × (0 < b) × Keeps bytes decl work work'
BranchFound out bytes decl con at n work None work' = (out ≡ true → Found bytes decl con at n 0 × Keeps bytes decl work work') × (out ≡ false → work' ≡ work)
