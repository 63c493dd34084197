-- Which record bound each slot: the terms of a file that a path leads to from a body's start, and the places of the marks of the records that bound
-- the slots on the way. Assumes nothing.
use Rattle.std.specs.Prelude.{ℕ, zero, suc, ◌+◌, ◌≤◌, List, [], ◌∷◌, ◌++◌, ◌≡◌, length, replicate}
use Rattle.meaning.specs.declared.Slot.{Slot}
use Rattle.meaning.specs.Marks.{find_mark, row_at}
use Rattle.standing.specs.Bytes.{byte_at, mark_at, arity_in, params_in, modes_in}
use Rattle.checker.specs.declared.reading.Path.{Path}
use Rattle.checker.specs.Node.{Node}
use Rattle.checker.specs.Node as then
use Rattle.checker.specs.Read.{Next}
use Rattle.checker.specs.Ownership.{credits_of}
use Rattle.checker.specs.ReadingBytes.{path, node_at, branch_at, expect_at}
use Rattle.checker.specs.Reads.{ReadsTerm}

-- the record that declares function g, by its word in the table: an FN, whose mark stands at `place`
pub record Head (bytes decl : List ℕ) (g : ℕ) : Type 0 where
  pub place : ℕ
  pub mark : find_mark (mark_at bytes place) ≡ 1
  pub count : byte_at bytes (place + 2) ≡ params_in decl g
  pub modes : modes_in decl g ≡ place + 3
  pub inside : place + 3 ≤ length bytes

-- what a path leads to: a term, the two terms of an IF, or the rest of a branch list, of which so many branches are left
pub data Spot : Type 0 where
  term : (at : ℕ) → Spot
  pair : (at : ℕ) → Spot
  list : (at left credit : ℕ) → Spot

-- the places that bound the slots behind a node, by those before it
unfoldable pub behind : (bytes : List ℕ) → (at : ℕ) → List ℕ → List ℕ
behind bytes at places = places ++ replicate (row_at (find_mark (mark_at bytes at))).binds at

-- how many slots the branch at a place binds: a slot for each field, and a credit
unfoldable pub branch_binds : (bytes decl : List ℕ) → (at credit : ℕ) → ℕ
branch_binds bytes decl at credit = let k = arity_in decl (byte_at bytes (at + 2)) in k + credits_of k credit

-- a path, and for each of its slots, the first one first, the place of the mark of the record that bound it
pub data Leads (bytes decl : List ℕ) : Spot → Path → (places : List ℕ) → Type 0 where
  -- the body of function g behind its BD: FN bound the parameters
  body : {g : ℕ} (at : ℕ) (h : Head bytes decl g) → expect_at bytes at 2 ≡ Next (at + 2) → Leads bytes decl (term (at + 2)) (path (params_in decl g) 0) (replicate (params_in decl g) h.place)
  -- what follows a node
  one : {at next : ℕ} {p : Path} {places : List ℕ} {n : Node} → Leads bytes decl (term at) p places → n ≡ node_at bytes decl at p → n.then ≡ then.One next
      → Leads bytes decl (term next) n.path (behind bytes at places)
  two : {at next : ℕ} {p : Path} {places : List ℕ} {n : Node} → Leads bytes decl (term at) p places → n ≡ node_at bytes decl at p → n.then ≡ then.Two next
      → Leads bytes decl (pair next) n.path (behind bytes at places)
  many : {at next left credit : ℕ} {p : Path} {places : List ℕ} {n : Node} → Leads bytes decl (term at) p places → n ≡ node_at bytes decl at p → n.then ≡ then.Many next left credit
      → Leads bytes decl (list next left credit) n.path (behind bytes at places)
  -- the two terms of an IF
  first : {at : ℕ} {p : Path} {places : List ℕ} → Leads bytes decl (pair at) p places → Leads bytes decl (term at) p places
  second : {at next : ℕ} {p : Path} {places : List ℕ} → Leads bytes decl (pair at) p places → ReadsTerm bytes decl at p (Next next) → Leads bytes decl (term next) p places
  -- a branch, whose BR binds the fields and the credit, and the branches behind it
  branch : {at left credit more : ℕ} {p : Path} {places : List ℕ} → Leads bytes decl (list at (suc left) credit) p places → branch_at bytes decl at credit p.slots ≡ Next more
      → Leads bytes decl (term (at + 3)) (path more p.nodes) (places ++ replicate (branch_binds bytes decl at credit) at)
  later : {at left credit more next : ℕ} {p : Path} {places : List ℕ} → Leads bytes decl (list at (suc left) credit) p places → branch_at bytes decl at credit p.slots ≡ Next more
      → ReadsTerm bytes decl (at + 3) (path more p.nodes) (Next next) → Leads bytes decl (list next left credit) p places

-- the places that the first slots of an array keep, as many as are bound
unfoldable pub places_of : ℕ → List Slot → List ℕ
places_of zero xs = []
places_of (suc n) [] = 0 ∷ places_of n []
places_of (suc n) (x ∷ xs) = x.place ∷ places_of n xs

-- the slots of a path keep the places of what bound them
pub record Placed (bytes decl : List ℕ) (spot : Spot) (p : Path) (slots : List Slot) : Type 0 where
  pub leads : Leads bytes decl spot p (places_of p.slots slots)
