-- How what the code reads is tied to the reader of trees: `span_of` forgets the tree and keeps where it ends, or the refusal.
-- Assumes nothing.
use Rattle.std.specs.Prelude.{ℕ, ◌-◌, ◌≤◌, ◌<◌, List, [], ◌∷◌, ◌≡◌, length, drop}
use Rattle.std.proofs.Math.Option.{Option, none, some}
use Rattle.std.proofs.Math.ListN.{get_elem?}
use Rattle.meaning.specs.Syntax.{Signature, Constructor}
use Rattle.meaning.specs.Outcome.{Outcome, ok, refuse}
use Rattle.meaning.specs.Reading.{term, branches}
use Rattle.checker.specs.declared.reading.Path.{Path}
use Rattle.checker.specs.Read.{Read, Next, Fault}
use Rattle.checker.specs.ReadingBytes.{known_arity, known_count}

unfoldable pub span_of : {A : Type 0} → Outcome (A × ℕ × List ℕ) → Read
span_of (ok r) = Next r.1
span_of (refuse answer place) = Fault answer place

-- the table `d` declares the constructors `cs` and the functions `fs`
unfoldable pub arity_of : Option Constructor → ℕ
arity_of none = 255
arity_of (some c) = length c

unfoldable pub count_of : Option Signature → ℕ
count_of none = 255
count_of (some g) = length g.parameters

pub record Declares (d : List ℕ) (cs : List Constructor) (fs : List Signature) : Type 0 where
  pub arities : (b : ℕ) → known_arity d b ≡ arity_of (get_elem? cs b)
  pub counts : (b : ℕ) → known_count d b ≡ count_of (get_elem? fs b)
  pub few_fields : (b : ℕ) (c : Constructor) → get_elem? cs b ≡ some c → length c ≤ 4
  pub few_parameters : (b : ℕ) (g : Signature) → get_elem? fs b ≡ some g → length g.parameters ≤ 8

-- a read that goes on, goes on at lo or later, within the file; one that does not, names an answer and a place within the file
pub data From (f : List ℕ) (lo : ℕ) : Read → Type 0 where
  on : {n : ℕ} → lo ≤ n → n ≤ length f → From f lo (Next n)
  off : {x p : ℕ} → 0 < x → p ≤ length f → From f lo (Fault x p)

-- how many slots a branch binds: `credit` is 1 in a branch of OP, 0 in one of LK
unfoldable pub extra_of : ℕ → Constructor → ℕ
extra_of credit [] = 0
extra_of credit (_ ∷ _) = credit

-- the promise of the term's reader over the bytes: what the reader of trees says, with any fuel that is enough
unfoldable pub ReadsTerm : List ℕ → List ℕ → ℕ → Path → Read → Type 0
ReadsTerm f d at p r =
    (cs : List Constructor) (fs : List Signature) → Declares d cs fs → (n : ℕ) → length f - at < n
    → r ≡ span_of (term cs fs n p.slots p.nodes at (drop at f))

unfoldable pub ReadsBranches : List ℕ → List ℕ → ℕ → ℕ → ℕ → Path → Read → Type 0
ReadsBranches f d at count credit p r =
    (cs : List Constructor) (fs : List Signature) → Declares d cs fs → (n : ℕ) → length f - at < n
    → r ≡ span_of (branches cs fs n count (extra_of credit) p.slots p.nodes at (drop at f))
