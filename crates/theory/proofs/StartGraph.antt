-- Cells found from some cells, and a way of one step or more from a cell to another. `kids c` are the cells that c names. Assumes nothing.
use Prim.Native.Nat.{ℕ, ◌≤◌}
use mathlib.Core.List.{List}
use Rattle.meaning.specs.Walk.{count}

pub data Found (kids : ℕ → List ℕ) (roots : List ℕ) : ℕ → Type 0 where
  root : (x : ℕ) → 1 ≤ count x roots → Found kids roots x
  next : (d x : ℕ) → Found kids roots d → 1 ≤ count x (kids d) → Found kids roots x

pub data Way (kids : ℕ → List ℕ) (d : ℕ) : ℕ → Type 0 where
  single : (x : ℕ) → 1 ≤ count x (kids d) → Way kids d x
  more : (e x : ℕ) → Way kids d e → 1 ≤ count x (kids e) → Way kids d x
