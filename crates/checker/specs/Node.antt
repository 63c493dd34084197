-- A node that was read: the path with it, and what follows it, and where; of branches also how many, and how many slots for a credit each binds.
-- Assumes nothing.
use Rattle.std.specs.Prelude.{ℕ, Result, Ok, Err}
use Rattle.meaning.specs.declared.Refusal.{Refusal}
use Rattle.meaning.specs.Answers.{fault_number}
use Rattle.checker.specs.Slots.{digit}
use Rattle.checker.specs.declared.reading.Path.{Path}
use Rattle.checker.specs.declared.reading.Then as code_then
use Rattle.checker.specs.declared.reading.Then.TheVariants as code
use Rattle.checker.specs.declared.reading.Node as code_node

pub data Then : Type 0 where
  Leaf : (next : ℕ) → Then
  One : (next : ℕ) → Then
  Two : (next : ℕ) → Then
  Many : (next count credit : ℕ) → Then
  Fault : (answer place : ℕ) → Then

pub record Node : Type 0 where
  pub then : Then
  pub path : Path

-- what the code answers, from a path
abbrev pub as_then : code_then.Then → Then
as_then (code.Leaf next) = Leaf next
as_then (code.One next) = One next
as_then (code.Two next) = Two next
as_then (code.Many next count credit) = Many next count (digit credit)

abbrev pub as_node : Path → Result code_node.Node Refusal → Node
as_node p (Ok n) = record { then = as_then n.then; path = n.path }
as_node p (Err r) = record { then = Fault (fault_number r.fault) r.place; path = p }
