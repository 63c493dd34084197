-- What each node's code needs of the words. Assumes nothing.
use Rattle.std.specs.Prelude.{ℕ, ◌+◌, ◌-◌, ◌*◌, ◌<◌, ◌≤◌, List, length, slice_index}
use Rattle.machine.specs.Layout.{Top, slot_in, con_of, Low}
use Rattle.machine.specs.Skips.{Skips, SkipsAll, Found, EndNeeds}
use Rattle.standing.specs.Bytes.{byte_at, arity_in, params_in}
use Rattle.meaning.specs.declared.Mark.{Mark}

-- a term that begins at `at` with `size` bytes, in a work area that is large enough
abbrev pub Room : (size : ℕ) → List ℕ → Top → Type 0
Room size bytes c = (c.state.frame.at + size ≤ length bytes) × (c.state.frame.depth ≤ 31) × (4096 ≤ length c.work)

abbrev pub word_at : (field : ℕ) → List ℕ → Top → ℕ
word_at i bytes c = slot_in bytes c.work (c.state.frame.depth * 32) (c.state.frame.at + i)

abbrev pub MkNeeds : (bytes decl store : List ℕ) → Top → Type 0
MkNeeds bytes decl store c =
    Room 4 bytes c × (c.state.frame.bound < 32) × (byte_at bytes (c.state.frame.at + 2) < 64) × (c.state.frame.at + 4 + arity_in decl (byte_at bytes (c.state.frame.at + 2)) ≤ length bytes)
    × (arity_in decl (byte_at bytes (c.state.frame.at + 2)) ≤ 4) × (65536 ≤ word_at 3 bytes c) × ((word_at 3 bytes c - 65536) * 5 + 5 ≤ length store)

abbrev pub CallNeeds : (bytes decl : List ℕ) → Top → Type 0
CallNeeds bytes decl c =
    Room 3 bytes c × (c.state.frame.bound ≤ 32) × (byte_at bytes (c.state.frame.at + 2) < 32) × (c.state.frame.at + 3 + params_in decl (byte_at bytes (c.state.frame.at + 2)) ≤ length bytes)
    × (params_in decl (byte_at bytes (c.state.frame.at + 2)) ≤ 8) × (length bytes ≤ 4096) × (c.state.most ≤ 32)
    × Low bytes (c.state.frame.at + 3) (params_in decl (byte_at bytes (c.state.frame.at + 2)))

-- an opened cell: the branch's constructor is declared, and its fields have room
pub record OpenNeeds (bytes decl store : List ℕ) (c : Top) (credit : ℕ) : Type 0 where
  pub room : Room 4 bytes c
  pub bound : c.state.frame.bound ≤ 32
  pub ends : EndNeeds bytes decl c.work
  pub next : ℕ
  pub small : next ≤ 4096
  pub branches : SkipsAll bytes decl (c.state.frame.at + 4) (byte_at bytes (c.state.frame.at + 3)) next
  pub cell : 65536 ≤ word_at 2 bytes c → (word_at 2 bytes c - 65536) * 5 + 5 ≤ length store
  pub opens : (b : ℕ) → Found bytes decl (con_of store (word_at 2 bytes c)) (c.state.frame.at + 4) (byte_at bytes (c.state.frame.at + 3)) b → 0 < b
      → (con_of store (word_at 2 bytes c) < 64) × (arity_in decl (con_of store (word_at 2 bytes c)) ≤ 4)
      × (65536 ≤ word_at 2 bytes c → c.state.frame.bound + arity_in decl (con_of store (word_at 2 bytes c)) + credit ≤ 32)

abbrev pub NeedsAt : Mark → (bytes decl store : List ℕ) → Top → Type 0
NeedsAt Mark.GV bytes decl store c = Room 3 bytes c × (0 < c.state.frame.depth → slice_index c.work (1024 + (c.state.frame.depth - 1) * 2 + 1) < 32)
NeedsAt Mark.AT bytes decl store c = Room 3 bytes c × (c.state.frame.bound < 32)
NeedsAt Mark.MK bytes decl store c = MkNeeds bytes decl store c
NeedsAt Mark.CL bytes decl store c = CallNeeds bytes decl c
NeedsAt Mark.TL bytes decl store c = CallNeeds bytes decl c
NeedsAt Mark.OP bytes decl store c = OpenNeeds bytes decl store c 1
NeedsAt Mark.LK bytes decl store c = OpenNeeds bytes decl store c 0
NeedsAt Mark.NU bytes decl store c = Room 4 bytes c × (c.state.frame.bound < 32)
NeedsAt Mark.AR bytes decl store c = Room 5 bytes c × (c.state.frame.bound < 32)
NeedsAt Mark.IF bytes decl store c = Room 3 bytes c × EndNeeds bytes decl c.work × ((next : ℕ) × Skips bytes decl (c.state.frame.at + 3) next × (next ≤ 4096))
NeedsAt Mark.CN bytes decl store c = Unit {0}
NeedsAt Mark.FN bytes decl store c = Unit {0}
NeedsAt Mark.BD bytes decl store c = Unit {0}
NeedsAt Mark.ND bytes decl store c = Unit {0}
NeedsAt Mark.BR bytes decl store c = Unit {0}
NeedsAt Mark.Other bytes decl store c = Unit {0}
