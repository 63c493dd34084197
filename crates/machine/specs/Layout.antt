-- What each node does to the words: the state in numbers with the work area, and the store. Assumes nothing.
-- The work area: the slots of frame d at 32 * d; where frame d goes on, and its count of slots, at 1024 + 2 * d.
use Rattle.std.specs.Prelude.{ℕ, zero, suc, ◌+◌, ◌-◌, ◌*◌, ◌<◌, ◌≤◌, max, ◌⊎◌, List, [], ◌∷◌, length, ◌==◌, nat_le, nat_lt, slice_index, slice_set, Some, None}
use Rattle.std.proofs.Math.Option.{none, some}
use Rattle.std.specs.declared.option.Option.{Option}
use Rattle.machine.specs.declared.frame.Frame.{Frame}
use Rattle.machine.specs.declared.frame.State.{State}
use Rattle.meaning.specs.declared.RunEnd.{RunEnd}
use Rattle.meaning.specs.Answers as answers
use Rattle.meaning.specs.Choice.{pick}
use Rattle.meaning.specs.Plain.{arithmetic}
use Rattle.standing.specs.Bytes.{byte_at, arity_in, params_in, body_in}

-- a state in numbers: 99 while the run goes on, or the answer's number with its value
pub record Numbers : Type 0 where
  pub frame : Frame
  pub most : ℕ
  pub number : ℕ
  pub value : ℕ

-- the state with the work area
pub record Top : Type 0 where
  pub state : Numbers
  pub work : List ℕ

abbrev pub top : Numbers → List ℕ → Top
top s w = record { state = s; work = w }

abbrev pub going : (at depth bound most : ℕ) → Numbers
going at depth bound most = record { frame = record { at = at; depth = depth; bound = bound }; most = most; number = 99; value = 0 }

abbrev pub moved : Numbers → ℕ → Numbers
moved s at = going at s.frame.depth s.frame.bound s.most

abbrev pub ended : Numbers → (number value : ℕ) → Numbers
ended s number value = record { frame = record { at = s.frame.at; depth = s.frame.depth; bound = s.frame.bound }; most = s.most; number = number; value = value }

-- the code's state, which goes on
abbrev pub on : State → Numbers
on s = going s.frame.at s.frame.depth s.frame.bound s.most

abbrev pub at_work : State → List ℕ → Top
at_work s w = top (on s) w

-- what a node comes to: the state after it, or this end of the run in the state before it
abbrev pub goes : RunEnd → State → Option State → List ℕ → Top
goes e s (Some s') w = at_work s' w
goes e s None w = top (ended (on s) (answers.number (answers.as_end e)) (answers.value_of e)) w

-- the word of the slot that a byte names
abbrev pub slot_in : List ℕ → List ℕ → (base at : ℕ) → ℕ
slot_in bytes work base at = slice_index work (base + byte_at bytes at)

-- the words of k slots that are named one after the other
unfoldable pub gathered : List ℕ → List ℕ → (base at k : ℕ) → List ℕ
gathered bytes work base at zero = []
gathered bytes work base at (suc k) = slot_in bytes work base at ∷ gathered bytes work base (at + 1) k

-- bytes that name slots below 32
abbrev pub Low : List ℕ → (at k : ℕ) → Type 0
Low bytes at k = (j : ℕ) → j < k → byte_at bytes (at + j) < 32

-- bytes of which none is below its turn
abbrev pub Rising : List ℕ → (at k : ℕ) → Type 0
Rising bytes at k = (j : ℕ) → j < k → j ≤ byte_at bytes (at + j)

-- slots of which none is laid over, from `to` on, before its turn
abbrev pub Apart : List ℕ → (base at to k : ℕ) → Type 0
Apart bytes base at to k = (j : ℕ) → j < k → (base + byte_at bytes (at + j) < to) ⊎ (to + j ≤ base + byte_at bytes (at + j))

-- k words from a place on
unfoldable pub words : List ℕ → (from k : ℕ) → List ℕ
words l p zero = []
words l p (suc k) = slice_index l p ∷ words l (p + 1) k

-- words laid from a place on
unfoldable pub laid : List ℕ → ℕ → List ℕ → List ℕ
laid l p [] = l
laid l p (w ∷ ws) = laid (slice_set l p w) (p + 1) ws

-- a word bound to the next slot; the term at `next` follows
abbrev pub bound : Top → (value next : ℕ) → Top
bound c v next =
    top (going next c.state.frame.depth (c.state.frame.bound + 1) c.state.most) (slice_set c.work (c.state.frame.depth * 32 + c.state.frame.bound) v)

unfoldable pub nu_of : List ℕ → Top → Top
nu_of bytes c = bound c (byte_at bytes (c.state.frame.at + 2) * 256 + byte_at bytes (c.state.frame.at + 3)) (c.state.frame.at + 4)

unfoldable pub at_of : List ℕ → Top → Top
at_of bytes c = bound c (byte_at bytes (c.state.frame.at + 2)) (c.state.frame.at + 3)

-- AR: the result bound, or the end
unfoldable pub ar_of : List ℕ → Top → Top
ar_of bytes c =
    let base = c.state.frame.depth * 32 in
    elim (arithmetic (byte_at bytes (c.state.frame.at + 2)) (slot_in bytes c.work base (c.state.frame.at + 3)) (slot_in bytes c.work base (c.state.frame.at + 4))) [
      | none ↦ top (ended c.state 34 0) c.work
      | some v ↦ bound c v (c.state.frame.at + 5)
    ]

-- GV: back to the frame below, or the end
abbrev pub below : Top → Top
below c =
    let q = 1024 + (c.state.frame.depth - 1) * 2 in
    top (going (slice_index c.work q) (c.state.frame.depth - 1) (slice_index c.work (q + 1)) c.state.most) c.work

unfoldable pub gv_of : List ℕ → Top → Top
gv_of bytes c =
    let v = slot_in bytes c.work (c.state.frame.depth * 32) (c.state.frame.at + 2) in
    pick (c.state.frame.depth == 0) (top (ended c.state 0 v) c.work) (bound (below c) v (below c).state.frame.at)

-- TL and CL
unfoldable pub tl_of : List ℕ → List ℕ → Top → Top
tl_of bytes decl c =
    let g = byte_at bytes (c.state.frame.at + 2) in
    let n = params_in decl g in
    let base = c.state.frame.depth * 32 in
    top (going (body_in decl g) c.state.frame.depth n c.state.most) (laid c.work base (gathered bytes c.work base (c.state.frame.at + 3) n))

unfoldable pub cl_of : List ℕ → List ℕ → Top → Top
cl_of bytes decl c =
    let d = c.state.frame.depth in
    let g = byte_at bytes (c.state.frame.at + 2) in
    let n = params_in decl g in
    let q = 1024 + d * 2 in
    pick (nat_le 31 d) (top (ended c.state 33 0) c.work)
    (top (going (body_in decl g) (d + 1) n (max c.state.most (d + 2)))
    (laid (slice_set (slice_set c.work q (c.state.frame.at + 3 + n)) (q + 1) c.state.frame.bound) (d * 32 + 32)
    (gathered bytes c.work (d * 32) (c.state.frame.at + 3) n)))

-- MK: the store, and the rest
unfoldable pub mk_store : List ℕ → List ℕ → List ℕ → Top → List ℕ
mk_store bytes decl store c =
    let con = byte_at bytes (c.state.frame.at + 2) in
    let base = c.state.frame.depth * 32 in
    let p = (slot_in bytes c.work base (c.state.frame.at + 3) - 65536) * 5 in
    laid (slice_set store p con) (p + 1) (gathered bytes c.work base (c.state.frame.at + 4) (arity_in decl con))

unfoldable pub mk_of : List ℕ → List ℕ → Top → Top
mk_of bytes decl c =
    bound c (slot_in bytes c.work (c.state.frame.depth * 32) (c.state.frame.at + 3))
    (c.state.frame.at + 4 + arity_in decl (byte_at bytes (c.state.frame.at + 2)))

-- OP and LK: the constructor of a word; what the branch at `b` starts from (0: none fits). `credit` is 1 for OP
unfoldable pub con_of : List ℕ → ℕ → ℕ
con_of store w = pick (nat_lt w 65536) w (slice_index store ((w - 65536) * 5))

unfoldable pub opened_of : List ℕ → List ℕ → Top → (w con b credit : ℕ) → Top
opened_of decl store c w con b credit =
    let to = c.state.frame.depth * 32 + c.state.frame.bound in
    let k = arity_in decl con in
    let filled = laid c.work to (words store ((w - 65536) * 5 + 1) k) in
    pick (nat_lt w 65536) (top (moved c.state b) c.work)
    (top (going b c.state.frame.depth (c.state.frame.bound + k + credit) c.state.most) (pick (credit == 1) (slice_set filled (to + k) w) filled))

unfoldable pub op_of : List ℕ → List ℕ → Top → (w b credit : ℕ) → Top
op_of decl store c w b credit = pick (b == 0) (top (ended c.state 31 0) c.work) (opened_of decl store c w (con_of store w) b credit)

-- the first state: function 0's body, the arguments as slots
unfoldable pub first_of : (decl args work : List ℕ) → Top
first_of decl args work = top (going (body_in decl 0) 0 (length args) 1) (laid work 0 args)
