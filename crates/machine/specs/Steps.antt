-- What a step does, by the mark that it stands at. Assumes nothing.
use Rattle.std.specs.Prelude.{◌≡◌, ℕ, ◌+◌, ◌*◌, Bool, true, false, List, ◌==◌, ◌≢◌, Some, None}
use Rattle.std.specs.declared.option.Option.{Option}
use Rattle.meaning.specs.Machine.{Answer, answers}
use Rattle.meaning.specs.Answers.{number, as_end, value_of}
use Rattle.meaning.specs.declared.RunEnd.{RunEnd}
use Rattle.meaning.specs.declared.Ran.{Ran}
use Rattle.machine.specs.declared.frame.State.{State}
use Rattle.machine.specs.Layout.{Numbers, Top, top, at_work, goes, moved, slot_in, nu_of, at_of, ar_of, gv_of, tl_of, cl_of, mk_store, mk_of, con_of, op_of}
use Rattle.machine.specs.Skips.{Skips, Found, Keeps}
use Rattle.standing.specs.Bytes.{byte_at, mark_at}
use Rattle.meaning.specs.Choice.{pick}
use Rattle.meaning.specs.declared.Mark.{Mark}
use Rattle.meaning.specs.Marks.{mark_of}

-- the word of the slot that OP, LK or IF names
abbrev pub named : List ℕ → Top → ℕ
named bytes c = slot_in bytes c.work (c.state.frame.depth * 32) (c.state.frame.at + 2)

-- OP and LK: the branch that is found, and what it starts from
pub record Opened (bytes decl store : List ℕ) (credit : ℕ) (c c' : Top) : Type 0 where
  pub at : ℕ
  pub found : Found bytes decl (con_of store (named bytes c)) (c.state.frame.at + 4) (byte_at bytes (c.state.frame.at + 3)) at
  pub work : List ℕ
  pub keeps : Keeps bytes decl c.work work
  pub is : c' ≡ op_of decl store (top c.state work) (named bytes c) at credit

-- IF: the first term, or the byte after it
pub record Chosen (bytes decl : List ℕ) (c c' : Top) : Type 0 where
  pub at : ℕ
  pub second : named bytes c ≡ 0 → Skips bytes decl (c.state.frame.at + 3) at
  pub first : (named bytes c ≢ 0) → at ≡ c.state.frame.at + 3
  pub work : List ℕ
  pub keeps : Keeps bytes decl c.work work
  pub is : c' ≡ top (moved c.state at) work

abbrev pub StepsAt : Mark → (bytes decl store : List ℕ) → Top → (store' : List ℕ) → Top → Type 0
StepsAt Mark.GV bytes decl store c store' c' = (store' ≡ store) × (c' ≡ gv_of bytes c)
StepsAt Mark.AT bytes decl store c store' c' = (store' ≡ store) × (c' ≡ at_of bytes c)
StepsAt Mark.MK bytes decl store c store' c' = (store' ≡ mk_store bytes decl store c) × (c' ≡ mk_of bytes decl c)
StepsAt Mark.CL bytes decl store c store' c' = (store' ≡ store) × (c' ≡ cl_of bytes decl c)
StepsAt Mark.TL bytes decl store c store' c' = (store' ≡ store) × (c' ≡ tl_of bytes decl c)
StepsAt Mark.OP bytes decl store c store' c' = (store' ≡ store) × Opened bytes decl store 1 c c'
StepsAt Mark.LK bytes decl store c store' c' = (store' ≡ store) × Opened bytes decl store 0 c c'
StepsAt Mark.NU bytes decl store c store' c' = (store' ≡ store) × (c' ≡ nu_of bytes c)
StepsAt Mark.AR bytes decl store c store' c' = (store' ≡ store) × (c' ≡ ar_of bytes c)
StepsAt Mark.IF bytes decl store c store' c' = (store' ≡ store) × Chosen bytes decl c c'
StepsAt Mark.CN bytes decl store c store' c' = (store' ≡ store) × (c' ≡ c)
StepsAt Mark.FN bytes decl store c store' c' = (store' ≡ store) × (c' ≡ c)
StepsAt Mark.BD bytes decl store c store' c' = (store' ≡ store) × (c' ≡ c)
StepsAt Mark.ND bytes decl store c store' c' = (store' ≡ store) × (c' ≡ c)
StepsAt Mark.BR bytes decl store c store' c' = (store' ≡ store) × (c' ≡ c)
StepsAt Mark.Other bytes decl store c store' c' = (store' ≡ store) × (c' ≡ c)

pub record Steps (bytes decl store : List ℕ) (c : Top) (store' : List ℕ) (c' : Top) : Type 0 where
  pub does : StepsAt (mark_of (mark_at bytes c.state.frame.at)) bytes decl store c store' c'

-- how the run ends at a node that ends it
abbrev pub ending_at : Mark → List ℕ → Top → RunEnd
ending_at Mark.GV bytes c = RunEnd.Done (named bytes c)
ending_at Mark.CL bytes c = RunEnd.NoFrame
ending_at Mark.AR bytes c = RunEnd.OutOfRange
ending_at Mark.OP bytes c = RunEnd.NoBranch
ending_at Mark.LK bytes c = RunEnd.NoBranch
ending_at Mark.AT bytes c = RunEnd.NoBranch
ending_at Mark.MK bytes c = RunEnd.NoBranch
ending_at Mark.TL bytes c = RunEnd.NoBranch
ending_at Mark.NU bytes c = RunEnd.NoBranch
ending_at Mark.IF bytes c = RunEnd.NoBranch
ending_at Mark.CN bytes c = RunEnd.NoBranch
ending_at Mark.FN bytes c = RunEnd.NoBranch
ending_at Mark.BD bytes c = RunEnd.NoBranch
ending_at Mark.ND bytes c = RunEnd.NoBranch
ending_at Mark.BR bytes c = RunEnd.NoBranch
ending_at Mark.Other bytes c = RunEnd.NoBranch

unfoldable pub ending : List ℕ → Top → RunEnd
ending bytes c = ending_at (mark_of (mark_at bytes c.state.frame.at)) bytes c

-- what a node comes to: P of the state after it; or no state, which is P of this end of the run where the ends of terms are worked out, and else
-- the words as they were
abbrev pub Comes : (work_out : Bool) (end : RunEnd) (P : Top → Type 0) (Same : Type 0) (s : State) → Option State → (work : List ℕ) → Type 0
Comes out e P Same s (Some s') work = P (at_work s' work)
Comes out e P Same s None work = (out ≡ true → P (goes e s None work)) × (out ≡ false → Same)

abbrev pub Stepped : (work_out : Bool) (bytes decl store : List ℕ) (s : State) (work : List ℕ) → Option State → (store' work' : List ℕ) → Type 0
Stepped out bytes decl store s work r store' work' =
    Comes out (ending bytes (at_work s work')) (Steps bytes decl store (at_work s work) store') ((store' ≡ store) × (work' ≡ work)) s r work'

-- the marks of the nodes
pub data Node : ℕ → Type 0 where
  GV : {w : ℕ} → w ≡ 0x4756 → Node w
  AT : {w : ℕ} → w ≡ 0x4154 → Node w
  MK : {w : ℕ} → w ≡ 0x4D4B → Node w
  CL : {w : ℕ} → w ≡ 0x434C → Node w
  TL : {w : ℕ} → w ≡ 0x544C → Node w
  OP : {w : ℕ} → w ≡ 0x4F50 → Node w
  LK : {w : ℕ} → w ≡ 0x4C4B → Node w
  NU : {w : ℕ} → w ≡ 0x4E55 → Node w
  AR : {w : ℕ} → w ≡ 0x4152 → Node w
  IF : {w : ℕ} → w ≡ 0x4946 → Node w

-- a node's place in the table of marks, by the distance of its letters
unfoldable pub by_distance : ℕ → ℕ
by_distance d =
    pick (d == 1) 9 (pick (d == 7) 12 (pick (d == 9) 7 (pick (d == 15) 4 (pick (d == 17) 13
    (pick (d == 19) 5 (pick (d == 24) 8 (pick (d == 29) 14 (pick (d == 30) 6 (pick (d == 31) 10 15)))))))))

-- the place of an answer, and the defined answer
unfoldable pub place_of : Numbers → ℕ
place_of s = pick (s.number == 0) 0 s.frame.at

abbrev pub answer_of : Ran → List ℕ → Answer
answer_of r store = answers (number (as_end r.end)) (value_of r.end) r.steps r.place r.frames store
