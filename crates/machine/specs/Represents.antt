-- How the words stand for a state of the defined machine. Assumes nothing.
use Rattle.std.specs.Prelude.{◌≡◌, ℕ, suc, ◌+◌, ◌-◌, ◌*◌, ◌/◌, ◌<◌, ◌≤◌, max, List, [], ◌∷◌, length, slice_index, slice_index_or}
use Rattle.machine.specs.Layout.{Top}
use Rattle.machine.specs.Skips.{Known}
use Rattle.meaning.specs.Syntax.{Sort, File}
use Rattle.meaning.specs.Plain.{place_of}
use Rattle.meaning.specs.Machine.{Held, Store, Frame, Step, held, run, function_of}
use Rattle.meaning.specs.Machine as M
use Rattle.theory.proofs.Sim.{Accepted, Once}
use Rattle.meaning.specs.Outcome.{ok}
use Rattle.meaning.specs.Verdict.{accepted}
use Rattle.theory.proofs.Stack.{Whole}
use Rattle.theory.proofs.Started.{Started}
use Rattle.standing.specs.Stands.{Stands}
use Rattle.standing.specs.Table.{Declared}

-- a word is what a slot holds; a spent slot's word is any
abbrev pub Agrees : Held → ℕ → Type 0
Agrees (Held.number n) w = w ≡ n
Agrees (Held.lent x) w = w ≡ x
Agrees (Held.owned x) w = w ≡ x
Agrees (Held.credit k c) w = w ≡ 65536 + c
Agrees Held.spent w = Unit {0}

abbrev pub Words : List ℕ → (base : ℕ) → List Held → Type 0
Words work base hs = (i : ℕ) → Agrees (held hs i) (slice_index work (base + i))

module _ (file : File) (bytes : List ℕ) where
  -- the frames below
  pub record Waits (work : List ℕ) (d : ℕ) (f : Frame) : Type 0 where
    pub here : slice_index_or work (1024 + d * 2) 0 ≡ place_of f.todo
    pub many : slice_index_or work (1024 + d * 2 + 1) 0 ≡ length f.slots
    pub few : length f.slots < 32
    pub next : ℕ
    pub stands : Stands file bytes (suc (length f.slots)) f.todo next
    pub words : Words work (d * 32) f.slots

  abbrev pub Saved : List ℕ → List Frame → Type 0
  Saved work [] = Unit {0}
  Saved work (f ∷ rest) = Waits work (length rest) f × Saved work rest

  pub record Represents (store : Store) (c : Top) (st : M.State) : Type 0 where
    pub same : store ≡ st.store
    pub here : c.state.frame.at ≡ place_of st.top.todo
    pub next : ℕ
    pub stands : Stands file bytes (length st.top.slots) st.top.todo next
    pub depth : c.state.frame.depth ≡ length st.under
    pub deep : length st.under ≤ 31
    pub bound : c.state.frame.bound ≡ length st.top.slots
    pub few : length st.top.slots ≤ 32
    pub words : Words c.work (length st.under * 32) st.top.slots
    pub saved : Saved c.work st.under
    pub room : 4096 ≤ length c.work

  -- what a step makes of it; `most` are the greatest frames before
  abbrev pub After : (most : ℕ) (before store : Store) (c : Top) → Step → Type 0
  After most before store c (M.next st) = Represents store c st × (c.state.number ≡ 99) × (c.state.most ≡ max most (suc (length st.under)))
  After most before store c (M.finished v) = (store ≡ before) × (c.state.number ≡ 0) × (c.state.value ≡ v) × (c.state.most ≡ most)
  After most before store c (M.stuck a p) = (store ≡ before) × (c.state.number ≡ a) × (c.state.value ≡ 0) × (c.state.frame.at ≡ p) × (c.state.most ≡ most)

-- the words stand for a state of an accepted file that is whole
pub record Fit (bytes decl store : List ℕ) (c : Top) : Type 0 where
  pub file : File
  pub declared : Declared file bytes decl
  pub budget : ℕ
  pub final : Sort
  pub All : List ℕ
  pub before : Store
  pub st : M.State
  pub represents : Represents file bytes store c st
  pub whole : Whole file budget final All before st
  pub fine : Accepted file budget
  pub once : Once All
  pub most : suc (length st.under) ≤ c.state.most
  pub high : c.state.most ≤ 32
  pub known : Known bytes decl c.work

-- the state of a run that goes on, with so many steps left: the rest of the run is the whole run
abbrev pub Reached : (bytes decl store₀ : List ℕ) (c₀ : Top) (limit left : ℕ) (store : List ℕ) (c : Top) → Type 0
Reached bytes decl store₀ c₀ limit left store c =
    (f : Fit bytes decl store₀ c₀)
    → (g : Fit bytes decl store c) × ((n : ℕ) → run f.file limit f.st n c₀.state.most ≡ run g.file left g.st (n + (limit - left)) c.state.most)

-- the words of a start that is not refused, for an accepted file
pub record Begun (bytes decl args store work : List ℕ) : Type 0 where
  pub file : File
  pub declared : Declared file bytes decl
  pub accepts : accepted bytes ≡ ok file
  pub many : length args ≡ length (function_of file 0).parameters
  pub started : Started file args store
  pub room : 4096 ≤ length work
  pub clear : (q : ℕ) → 1088 ≤ q → q < 1088 + (length bytes / 2 + 1) → slice_index work q ≡ 0
