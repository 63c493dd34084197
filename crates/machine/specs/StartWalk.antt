-- What a part of a walk of the start check leaves of the walk. Assumes nothing.
use Rattle.std.specs.Prelude.{◌≡◌, ℕ, Bool, true, false, length, Result, MatchResult}
use Rattle.meaning.specs.declared.Fault.{Fault}
use Rattle.meaning.specs.Answers.{wiped}
use Rattle.machine.specs.declared.start.Mode.{Mode}
use Rattle.machine.specs.declared.start.Start.{Start}
use Rattle.machine.specs.declared.start.Walk.{Walk}
use Rattle.machine.specs.StartWords.{word_fine, field_fine, trees_fine, inside_fine, mode_byte, tree_arg}
use Rattle.machine.specs.StartArea.{Area, area, name_at, field_at, fields_at, expand_at, drain_at, drain_fine, arg_at, args_at, args_fine, reached, reached_fine, free_area, free_fine}

abbrev pub area_of : Walk → Area
area_of w = area w.work.now w.tail

-- the same codes, store and work area, with nothing changed behind its first 4,096 words
pub record Kept (before after : Walk) : Type 0 where
  pub codes : after.codes ≡ before.codes
  pub store : after.store ≡ before.store
  pub lent : after.work.ghost_name ≡ before.work.ghost_name
  pub behind : wiped 4096 after.work.now ≡ wiped 4096 before.work.now

-- a walk that goes on where no word was malformed: its area is then the one that is meant
abbrev pub Ends : Result (Unit {0}) Fault → (fine : Bool) → (at meant : Area) → Type 0
Ends r fine at meant = MatchResult r (λ _. (fine ≡ true) × (at ≡ meant)) (λ e. (fine ≡ false) × (e ≡ Fault.Malformed))

-- a part of a walk
pub record Went (before after : Walk) (r : Result (Unit {0}) Fault) (fine : Bool) (meant : Area) : Type 0 where
  pub kept : Kept before after
  pub base : after.base ≡ before.base
  pub ends : Ends r fine (area_of after) meant

-- the parts, by the walk where they begin, the walk that they leave, and their results: a word's naming, alone and by its bit; those of four
-- words from a place on; a cell's; those of the cells queued from one on
abbrev pub Names : (a b : Walk) → Result (Unit {0}) Fault → (w : ℕ) → Type 0
Names a b r w = Went a b r (word_fine a.codes.now a.store.now w) (name_at a.codes.now a.store.now a.base (area_of a) w)

abbrev pub NamesField : (a b : Walk) → Result (Unit {0}) Fault → (bits w : ℕ) → Type 0
NamesField a b r bits w = Went a b r (field_fine a.codes.now a.store.now bits w) (field_at a.codes.now a.store.now a.base bits w (area_of a))

abbrev pub NamesFields : (a b : Walk) → Result (Unit {0}) Fault → (at bits : ℕ) → Type 0
NamesFields a b r at bits = Went a b r (trees_fine a.codes.now a.store.now 4 bits at) (fields_at a.codes.now a.store.now a.base 4 bits at (area_of a))

abbrev pub Expands : (a b : Walk) → Result (Unit {0}) Fault → (c : ℕ) → Type 0
Expands a b r c = Went a b r (inside_fine a.codes.now a.store.now c) (expand_at a.codes.now a.store.now a.base (area_of a) c)

abbrev pub Drains : (a b : Walk) → Result (Unit {0}) Fault → (head : ℕ) → Type 0
Drains a b r head = Went a b r (drain_fine a.codes.now a.store.now a.base 1024 head (area_of a)) (drain_at a.codes.now a.store.now a.base 1024 head (area_of a))

-- an argument's naming, if it is of a mode; those of all arguments; and what they reach
module _ (s : Start) where
  abbrev pub NamesArg : (a b : Walk) → Result (Unit {0}) Fault → Mode → (i : ℕ) → Type 0
  NamesArg a b r m i =
      Went a b r (tree_arg s.rules.file.now s.rules.table.now.words a.codes.now a.store.now s.args.now (mode_byte m) i)
      (arg_at s.rules.file.now s.rules.table.now.words a.codes.now a.store.now a.base s.args.now (mode_byte m) i (area_of a))

  abbrev pub NamesArgs : (a b : Walk) → Result (Unit {0}) Fault → Mode → Type 0
  NamesArgs a b r m =
      Went a b r (args_fine s.rules.file.now s.rules.table.now.words a.codes.now a.store.now s.args.now (mode_byte m))
      (args_at s.rules.file.now s.rules.table.now.words a.codes.now a.store.now a.base s.args.now (mode_byte m) (length s.args.now) 0 (area_of a))

  abbrev pub Reaches : (a b : Walk) → Result (Unit {0}) Fault → Mode → Type 0
  Reaches a b r m =
      Went a b r (reached_fine s.rules.file.now s.rules.table.now.words a.codes.now a.store.now s.args.now a.base (mode_byte m) (area_of a))
      (reached s.rules.file.now s.rules.table.now.words a.codes.now a.store.now s.args.now a.base (mode_byte m) (area_of a))

  -- the second walk, whatever walk was made before
  pub record Frees (a b : Walk) (r : Result (Unit {0}) Fault) : Type 0 where
    pub kept : Kept a b
    pub ends : Ends r (free_fine s.rules.file.now s.rules.table.now.words a.codes.now a.store.now s.args.now a.work.now) (area_of b) (free_area s.rules.file.now s.rules.table.now.words a.codes.now a.store.now s.args.now a.work.now)
