-- The walks of the start check in the work area: from `base` on a count for each cell, and from `base + 1024` on the queue. Assumes nothing.
use Rattle.std.specs.Prelude.{◌≡◌, ℕ, zero, suc, ◌+◌, ◌-◌, ◌*◌, ◌/◌, ◌%◌, ◌≤◌, Bool, true, false, List, length, ◌==◌, nat_le, nat_lt, slice_index, slice_set, Result, Ok, Err}
use Rattle.meaning.specs.Choice.{pick}
use Rattle.meaning.specs.declared.Fault.{Fault}
use Rattle.meaning.specs.Answers.{fault_number}
use Rattle.meaning.specs.Outcome.{Outcome, ok, refuse}
use Rattle.meaning.specs.Syntax.{File}
use Rattle.meaning.specs.Start.{start}
use Rattle.standing.specs.Bytes.{params_in}
use Rattle.standing.specs.Table.{Declared}
use Rattle.machine.specs.StartWords.{word_fine, code_at, inside_fine, mode_at, number_arg, tree_arg, all_from}

pub record Area : Type 0 where
  pub work : List ℕ
  pub tail : ℕ

abbrev pub area : List ℕ → ℕ → Area
area w t = record { work = w; tail = t }

unfoldable pub counted : ℕ → List ℕ → ℕ → ℕ
counted base w c = (slice_index w (base + c) + 1) % 4294967296

unfoldable pub bump_to : (base goal : ℕ) → Area → ℕ → Area
bump_to base goal a c =
    pick (counted base a.work c == goal)
    (pick (nat_le 1024 a.tail)
    (area (slice_set a.work (base + c) (counted base a.work c)) a.tail)
    (area (slice_set (slice_set a.work (base + c) (counted base a.work c)) (base + 1024 + a.tail) c) (a.tail + 1)))
    (area (slice_set a.work (base + c) (counted base a.work c)) a.tail)

-- the naming that queues a cell: the first in the first walk, the last in the second
unfoldable pub goal_of : (base : ℕ) → List ℕ → ℕ → ℕ
goal_of base w c = pick (base == 0) 1 (slice_index w c)

abbrev pub bump : ℕ → Area → ℕ → Area
bump base a c = bump_to base (goal_of base a.work c) a c

-- n words zero, from `base` on
unfoldable pub cleared : (base n : ℕ) → List ℕ → List ℕ
cleared base zero l = l
cleared base (suc n) l = slice_set (cleared base n l) (base + n) 0

unfoldable pub used_once : List ℕ → ℕ → Bool
used_once work c = pick (nat_le 1024 c) false (nat_le (slice_index work c) 1)

-- the answer by the tests: of number arguments, of what owned and what lent arguments reach, of namings of the cells that owned arguments
-- reach, of namings of all; and by whether cells are held back
unfoldable pub judged : (numbers owned lent single all held : Bool) → Result (Unit {0}) Fault
judged numbers owned lent single all held =
    pick numbers
    (pick owned
    (pick lent
    (pick single (pick all (Ok tt) (pick held (Err Fault.ReachesItself) (Ok tt))) (Err Fault.NamedTwice))
    (Err Fault.Malformed))
    (Err Fault.Malformed))
    (Err Fault.Malformed)

module _ (codes store : List ℕ) where
  unfoldable pub name_at : ℕ → Area → ℕ → Area
  name_at base a w = pick (nat_le 65536 w) (pick (word_fine codes store w) (bump base a (w - 65536)) a) a

  -- the cell that a word names whose bit is set; those that n words name from p on
  unfoldable pub field_at : (base bits w : ℕ) → Area → Area
  field_at base bits w a = pick (bits % 2 == 1) (name_at base a w) a

  unfoldable pub fields_at : (base n bits p : ℕ) → Area → Area
  fields_at base zero bits p a = a
  fields_at base (suc n) bits p a = fields_at base n (bits / 2) (p + 1) (field_at base bits (slice_index store p) a)

  unfoldable pub expand_at : ℕ → Area → ℕ → Area
  expand_at base a c =
      pick (nat_lt (length store) (5 * c + 5)) a
      (pick (nat_le (length codes) (slice_index store (5 * c))) a
      (fields_at base 4 (code_at codes store c % 16) (5 * c + 1) a))

  unfoldable pub drain_at : (base fuel head : ℕ) → Area → Area
  drain_at base zero h a = a
  drain_at base (suc n) h a = pick (nat_le a.tail h) a (drain_at base n (suc h) (expand_at base a (slice_index a.work (base + 1024 + h))))

  -- the words in the tree fields of the cells that are expanded there
  unfoldable pub drain_fine : (base fuel head : ℕ) → Area → Bool
  drain_fine base zero h a = true
  drain_fine base (suc n) h a =
      pick (nat_le a.tail h) true
      (pick (inside_fine codes store (slice_index a.work (base + 1024 + h)))
      (drain_fine base n (suc h) (expand_at base a (slice_index a.work (base + 1024 + h)))) false)

module _ (bytes table codes store : List ℕ) where
  -- an argument, if it is of a mode; n arguments from i on
  unfoldable pub arg_at : (base : ℕ) → (args : List ℕ) → (mode i : ℕ) → Area → Area
  arg_at base args mode i a = pick (mode_at bytes table i == mode) (name_at codes store base a (slice_index args i)) a

  unfoldable pub args_at : (base : ℕ) → (args : List ℕ) → (mode n i : ℕ) → Area → Area
  args_at base args mode zero i a = a
  args_at base args mode (suc n) i a = args_at base args mode n (suc i) (arg_at base args mode i a)

  module _ (args : List ℕ) where
    abbrev pub args_fine : ℕ → Bool
    args_fine mode = all_from (λ i. tree_arg bytes table codes store args mode i) (length args) 0

    -- the arguments of a mode named; the cells that these reach, queued behind the others; and whether words that are not malformed are all
    -- that is met
    abbrev pub begun : (base mode : ℕ) → Area → Area
    begun base mode a = args_at base args mode (length args) 0 a

    unfoldable pub reached : (base mode : ℕ) → Area → Area
    reached base mode a = drain_at codes store base 1024 a.tail (begun base mode a)

    unfoldable pub reached_fine : (base mode : ℕ) → Area → Bool
    reached_fine base mode a = pick (args_fine mode) (drain_fine codes store base 1024 a.tail (begun base mode a)) false

    -- an area in which a walk begins
    abbrev pub fresh : ℕ → List ℕ → Area
    fresh base work = area (cleared base (length store / 5) work) 0

    -- the cells reached from owned arguments; those reached from any, behind them; those that no cycle holds back
    abbrev pub owned_area : List ℕ → Area
    owned_area work = reached 0 2 (fresh 0 work)

    abbrev pub owned_fine : List ℕ → Bool
    owned_fine work = reached_fine 0 2 (fresh 0 work)

    abbrev pub all_area : Area → Area
    all_area a = reached 0 1 a

    abbrev pub all_fine : Area → Bool
    all_fine a = reached_fine 0 1 a

    abbrev pub free_begun : List ℕ → Area
    free_begun work = begun 2048 1 (begun 2048 2 (fresh 2048 work))

    unfoldable pub free_area : List ℕ → Area
    free_area work = drain_at codes store 2048 1024 0 (free_begun work)

    unfoldable pub free_fine : List ℕ → Bool
    free_fine work = pick (args_fine 2) (pick (args_fine 1) (drain_fine codes store 2048 1024 0 (free_begun work)) false) false

    -- the tests on the areas after the three walks
    unfoldable pub answer_at : (work : List ℕ) (o a f : Area) → Result (Unit {0}) Fault
    answer_at work o a f =
        judged (all_from (λ i. number_arg (mode_at bytes table i) (slice_index args i)) (length args) 0)
        (owned_fine work)
        (all_fine o)
        (all_from (λ i. used_once a.work (slice_index a.work (1024 + i))) o.tail 0)
        (all_from (λ i. used_once a.work (slice_index a.work (1024 + i))) a.tail 0)
        (nat_lt f.tail a.tail)

    -- what the code answers
    unfoldable pub start_at : List ℕ → Result (Unit {0}) Fault
    start_at work = answer_at work (owned_area work) (all_area (owned_area work)) (free_area (all_area (owned_area work)).work)

-- an answer as the meaning has it
abbrev pub outcome : Result (Unit {0}) Fault → Outcome (Unit {0})
outcome (Ok u) = ok tt
outcome (Err f) = refuse (fault_number f) 0

-- what is known where 1 to 21 do not apply: a file that its table tells of, and sizes that fit
pub record Passed (bytes table args store work : List ℕ) : Type 0 where
  pub room : 4096 ≤ length work
  pub fits : length store ≤ 5120
  pub whole : length store % 5 ≡ 0
  pub given : length args ≡ params_in table 0
  pub tree : File
  pub declared : Declared tree bytes table

-- an answer is the meaning's, whatever file the table tells of
abbrev pub Meant : (bytes table args store work : List ℕ) → Result (Unit {0}) Fault → Type 0
Meant bytes table args store work r = (tree : File) → Declared tree bytes table → outcome r ≡ start tree (length work) args store
