-- Document 01's proved cases, P1 to P14, P11's start with budget 0 (M-103), and the ends of AR's range (M-101): one table. The theorem over it,
-- `all_cases`, stands in proofs/Cases. Assumes nothing.
use Rattle.std.specs.Prelude.{ℕ, List, [], ◌∷◌, ◌++◌, set, drop, take, replicate}
use Rattle.meaning.specs.Machine.{Store}
use Rattle.meaning.specs.Answers.{verdict_of, run_of, Answer, End, Verdict}

abbrev pub reversal : List ℕ
reversal =
    0x43 ∷ 0x4E ∷ 0x00 ∷ 0x43 ∷ 0x4E ∷ 0x02 ∷ 0x00 ∷ 0x01 ∷ 0x46 ∷ 0x4E ∷ 0x02 ∷ 0x02 ∷ 0x02 ∷ 0x01 ∷ 0x42 ∷ 0x44
    ∷ 0x4F ∷ 0x50 ∷ 0x00 ∷ 0x02 ∷ 0x42 ∷ 0x52 ∷ 0x00 ∷ 0x47 ∷ 0x56 ∷ 0x01 ∷ 0x42 ∷ 0x52 ∷ 0x01 ∷ 0x4D ∷ 0x4B ∷ 0x01
    ∷ 0x04 ∷ 0x02 ∷ 0x01 ∷ 0x54 ∷ 0x4C ∷ 0x00 ∷ 0x03 ∷ 0x05 ∷ 0x4E ∷ 0x44 ∷ []

-- P10's file
abbrev pub left_over : List ℕ
left_over = 0x46 ∷ 0x4E ∷ 0x02 ∷ 0x02 ∷ 0x02 ∷ 0x01 ∷ 0x42 ∷ 0x44 ∷ 0x47 ∷ 0x56 ∷ 0x00 ∷ 0x4E ∷ 0x44 ∷ []

-- P13's file: the reversal with bytes 20 to 25 removed and byte 19 set to 01
abbrev pub one_branch : List ℕ
one_branch = set (take 20 reversal ++ drop 26 reversal) 19 0x01

-- P14's file: a function that calls itself and waits
abbrev pub waiting : List ℕ
waiting = 0x46 ∷ 0x4E ∷ 0x00 ∷ 0x00 ∷ 0x42 ∷ 0x44 ∷ 0x43 ∷ 0x4C ∷ 0x00 ∷ 0x47 ∷ 0x56 ∷ 0x00 ∷ 0x4E ∷ 0x44 ∷ []

-- an operation on two numbers, and its result given back: 0 add, 1 subtract, 2 smaller, 3 equal
abbrev pub operating : (operation : ℕ) → List ℕ
operating o = 0x46 ∷ 0x4E ∷ 0x02 ∷ 0x00 ∷ 0x00 ∷ 0x00 ∷ 0x42 ∷ 0x44 ∷ 0x41 ∷ 0x52 ∷ o ∷ 0x00 ∷ 0x01 ∷ 0x47 ∷ 0x56 ∷ 0x02 ∷ 0x4E ∷ 0x44 ∷ []

abbrev pub two_cells : Store
two_cells = 1 ∷ 5 ∷ 65537 ∷ 0 ∷ 0 ∷ 1 ∷ 7 ∷ 0 ∷ 0 ∷ 0 ∷ []

abbrev pub reversed_cells : Store
reversed_cells = 1 ∷ 5 ∷ 0 ∷ 0 ∷ 0 ∷ 1 ∷ 7 ∷ 65536 ∷ 0 ∷ 0 ∷ []

-- what is asked: to check a file, or to run one
pub data Asked : Type 0 where
  checked : (file : List ℕ) → Asked
  run_on : (file args : List ℕ) → (store : Store) → (budget : ℕ) → Asked

-- what is answered: a verdict, or the answer of a run with the cells after it
pub data Told : Type 0 where
  verdict : Verdict → Told
  answer : Answer → Store → Told

unfoldable pub told_of : Asked → Told
told_of (checked file) = verdict (verdict_of file)
told_of (run_on file args store budget) = let e = run_of file args store (replicate 4096 0) budget in answer e.answer e.store

abbrev pub answers : End → (value steps place frames : ℕ) → Store → Told
answers e v k p g store = answer (record { end = e; value = v; steps = k; place = p; frames = g }) store

pub record Case : Type 0 where
  pub asked : Asked
  pub expected : Told

abbrev pub gives : Asked → Told → Case
gives a t = record { asked = a; expected = t }

abbrev pub cases : List Case
cases =
    -- P1 to P10
    gives (checked reversal) (verdict (Verdict.Flat 1 1))
    ∷ gives (checked (set reversal 39 0x03)) (verdict (Verdict.Refused 9 39))
    ∷ gives (checked (set reversal 33 0x03)) (verdict (Verdict.Refused 8 33))
    ∷ gives (checked (set reversal 32 0x05)) (verdict (Verdict.Refused 7 32))
    ∷ gives (checked (set reversal 25 0x00)) (verdict (Verdict.Refused 9 25))
    ∷ gives (checked (set reversal 12 0x01)) (verdict (Verdict.Refused 8 25))
    ∷ gives (checked (set reversal 28 0x00)) (verdict (Verdict.Refused 12 28))
    ∷ gives (checked (take 41 reversal)) (verdict (Verdict.Refused 2 41))
    ∷ gives (checked []) (verdict (Verdict.Refused 2 0))
    ∷ gives (checked (reversal ++ (0x00 ∷ []))) (verdict (Verdict.Refused 6 42))
    ∷ gives (checked left_over) (verdict (Verdict.Refused 11 8))
    -- P11, with either budget, and P12
    ∷ gives (run_on reversal (65536 ∷ 0 ∷ []) two_cells 8) (answers End.Done 65537 8 0 1 reversed_cells)
    ∷ gives (run_on reversal (65536 ∷ 0 ∷ []) two_cells 7) (answers End.BudgetSpent 0 7 23 1 reversed_cells)
    ∷ gives (run_on reversal (65536 ∷ 65536 ∷ []) two_cells 8) (answers (End.Refused 23) 0 0 0 0 two_cells)
    -- P13 and P14
    ∷ gives (checked one_branch) (verdict (Verdict.Flat 1 1))
    ∷ gives (run_on one_branch (0 ∷ 0 ∷ []) [] 8) (answers End.NoBranch 0 1 16 1 [])
    ∷ gives (checked waiting) (verdict (Verdict.Stacked 1))
    ∷ gives (run_on waiting [] [] 40) (answers End.NoFrame 0 32 6 32 [])
    -- P11's start with budget 0: no node begins
    ∷ gives (run_on reversal (65536 ∷ 0 ∷ []) two_cells 0) (answers End.BudgetSpent 0 0 16 1 two_cells)
    -- the ends of the range: 65,535 + 0, 65,535 + 1, 0 - 0, 0 - 1
    ∷ gives (run_on (operating 0) (65535 ∷ 0 ∷ []) [] 8) (answers End.Done 65535 2 0 1 [])
    ∷ gives (run_on (operating 0) (65535 ∷ 1 ∷ []) [] 8) (answers End.OutOfRange 0 1 8 1 [])
    ∷ gives (run_on (operating 1) (0 ∷ 0 ∷ []) [] 8) (answers End.Done 0 2 0 1 [])
    ∷ gives (run_on (operating 1) (0 ∷ 1 ∷ []) [] 8) (answers End.OutOfRange 0 1 8 1 [])
    ∷ []
