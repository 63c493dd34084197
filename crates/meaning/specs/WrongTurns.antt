-- Document 01's wrong turns to close off, each by a file or a start that a wrong definition would answer otherwise, and a run cut short: one
-- table. The theorem over it, `all_turns`, stands in proofs/WrongTurns. Assumes nothing.
use Rattle.meaning.specs.Answers.{End, Verdict}
use Rattle.std.specs.Prelude.{ℕ, List, [], ◌∷◌, ◌++◌, drop, take}
use Rattle.meaning.specs.Cases.{reversal, left_over, two_cells, checked, run_on, verdict, answers, Case, gives}

-- function 0 lends its slot and hands it over in one call, the lent argument first
abbrev pub lent_first : List ℕ
lent_first =
    0x46 ∷ 0x4E ∷ 0x01 ∷ 0x02 ∷ 0x01 ∷ 0x46 ∷ 0x4E ∷ 0x02 ∷ 0x01 ∷ 0x02 ∷ 0x01
    ∷ 0x42 ∷ 0x44 ∷ 0x43 ∷ 0x4C ∷ 0x01 ∷ 0x00 ∷ 0x00 ∷ 0x47 ∷ 0x56 ∷ 0x01 ∷ 0x42 ∷ 0x44 ∷ 0x47 ∷ 0x56 ∷ 0x01 ∷ 0x4E ∷ 0x44 ∷ []

-- LK on an owned slot
abbrev pub look_at_owned : List ℕ
look_at_owned =
    0x43 ∷ 0x4E ∷ 0x00 ∷ 0x46 ∷ 0x4E ∷ 0x01 ∷ 0x02 ∷ 0x01 ∷ 0x42 ∷ 0x44 ∷ 0x4C ∷ 0x4B ∷ 0x00 ∷ 0x01
    ∷ 0x42 ∷ 0x52 ∷ 0x00 ∷ 0x47 ∷ 0x56 ∷ 0x00 ∷ 0x4E ∷ 0x44 ∷ []

-- a CL, and a TL back
abbrev pub call_and_back : List ℕ
call_and_back =
    0x46 ∷ 0x4E ∷ 0x00 ∷ 0x00 ∷ 0x46 ∷ 0x4E ∷ 0x00 ∷ 0x00 ∷ 0x42 ∷ 0x44 ∷ 0x43 ∷ 0x4C ∷ 0x01 ∷ 0x47 ∷ 0x56 ∷ 0x00
    ∷ 0x42 ∷ 0x44 ∷ 0x54 ∷ 0x4C ∷ 0x00 ∷ 0x4E ∷ 0x44 ∷ []

-- an owned and a lent parameter; the start's lent argument reaches into the owned one
abbrev pub owned_and_lent : List ℕ
owned_and_lent =
    0x43 ∷ 0x4E ∷ 0x00 ∷ 0x43 ∷ 0x4E ∷ 0x02 ∷ 0x00 ∷ 0x01 ∷ 0x46 ∷ 0x4E ∷ 0x02 ∷ 0x02 ∷ 0x01 ∷ 0x01
    ∷ 0x42 ∷ 0x44 ∷ 0x47 ∷ 0x56 ∷ 0x00 ∷ 0x4E ∷ 0x44 ∷ []

-- two branches that each give the same slot back
abbrev pub two_branches : List ℕ
two_branches =
    0x43 ∷ 0x4E ∷ 0x00 ∷ 0x43 ∷ 0x4E ∷ 0x00 ∷ 0x46 ∷ 0x4E ∷ 0x02 ∷ 0x02 ∷ 0x02 ∷ 0x01 ∷ 0x42 ∷ 0x44 ∷ 0x4F ∷ 0x50 ∷ 0x00 ∷ 0x02
    ∷ 0x42 ∷ 0x52 ∷ 0x00 ∷ 0x47 ∷ 0x56 ∷ 0x01 ∷ 0x42 ∷ 0x52 ∷ 0x01 ∷ 0x47 ∷ 0x56 ∷ 0x01 ∷ 0x4E ∷ 0x44 ∷ []

-- the reversal with its branches in the other order
abbrev pub other_order : List ℕ
other_order = take 20 reversal ++ (take 14 (drop 26 reversal) ++ (take 6 (drop 20 reversal) ++ drop 40 reversal))

abbrev pub turns : List Case
turns =
    gives (checked lent_first) (verdict (Verdict.Refused 9 17))
    ∷ gives (checked look_at_owned) (verdict (Verdict.Refused 8 12))
    ∷ gives (checked call_and_back) (verdict (Verdict.Stacked 2))
    ∷ gives (run_on owned_and_lent (65536 ∷ 65537 ∷ []) two_cells 8) (answers (End.Refused 23) 0 0 0 0 two_cells)
    ∷ gives (checked two_branches) (verdict (Verdict.Flat 1 1))
    -- a fault of 7 to 12 does not come before a later one of 2 to 6
    ∷ gives (checked (take 12 left_over)) (verdict (Verdict.Refused 2 12))
    -- P11 with budget 1: the first step moves no cell
    ∷ gives (run_on reversal (65536 ∷ 0 ∷ []) two_cells 1) (answers End.BudgetSpent 0 1 29 1 two_cells)
    -- a branch starts from the slots before the list, not from those that the branch before it bound
    ∷ gives (checked other_order) (verdict (Verdict.Flat 1 1))
    ∷ []
