-- The runs among the proved cases that start (P11, P13, P14, P11's start with budget 0, the ends of AR's range), on plain trees and on the
-- machine. The theorem over them, `plain_cases`, stands in proofs/PlainCases. Assumes nothing.
use Rattle.std.specs.Prelude.{ℕ, List, [], ◌∷◌}
use Rattle.meaning.specs.Outcome.{Outcome, ok, then}
use Rattle.meaning.specs.Verdict.{accepted}
use Rattle.meaning.specs.Machine.{Store, function_of}
use Rattle.meaning.specs.Start.{answer_to}
use Rattle.meaning.specs.Decode.{plain_args, as_plain}
use Rattle.meaning.specs.Plain.{Value, number, node, empty, more, Run, value, stop, evaluate}
use Rattle.meaning.specs.Cases.{reversal, one_branch, waiting, operating, two_cells}

pub record Start : Type 0 where
  pub file : List ℕ
  pub args : List ℕ
  pub store : Store
  pub budget : ℕ

abbrev pub starts : (file args : List ℕ) → Store → ℕ → Start
starts file args store budget = record { file = file; args = args; store = store; budget = budget }

abbrev pub started : List Start
started =
    starts reversal (65536 ∷ 0 ∷ []) two_cells 8
    ∷ starts reversal (65536 ∷ 0 ∷ []) two_cells 7
    ∷ starts one_branch (0 ∷ 0 ∷ []) [] 8
    ∷ starts waiting [] [] 40
    ∷ starts reversal (65536 ∷ 0 ∷ []) two_cells 0
    ∷ starts (operating 0) (65535 ∷ 0 ∷ []) [] 8
    ∷ starts (operating 0) (65535 ∷ 1 ∷ []) [] 8
    ∷ starts (operating 1) (0 ∷ 0 ∷ []) [] 8
    ∷ starts (operating 1) (0 ∷ 1 ∷ []) [] 8
    ∷ []

abbrev pub reversed : Value
reversed = node 1 (more (number 7) (more (node 1 (more (number 5) (more (node 0 empty) empty))) empty))

abbrev pub expected : List (Outcome Run)
expected =
    ok (value reversed 8 1) ∷ ok (stop 32 23 7 1) ∷ ok (stop 31 16 1 1) ∷ ok (stop 33 6 32 32) ∷ ok (stop 32 16 0 1)
    ∷ ok (value (number 65535) 2 1) ∷ ok (stop 34 8 1 1) ∷ ok (value (number 0) 2 1) ∷ ok (stop 34 8 1 1) ∷ []

abbrev pub plain_run : Start → Outcome Run
plain_run c =
    then (accepted c.file) (λ file.
    ok (evaluate file c.budget (plain_args file.constructors c.store (function_of file 0).parameters c.args)))

abbrev pub machine_run : Start → Outcome Run
machine_run c = then (accepted c.file) (λ file. ok (as_plain file (answer_to c.file 4096 c.args c.store c.budget)))
