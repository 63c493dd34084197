-- What `run` is made of: the sizes, and a start that is to be tested. Assumes nothing.
use Rattle.std.specs.Prelude.{◌≡◌, ℕ, ◌%◌, ◌≤◌, Bool, true, List, length, ◌==◌, nat_lt}
use Rattle.meaning.specs.Choice.{pick}
use Rattle.meaning.specs.Syntax.{File}
use Rattle.meaning.specs.Outcome.{ok}
use Rattle.meaning.specs.Verdict.{accepted}
use Rattle.standing.specs.Bytes.{params_in}
use Rattle.standing.specs.Table.{Declared}

-- 20: "store not a multiple of 5 words or over 5,120, or work area under 4,096 words"
unfoldable pub unfit_of : (store work : ℕ) → Bool
unfit_of store work = pick (store % 5 == 0) (pick (nat_lt 5120 store) true (nat_lt work 4096)) true

-- an accepted file with its table, over a store and a work area of the right sizes, with as many arguments as function 0 has parameters
pub record Opened (bytes decl args store work : List ℕ) : Type 0 where
  pub file : File
  pub accepts : accepted bytes ≡ ok file
  pub declared : Declared file bytes decl
  pub whole : length store % 5 ≡ 0
  pub few : length store ≤ 5120
  pub room : 4096 ≤ length work
  pub many : length args ≡ params_in decl 0
