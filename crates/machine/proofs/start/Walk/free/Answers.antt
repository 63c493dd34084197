-- The proof of `free`. Assumes nothing.
use Rattle.std.proofs.Common.{◌≡◌, ℕ, ◌/◌, Bool, false, List, length, Result}
use Rattle.meaning.specs.declared.Fault.{Fault}
use Rattle.meaning.specs.Choice.{pick}
use Rattle.machine.specs.declared.start.Start.{Start}
use Rattle.machine.specs.declared.start.Walk.{Walk}
use Rattle.machine.specs.StartArea.{Area, area, cleared, drain_at, drain_fine, args_fine, begun, free_area, free_fine}
use Rattle.machine.specs.StartWalk.{area_of, Kept, Went, Frees}
use Rattle.machine.proofs.start.Goes.{kept_after, at_ends, went_err, went_then, went_stop}
use Rattle.machine.proofs.start.Walk.free.Goals as goal

-- the walk from its begin on, and once the owned arguments are named
module _ (s : Start) where
  abbrev lent_fine : List ℕ → List ℕ → ℕ → Area → Bool
  lent_fine x y z v = pick (args_fine s.rules.file.now s.rules.table.now.words x y s.args.now 1) (drain_fine x y z 1024 0 (begun s.rules.file.now s.rules.table.now.words x y s.args.now z 1 v)) false

  abbrev lent_area : List ℕ → List ℕ → ℕ → Area → Area
  lent_area x y z v = drain_at x y z 1024 0 (begun s.rules.file.now s.rules.table.now.words x y s.args.now z 1 v)

  abbrev all_fine : List ℕ → List ℕ → ℕ → Area → Bool
  all_fine x y z v = pick (args_fine s.rules.file.now s.rules.table.now.words x y s.args.now 2) (lent_fine x y z (begun s.rules.file.now s.rules.table.now.words x y s.args.now z 2 v)) false

  abbrev all_area : List ℕ → List ℕ → ℕ → Area → Area
  all_area x y z v = lent_area x y z (begun s.rules.file.now s.rules.table.now.words x y s.args.now z 2 v)

  frees : {a b c : Walk} {r : Result (Unit {0}) Fault} → Kept a b → b.base ≡ 2048 → area_of b ≡ area (cleared 2048 (length a.store.now / 5) a.work.now) 0
      → Went b c r (all_fine b.codes.now b.store.now b.base (area_of b)) (all_area b.codes.now b.store.now b.base (area_of b)) → Frees s a c r
  unfolding free_area free_fine
  frees k e q w = record { kept = kept_after k w.kept; ends = at_ends all_fine all_area (record { codes = k.codes; store = k.store; base = e }) q w }

pub returns-in_err-name_args : goal.returns-in_err-name_args
returns-in_err-name_args c =
    frees c.args.start.now c.begin.ensures.kept c.begin.ensures.base c.begin.ensures.begun (went_err c.from_residual.ensures.1 (went_stop _ c.in_err-name_args.ensures))

pub returns-in_err-name_args-2 : goal.returns-in_err-name_args-2
returns-in_err-name_args-2 c =
    let s = c.args.start.now in
    frees s c.begin.ensures.kept c.begin.ensures.base c.begin.ensures.begun
    (went_then (lent_fine s) (lent_area s) c.in_ok-name_args.ensures (went_err c.from_residual-in_err-name_args-2.ensures.1 (went_stop _ c.in_err-name_args-2.ensures)))

pub returns : goal.returns
returns c =
    let s = c.args.start.now in
    frees s c.begin.ensures.kept c.begin.ensures.base c.begin.ensures.begun
    (went_then (lent_fine s) (lent_area s) c.in_ok-name_args.ensures
    (went_then (λ x y z v. drain_fine x y z 1024 0 v) (λ x y z v. drain_at x y z 1024 0 v) c.in_ok-name_args-2.ensures c.drain.ensures))
