-- The proof of `reach`. Assumes nothing.
use Rattle.machine.specs.StartArea.{drain_at, drain_fine, reached, reached_fine}
use Rattle.machine.proofs.start.Goes.{went_err, went_then, went_stop}
use Rattle.machine.proofs.start.Walk.reach.Goals as goal

pub returns-in_err-name_args : goal.returns-in_err-name_args
unfolding reached reached_fine
returns-in_err-name_args c = went_err c.from_residual.ensures.1 (went_stop _ c.in_err-name_args.ensures)

pub returns : goal.returns
unfolding reached reached_fine
returns c =
    let from = c.args.self.now.tail in
    went_then (λ x y z v. drain_fine x y z 1024 from v) (λ x y z v. drain_at x y z 1024 from v) c.in_ok-name_args.ensures c.drain.ensures
