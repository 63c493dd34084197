-- The proof of `execute`. Assumes nothing.
use Rattle.std.proofs.Common.{◌∙◌}
use Rattle.machine.proofs.step.First.{first_fit, first_run, first_behind}
use Rattle.machine.proofs.step.execute.Goals as goal

pub go-requires : goal.go-requires
go-requires c = first_fit c.requires c.first_state-s.ensures

pub returns : goal.returns
returns c = (λ b. first_run b c.args.limit c.first_state-s.ensures c.go.ensures.0, c.go.ensures.1 ∙ first_behind c.requires c.first_state-s.ensures)
