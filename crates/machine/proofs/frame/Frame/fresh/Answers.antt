-- The proof of `Frame/fresh`. Assumes nothing.
use Rattle.std.proofs.Common.{refl, ap, ◌∙◌}
use Rattle.machine.specs.Layout.{laid}
use Rattle.machine.proofs.frame.Laid.{words_all}
use Rattle.machine.proofs.frame.Frame.fresh.Goals as goal

pub returns : goal.returns
returns c = (c.empty.ensures.0, c.empty.ensures.1, refl, c.load.ensures ∙ ap (laid c.args.work.now 0) (words_all c.args.args.now))
