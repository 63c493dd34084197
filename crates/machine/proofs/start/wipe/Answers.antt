use Rattle.std.proofs.Common.{◌++◌, drop, ap, ◌∙◌, arith, replicate}
use Rattle.std.proofs.lemmas.List.Edits.{length-between}
use Rattle.meaning.specs.Answers.{wiped}
use Rattle.machine.proofs.start.wipe.Goals as goal

pub returns : goal.returns
unfolding wiped
returns c =
    let w = c.args.work.now in
    ap (λ l. l ++ drop 4096 w) (c.fill.ensures.after (λ y h. h) ∙ ap (λ j. replicate j 0) (length-between w 0 4096 (omega arith)))
