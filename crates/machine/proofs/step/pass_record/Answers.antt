-- The proof of `pass_record`: there are no more open terms than bytes, so their number fits. Assumes nothing.
use Rattle.std.proofs.Common.{arith}
use Rattle.machine.proofs.step.Passing.{first_of, pass_over, terms_small}
use Rattle.machine.proofs.step.pass_record.Goals as goal

pub overflow_add-result : goal.overflow_add-result
overflow_add-result c =
    let first = first_of _ _ c.requires.1.1 c.requires.0 in
    omega (arith, terms_small _ _ (pass_over _ _ first.1 first.2), c.follows-f.ensures.1)
