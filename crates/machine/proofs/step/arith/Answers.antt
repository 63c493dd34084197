-- The proof of `arith`. Assumes nothing.
use Rattle.std.proofs.Common.{sym, ap, ◌∙◌, arith, le-ltb, lt-ltb}
use Rattle.meaning.specs.Plain.{ranged}
use Rattle.sums.proofs.Ranged.{sum_ranged}
use Rattle.machine.specs.Layout.{ar_of}
use Rattle.machine.proofs.step.arith.Goals as goal

pub returns-then-v-gt65535 : goal.returns-then-v-gt65535
unfolding ar_of
returns-then-v-gt65535 c =
    let l = c.if-v-gt65535.true in
    let e = ap ranged c.sum-v.ensures ∙ sum_ranged c.byte.result c.slot-a.result c.slot-b.result in
    rw (sym c.byte.ensures.0, sym c.slot-a.ensures, sym c.slot-b.ensures, sym e, le-ltb c.sum-v.result 65536 (omega arith))

pub returns : goal.returns
unfolding ar_of
returns c =
    let l = c.if-v-gt65535.false in
    let e = ap ranged c.sum-v.ensures ∙ sum_ranged c.byte.result c.slot-a.result c.slot-b.result in
    rw (c.bind.ensures, sym c.byte.ensures.0, sym c.slot-a.ensures, sym c.slot-b.ensures, sym e, lt-ltb c.sum-v.result 65536 (omega arith))
