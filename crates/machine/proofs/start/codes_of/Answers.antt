-- The proof of `codes_of`. Assumes nothing.
use Rattle.std.proofs.Common.{◌≡◌, length, take, ap, sym, ◌∙◌, arith}
use Rattle.std.proofs.Math.Seq.{take-length}
use Rattle.machine.proofs.start.Fields.{coded}
use Rattle.machine.proofs.start.codes_of.Goals as goal

pub returns-then-word-eq-NONE : goal.returns-then-word-eq-NONE
returns-then-word-eq-NONE c = coded c.args.rules.file.now c.args.rules.table.now.words c.loop-i.codes c.loop-i.i (omega arith) (omega arith) c.loop-i.invariant.1 (λ h. c.if-word-eq-NONE.true)

pub returns : goal.returns
returns c tree d =
    let l = c.loop-i.codes in
    let e : length l ≡ c.loop-i.i = omega arith in
    sym (take-length l) ∙ ap (λ n. take n l) e ∙ coded c.args.rules.file.now c.args.rules.table.now.words l c.loop-i.i (omega arith) (omega arith) c.loop-i.invariant.1 (λ h. absurd (omega arith)) tree d
