-- The proof of `used_once`. Assumes nothing.
use Rattle.std.proofs.Common.{◌≡◌, suc, ◌+◌, ◌-◌, get_or, sym, ◌∙◌, arith}
use Rattle.machine.specs.StartArea.{used_once}
use Rattle.machine.proofs.start.Turns.{all_in, all_out, all_end}
use Rattle.machine.proofs.start.Walk.used_once.Goals as goal

pub returns-then-not-named_once : goal.returns-then-not-named_once
returns-then-not-named_once c =
    let w = c.args.self.now.work.now in
    let i = c.loop-i.i in
    let e : c.args.to - i ≡ suc (c.args.to - (i + 1)) = omega arith in
    sym (c.loop-i.invariant.1 ∙ all_out (λ k. used_once w (get_or w (1024 + k) 0)) _ _ i e (sym c.named_once.ensures ∙ c.if-not-named_once.true))

pub loop-i-preserved : goal.loop-i-preserved
loop-i-preserved c =
    let w = c.args.self.now.work.now in
    let i = c.loop-i.i in
    let e : c.args.to - i ≡ suc (c.args.to - (i + 1)) = omega arith in
    (omega arith, c.loop-i.invariant.1 ∙ all_in (λ k. used_once w (get_or w (1024 + k) 0)) _ _ i e (sym c.named_once.ensures ∙ c.if-not-named_once.false))

pub returns : goal.returns
returns c =
    let w = c.args.self.now.work.now in
    let e : c.args.to - c.loop-i.i ≡ 0 = omega arith in
    sym (c.loop-i.invariant.1 ∙ all_end (λ k. used_once w (get_or w (1024 + k) 0)) _ c.loop-i.i e)
