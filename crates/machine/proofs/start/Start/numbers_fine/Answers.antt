-- The proof of `numbers_fine`. Assumes nothing.
use Rattle.std.proofs.Common.{◌≡◌, suc, ◌+◌, ◌-◌, length, get_or, sym, ◌∙◌, arith}
use Rattle.machine.specs.StartWords.{mode_at, number_arg}
use Rattle.machine.proofs.start.Turns.{all_in, all_out, all_end}
use Rattle.machine.proofs.start.Start.numbers_fine.Goals as goal

pub returns-then-not-number_arg : goal.returns-then-not-number_arg
returns-then-not-number_arg c =
    let s = c.args.self.now in
    let i = c.loop-i.i in
    let e : length s.args.now - i ≡ suc (length s.args.now - (i + 1)) = omega arith in
    sym (c.loop-i.invariant ∙ all_out (λ k. number_arg (mode_at s.rules.file.now s.rules.table.now.words k) (get_or s.args.now k 0)) _ _ i e (sym c.number_arg.ensures ∙ c.if-not-number_arg.true))

pub loop-i-preserved : goal.loop-i-preserved
loop-i-preserved c =
    let s = c.args.self.now in
    let i = c.loop-i.i in
    let e : length s.args.now - i ≡ suc (length s.args.now - (i + 1)) = omega arith in
    c.loop-i.invariant ∙ all_in (λ k. number_arg (mode_at s.rules.file.now s.rules.table.now.words k) (get_or s.args.now k 0)) _ _ i e (sym c.number_arg.ensures ∙ c.if-not-number_arg.false)

pub returns : goal.returns
returns c =
    let s = c.args.self.now in
    let e : length s.args.now - c.loop-i.i ≡ 0 = omega arith in
    sym (c.loop-i.invariant ∙ all_end (λ k. number_arg (mode_at s.rules.file.now s.rules.table.now.words k) (get_or s.args.now k 0)) _ c.loop-i.i e)
