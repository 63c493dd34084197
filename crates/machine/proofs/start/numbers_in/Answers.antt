use Rattle.std.proofs.Common.{◌≡◌, suc, ◌+◌, ◌-◌, ◌/◌, sym, ap, ◌∙◌, arith}
use Rattle.std.proofs.lemmas.List.Edits.{length-between, get_or-between}
use Rattle.machine.specs.StartWords.{number_fine, numbers_fine}
use Rattle.machine.proofs.start.Turns.{numbers_more, numbers_out, numbers_end}
use Rattle.machine.proofs.start.Fields.{numbers_none}
use Rattle.machine.proofs.start.numbers_in.Goals as goal

pub returns-then-not-number_fine : goal.returns-then-not-number_fine
returns-then-not-number_fine c =
    let s = c.args.store.now in
    let at = c.args.at in
    let i = c.loop-w.w-index in
    let l = length-between s at (at + 4) (omega arith) in
    let e : 4 - i ≡ suc (4 - (i + 1)) = omega arith in
    let item = get_or-between s at (at + 4) i 0 (omega arith) in
    sym (c.loop-w.invariant ∙ numbers_out s _ _ c.loop-w.rest (at + i) e (ap (number_fine c.loop-w.rest) (sym item) ∙ sym c.number_fine.ensures ∙ c.if-not-number_fine.true))

pub loop-w-preserved : goal.loop-w-preserved
loop-w-preserved c =
    let s = c.args.store.now in
    let at = c.args.at in
    let i = c.loop-w.w-index in
    let l = length-between s at (at + 4) (omega arith) in
    let e : 4 - i ≡ suc (4 - (i + 1)) = omega arith in
    let p : at + i + 1 ≡ at + (i + 1) = omega arith in
    let item = get_or-between s at (at + 4) i 0 (omega arith) in
    c.loop-w.invariant
    ∙ numbers_more s _ _ c.loop-w.rest (at + i) e (ap (number_fine c.loop-w.rest) (sym item) ∙ sym c.number_fine.ensures ∙ c.if-not-number_fine.false)
    ∙ ap (numbers_fine s (4 - (i + 1)) (c.loop-w.rest / 2)) p

pub returns-after-loop-w : goal.returns-after-loop-w
returns-after-loop-w c =
    let s = c.args.store.now in
    let at = c.args.at in
    let l = length-between s at (at + 4) (omega arith) in
    let e : 4 - c.loop-w.w-index ≡ 0 = omega arith in
    sym (c.loop-w.invariant ∙ numbers_end s _ c.loop-w.rest _ e)

pub returns-then-rest-eq0 : goal.returns-then-rest-eq0
returns-then-rest-eq0 c =
    let s = c.args.store.now in
    let i = c.loop-w.w-index in
    sym (c.loop-w.invariant ∙ ap (λ k. numbers_fine s (4 - i) k (c.args.at + i)) c.if-rest-eq0.true ∙ numbers_none s (4 - i) (c.args.at + i))
