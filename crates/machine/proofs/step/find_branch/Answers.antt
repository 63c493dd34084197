-- The proof of `find_branch`. Assumes nothing.
use Rattle.std.proofs.Common.{◌≡◌, ◌+◌, ◌-◌, not, eqb, refl, sym, subst, ◌∙◌, arith}
use Rattle.machine.specs.Skips.{SkipsAll, Found, EndFound}
use Rattle.machine.proofs.step.Skipping.{skips_safe, skips_all_past, all_next, all_from, found_here, found_later}
use Rattle.machine.proofs.step.Ends.{keeps_on}
use Rattle.machine.proofs.step.find_branch.Goals as goal

pub overflow_add-p : goal.overflow_add-p
overflow_add-p g c = let n = all_next _ _ c.loop.invariant.1.1 (λ z. omega (arith, c.loop-test.true, z)) in omega (arith, skips_safe _ _ n.1)

pub byte-requires : goal.byte-requires
byte-requires g c = let n = all_next _ _ c.loop.invariant.1.1 (λ z. omega (arith, c.loop-test.true, z)) in omega (arith, skips_safe _ _ n.1)

pub overflow_add-result : goal.overflow_add-result
overflow_add-result g c = let n = all_next _ _ c.loop.invariant.1.1 (λ z. omega (arith, c.loop-test.true, z)) in omega (arith, skips_safe _ _ n.1)

pub overflow_add-p-in-loop : goal.overflow_add-p-in-loop
overflow_add-p-in-loop g c = let n = all_next _ _ c.loop.invariant.1.1 (λ z. omega (arith, c.loop-test.true, z)) in omega (arith, skips_safe _ _ n.1)

pub returns-then-byte-con : goal.returns-then-byte-con
returns-then-byte-con g c = (c.loop.invariant.2 _ (found_here _ _ (omega (arith, c.loop-test.true)) c.byte.ensures.0 c.if-byte-con.true), omega arith, c.loop.invariant.3)

pub end_of-requires : goal.end_of-requires
end_of-requires g c = let n = all_next _ _ c.loop.invariant.1.1 (λ z. omega (arith, c.loop-test.true, z)) in ((c.loop.invariant.3.known, c.requires.0.1, omega (arith, c.loop.invariant.3.long, c.requires.0.2)), omega arith, (n.0, n.1, omega (arith, skips_all_past _ _ n.2, c.loop.invariant.1.2)))

pub loop-preserved : goal.loop-preserved
loop-preserved g c =
    let n = all_next _ _ c.loop.invariant.1.1 (λ z. omega (arith, c.loop-test.true, z)) in
    let e = subst (λ o. EndFound (not (eqb g.row.WORK_OUT 0)) c.args.rules.file.now c.args.rules.table.now.words (c.loop.p + 3) c.loop.work o c.end_of.new.work) c.in_ok-p.was c.end_of.ensures in
    let q : c.args.count - c.loop.counter - 1 ≡ c.args.count - (c.loop.counter + 1) = omega arith in (
      omega (arith, c.loop-test.true),
      (c.loop.invariant.1.0, subst (λ k. SkipsAll c.args.rules.file.now c.args.rules.table.now.words c.in_ok-p.p k c.loop.invariant.1.0) q (all_from _ _ n.1 e.0 n.2), c.loop.invariant.1.2),
      λ r f. c.loop.invariant.2 r (found_later _ _ (omega (arith, c.loop-test.true)) c.byte.ensures.0 c.if-byte-con.false e.0 (subst (λ k. Found c.args.rules.file.now c.args.rules.table.now.words c.args.con c.in_ok-p.p k r) (sym q) f)),
      keeps_on _ _ c.loop.invariant.3 e.1,
      λ z. e.2 z ∙ c.loop.invariant.4 z,
    )

pub returns : goal.returns
returns g c = (λ z. (c.loop.invariant.2 0 (Found.none (omega (arith, c.loop-test.false)) refl), c.loop.invariant.3), c.loop.invariant.4)
