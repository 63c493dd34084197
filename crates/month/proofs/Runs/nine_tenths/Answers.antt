-- `Runs::nine_tenths` meets its contract. The loop's invariant: the figure lies between the two bounds. Assumes nothing.
use mathlib.Core.Path.{sym, ◌∙◌}
use Rattle.std.proofs.Common.{◌+◌, ◌-◌, ◌/◌, arith, rules, tests, eqb, leb, ◌&&◌}
use Rattle.month.specs.Month.{runs_of, steps_of}
use Rattle.month.proofs.Counting.{ended_count, within_counts}
use Rattle.month.proofs.Tenths.{enough_above, short_below, below_greatest}
use Rattle.month.proofs.Runs.nine_tenths.Goals as goal

pub loop-low-init : goal.loop-low-init
loop-low-init c =
    let e = c.count-wanted.ensures.value (λ r. eqb r.number 0) (λ x b q k. search (rules, tests)) ∙ sym (ended_count (runs_of c.args.self.now.words.now)) in
    (omega arith, omega arith, omega (arith, c.requires, below_greatest (steps_of (runs_of c.args.self.now.words.now))), omega arith)

pub loop-low-preserved-then-wanted-within : goal.loop-low-preserved-then-wanted-within
loop-low-preserved-then-wanted-within c =
    let middle = c.loop-low.low + (c.loop-low.high - c.loop-low.low) / 2 in
    let e = c.count-within.ensures.value (λ r. eqb r.number 0 && leb r.steps middle) (λ x b q k. search (rules, tests)) ∙ sym (within_counts middle (runs_of c.args.self.now.words.now)) in
    (c.loop-low.invariant.0, c.loop-low.invariant.1, enough_above (steps_of (runs_of c.args.self.now.words.now)) middle (omega arith), omega arith)

pub loop-low-preserved : goal.loop-low-preserved
loop-low-preserved c =
    let middle = c.loop-low.low + (c.loop-low.high - c.loop-low.low) / 2 in
    let e = c.count-within.ensures.value (λ r. eqb r.number 0 && leb r.steps middle) (λ x b q k. search (rules, tests)) ∙ sym (within_counts middle (runs_of c.args.self.now.words.now)) in
    (c.loop-low.invariant.0, omega (arith, short_below (steps_of (runs_of c.args.self.now.words.now)) middle (omega arith)), c.loop-low.invariant.2, c.loop-low.invariant.3)
