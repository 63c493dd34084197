-- Each record that is read is one more, and the reader of trees goes on behind it. Assumes nothing.
use Prim.Native.Nat.{◌<◌}
use mathlib.Core.Path.{refl}
use native.Mathlib.Omega.{arith}
use Rattle.std.proofs.lemmas.Grind.{common_steps}
use Rattle.checker.specs.Opening.{RecordsRead, limit_of}
use Rattle.checker.proofs.reading.Filed.{counted_fails, counted_full, counted_more}
use Rattle.checker.proofs.reading.read_records.Goals as goal

pub returns-in_err-next : goal.returns-in_err-next
unfolding RecordsRead
returns-in_err-next c = let h = counted_fails _ _ _ _ _ _ _ c.loop-records.invariant (c.loop-records-test.ensures.stands.0 refl) c.in_err-next.ensures.ends in grind (arith, common_steps)

pub returns-then-limit-count : goal.returns-then-limit-count
unfolding RecordsRead
returns-then-limit-count c = let h = counted_full _ _ _ _ _ _ c.loop-records.invariant (c.loop-records-test.ensures.stands.0 refl) c.in_ok-next.ensures.ends (omega arith) in grind (arith, common_steps)

pub loop-records-preserved : goal.loop-records-preserved
loop-records-preserved c =
    let l : c.loop-records.count < limit_of c.args.records = omega arith in
    counted_more _ _ _ _ _ _ _ _ c.loop-records.invariant (c.loop-records-test.ensures.stands.0 refl) c.in_ok-next.ensures.ends l c.first.ensures c.entry_word.ensures (omega arith)

pub returns : goal.returns
unfolding RecordsRead
returns c = (c.loop-records.invariant, λ e. let z = c.loop-records-test.ensures.stands.1 e in cc)
