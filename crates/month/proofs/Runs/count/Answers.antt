-- `Runs::count` meets its contract. Assumes nothing.
use mathlib.Core.Path.{◌≡◌, ap, ◌∙◌}
use Rattle.std.proofs.Common.{◌+◌, cond, arith, map, count_by}
use Rattle.std.proofs.lemmas.List.{take_all}
use Rattle.std.proofs.num.Orders.{Bool-small}
use Rattle.month.proofs.Chunks.{run_in, turn}
use Rattle.month.proofs.Counting.{called_again, byte_cond}
use Rattle.month.proofs.Runs.count.Goals as goal

pub overflow_add-counted : goal.overflow_add-counted
overflow_add-counted g c = omega (arith, Bool-small c.test.result)

pub loop-words-preserved : goal.loop-words-preserved
loop-words-preserved g c = (
  omega (arith, Bool-small c.test.result),
  λ t k.
      let before = c.loop-words.invariant.1 t k in
      let called = called_again g.F.FnMut t k before.0 c.test.ensures in
      let added : c.loop-words.counted + c.from-counted.result ≡ c.loop-words.counted + cond (t c.from_words.result) 1 0 = rw (c.from-counted.ensures, byte_cond c.test.result, called.1) in
      (called.0, turn (λ n r. n + cond (t r) 1 0) 0 c.triples-words-items.result.now c.loop-words-test.true c.from_words.ensures before.1 added),
)

pub returns-clause-value : goal.returns-clause-value
returns-clause-value g c t k =
    (c.loop-words.invariant.1 t k).1
    ∙ ap (λ l. count_by t (map run_in l)) (take_all c.loop-words.words-index c.triples-words-items.result.now c.loop-words-test.false)
    ∙ ap (λ l. count_by t l) c.triples-words-items.ensures.value
