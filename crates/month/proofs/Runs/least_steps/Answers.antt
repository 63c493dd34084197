-- `Runs::least_steps` meets its contract. Assumes nothing.
use Prim.Native.Nat.{min}
use mathlib.Core.Path.{◌≡◌, ap, ◌∙◌}
use Rattle.std.proofs.Common.{arith, rules, map, fold}
use Rattle.std.proofs.lemmas.List.{take_all}
use Rattle.month.specs.Month.{steps_of, least, lowest, runs_of}
use Rattle.month.proofs.Chunks.{run_in, turn}
use Rattle.month.proofs.Counting.{lowered, lowered_at, lowered_past, lowest_lowered}
use Rattle.month.proofs.Runs.least_steps.Goals as goal
use Rattle.month.proofs.Runs.least_steps.Goals.{then-run-eq0, else-run-eq0}

pub loop-words-preserved : goal.loop-words-preserved
loop-words-preserved c =
    let next = λ (e : min c.loop-words.least c.if-run-eq0.min ≡ lowered c.greatest-greatest.result c.loop-words.least c.from_words-run.result).
    turn (lowered c.greatest-greatest.result) c.greatest-greatest.result c.triples-words-items.result.now c.loop-words-test.true c.from_words-run.ensures c.loop-words.invariant (c.min-least.ensures ∙ e) in
    elim c.if-run-eq0.branch [
      | then-run-eq0 w ↦ next (lowered_at c.greatest-greatest.result c.loop-words.least c.from_words-run.result w.if-run-eq0.true w.min-is)
      | else-run-eq0 w ↦ next (lowered_past c.greatest-greatest.result c.loop-words.least c.from_words-run.result w.if-run-eq0.false w.min-is)
    ]

pub returns : goal.returns
unfolding least steps_of
returns c =
    c.loop-words.invariant
    ∙ ap (λ l. fold (lowered c.greatest-greatest.result) c.greatest-greatest.result (map run_in l)) (take_all c.loop-words.words-index c.triples-words-items.result.now c.loop-words-test.false)
    ∙ ap (λ l. fold (lowered c.greatest-greatest.result) c.greatest-greatest.result l) c.triples-words-items.ensures.value
    ∙ lowest_lowered c.greatest-greatest.result c.greatest-greatest.result (omega arith) (runs_of c.args.self.now.words.now)
    ∙ ap (λ m. lowest m (steps_of (runs_of c.args.self.now.words.now))) (c.greatest-greatest.ensures (λ r. r.steps) (λ x r q k. search rules))
