-- `Runs::greatest` meets its contract. Assumes nothing.
use Prim.Native.Nat.{max}
use mathlib.Core.Path.{◌≡◌, ap, ◌∙◌}
use Rattle.std.proofs.Common.{map, fold}
use Rattle.std.proofs.lemmas.List.{take_all}
use Rattle.month.specs.Month.{greatest, runs_of}
use Rattle.month.proofs.Chunks.{run_in, turn}
use Rattle.month.proofs.Counting.{raised, raised_at, raised_past, highest_raised, greater, value_again}
use Rattle.month.proofs.Runs.greatest.Goals as goal
use Rattle.month.proofs.Runs.greatest.Goals.{then-run-eq0, else-run-eq0}

pub loop-words-preserved : goal.loop-words-preserved
loop-words-preserved g c f k =
    let before = c.loop-words.invariant f k in
    let next = λ (e : max c.loop-words.greatest c.if-run-eq0.max ≡ raised f c.loop-words.greatest c.from_words-run.result).
    turn (raised f) 0 c.triples-words-items.result.now c.loop-words-test.true c.from_words-run.ensures before.1 (c.max-greatest.ensures ∙ greater c.loop-words.greatest c.if-run-eq0.max ∙ e) in
    elim c.if-run-eq0.branch [
      | then-run-eq0 w ↦
          let called = value_again g.F.FnMut f k before.0 w.figure.ensures in
          (w.figure-is ∙ called.0, next (raised_at f c.loop-words.greatest c.from_words-run.result w.if-run-eq0.true (w.max-is ∙ called.1)))
      | else-run-eq0 w ↦ (w.figure-is ∙ before.0, next (raised_past f c.loop-words.greatest c.from_words-run.result w.if-run-eq0.false w.max-is))
    ]

pub returns : goal.returns
unfolding greatest
returns g c f k =
    (c.loop-words.invariant f k).1
    ∙ ap (λ l. fold (raised f) 0 (map run_in l)) (take_all c.loop-words.words-index c.triples-words-items.result.now c.loop-words-test.false)
    ∙ ap (λ l. fold (raised f) 0 l) c.triples-words-items.ensures.value
    ∙ highest_raised f 0 (runs_of c.args.self.now.words.now)
