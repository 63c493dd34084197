-- `Runs::all_known` meets its contract. Assumes nothing.
use mathlib.Core.Path.{◌∙◌}
use Rattle.std.proofs.Common.{rules, tests, ap, sym}
use Rattle.std.proofs.lemmas.Iterator.{YieldsList-from_slice}
use Rattle.std.proofs.lemmas.Iterator.Search.{all_from_yields_List}
use Rattle.std.proofs.lemmas.List.Folds.{list_all-map}
use Rattle.std.specs.List.{list_all}
use Rattle.month.specs.Month.{runs_of, among, numbers}
use Rattle.month.proofs.Chunks.{run_in}
use Rattle.month.proofs.Counting.{known_all}
use Rattle.month.proofs.Runs.all_known.Goals as goal

pub returns : goal.returns
returns c =
    all_from_yields_List (λ w. among (run_in w).number numbers) _ _ _ c.all.ensures.ran (YieldsList-from_slice c.triples.result.now (cc)) (λ x b q k. search (rules, tests))
    ∙ sym (list_all-map (λ r. among r.number numbers) run_in c.triples.result.now)
    ∙ ap (λ l. list_all (λ r. among r.number numbers) l) c.triples.ensures.value
    ∙ known_all (runs_of c.args.self.now.words.now)
