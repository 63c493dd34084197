-- `Runs::triples` meets its contract. Assumes nothing.
use mathlib.Core.Path.{ap, ◌∙◌}
use Rattle.std.proofs.Common.{◌/◌, arith, map, length}
use Rattle.month.proofs.Chunks.{run_in, array_runs}
use Rattle.month.proofs.Runs.triples.Goals as goal

pub returns-clause-value : goal.returns-clause-value
returns-clause-value c = ap (λ l. map run_in l) c.as_chunks.ensures.front ∙ array_runs c.args.self.now.words.now (length c.args.self.now.words.now / 3) (omega arith) (omega arith)
