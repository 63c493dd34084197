-- `calls::row_of` meets its contract. Assumes nothing.
use Rattle.std.proofs.Common.{rules}
use Rattle.meaning.specs.declared.How.TheVariants.{Never}
use Rattle.checker.specs.Square.{way_of, row_of}
use Rattle.checker.proofs.calls.Filling.{made_by}
use Rattle.checker.proofs.calls.row_of.Goals as goal

pub returns : goal.returns
unfolding row_of
returns c = made_by _ (way_of c.args.calls) _ (λ i x q l k. search (rules, k)) Never _ c.from_fn.ensures.items
