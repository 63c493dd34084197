-- `calls::relax` meets its contract. Assumes nothing.
use Rattle.std.proofs.Common.{rules}
use Rattle.meaning.specs.Calls.{relax}
use Rattle.checker.specs.Bits.{bits_of}
use Rattle.checker.proofs.calls.Filling.{made_by}
use Rattle.checker.proofs.calls.Rounds.{next}
use Rattle.checker.proofs.calls.relax.Goals as goal

pub returns : goal.returns
unfolding relax
returns c = made_by _ (next c.args.square (bits_of 32 c.args.seen) c.args.table) _ (λ i x q l k. search rules) 0 _ c.from_fn.ensures.items
