-- No two answers meet the promise of `sum`. Assumes nothing.
use mathlib.Core.Path.{◌≡◌, sym, ◌∙◌}
use contract.Lifetimes.{Lfts}
use borrow.Fn.Kinds.{Dens, res_t, ended_of}
use denote.Triple.Clauses.{AtExit}
use Rattle.sums.proofs.sum.Reads as sum
use Rattle.sums.proofs.sum.Kinds as sum_kinds

pub sum_only : (κs : Lfts 0) (a : Dens κs sum_kinds.ps) (r s : (res_t sum_kinds.r κs).Denot) (e f : AtExit (ended_of 0 sum_kinds.ps sum_kinds.r) κs)
    → sum.Post κs a r e → sum.Post κs a s f → r ≡ s
sum_only κs a r s e f p q = p ∙ sym q
