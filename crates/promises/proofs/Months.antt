-- No two answers meet the promises of `month` and `number_at`. Assumes nothing.
use mathlib.Core.Path.{◌≡◌, sym, ◌∙◌}
use contract.Lifetimes.{Lfts}
use borrow.Fn.Kinds.{Dens, res_t, ended_of}
use denote.Triple.Clauses.{AtExit}
use Rattle.month.proofs.Said.{said_once}
use Rattle.month.proofs.month.Reads as month
use Rattle.month.proofs.month.Kinds as month_kinds
use Rattle.month.proofs.number_at.Reads as number_at
use Rattle.month.proofs.number_at.Kinds as number_at_kinds

pub month_only : (κs : Lfts 1) (a : Dens κs month_kinds.ps) (r s : (res_t month_kinds.r κs).Denot) (e f : AtExit (ended_of 1 month_kinds.ps month_kinds.r) κs)
    → month.Post κs a r e → month.Post κs a s f → r ≡ s
month_only κs a r s e f p q = said_once r s (p ∙ sym q)

pub number_at_only : (κs : Lfts 0) (a : Dens κs number_at_kinds.ps) (r s : (res_t number_at_kinds.r κs).Denot) (e f : AtExit (ended_of 0 number_at_kinds.ps number_at_kinds.r) κs)
    → number_at.Post κs a r e → number_at.Post κs a s f → r ≡ s
number_at_only κs a r s e f p q = p ∙ sym q
