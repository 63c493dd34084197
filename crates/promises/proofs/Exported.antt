-- No two answers meet the promises of `base_check` and `base_run`: for the same arguments, the words written and every lent word afterwards are equal.
-- Assumes nothing.
use mathlib.Core.Path.{◌≡◌, sym, ◌∙◌}
use contract.Lifetimes.{Lfts}
use borrow.Fn.Kinds.{Dens, res_t, ended_of}
use denote.Triple.Clauses.{AtExit}
use Rattle.export.proofs.base_check.Reads as base_check
use Rattle.export.proofs.base_check.Kinds as base_check_kinds
use Rattle.export.proofs.base_run.Reads as base_run
use Rattle.export.proofs.base_run.Kinds as base_run_kinds

pub base_check_only : (κs : Lfts 2) (a : Dens κs base_check_kinds.ps) (r s : (res_t base_check_kinds.r κs).Denot) (e f : AtExit (ended_of 2 base_check_kinds.ps base_check_kinds.r) κs)
    → base_check.Post κs a r e → base_check.Post κs a s f → e.1.0.now ≡ f.1.0.now
base_check_only κs a r s e f p q = p ∙ sym q

-- the store is the third parameter, the work area the fourth, the words the sixth
pub base_run_only : (κs : Lfts 5) (a : Dens κs base_run_kinds.ps) (r s : (res_t base_run_kinds.r κs).Denot) (e f : AtExit (ended_of 5 base_run_kinds.ps base_run_kinds.r) κs)
    → base_run.Post κs a r e → base_run.Post κs a s f
    → (e.1.1.1.1.1.0.now ≡ f.1.1.1.1.1.0.now) × (e.1.1.0.now ≡ f.1.1.0.now) × (e.1.1.1.0.now ≡ f.1.1.1.0.now)
base_run_only κs a r s e f p q = (p.said ∙ sym q.said, p.stored ∙ sym q.stored, p.worked ∙ sym q.worked)
