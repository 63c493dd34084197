-- No two answers meet the promises of `check`, `judge` and `run`: for the same arguments, two results and two exits of every lent slice are equal.
-- Assumes nothing.
use mathlib.Core.Path.{◌≡◌, sym, ap, ◌∙◌}
use contract.Lifetimes.{Lfts}
use borrow.Fn.Kinds.{Dens, res_t, ended_of}
use denote.Triple.Clauses.{AtExit}
use Rattle.meaning.proofs.Told.{one_verdict, one_answer}
use Rattle.checker.proofs.Joining.{one_judged}
use Rattle.checker.proofs.check.Reads as check
use Rattle.checker.proofs.check.Kinds as check_kinds
use Rattle.checker.proofs.judge.Reads as judge
use Rattle.checker.proofs.judge.Kinds as judge_kinds
use Rattle.machine.proofs.run.Reads as run
use Rattle.machine.proofs.run.Kinds as run_kinds

pub check_only : (κs : Lfts 1) (a : Dens κs check_kinds.ps) (r s : (res_t check_kinds.r κs).Denot) (e f : AtExit (ended_of 1 check_kinds.ps check_kinds.r) κs)
    → check.Post κs a r e → check.Post κs a s f → r ≡ s
check_only κs a r s e f p q = one_verdict r s (p.0 ∙ sym q.0)

pub judge_only : (κs : Lfts 1) (a : Dens κs judge_kinds.ps) (r s : (res_t judge_kinds.r κs).Denot) (e f : AtExit (ended_of 1 judge_kinds.ps judge_kinds.r) κs)
    → judge.Post κs a r e → judge.Post κs a s f → r ≡ s
judge_only κs a r s e f p q = one_judged r s (p.0 ∙ sym q.0)

-- the store is the third parameter, the work area the fourth
pub run_only : (κs : Lfts 4) (a : Dens κs run_kinds.ps) (r s : (res_t run_kinds.r κs).Denot) (e f : AtExit (ended_of 4 run_kinds.ps run_kinds.r) κs)
    → run.Post κs a r e → run.Post κs a s f → (r ≡ s) × (e.1.1.0.now ≡ f.1.1.0.now) × (e.1.1.1.0.now ≡ f.1.1.1.0.now)
run_only κs a r s e f p q =
    let same = p.0 ∙ sym q.0 in
    (one_answer r s (ap (λ x. x.answer) same), ap (λ x. x.store) same, ap (λ x. x.work) same)
