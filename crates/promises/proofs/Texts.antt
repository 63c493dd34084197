-- No two answers meet the promises of `check_line` and `run_line`: for the same bytes, two counts and two rooms afterwards are equal.
-- Assumes nothing.
use mathlib.Core.Path.{◌≡◌, sym, ◌∙◌}
use contract.Lifetimes.{Lfts}
use borrow.Fn.Kinds.{Dens, res_t, ended_of}
use denote.Triple.Clauses.{AtExit}
use Rattle.lines.proofs.check_line.Reads as check_line
use Rattle.lines.proofs.check_line.Kinds as check_line_kinds
use Rattle.lines.proofs.run_line.Reads as run_line
use Rattle.lines.proofs.run_line.Kinds as run_line_kinds

pub check_line_only : (κs : Lfts 2) (a : Dens κs check_line_kinds.ps) (r s : (res_t check_line_kinds.r κs).Denot) (e f : AtExit (ended_of 2 check_line_kinds.ps check_line_kinds.r) κs)
    → check_line.Post κs a r e → check_line.Post κs a s f → (r ≡ s) × (e.1.0.now ≡ f.1.0.now)
check_line_only κs a r s e f p q = (p.counted ∙ sym q.counted, p.bytes ∙ sym q.bytes)

pub run_line_only : (κs : Lfts 2) (a : Dens κs run_line_kinds.ps) (r s : (res_t run_line_kinds.r κs).Denot) (e f : AtExit (ended_of 2 run_line_kinds.ps run_line_kinds.r) κs)
    → run_line.Post κs a r e → run_line.Post κs a s f → (r ≡ s) × (e.1.0.now ≡ f.1.0.now)
run_line_only κs a r s e f p q = (p.counted ∙ sym q.counted, p.bytes ∙ sym q.bytes)
