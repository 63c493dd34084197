-- No two answers meet the promises of `mark_row`, `size`, `binds`, `keyed_mark` and `find_mark`. Assumes nothing.
use mathlib.Core.Path.{◌≡◌, sym, ◌∙◌}
use contract.Lifetimes.{Lfts}
use borrow.Fn.Kinds.{Dens, res_t, ended_of}
use denote.Triple.Clauses.{AtExit}
use Rattle.meaning.proofs.Table.{one_place}
use Rattle.meaning.proofs.find_mark.Reads as find_mark
use Rattle.meaning.proofs.find_mark.Kinds as find_mark_kinds
use Rattle.meaning.proofs.mark_row.Reads as mark_row
use Rattle.meaning.proofs.mark_row.Kinds as mark_row_kinds
use Rattle.meaning.proofs.keyed_mark.Reads as keyed_mark
use Rattle.meaning.proofs.keyed_mark.Kinds as keyed_mark_kinds
use Rattle.meaning.proofs.size.Reads as size
use Rattle.meaning.proofs.size.Kinds as size_kinds
use Rattle.meaning.proofs.binds.Reads as binds
use Rattle.meaning.proofs.binds.Kinds as binds_kinds

pub find_mark_only : (κs : Lfts 0) (a : Dens κs find_mark_kinds.ps) (r s : (res_t find_mark_kinds.r κs).Denot)
    (e f : AtExit (ended_of 0 find_mark_kinds.ps find_mark_kinds.r) κs) → find_mark.Post κs a r e → find_mark.Post κs a s f → r ≡ s
find_mark_only κs a r s e f p q = one_place r s (p ∙ sym q)

pub mark_row_only : (κs : Lfts 0) (a : Dens κs mark_row_kinds.ps) (r s : (res_t mark_row_kinds.r κs).Denot)
    (e f : AtExit (ended_of 0 mark_row_kinds.ps mark_row_kinds.r) κs) → mark_row.Post κs a r e → mark_row.Post κs a s f → r ≡ s
mark_row_only κs a r s e f p q = p ∙ sym q

pub size_only : (κs : Lfts 0) (a : Dens κs size_kinds.ps) (r s : (res_t size_kinds.r κs).Denot)
    (e f : AtExit (ended_of 0 size_kinds.ps size_kinds.r) κs) → size.Post κs a r e → size.Post κs a s f → r ≡ s
size_only κs a r s e f p q = p.0 ∙ sym q.0

pub binds_only : (κs : Lfts 0) (a : Dens κs binds_kinds.ps) (r s : (res_t binds_kinds.r κs).Denot)
    (e f : AtExit (ended_of 0 binds_kinds.ps binds_kinds.r) κs) → binds.Post κs a r e → binds.Post κs a s f → r ≡ s
binds_only κs a r s e f p q = p.0 ∙ sym q.0

pub keyed_mark_only : (κs : Lfts 0) (a : Dens κs keyed_mark_kinds.ps) (r s : (res_t keyed_mark_kinds.r κs).Denot)
    (e f : AtExit (ended_of 0 keyed_mark_kinds.ps keyed_mark_kinds.r) κs) → keyed_mark.Post κs a r e → keyed_mark.Post κs a s f → r ≡ s
keyed_mark_only κs a r s e f p q = one_place r s (p ∙ sym q)
