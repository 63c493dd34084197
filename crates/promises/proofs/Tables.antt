-- No two answers meet the promises of what reads bytes, marks and the table of declarations. Assumes nothing.
use mathlib.Core.Path.{◌≡◌, sym, ◌∙◌}
use contract.Lifetimes.{Lfts}
use borrow.Fn.Kinds.{Dens, res_t, ended_of}
use denote.Triple.Clauses.{AtExit}
use Rattle.standing.proofs.Entries.{one_read}
use Rattle.standing.proofs.byte_at.Reads as byte_at
use Rattle.standing.proofs.byte_at.Kinds as byte_at_kinds
use Rattle.standing.proofs.mark_at.Reads as mark_at
use Rattle.standing.proofs.mark_at.Kinds as mark_at_kinds
use Rattle.standing.proofs.entry_word.Reads as entry_word
use Rattle.standing.proofs.entry_word.Kinds as entry_word_kinds
use Rattle.standing.proofs.Table.arity.Reads as arity
use Rattle.standing.proofs.Table.arity.Kinds as arity_kinds
use Rattle.standing.proofs.Table.sorts.Reads as sorts
use Rattle.standing.proofs.Table.sorts.Kinds as sorts_kinds
use Rattle.standing.proofs.Table.parameters.Reads as parameters
use Rattle.standing.proofs.Table.parameters.Kinds as parameters_kinds
use Rattle.standing.proofs.Table.modes.Reads as modes
use Rattle.standing.proofs.Table.modes.Kinds as modes_kinds
use Rattle.standing.proofs.Rules.result.Reads as result
use Rattle.standing.proofs.Rules.result.Kinds as result_kinds
use Rattle.standing.proofs.Table.body.Reads as body
use Rattle.standing.proofs.Table.body.Kinds as body_kinds

pub byte_at_only : (κs : Lfts 1) (a : Dens κs byte_at_kinds.ps) (r s : (res_t byte_at_kinds.r κs).Denot)
    (e f : AtExit (ended_of 1 byte_at_kinds.ps byte_at_kinds.r) κs) → byte_at.Post κs a r e → byte_at.Post κs a s f → r ≡ s
byte_at_only κs a r s e f p q = p.0 ∙ sym q.0

pub mark_at_only : (κs : Lfts 1) (a : Dens κs mark_at_kinds.ps) (r s : (res_t mark_at_kinds.r κs).Denot)
    (e f : AtExit (ended_of 1 mark_at_kinds.ps mark_at_kinds.r) κs) → mark_at.Post κs a r e → mark_at.Post κs a s f → r ≡ s
mark_at_only κs a r s e f p q = one_read r s (p ∙ sym q)

pub entry_word_only : (κs : Lfts 0) (a : Dens κs entry_word_kinds.ps) (r s : (res_t entry_word_kinds.r κs).Denot)
    (e f : AtExit (ended_of 0 entry_word_kinds.ps entry_word_kinds.r) κs) → entry_word.Post κs a r e → entry_word.Post κs a s f → r ≡ s
entry_word_only κs a r s e f p q = p ∙ sym q

pub arity_only : (κs : Lfts 1) (a : Dens κs arity_kinds.ps) (r s : (res_t arity_kinds.r κs).Denot)
    (e f : AtExit (ended_of 1 arity_kinds.ps arity_kinds.r) κs) → arity.Post κs a r e → arity.Post κs a s f → r ≡ s
arity_only κs a r s e f p q = p.0 ∙ sym q.0

pub sorts_only : (κs : Lfts 1) (a : Dens κs sorts_kinds.ps) (r s : (res_t sorts_kinds.r κs).Denot)
    (e f : AtExit (ended_of 1 sorts_kinds.ps sorts_kinds.r) κs) → sorts.Post κs a r e → sorts.Post κs a s f → r ≡ s
sorts_only κs a r s e f p q = p.0 ∙ sym q.0

pub parameters_only : (κs : Lfts 1) (a : Dens κs parameters_kinds.ps) (r s : (res_t parameters_kinds.r κs).Denot)
    (e f : AtExit (ended_of 1 parameters_kinds.ps parameters_kinds.r) κs) → parameters.Post κs a r e → parameters.Post κs a s f → r ≡ s
parameters_only κs a r s e f p q = p.0 ∙ sym q.0

pub modes_only : (κs : Lfts 1) (a : Dens κs modes_kinds.ps) (r s : (res_t modes_kinds.r κs).Denot)
    (e f : AtExit (ended_of 1 modes_kinds.ps modes_kinds.r) κs) → modes.Post κs a r e → modes.Post κs a s f → r ≡ s
modes_only κs a r s e f p q = p.0 ∙ sym q.0

pub result_only : (κs : Lfts 1) (a : Dens κs result_kinds.ps) (r s : (res_t result_kinds.r κs).Denot)
    (e f : AtExit (ended_of 1 result_kinds.ps result_kinds.r) κs) → result.Post κs a r e → result.Post κs a s f → r ≡ s
result_only κs a r s e f p q = p.0 ∙ sym q.0

pub body_only : (κs : Lfts 1) (a : Dens κs body_kinds.ps) (r s : (res_t body_kinds.r κs).Denot)
    (e f : AtExit (ended_of 1 body_kinds.ps body_kinds.r) κs) → body.Post κs a r e → body.Post κs a s f → r ≡ s
body_only κs a r s e f p q = p.0 ∙ sym q.0
