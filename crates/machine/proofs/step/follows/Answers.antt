-- The proof of `follows`. Assumes nothing.
use Rattle.std.proofs.Common.{◌+◌, sym, refl, ap, subst, ◌∙◌, arith}
use Rattle.standing.specs.Bytes.{arity_in, params_in}
use Rattle.standing.proofs.Entries.{there}
use Rattle.machine.specs.Skips.{next_of, opens_of, SafeAt}
use Rattle.machine.proofs.step.Marked.{marked, followed, past_row, leaf_follows}
use Rattle.machine.proofs.step.follows.Goals as goal

pub byte-requires-in-OP : goal.byte-requires-in-OP
byte-requires-in-OP c = let s = (subst (λ x. SafeAt x c.args.rules.file.now c.args.at) (sym (marked _ (there c.args.rules.file.now c.args.at c.mark_at.result (omega (arith, c.requires.0)) c.mark_at.ensures c.unwrap_or-m.ensures)) ∙ c.in-OP.is) c.requires.1) in omega (arith, s)

pub byte-requires-in-LK : goal.byte-requires-in-LK
byte-requires-in-LK c = let s = (subst (λ x. SafeAt x c.args.rules.file.now c.args.at) (sym (marked _ (there c.args.rules.file.now c.args.at c.mark_at.result (omega (arith, c.requires.0)) c.mark_at.ensures c.unwrap_or-m.ensures)) ∙ c.in-LK.is) c.requires.1) in omega (arith, s)

pub returns-in-AT : goal.returns-in-AT
returns-in-AT c = let t = followed c.args.rules.file.now c.args.rules.table.now.words c.args.at (marked _ (there c.args.rules.file.now c.args.at c.mark_at.result (omega (arith, c.requires.0)) c.mark_at.ensures c.unwrap_or-m.ensures)) c.in-AT.is in let p = past_row c.args.at c.row.ensures c.from.ensures c.in-AT.is in (p ∙ ap next_of (sym t), ap opens_of (sym t))

pub returns-in-MK : goal.returns-in-MK
returns-in-MK c = let t = followed c.args.rules.file.now c.args.rules.table.now.words c.args.at (marked _ (there c.args.rules.file.now c.args.at c.mark_at.result (omega (arith, c.requires.0)) c.mark_at.ensures c.unwrap_or-m.ensures)) c.in-MK.is in let p = past_row c.args.at c.row.ensures c.from.ensures c.in-MK.is in ((λ i. p i + (c.arity.ensures.0 ∙ ap (arity_in c.args.rules.table.now.words) c.byte.ensures.0) i) ∙ ap next_of (sym t), ap opens_of (sym t))

pub returns-in-CL : goal.returns-in-CL
returns-in-CL c = let t = followed c.args.rules.file.now c.args.rules.table.now.words c.args.at (marked _ (there c.args.rules.file.now c.args.at c.mark_at.result (omega (arith, c.requires.0)) c.mark_at.ensures c.unwrap_or-m.ensures)) c.in-CL.is in let p = past_row c.args.at c.row.ensures c.from.ensures c.in-CL.is in ((λ i. p i + (c.parameters.ensures.0 ∙ ap (params_in c.args.rules.table.now.words) c.byte-in-CL.ensures.0) i) ∙ ap next_of (sym t), ap opens_of (sym t))

pub returns-in-TL : goal.returns-in-TL
returns-in-TL c = let t = followed c.args.rules.file.now c.args.rules.table.now.words c.args.at (marked _ (there c.args.rules.file.now c.args.at c.mark_at.result (omega (arith, c.requires.0)) c.mark_at.ensures c.unwrap_or-m.ensures)) c.in-TL.is in let p = past_row c.args.at c.row.ensures c.from.ensures c.in-TL.is in ((λ i. p i + (c.parameters-in-TL.ensures.0 ∙ ap (params_in c.args.rules.table.now.words) c.byte-in-TL.ensures.0) i) ∙ ap next_of (sym t), ap opens_of (sym t))

pub returns-in-OP : goal.returns-in-OP
returns-in-OP c = let t = followed c.args.rules.file.now c.args.rules.table.now.words c.args.at (marked _ (there c.args.rules.file.now c.args.at c.mark_at.result (omega (arith, c.requires.0)) c.mark_at.ensures c.unwrap_or-m.ensures)) c.in-OP.is in let p = past_row c.args.at c.row.ensures c.from.ensures c.in-OP.is in (p ∙ ap next_of (sym t), c.byte-in-OP.ensures.0 ∙ ap opens_of (sym t))

pub returns-in-LK : goal.returns-in-LK
returns-in-LK c = let t = followed c.args.rules.file.now c.args.rules.table.now.words c.args.at (marked _ (there c.args.rules.file.now c.args.at c.mark_at.result (omega (arith, c.requires.0)) c.mark_at.ensures c.unwrap_or-m.ensures)) c.in-LK.is in let p = past_row c.args.at c.row.ensures c.from.ensures c.in-LK.is in (p ∙ ap next_of (sym t), c.byte-in-LK.ensures.0 ∙ ap opens_of (sym t))

pub returns-in-BR : goal.returns-in-BR
returns-in-BR c = let t = followed c.args.rules.file.now c.args.rules.table.now.words c.args.at (marked _ (there c.args.rules.file.now c.args.at c.mark_at.result (omega (arith, c.requires.0)) c.mark_at.ensures c.unwrap_or-m.ensures)) c.in-BR.is in let p = past_row c.args.at c.row.ensures c.from.ensures c.in-BR.is in (p ∙ ap next_of (sym t), ap opens_of (sym t))

pub returns-in-NU : goal.returns-in-NU
returns-in-NU c = let t = followed c.args.rules.file.now c.args.rules.table.now.words c.args.at (marked _ (there c.args.rules.file.now c.args.at c.mark_at.result (omega (arith, c.requires.0)) c.mark_at.ensures c.unwrap_or-m.ensures)) c.in-NU.is in let p = past_row c.args.at c.row.ensures c.from.ensures c.in-NU.is in (p ∙ ap next_of (sym t), ap opens_of (sym t))

pub returns-in-AR : goal.returns-in-AR
returns-in-AR c = let t = followed c.args.rules.file.now c.args.rules.table.now.words c.args.at (marked _ (there c.args.rules.file.now c.args.at c.mark_at.result (omega (arith, c.requires.0)) c.mark_at.ensures c.unwrap_or-m.ensures)) c.in-AR.is in let p = past_row c.args.at c.row.ensures c.from.ensures c.in-AR.is in (p ∙ ap next_of (sym t), ap opens_of (sym t))

pub returns-in-IF : goal.returns-in-IF
returns-in-IF c = let t = followed c.args.rules.file.now c.args.rules.table.now.words c.args.at (marked _ (there c.args.rules.file.now c.args.at c.mark_at.result (omega (arith, c.requires.0)) c.mark_at.ensures c.unwrap_or-m.ensures)) c.in-IF.is in let p = past_row c.args.at c.row.ensures c.from.ensures c.in-IF.is in (p ∙ ap next_of (sym t), ap opens_of (sym t))

pub returns-in_default : goal.returns-in_default
returns-in_default c = let t = followed c.args.rules.file.now c.args.rules.table.now.words c.args.at (marked _ (there c.args.rules.file.now c.args.at c.mark_at.result (omega (arith, c.requires.0)) c.mark_at.ensures c.unwrap_or-m.ensures)) refl ∙ leaf_follows c.unwrap_or-m.result _ _ _ c.in_default.not-AT c.in_default.not-MK c.in_default.not-CL c.in_default.not-TL c.in_default.not-OP c.in_default.not-LK c.in_default.not-BR c.in_default.not-NU c.in_default.not-AR c.in_default.not-IF in let p = past_row c.args.at c.row.ensures c.from.ensures refl in (p ∙ ap next_of (sym t), ap opens_of (sym t))
