-- `calls::square_of` meets its contract. Assumes nothing.
use Rattle.std.proofs.Common.{ℕ, List, [], ap, ◌∙◌, get_or, replicate}
use Rattle.std.proofs.lemmas.List.{set-get_or}
use Rattle.meaning.specs.declared.How.{How}
use Rattle.meaning.specs.declared.How.TheVariants.{Never}
use Rattle.checker.specs.Square.{row_of, square_of}
use Rattle.checker.proofs.calls.Filling.{fill_start, fill_next, fill_out, fill_end, row_none}
use Rattle.checker.proofs.calls.square_of.Goals as goal
use Rattle.checker.proofs.calls.square_of.Goals.{then-calls-f-ne0, else-calls-f-ne0}

abbrev none : List How
none = replicate 32 Never

abbrev rows : List ℕ → ℕ → List How
rows words = λ f. row_of (get_or words f 0)

pub loop-f-init : goal.loop-f-init
loop-f-init c = fill_start none (rows c.args.calls.now)

pub loop-f-preserved : goal.loop-f-preserved
loop-f-preserved c =
    let l = c.loop-f in
    let made = rows c.args.calls.now in
    elim c.if-calls-f-ne0.branch [
      | then-calls-f-ne0 w ↦ w.row-items-is ∙ fill_next none l.f made c.loop-f-test.true l.invariant w.row_of.ensures
      | else-calls-f-ne0 w ↦ w.row-items-is ∙ set-get_or l.row-items l.f [] ∙ l.invariant ∙ fill_out none l.f made c.loop-f-test.true (ap row_of w.if-calls-f-ne0.false ∙ row_none)
    ]

pub returns : goal.returns
unfolding square_of
returns c = let l = c.loop-f in fill_end none l.f (rows c.args.calls.now) c.loop-f-test.false l.auto.f-end l.invariant
