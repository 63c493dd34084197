-- `calls::callees` meets its contract. Assumes nothing.
use Rattle.std.proofs.Common.{◌≡◌, sym, refl, ◌∙◌, not, false}
use denote.Enum.Bare.{sameb}
use Rattle.meaning.specs.contracts.How.{the_type}
use Rattle.meaning.specs.declared.How.{How}
use Rattle.meaning.specs.declared.How.TheVariants.{Never, Tail, Waits}
use Rattle.meaning.specs.Calls.{called, entry, row}
use Rattle.checker.proofs.sets.Digits.{bits_none}
use Rattle.checker.proofs.calls.Filling.{fill_start, fill_next, fill_out, fill_end}
use Rattle.checker.proofs.calls.callees.Goals as goal
use Rattle.checker.proofs.calls.callees.Goals.{then-ne, else-ne}

called_ne : (h : How) → not (sameb the_type h Never) ≡ called h
called_ne Never = refl
called_ne Tail = refl
called_ne Waits = refl

pub loop-g-init : goal.loop-g-init
loop-g-init c = bits_none 32 ∙ fill_start false (λ g. called (entry c.args.square.now c.args.f g))

pub loop-g-preserved : goal.loop-g-preserved
loop-g-preserved c =
    let l = c.loop-g in
    let how = entry c.args.square.now c.args.f in
    let e = c.ne.ensures ∙ called_ne (how l.g) in
    elim c.if-ne.branch [
      | then-ne w ↦ rw w.out-is (w.with-out.ensures.1 ∙ fill_next false l.g (λ g. called (how g)) c.loop-g-test.true l.invariant (sym w.if-ne.true ∙ e))
      | else-ne w ↦ rw w.out-is (l.invariant ∙ fill_out false l.g (λ g. called (how g)) c.loop-g-test.true (sym e ∙ w.if-ne.false))
    ]

pub returns : goal.returns
unfolding row
returns c = let l = c.loop-g in fill_end false l.g (λ g. called (entry c.args.square.now c.args.f g)) c.loop-g-test.false l.auto.g-end l.invariant
