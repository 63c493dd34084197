-- `check_term` and `check_branches` meet their contracts. Assumes nothing.
use native.Mathlib.Omega.{arith}
use borrow.Author.Rules.{rules}
use Prim.Native.Nat.{◌-◌, ◌≤◌}
use mathlib.Core.Path.{refl, sym, subst, ap, ◌∙◌}
use mathlib.Core.Path.{◌≡◌}
use Rattle.std.specs.Prelude.{Err}
use Rattle.checker.specs.Node.{as_then}
use Rattle.checker.specs.Read.{as_read}
use Rattle.checker.specs.Slots.{digit, sort_number}
use Rattle.checker.specs.Bodies.{number_in, place_in, fault_after}
use Rattle.checker.proofs.bodies.Meeting.{node_read, branch_read}
use Rattle.checker.proofs.bodies.Terms.{met_low, no_fault, fault_passed, leaf_passed, one_passable, one_passed, two_passable, two_passed, many_passable, many_passed, one_placed, two_placed, many_placed, first_placed, second_placed, branch_placed, second_passable, two_both, two_one, end_passed, branch_faults, Branched, branch_passable, term_faults, branch_walked, none_walked}
use Rattle.checker.proofs.bodies.Making.{node_made}
use Rattle.checker.proofs.bodies.Telling.{digit_low, repeat_number, repeat_place}
use Rattle.checker.proofs.bodies.+check_branches_check_term.Goals as goal

pub check_term-returns-in_err-node : goal.check_term-returns-in_err-node
check_term-returns-in_err-node t c =
    let q : c.from_residual.result ≡ Err c.in_err-node.field-0.0 = search rules in
    rw q (fault_passed (record { passable = c.requires.0; node = c.in_err-node.ensures.node }) refl)

pub check_term-take_node-requires : goal.check_term-take_node-requires
check_term-take_node-requires t c =
    let l = met_low (record { passable = c.requires.0; node = c.in_ok-node.ensures.node }) in
    let w = node_read c.in_ok-node.ensures.node c.requires.0.inside (no_fault c.in_ok-node.node.then) in
    (l.0, c.in_ok-node.ensures.mark, l.1, w.fits)

pub check_term-check_term-requires : goal.check_term-check_term-requires
check_term-check_term-requires t c =
    let m = node_made (search rules) c.requires.0 c.in_ok-node.ensures.node (no_fault c.in_ok-node.node.then) c.take_node.ensures in
    let e = ap as_then c.in-One.is in
    let x = one_passable m e in (omega (arith, c.requires.0, x.0, x.1.inside), (x.1, one_placed m e c.requires.1))

pub check_term-check_term-requires-in-Two : goal.check_term-check_term-requires-in-Two
check_term-check_term-requires-in-Two t c =
    let m = node_made (search rules) c.requires.0 c.in_ok-node.ensures.node (no_fault c.in_ok-node.node.then) c.take_node.ensures in
    let e = ap as_then c.in-Two.is in
    let x = two_passable m e in (omega (arith, c.requires.0, x.0, x.1.inside), (x.1, first_placed (two_placed m e c.requires.1)))

pub check_term-check_term-requires-in-Two-2 : goal.check_term-check_term-requires-in-Two-2
check_term-check_term-requires-in-Two-2 t c =
    let m = node_made (search rules) c.requires.0 c.in_ok-node.ensures.node (no_fault c.in_ok-node.node.then) c.take_node.ensures in
    let e = ap as_then c.in-Two.is in
    let x = two_passable m e in
    let r = ap as_read c.in_ok-second-in-Two.was in
    let y = second_passable x.1 c.check_term-in-Two.ensures r in
    (omega (arith, c.requires.0, x.0, y.0, y.1.inside), (y.1, second_placed (two_placed m e c.requires.1) c.check_term-in-Two.ensures r))

pub check_term-returns-in_err-second-in-Two : goal.check_term-returns-in_err-second-in-Two
check_term-returns-in_err-second-in-Two t c =
    let m = node_made (search rules) c.requires.0 c.in_ok-node.ensures.node (no_fault c.in_ok-node.node.then) c.take_node.ensures in
    let q : c.from_residual-in_err-second-in-Two.result ≡ Err c.in_err-second-in-Two.field-0.0 = search rules in
    rw q (two_passed m (ap as_then c.in-Two.is) (two_one c.check_term-in-Two.ensures (ap as_read c.in_err-second-in-Two.was)))

pub check_term-check_branches-requires : goal.check_term-check_branches-requires
check_term-check_branches-requires t c =
    let m = node_made (search rules) c.requires.0 c.in_ok-node.ensures.node (no_fault c.in_ok-node.node.then) c.take_node.ensures in
    let e = ap as_then c.in-Many.is in
    let x = many_passable m e in (omega (arith, c.requires.0, x.0, x.1.inside), (x.1, many_placed m e c.requires.1))

pub check_term-returns-in-Leaf : goal.check_term-returns-in-Leaf
check_term-returns-in-Leaf t c = leaf_passed (node_made (search rules) c.requires.0 c.in_ok-node.ensures.node (no_fault c.in_ok-node.node.then) c.take_node.ensures) (ap as_then c.in-Leaf.is)

pub check_term-returns-in_ok-end-in-One : goal.check_term-returns-in_ok-end-in-One
check_term-returns-in_ok-end-in-One t c = one_passed (node_made (search rules) c.requires.0 c.in_ok-node.ensures.node (no_fault c.in_ok-node.node.then) c.take_node.ensures) (ap as_then c.in-One.is) (rw c.in_ok-end-in-One.was at c.check_term.ensures)

pub check_term-returns-in_err-end-in-One : goal.check_term-returns-in_err-end-in-One
check_term-returns-in_err-end-in-One t c =
    let q : c.from_residual-in_err-end-in-One.result ≡ Err c.in_err-end-in-One.field-0.0 = search rules in
    rw q (one_passed (node_made (search rules) c.requires.0 c.in_ok-node.ensures.node (no_fault c.in_ok-node.node.then) c.take_node.ensures) (ap as_then c.in-One.is) (rw c.in_err-end-in-One.was at c.check_term.ensures))

pub check_term-returns-in_ok-end-in-Two : goal.check_term-returns-in_ok-end-in-Two
check_term-returns-in_ok-end-in-Two t c =
    two_passed (node_made (search rules) c.requires.0 c.in_ok-node.ensures.node (no_fault c.in_ok-node.node.then) c.take_node.ensures) (ap as_then c.in-Two.is)
    (two_both c.check_term-in-Two.ensures (ap as_read c.in_ok-second-in-Two.was) (rw c.in_ok-end-in-Two.was at c.check_term-in-Two-2.ensures))

pub check_term-returns-in_err-end-in-Two : goal.check_term-returns-in_err-end-in-Two
check_term-returns-in_err-end-in-Two t c =
    let q : c.from_residual-in_err-end-in-Two.result ≡ Err c.in_err-end-in-Two.field-0.0 = search rules in
    rw q
    (two_passed (node_made (search rules) c.requires.0 c.in_ok-node.ensures.node (no_fault c.in_ok-node.node.then) c.take_node.ensures) (ap as_then c.in-Two.is)
    (two_both c.check_term-in-Two.ensures (ap as_read c.in_ok-second-in-Two.was) (rw c.in_err-end-in-Two.was at c.check_term-in-Two-2.ensures)))

pub check_term-returns-in-Many : goal.check_term-returns-in-Many
check_term-returns-in-Many t c = many_passed (node_made (search rules) c.requires.0 c.in_ok-node.ensures.node (no_fault c.in_ok-node.node.then) c.take_node.ensures) (ap as_then c.in-Many.is) c.check_branches.ensures

pub check_branches-branches-init : goal.check_branches-branches-init
check_branches-branches-init t c = none_walked (omega arith) c.requires.0.inside c.requires.1

pub check_branches-returns-in_err-after : goal.check_branches-returns-in_err-after
check_branches-returns-in_err-after t c =
    let q : c.from_residual.result ≡ Err c.in_err-after.field-0.0 = search rules in
    rw q (branch_faults c.branches.invariant c.requires.0 (omega (arith, c.branches-test.true)) (sym c.in_err-after.ensures))

pub check_branches-repeats-requires : goal.check_branches-repeats-requires
check_branches-repeats-requires t c = let x = branch_read (sym c.in_ok-after.ensures) c.branches.invariant.inside in rw c.byte-constructor.ensures.0 x.low

pub check_branches-branch_slots-inner-requires : goal.check_branches-branch_slots-inner-requires
check_branches-branch_slots-inner-requires t c = let x = branch_read (sym c.in_ok-after.ensures) c.branches.invariant.inside in (omega (arith, c.branches.invariant.inside, c.requires.0.small), rw c.byte-constructor.ensures.0 (subst (λ v. v ≤ 32) x.count x.fits))

pub check_branches-seeing-seen-requires : goal.check_branches-seeing-seen-requires
check_branches-seeing-seen-requires t c = let x = branch_read (sym c.in_ok-after.ensures) c.branches.invariant.inside in rw c.byte-constructor.ensures.0 x.low

pub check_branches-check_term-requires : goal.check_branches-check_term-requires
check_branches-check_term-requires t c =
    let a = c.args in
    let l = c.branches in
    let b : Branched a.rules.file.now a.rules.table.now.words a.start a.count (digit a.credit) (sort_number a.sort) a.slots a.path a.notes.now.calls (number_in a.notes.now.fault) (place_in a.notes.now.fault) l.at (a.count - l.counter) l.seen l.notes.calls (number_in l.notes.fault) (place_in l.notes.fault) c.in_ok-after.after c.byte-constructor.result c.branch_slots-inner.result (number_in c.fault.new.self.fault) (place_in c.fault.new.self.fault) =
    record {
      walked = l.invariant;
      passable = c.requires.0;
      wide = search rules;
      flag = digit_low a.credit;
      some = omega (arith, c.branches-test.true);
      read = sym c.in_ok-after.ensures;
      con = c.byte-constructor.ensures.0;
      kept = c.branch_slots-inner.ensures;
      fault = c.fault.ensures.number ∙ ap (fault_after (number_in l.notes.fault)) (repeat_number _ _ _ c.repeats.ensures);
      place = c.fault.ensures.place ∙ repeat_place _ _ _ (number_in l.notes.fault) (place_in l.notes.fault) c.repeats.ensures;
    } in
    let x = branch_passable b in (omega (arith, c.requires.0, x.0, x.1.inside), (x.1, branch_placed b))

pub check_branches-branches-preserved : goal.check_branches-branches-preserved
check_branches-branches-preserved t c =
    let a = c.args in
    let l = c.branches in
    let b : Branched a.rules.file.now a.rules.table.now.words a.start a.count (digit a.credit) (sort_number a.sort) a.slots a.path a.notes.now.calls (number_in a.notes.now.fault) (place_in a.notes.now.fault) l.at (a.count - l.counter) l.seen l.notes.calls (number_in l.notes.fault) (place_in l.notes.fault) c.in_ok-after.after c.byte-constructor.result c.branch_slots-inner.result (number_in c.fault.new.self.fault) (place_in c.fault.new.self.fault) =
    record {
      walked = l.invariant;
      passable = c.requires.0;
      wide = search rules;
      flag = digit_low a.credit;
      some = omega (arith, c.branches-test.true);
      read = sym c.in_ok-after.ensures;
      con = c.byte-constructor.ensures.0;
      kept = c.branch_slots-inner.ensures;
      fault = c.fault.ensures.number ∙ ap (fault_after (number_in l.notes.fault)) (repeat_number _ _ _ c.repeats.ensures);
      place = c.fault.ensures.place ∙ repeat_place _ _ _ (number_in l.notes.fault) (place_in l.notes.fault) c.repeats.ensures;
    } in
    branch_walked b (rw c.fault.ensures.calls at c.check_term.ensures) (ap as_read c.in_ok-at.was) c.seeing-seen.ensures (omega arith)

pub check_branches-returns-in_err-at : goal.check_branches-returns-in_err-at
check_branches-returns-in_err-at t c =
    let a = c.args in
    let l = c.branches in
    let b : Branched a.rules.file.now a.rules.table.now.words a.start a.count (digit a.credit) (sort_number a.sort) a.slots a.path a.notes.now.calls (number_in a.notes.now.fault) (place_in a.notes.now.fault) l.at (a.count - l.counter) l.seen l.notes.calls (number_in l.notes.fault) (place_in l.notes.fault) c.in_ok-after.after c.byte-constructor.result c.branch_slots-inner.result (number_in c.fault.new.self.fault) (place_in c.fault.new.self.fault) =
    record {
      walked = l.invariant;
      passable = c.requires.0;
      wide = search rules;
      flag = digit_low a.credit;
      some = omega (arith, c.branches-test.true);
      read = sym c.in_ok-after.ensures;
      con = c.byte-constructor.ensures.0;
      kept = c.branch_slots-inner.ensures;
      fault = c.fault.ensures.number ∙ ap (fault_after (number_in l.notes.fault)) (repeat_number _ _ _ c.repeats.ensures);
      place = c.fault.ensures.place ∙ repeat_place _ _ _ (number_in l.notes.fault) (place_in l.notes.fault) c.repeats.ensures;
    } in
    let q : c.from_residual-in_err-at.result ≡ Err c.in_err-at.field-0.0 = search rules in
    rw q (term_faults b (rw c.fault.ensures.calls at c.check_term.ensures) (ap as_read c.in_err-at.was))

pub check_branches-returns : goal.check_branches-returns
check_branches-returns t c = end_passed c.branches.invariant c.requires.0 (omega (arith, c.branches-test.false))
