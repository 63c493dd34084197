-- `checker::bodies::take_node` meets its contract. Assumes nothing.
use mathlib.Core.Path.{refl}
use Rattle.meaning.specs.Marks.{place_of}
use Rattle.checker.specs.Ownership.{as_taken}
use Rattle.checker.proofs.bodies.Making.{node_taken, one_bound, none_bound}
use Rattle.checker.proofs.bodies.take_node.Goals as goal

pub returns-then-bound-after : goal.returns-then-bound-after
returns-then-bound-after c =
    let a = c.args in
    let f = a.rules.file.now in
    let d = a.rules.table.now.words in
    let t = as_taken c.take_record-taken.result in
    let e = c.spend_taken.ensures in
    node_taken f d a.at a.sort a.bound a.after a.slots.now a.notes.now c.call.new.self c.spend_taken.new.notes (place_of a.mark) c.requires.1 c.call.ensures.calls c.call.ensures.fault c.take_record-taken.ensures e.slots e.calls e.number e.place
    (λ s. one_bound f d a.at (place_of a.mark) t.spent a.bound a.after a.slots.now c.spend_taken.new.slots _ s refl c.if-bound-after.true c.bound_kind.ensures)

pub returns-else-bound-after : goal.returns-else-bound-after
returns-else-bound-after c =
    let a = c.args in
    let f = a.rules.file.now in
    let d = a.rules.table.now.words in
    let t = as_taken c.take_record-taken.result in
    let e = c.spend_taken.ensures in
    node_taken f d a.at a.sort a.bound a.after a.slots.now a.notes.now c.call.new.self c.spend_taken.new.notes (place_of a.mark) c.requires.1 c.call.ensures.calls c.call.ensures.fault c.take_record-taken.ensures e.slots e.calls e.number e.place
    (λ s. none_bound f d a.at (place_of a.mark) t.spent a.bound a.after a.slots.now c.spend_taken.new.slots _ s refl c.if-bound-after.false)
