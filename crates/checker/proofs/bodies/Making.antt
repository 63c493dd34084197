-- A node that was taken, its slots spent and bound and its call noted. Assumes nothing.
use Prim.Native.Nat.{ℕ, ◌≤◌, ◌<◌}
use mathlib.Core.List.{List}
use mathlib.Core.Path.{◌≡◌, sym, ap, ◌∙◌}
use lib.ListN.{length, set}
use Rattle.meaning.specs.declared.Slot.{Slot}
use Rattle.meaning.specs.declared.Kind.{Kind}
use Rattle.meaning.specs.Marks.{find_mark}
use Rattle.standing.specs.Bytes.{mark_at}
use Rattle.checker.specs.declared.reading.Path.{Path}
use Rattle.checker.specs.Node.{Node}
use Rattle.checker.specs.Node as then
use Rattle.checker.specs.Bits.{bits_of}
use Rattle.checker.specs.Slots.{spent_by, kept_of, bound_slot}
use Rattle.checker.specs.Ownership.{Taken, taken_of, kind_by}
use Rattle.checker.specs.Noting.{note_at}
use Rattle.checker.specs.ReadingBytes.{node_at}
use Rattle.checker.specs.declared.slots.Sort.{Sort}
use Rattle.checker.specs.declared.bodies.Notes.{Notes}
use Rattle.checker.specs.Slots.{sort_number}
use Rattle.checker.specs.Bodies.{Passable, fault_after, place_after, number_in, place_in, NodeTaken}
use Rattle.checker.proofs.ownership.Turns.{kept_bound, kept_all}
use Rattle.checker.proofs.bodies.Meeting.{node_read}
use Rattle.checker.proofs.bodies.Terms.{NodeMade}

-- the slots behind a node, with the one that it binds and without
module _ (f d : List ℕ) (at m gone bound more : ℕ) (slots out inner : List Slot) (s : spent_by (bits_of 32 gone) slots ≡ out) where
  pub one_bound : {b : Kind} → inner ≡ set out bound (bound_slot b at) → bound < more → b ≡ kind_by f d at m → inner ≡ kept_of slots gone bound more (kind_by f d at m) at
  one_bound {b} e l q = e ∙ kept_bound slots out gone bound more b at s l ∙ ap (λ x. kept_of slots gone bound more x at) q

  pub none_bound : inner ≡ out → more ≤ bound → inner ≡ kept_of slots gone bound more (kind_by f d at m) at
  none_bound e l = e ∙ kept_all slots out gone bound more (kind_by f d at m) at s l

-- a node whose record was taken, from what was taken, its call noted, and what is spent of it or noted of its fault
module _ (f d : List ℕ) (at : ℕ) (s : Sort) (bound more : ℕ) (slots : List Slot) (a n b : Notes) (m : ℕ) where
  pub node_taken : {t : Taken} {out inner : List Slot} → m ≡ find_mark (mark_at f at) → n.calls ≡ note_at f at m a.calls → n.fault ≡ a.fault → t ≡ taken_of f d at slots bound m (sort_number s)
      → out ≡ spent_by (bits_of 32 t.spent) slots → b.calls ≡ n.calls → number_in b.fault ≡ fault_after (number_in n.fault) t.number
      → place_in b.fault ≡ place_after (number_in n.fault) (place_in n.fault) t.number t.place
      → (spent_by (bits_of 32 t.spent) slots ≡ out → inner ≡ kept_of slots t.spent bound more (kind_by f d at m) at) → NodeTaken f d at s bound more slots a inner b
  node_taken {t = t} is calls fault takes eo ec en ep kept = record {
    mark = m;
    taken = t;
    is_mark = is;
    takes = takes;
    kept = kept (sym eo);
    noted = ec ∙ calls;
    fault = en ∙ ap (λ x. fault_after (number_in x) t.number) fault;
    place = ep ∙ ap (λ x. place_after (number_in x) (place_in x) t.number t.place) fault;
  }

-- what a node's record comes to, at the place of a node that reads, is the node that was taken
pub node_made : {f d : List ℕ} {at : ℕ} {s : Sort} {p : Path} {n : Node} {slots inner : List Slot} {a b : Notes} → length slots ≡ 32 → (k : Passable f d at p) → n ≡ node_at f d at p
    → ((i s : ℕ) → n.then ≡ then.Fault i s → ⊥) → NodeTaken f d at s p.slots n.path.slots slots a inner b
    → NodeMade f d at (sort_number s) slots p n inner a.calls (number_in a.fault) (place_in a.fault) b.calls (number_in b.fault) (place_in b.fault)
node_made wide k e reads t = record {
  met = record { passable = k; node = e };
  wide = wide;
  read = node_read e k.inside reads;
  mark = t.mark;
  taken = t.taken;
  is_mark = t.is_mark;
  takes = t.takes;
  kept = t.kept;
  noted = t.noted;
  fault = t.fault;
  place = t.place;
}
