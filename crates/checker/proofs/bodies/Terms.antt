-- A term and a branch list, read and checked at once: what each way to go on asks of the one that follows, and what it answers from that
-- one's answer, of reading, the ownership and the calls. Assumes nothing.
use Prim.Native.Nat.{ℕ, suc, ◌+◌, ◌-◌, ◌^◌, ◌≤◌, ◌<◌}
use mathlib.Core.Bool.{Bool, false, true}
use mathlib.Core.List.{List}
use mathlib.Core.Path.{◌≡◌, refl, sym, ap, ◌∙◌, subst}
use lib.ListN.{length, get_or}
use lib.Bits.{bit_or}
use native.Mathlib.Omega.{arith}
use Rattle.meaning.specs.declared.Slot.{Slot}
use Rattle.meaning.specs.Choice.{pick}
use Rattle.meaning.specs.Marks.{find_mark, row_at}
use Rattle.standing.specs.Bytes.{byte_at, mark_at, arity_in}
use Rattle.checker.specs.declared.reading.Path.{Path}
use Rattle.checker.specs.Node.{Node}
use Rattle.checker.specs.Node.{Then}
use Rattle.checker.specs.Node as then
use Rattle.checker.specs.Read.{Read, Next, Fault}
use Rattle.checker.specs.Bits.{bits_of}
use Rattle.checker.specs.Slots.{kept_of}
use Rattle.checker.specs.Ownership.{Taken, taken_of, kind_by, then_of, credits_of, branch_of, repeat_of}
use Rattle.checker.specs.Noting.{note_at}
use Rattle.checker.specs.OwnershipReady.{Judged, Noted, JudgedAll, NotedAll, Made}
use Rattle.checker.specs.ReadingBytes.{path, node_at, branch_at}
use Rattle.checker.specs.Reads.{on, ReadsTerm, ReadsBranches}
use Rattle.checker.specs.Paths.{term, pair, list, behind, places_of, Leads, Placed}
use Rattle.checker.specs.Paths as paths
use Rattle.checker.specs.Bodies.{Passable, fault_after, place_after, Told, Passed, PassedTwo, one, both, PassedAll}
use Rattle.checker.specs.declared.reading.Then as code
use Rattle.checker.specs.Node.{as_then}
use Rattle.checker.proofs.reading.Steps.{fault_next, Fine, goes, leaf_of, one_of, two_of, many_of, fault_of, from_le, from_next, from_off, branch_off, pred_is}
use Rattle.checker.proofs.reading.Steps as steps
use Rattle.checker.proofs.ownership.Cycle.{node_stops, leaf_judged, one_judged, two_judged, many_judged, leaf_noted, one_noted, two_noted, many_noted}
use Rattle.checker.proofs.ownership.Cycle as cycle
use Rattle.checker.proofs.ownership.Branching.{Opened, end_judged, end_noted, branch_twice, branch_judged, branch_noted}
use Rattle.checker.proofs.ownership.Branching as branching
use Rattle.checker.proofs.bodies.Meeting.{NodeRead, BranchRead, branch_read}
use Rattle.checker.proofs.bodies.Placing.{node_places, branch_places}
use Rattle.checker.proofs.bodies.Telling.{none_told, told_on, told_past, told_both}

-- the node at a place
pub record NodeMet (f d : List ℕ) (at : ℕ) (p : Path) (n : Node) : Type 0 where
  pub passable : Passable f d at p
  pub node : n ≡ node_at f d at p

-- what follows a node that was read is no fault
pub no_fault : (t : code.Then) (x q : ℕ) → as_then t ≡ then.Fault x q → ⊥
no_fault (code.Then.Leaf n) x q e = let z : ◌≡◌ {A = ℕ} 0 1 = cc in absurd (omega arith)
no_fault (code.Then.One n) x q e = let z : ◌≡◌ {A = ℕ} 0 1 = cc in absurd (omega arith)
no_fault (code.Then.Two n) x q e = let z : ◌≡◌ {A = ℕ} 0 1 = cc in absurd (omega arith)
no_fault (code.Then.Many n k b) x q e = let z : ◌≡◌ {A = ℕ} 0 1 = cc in absurd (omega arith)

module _ {f d : List ℕ} {at : ℕ} {p : Path} {n : Node} (g : NodeMet f d at p n) where
  met_goes : Fine f at n
  met_goes = goes f d at p n g.node g.passable.inside g.passable.slots g.passable.nodes

  -- where a node is: a place and slots within the limits
  pub met_low : (at ≤ 4096) × (p.slots ≤ 32) × (length d ≡ 128)
  met_low = (omega (arith, g.passable.inside, g.passable.small), g.passable.slots, g.passable.wide)

  -- a node that does not read, whatever is noted
  pub fault_passed : {result : ℕ} {slots : List Slot} {w x q w' x' q' k s : ℕ} → n.then ≡ then.Fault k s → Passed f d at result slots p w x q w' x' q' (Fault k s)
  fault_passed {k = k} {s = s} e = record {
    from = fault_of e met_goes.ahead;
    reads = steps.fault_reads f d at p g.passable.inside n g.node k s e;
    told = λ m o. fault_next o;
  }

-- ---- a node that was taken, its call noted and its fault: one law for each way to go on
pub record NodeMade (f d : List ℕ) (at result : ℕ) (slots : List Slot) (p : Path) (n : Node) (inner : List Slot) (w x q v y z : ℕ) : Type 0 where
  pub met : NodeMet f d at p n
  pub wide : length slots ≡ 32
  pub read : NodeRead f d at p n
  pub mark : ℕ
  pub taken : Taken
  pub is_mark : mark ≡ find_mark (mark_at f at)
  pub takes : taken ≡ taken_of f d at slots p.slots mark result
  pub kept : inner ≡ kept_of slots taken.spent p.slots n.path.slots (kind_by f d at mark) at
  pub noted : v ≡ note_at f at mark w
  pub fault : y ≡ fault_after x taken.number
  pub place : z ≡ place_after x q taken.number taken.place

module _ {f d : List ℕ} {at result : ℕ} {slots : List Slot} {p : Path} {n : Node} {inner : List Slot} {w x q v y z : ℕ}
    (g : NodeMade f d at result slots p n inner w x q v y z) where
  fine : Fine f at n
  fine = met_goes g.met

  made : g.taken.number ≡ 0 → Made f d at result slots p.slots g.mark g.taken n.path.slots inner n.then
  made o = record {
    wide = g.wide;
    mark = g.is_mark;
    taken = g.takes;
    fine = o;
    count = g.read.slots ∙ ap (λ m. p.slots + (row_at m).binds) (sym g.is_mark);
    kept = g.kept;
    follows = g.read.follows ∙ ap (then_of f d at) (sym g.is_mark);
  }

  -- what bound the slots behind the node
  bound_by : places_of n.path.slots inner ≡ behind f at (places_of p.slots slots)
  bound_by =
      node_places f at slots g.taken.spent p.slots n.path.slots (kind_by f d at g.mark) g.wide g.is_mark
      (g.read.slots ∙ ap (λ m. p.slots + (row_at m).binds) (sym g.is_mark)) g.read.fits g.kept

  pub one_placed : {a : ℕ} → n.then ≡ then.One a → Placed f d (term at) p slots → Placed f d (term a) n.path inner
  one_placed {a} e l = record { leads = subst (Leads f d (term a) n.path) (sym bound_by) (paths.one l.leads g.met.node e) }

  pub two_placed : {a : ℕ} → n.then ≡ then.Two a → Placed f d (term at) p slots → Placed f d (pair a) n.path inner
  two_placed {a} e l = record { leads = subst (Leads f d (pair a) n.path) (sym bound_by) (paths.two l.leads g.met.node e) }

  pub many_placed : {a k credit : ℕ} → n.then ≡ then.Many a k credit → Placed f d (term at) p slots → Placed f d (list a k credit) n.path inner
  many_placed {a} {k} {credit} e l = record { leads = subst (Leads f d (list a k credit) n.path) (sym bound_by) (paths.many l.leads g.met.node e) }

  -- what is noted of the term, from what is noted of the rest where the node has no fault
  past : {J : Read → Type 0} {M : Type 0} {m w' x' q' : ℕ} → (g.taken.number ≡ 0 → (c : Read) → J c → Judged f d at result slots p.slots c)
      → (g.taken.number ≡ 0 → M → Noted f d at result p.slots w w') → Told J M m y z x' q'
      → Told (Judged f d at result slots p.slots) (Noted f d at result p.slots w w') m x q x' q'
  past {w' = w'} j h t =
      told_past g.fault g.place j (node_stops g.wide g.is_mark g.takes) h t

  -- a place behind the node's, from which on its path holds
  ahead : (a : ℕ) → at < a → a ≤ length f → (at < a) × Passable f d a n.path
  ahead a l h = (
    omega arith,
    record { small = g.met.passable.small; wide = g.met.passable.wide; inside = h; slots = fine.slots; nodes = fine.nodes },
  )

  pub leaf_passed : {a : ℕ} → n.then ≡ then.Leaf a → Passed f d at result slots p w x q v y z (Next a)
  leaf_passed {a} e =
      let k = leaf_of e fine.ahead in
      let l : at + 1 ≤ a = omega (arith, k.0) in
      record {
        from = on l k.1;
        reads = steps.leaf_reads f d at p g.met.passable.inside n g.met.node a e;
        told = λ m o.
            past (λ i c h. subst (Judged f d at result slots p.slots) (o ∙ sym h) (leaf_judged (made i) e)) (λ i _. leaf_noted (made i) e g.noted) none_told;
      }

  -- one term
  pub one_passable : {a : ℕ} → n.then ≡ then.One a → (at < a) × Passable f d a n.path
  one_passable {a} e = let k = one_of e fine.ahead in ahead a k.0 k.1

  pub one_passed : {a w' x' q' : ℕ} {c : Read} → n.then ≡ then.One a → Passed f d a result inner n.path v y z w' x' q' c → Passed f d at result slots p w x q w' x' q' c
  one_passed {a} {c = c} e h =
      let k = one_of e fine.ahead in
      record {
        from = from_le (omega (arith, k.0)) h.from;
        reads = steps.one_reads f d at p g.met.passable.inside n g.met.node a c e k.0 k.1 h.reads;
        told = λ m o. past (λ i c. one_judged (made i) e) (λ i. one_noted (made i) e g.noted) (h.told m o);
      }

  -- two terms, one after the other
  pub two_passable : {a : ℕ} → n.then ≡ then.Two a → (at < a) × Passable f d a n.path
  two_passable {a} e = let k = two_of e fine.ahead in ahead a k.0 k.1

  pub two_passed : {a w' x' q' : ℕ} {c : Read} → n.then ≡ then.Two a → PassedTwo f d a result inner n.path v y z w' x' q' c → Passed f d at result slots p w x q w' x' q' c
  two_passed {a} e (one {k = i} {s = s} h) =
      let k = two_of e fine.ahead in
      record {
        from = from_le (omega (arith, k.0)) h.from;
        reads = steps.two_stops f d at p g.met.passable.inside n g.met.node a i s e k.0 k.1 h.reads;
        told = λ m o. fault_next o;
      }
  two_passed {a} {w' = w'} e (both {b = b} {r = c} h i) =
      let k = two_of e fine.ahead in
      let l = from_next refl h.from in
      record {
        from = from_le (omega (arith, k.0, l.0)) i.from;
        reads = steps.two_reads f d at p g.met.passable.inside n g.met.node a b c e k.0 (omega (arith, l.0)) l.1 h.reads i.reads;
        told = λ m o.
            past {M = g.taken.number ≡ 0 → Noted f d at result p.slots w w'} (λ i c j. j i) (λ i j. j i)
            (told_both {L = λ c. g.taken.number ≡ 0 → Judged f d at result slots p.slots c} (h.told b refl)
            (λ j c c' i. two_judged (made i) e j refl c') (λ x q j i. cycle.two_stops (made i) e j refl) (λ j c c' i. two_noted (made i) e g.noted j refl c c') (i.told m o));
      }

  -- branches
  pub many_passable : {a k credit : ℕ} → n.then ≡ then.Many a k credit → (at < a) × Passable f d a n.path × (credit ≤ 1)
  many_passable {a} e =
      let k = many_of e fine.ahead in
      let l = ahead a k.0 k.1 in
      (l.0, l.1, k.2)

  pub many_passed : {a k credit w' x' q' : ℕ} {c : Read} → n.then ≡ then.Many a k credit → PassedAll f d a k credit result inner n.path v y z w' x' q' c
      → Passed f d at result slots p w x q w' x' q' c
  many_passed {a} {k} {credit} {c = c} e h =
      let l = many_of e fine.ahead in
      record {
        from = from_le (omega (arith, l.0)) h.from;
        reads = steps.many_reads f d at p g.met.passable.inside n g.met.node a k credit c e l.0 l.1 h.reads;
        told = λ m o. past (λ i c. many_judged (made i) e) (λ i. many_noted (made i) e g.noted) (h.told m o);
      }

-- two terms: the second lies behind the first
pub second_passable : {f d : List ℕ} {at result : ℕ} {slots : List Slot} {p : Path} {w x q u y z b : ℕ} {r : Read} → Passable f d at p → Passed f d at result slots p w x q u y z r → r ≡ Next b
    → (at < b) × Passable f d b p
second_passable k h e =
    let l = from_next e h.from in
    (omega (arith, l.0), record { small = k.small; wide = k.wide; inside = l.1; slots = k.slots; nodes = k.nodes })

pub first_placed : {f d : List ℕ} {at : ℕ} {p : Path} {slots : List Slot} → Placed f d (pair at) p slots → Placed f d (term at) p slots
first_placed l = record { leads = paths.first l.leads }

pub second_placed : {f d : List ℕ} {at result : ℕ} {slots : List Slot} {p : Path} {w x q u y z b : ℕ} {r : Read} → Placed f d (pair at) p slots → Passed f d at result slots p w x q u y z r
    → r ≡ Next b → Placed f d (term b) p slots
second_placed {f} {d} {at} {p = p} l h e = record { leads = paths.second l.leads (subst (ReadsTerm f d at p) e h.reads) }

pub two_both : {f d : List ℕ} {at result : ℕ} {slots : List Slot} {p : Path} {w x q u y z w' x' q' b : ℕ} {r s : Read} → Passed f d at result slots p w x q u y z r → r ≡ Next b
    → Passed f d b result slots p u y z w' x' q' s → PassedTwo f d at result slots p w x q w' x' q' s
two_both {f} {d} {at} {result} {slots} {p} {w} {x} {q} {u} {y} {z} h e i = both (subst (Passed f d at result slots p w x q u y z) e h) i

pub two_one : {f d : List ℕ} {at result : ℕ} {slots : List Slot} {p : Path} {w x q w' x' q' k s : ℕ} {r : Read} → Passed f d at result slots p w x q w' x' q' r → r ≡ Fault k s
    → PassedTwo f d at result slots p w x q w' x' q' (Fault k s)
two_one {f} {d} {at} {result} {slots} {p} {w} {x} {q} {w'} {x'} {q'} h e = one (subst (Passed f d at result slots p w x q w' x' q') e h)

-- ---- branches: from a place and what was noted before it, the rest reads, is judged, and calls, as the whole from its start on
pub record Walked (f d : List ℕ) (start count credit result : ℕ) (slots : List Slot) (p : Path) (w x q at left seen v y z : ℕ) : Type 0 where
  pub later : start ≤ at
  pub inside : at ≤ length f
  pub placed : Placed f d (list at left credit) p slots
  pub reads : (r : Read) → ReadsBranches f d at left credit p r → ReadsBranches f d start count credit p r
  pub told : (n w' x' q' : ℕ)
      → Told (JudgedAll f d at left credit seen result slots p.slots) (NotedAll f d at left credit result p.slots v w') n y z x' q'
      → Told (JudgedAll f d start count credit 0 result slots p.slots) (NotedAll f d start count credit result p.slots w w') n x q x' q'

pub none_walked : {f d : List ℕ} {start count credit result left : ℕ} {slots : List Slot} {p : Path} {w x q : ℕ} → left ≡ count → start ≤ length f → Placed f d (list start count credit) p slots
    → Walked f d start count credit result slots p w x q start left 0 w x q
none_walked {f} {d} {start} {count} {credit} {result} {left} {slots} {p} {w} {x} {q} e h l = subst (λ k. Walked f d start count credit result slots p w x q start k 0 w x q) (sym e) (record { later = omega arith; inside = h; placed = l; reads = λ r k. k; told = λ n w' x' q' t. t })

module _ {f d : List ℕ} {start count credit result : ℕ} {slots : List Slot} {p : Path} {w x q at left seen v y z : ℕ}
    (g : Walked f d start count credit result slots p w x q at left seen v y z) (k : Passable f d start p) where
  pub end_passed : left ≡ 0 → PassedAll f d start count credit result slots p w x q v y z (Next at)
  end_passed e = record {
    from = on g.later g.inside;
    reads = g.reads _ (steps.end_reads f d at credit p g.inside k.nodes left e);
    told = λ m o. g.told m v y z (told_on (λ r h. subst (JudgedAll f d at left credit seen result slots p.slots) (o ∙ sym h) (end_judged e)) (λ _. end_noted e) none_told);
  }

  pub branch_faults : {w' x' q' i s : ℕ} → (left ≡ 0 → ⊥) → branch_at f d at credit p.slots ≡ Fault i s → PassedAll f d start count credit result slots p w x q w' x' q' (Fault i s)
  branch_faults {i = i} {s = s} some e = record {
    from = branch_off f d at credit p.slots g.inside e;
    reads = g.reads _ (steps.branch_stops f d at credit p g.inside k.nodes (left - 1) left (pred_is left some) i s e);
    told = λ m o. fault_next o;
  }

-- a branch whose record reads, and the fault noted of a constructor that has one already
pub record Branched (f d : List ℕ) (start count credit result : ℕ) (slots : List Slot) (p : Path) (w x q at left seen v y z more c : ℕ) (inner : List Slot) (y' z' : ℕ) : Type 0 where
  pub walked : Walked f d start count credit result slots p w x q at left seen v y z
  pub passable : Passable f d start p
  pub wide : length slots ≡ 32
  pub flag : credit ≤ 1
  pub some : left ≡ 0 → ⊥
  pub read : branch_at f d at credit p.slots ≡ Next more
  pub con : c ≡ byte_at f (at + 2)
  pub kept : inner ≡ branch_of f d c at credit slots p.slots
  pub fault : y' ≡ fault_after y (repeat_of seen c)
  pub place : z' ≡ place_after y z (repeat_of seen c) (at + 2)

-- a constructor that is new, and one that is not
repeat_new : (seen c : ℕ) → repeat_of seen c ≡ 0 → get_or (bits_of 64 seen) c false ≡ false
unfolding repeat_of pick
repeat_new seen c = go (get_or (bits_of 64 seen) c false)
  where
    go : (b : Bool) → ◌≡◌ {A = ℕ} (pick b 12 0) 0 → b ≡ false
    go true e = absurd (omega (arith, e))
    go false e = refl

repeat_twice : (seen c : ℕ) → (repeat_of seen c ≡ 0 → ⊥) → (get_or (bits_of 64 seen) c false ≡ true) × (12 ≡ repeat_of seen c)
unfolding repeat_of pick
repeat_twice seen c = go (get_or (bits_of 64 seen) c false)
  where
    go : (b : Bool) → (◌≡◌ {A = ℕ} (pick b 12 0) 0 → ⊥) → (b ≡ true) × (◌≡◌ {A = ℕ} 12 (pick b 12 0))
    go true h = (refl, refl)
    go false h = absurd (h refl)

module _ {f d : List ℕ} {start count credit result : ℕ} {slots : List Slot} {p : Path} {w x q at left seen v y z more c : ℕ} {inner : List Slot} {y' z' : ℕ}
    (g : Branched f d start count credit result slots p w x q at left seen v y z more c inner y' z') where
  record_read : BranchRead f d at credit p.slots more
  record_read = branch_read g.read g.walked.inside

  opened : get_or (bits_of 64 seen) c false ≡ false → Opened f d at left credit seen slots p.slots c (arity_in d c) (credits_of (arity_in d c) credit) inner
  opened o = record { wide = g.wide; some = g.some; con = g.con; new = o; arity = refl; kept = g.kept; extra = refl }

  more_is : more ≡ p.slots + arity_in d c + credits_of (arity_in d c) credit
  more_is = record_read.count ∙ ap (λ i. p.slots + arity_in d i + credits_of (arity_in d i) credit) (sym g.con)

  -- the branches that are left, this one among them
  placed_here : Leads f d (list at (suc (left - 1)) credit) p (places_of p.slots slots)
  placed_here = subst (λ i. Leads f d (list at i credit) p (places_of p.slots slots)) (pred_is left g.some) g.walked.placed.leads

  pub branch_placed : Placed f d (term (at + 3)) (path more p.nodes) inner
  branch_placed = record {
    leads = subst (Leads f d (term (at + 3)) (path more p.nodes)) (sym (branch_places f d at credit slots p.slots g.flag g.wide g.con more_is record_read.fits g.kept))
        (paths.branch placed_here g.read);
  }

  later_placed : {n : ℕ} → ReadsTerm f d (at + 3) (path more p.nodes) (Next n) → Placed f d (list n (left - 1) credit) p slots
  later_placed h = record { leads = paths.later placed_here g.read h }

  branch_told : {r : Read} → Judged f d (at + 3) result inner more r → Judged f d (at + 3) result inner (p.slots + arity_in d c + credits_of (arity_in d c) credit) r
  branch_told {r} j = subst (λ i. Judged f d (at + 3) result inner i r) more_is j

  pub branch_passable : (start < at + 3) × Passable f d (at + 3) (path more p.nodes)
  branch_passable = (
    omega (arith, g.walked.later),
    record { small = g.passable.small; wide = g.passable.wide; inside = record_read.inside; slots = record_read.fits; nodes = g.passable.nodes },
  )

  pub term_faults : {w' x' q' i s : ℕ} {r : Read} → Passed f d (at + 3) result inner (path more p.nodes) v y' z' w' x' q' r → r ≡ Fault i s
      → PassedAll f d start count credit result slots p w x q w' x' q' (Fault i s)
  term_faults {i = i} {s = s} h e = record {
    from = from_off e h.from;
    reads = g.walked.reads _
        (steps.term_stops f d at credit p g.walked.inside g.passable.nodes (left - 1) left (pred_is left g.some) more i s g.read record_read.inside
        (subst (ReadsTerm f d (at + 3) (path more p.nodes)) e h.reads));
    told = λ m o. fault_next o;
  }

  pub branch_walked : {n seen' v' x' q' : ℕ} {r : Read} → Passed f d (at + 3) result inner (path more p.nodes) v y' z' v' x' q' r → r ≡ Next n → seen' ≡ bit_or seen (2 ^ c) → {rest : ℕ} → rest ≡ left - 1
      → Walked f d start count credit result slots p w x q n rest seen' v' x' q'
  branch_walked {n} {seen'} {v'} {x'} {q'} h e es {rest} er =
      let l = from_next e h.from in
      subst (λ k. Walked f d start count credit result slots p w x q n k seen' v' x' q') (sym er) (record {
        later = omega (arith, g.walked.later, l.0);
        inside = l.1;
        placed = later_placed (subst (ReadsTerm f d (at + 3) (path more p.nodes)) e h.reads);
        reads = λ r b.
            g.walked.reads r
            (steps.branch_reads f d at credit p g.walked.inside g.passable.nodes (left - 1) left (pred_is left g.some) more n r g.read record_read.inside (omega (arith, l.0)) l.1
            (subst (ReadsTerm f d (at + 3) (path more p.nodes)) e h.reads) b);
        told = λ m w'' x'' q'' t.
            g.walked.told m w'' x'' q''
            (told_past {M = get_or (bits_of 64 seen) c false ≡ false → NotedAll f d at left credit result p.slots v w''} g.fault g.place (λ o r j. j (repeat_new seen c o))
            (λ o. let k = repeat_twice seen c o in subst (λ i. JudgedAll f d at left credit seen result slots p.slots (Fault i (at + 2))) k.1 (branch_twice g.wide g.some g.con k.0))
            (λ o j. j (repeat_new seen c o))
            (told_both {L = λ r. get_or (bits_of 64 seen) c false ≡ false → JudgedAll f d at left credit seen result slots p.slots r} (h.told n e)
            (λ j r i o. branch_judged (opened o) (branch_told j) refl es i) (λ i s j o. branching.branch_stops (opened o) (branch_told j) refl)
            (λ j i i' o. branch_noted (opened o) (branch_told j) refl (subst (λ k. Noted f d (at + 3) result k v v') more_is i) i') t));
      })
