-- A term and a branch list by the bytes, step by step: what a node or a branch asks of the one that follows, and what it answers from that
-- one's answer. Assumes nothing.
use Prim.Native.Nat.{ℕ, ◌+◌, ◌≤◌}
use mathlib.Core.Path.{◌≡◌, refl, sym, ap, ◌∙◌, subst}
use mathlib.Core.List.{List, []}
use mathlib.Core.Bool.{true, false}
use native.Mathlib.Omega.{arith}
use lib.ListN.{length}
use lib.Dec.{eqb}
use borrow.Author.Tests.{eq-eqb, ne_eqb}
use Rattle.meaning.specs.declared.Slot.{Slot}
use Rattle.meaning.specs.Marks.{find_mark, row_at}
use Rattle.meaning.specs.Plain.{place_of}
use Rattle.meaning.specs.Outcome.{Outcome, ok, refuse, then}
use Rattle.meaning.specs.Ownership.{check}
use Rattle.meaning.specs.Calls.{calls, calls_branches}
use Rattle.standing.specs.Bytes.{mark_at}
use Rattle.checker.specs.Node.{Then, Leaf, One, Two, Many}
use Rattle.checker.specs.Read.{Read, Next, Fault}
use Rattle.checker.specs.Slots.{slots_of}
use Rattle.checker.specs.Ownership.{Taken, taken_of}
use Rattle.checker.specs.Noting.{note_at, note_calls}
use Rattle.checker.specs.OwnershipReady.{spanned, Ready, Judged, Noted, Made, ReadyAll, JudgedAll, NotedAll}
use Rattle.checker.proofs.ownership.Taking.{alike_none}
use Rattle.checker.proofs.ownership.Nodes.{Goes, node}

-- what an answer says of the check
pub spanned_next : (n k : ℕ) (o : Outcome (Unit {0})) → Next k ≡ spanned n o → (o ≡ ok tt) × (k ≡ n)
unfolding spanned
spanned_next n k (ok u) e = (refl, cc)
spanned_next n k (refuse a b) e = let z : ◌≡◌ {A = ℕ} 0 1 = cc in absurd (omega arith)

pub spanned_fault : (n a b : ℕ) (o : Outcome (Unit {0})) → Fault a b ≡ spanned n o → o ≡ refuse a b
unfolding spanned
spanned_fault n a b (ok u) e = let z : ◌≡◌ {A = ℕ} 0 1 = cc in absurd (omega arith)
spanned_fault n a b (refuse x y) e = let p : x ≡ a = cc in let q : y ≡ b = cc in rw (p, q)

-- ---- a node of a term

module _ (bytes decl : List ℕ) (at result : ℕ) (slots : List Slot) (wide : length slots ≡ 32) (bound : ℕ) where
  abbrev Follow : Ready bytes decl at result bound → Then → (m more : ℕ) → List Slot → Type 0
  Follow g f m more inner = Goes g.file bytes decl g.declared g.sort slots wide bound g.few f m g.term g.next more inner

  room : {m more : ℕ} (g : Ready bytes decl at result bound) → m ≡ find_mark (mark_at bytes at) → more ≡ bound + (row_at m).binds → more ≤ 32
  room {m} {more} g e q = rw (q, e, ← g.here) (node g.file bytes decl g.declared g.sort slots wide bound g.few g.stands).room

  stops : {m : ℕ} {t : Taken} → m ≡ find_mark (mark_at bytes at) → t ≡ taken_of bytes decl at slots bound m result → (t.number ≡ 0 → ⊥)
      → Judged bytes decl at result slots bound (Fault t.number t.place)
  unfolding spanned
  stops {m} {t} em et n = record {
    judged = λ g.
        let q : eqb t.number 0 ≡ false = ne_eqb t.number 0 n in
        let x = (node g.file bytes decl g.declared g.sort slots wide bound g.few g.stands).stops in
        let y = rw (g.here, g.wanted, ← em, ← et) at x in
        sym (ap (spanned g.next) (y q));
  }

  view : {m more : ℕ} {t : Taken} {inner : List Slot} {f : Then} → Made bytes decl at result slots bound m t more inner f → (g : Ready bytes decl at result bound) → Follow g f m more inner
  view {m} {more} {t} {inner} {f} w g =
      let q : eqb t.number 0 ≡ true = eq-eqb t.number 0 w.fine in
      let x = (node g.file bytes decl g.declared g.sort slots wide bound g.few g.stands).goes in
      let y = rw (g.here, g.wanted, ← w.mark, ← w.taken, ← w.count, ← w.kept, ← w.follows) at x in
      y q

module _ {bytes decl : List ℕ} {at result : ℕ} {slots : List Slot} {bound m more : ℕ} {t : Taken} {inner : List Slot} {f : Then}
    (w : Made bytes decl at result slots bound m t more inner f) where
  abbrev viewed : (x : Then) → f ≡ x → (g : Ready bytes decl at result bound) → Follow bytes decl at result slots w.wide bound g x m more inner
  viewed x e g = subst (λ y. Follow bytes decl at result slots w.wide bound g y m more inner) e (view bytes decl at result slots w.wide bound w g)

  pub leaf_judged : {n : ℕ} → f ≡ Leaf n → Judged bytes decl at result slots bound (Next n)
  unfolding spanned
  leaf_judged {n} e = record {
    judged = λ g.
        let v = viewed (Leaf n) e g in
        ap Next v.0 ∙ sym (ap (spanned g.next) v.1);
  }

  one_ready : {n : ℕ} → f ≡ One n → Ready bytes decl at result bound → Ready bytes decl n result more
  one_ready {n} e g =
      let v = viewed (One n) e g in
      record {
        file = g.file;
        declared = g.declared;
        sort = g.sort;
        wanted = g.wanted;
        term = v.0;
        next = g.next;
        here = v.1;
        stands = v.3;
        few = room bytes decl at result slots w.wide bound g w.mark w.count;
      }

  pub one_judged : {n : ℕ} {r : Read} → f ≡ One n → Judged bytes decl n result inner more r → Judged bytes decl at result slots bound r
  unfolding one_ready
  one_judged {n} {r} e j = record {
    judged = λ g.
        let v = viewed (One n) e g in
        j.judged (one_ready e g) ∙ sym (ap (spanned g.next) v.4);
  }

  -- two terms, one after the other
  two_ready : {n : ℕ} → f ≡ Two n → Ready bytes decl at result bound → Ready bytes decl n result more
  two_ready {n} e g =
      let v = viewed (Two n) e g in
      record {
        file = g.file;
        declared = g.declared;
        sort = g.sort;
        wanted = g.wanted;
        term = v.0;
        next = v.2;
        here = v.3;
        stands = v.5;
        few = room bytes decl at result slots w.wide bound g w.mark w.count;
      }

  pub two_stops : {n a b : ℕ} {r : Read} → f ≡ Two n → Judged bytes decl n result inner more r → r ≡ Fault a b → Judged bytes decl at result slots bound (Fault a b)
  unfolding two_ready spanned
  two_stops {n} {a} {b} {r} e j q = record {
    judged = λ g.
        let v = viewed (Two n) e g in
        let x = spanned_fault v.2 a b (check g.file.constructors g.file.functions g.sort v.0 (slots_of more inner)) (sym q ∙ j.judged (two_ready e g)) in
        sym (ap (spanned g.next) (v.8 ∙ ap (λ o. then o (λ _. check g.file.constructors g.file.functions g.sort v.1 (slots_of more inner))) x));
  }

  two_told : {n k : ℕ} {r : Read} → (e : f ≡ Two n) → Judged bytes decl n result inner more r → r ≡ Next k → (g : Ready bytes decl at result bound)
      → (check g.file.constructors g.file.functions g.sort (viewed (Two n) e g).0 (slots_of more inner) ≡ ok tt) × (k ≡ (viewed (Two n) e g).2)
  unfolding two_ready
  two_told {n} {k} {r} e j q g = spanned_next (viewed (Two n) e g).2 k (check g.file.constructors g.file.functions g.sort (viewed (Two n) e g).0 (slots_of more inner)) (sym q ∙ j.judged (two_ready e g))

  second_ready : {n k : ℕ} {r : Read} → f ≡ Two n → Judged bytes decl n result inner more r → r ≡ Next k → Ready bytes decl at result bound
      → Ready bytes decl k result more
  second_ready {n} {k} {r} e j q g =
      let v = viewed (Two n) e g in
      record {
        file = g.file;
        declared = g.declared;
        sort = g.sort;
        wanted = g.wanted;
        term = v.1;
        next = g.next;
        here = v.6 ∙ sym (two_told e j q g).1;
        stands = v.7;
        few = room bytes decl at result slots w.wide bound g w.mark w.count;
      }

  pub two_judged : {n k : ℕ} {r s : Read} → f ≡ Two n → Judged bytes decl n result inner more r → r ≡ Next k → Judged bytes decl k result inner more s
      → Judged bytes decl at result slots bound s
  unfolding second_ready
  two_judged {n} {k} {r} {s} e j q i = record {
    judged = λ g.
        let v = viewed (Two n) e g in
        i.judged (second_ready e j q g)
        ∙ sym (ap (spanned g.next) (v.8 ∙ ap (λ o. then o (λ _. check g.file.constructors g.file.functions g.sort v.1 (slots_of more inner))) (two_told e j q g).0));
  }

  -- branches
  many_ready : {n left credit : ℕ} → f ≡ Many n left credit → Ready bytes decl at result bound → ReadyAll bytes decl n left credit result more
  many_ready {n} {left} {credit} e g =
      let v = viewed (Many n left credit) e g in
      record {
        file = g.file;
        declared = g.declared;
        sort = g.sort;
        wanted = g.wanted;
        branches = v.0;
        next = g.next;
        many = v.1;
        each = v.3;
        few = room bytes decl at result slots w.wide bound g w.mark w.count;
        flag = v.4;
      }

  pub many_judged : {n left credit : ℕ} {r : Read} → f ≡ Many n left credit → JudgedAll bytes decl n left credit 0 result inner more r → Judged bytes decl at result slots bound r
  unfolding many_ready
  many_judged {n} {left} {credit} {r} e j = record {
    judged = λ g.
        let v = viewed (Many n left credit) e g in
        j.judged (many_ready e g) [] (alike_none 64) ∙ sym (ap (spanned g.next) v.5);
  }

  -- ---- the calls

  -- that of the record itself
  own : (x : ℕ) {y : ℕ} → y ≡ note_at bytes at m x → (g : Ready bytes decl at result bound) → note_at bytes (place_of g.term) m x ≡ y
  own x q g = ap (λ p. note_at bytes p m x) g.here ∙ sym q

  pub leaf_noted : {n x y : ℕ} → f ≡ Leaf n → y ≡ note_at bytes at m x → Noted bytes decl at result bound x y
  leaf_noted {n} {x} {y} e q = record { noted = λ g c. sym ((viewed (Leaf n) e g).2 c x ∙ own x q g) }

  pub one_noted : {n x y z : ℕ} → f ≡ One n → y ≡ note_at bytes at m x → Noted bytes decl n result more y z → Noted bytes decl at result bound x z
  unfolding one_ready
  one_noted {n} {x} {y} {z} e q h = record {
    noted = λ g c.
        let v = viewed (One n) e g in
        h.noted (one_ready e g) c ∙ sym (v.5 c x ∙ ap (note_calls (calls v.0 c)) (own x q g));
  }

  pub two_noted : {n k x y u z : ℕ} {r : Read} → f ≡ Two n → y ≡ note_at bytes at m x → Judged bytes decl n result inner more r → r ≡ Next k → Noted bytes decl n result more y u
      → Noted bytes decl k result more u z → Noted bytes decl at result bound x z
  unfolding two_ready second_ready
  two_noted {n} {k} {x} {y} {u} {z} {r} e q j p h i = record {
    noted = λ g c.
        let v = viewed (Two n) e g in
        i.noted (second_ready e j p g) c
        ∙ sym (v.9 c x ∙ ap (note_calls (calls v.1 c)) (ap (note_calls (calls v.0 c)) (own x q g) ∙ sym (h.noted (two_ready e g) c)));
  }

  pub many_noted : {n left credit x y z : ℕ} → f ≡ Many n left credit → y ≡ note_at bytes at m x → NotedAll bytes decl n left credit result more y z → Noted bytes decl at result bound x z
  unfolding many_ready
  many_noted {n} {left} {credit} {x} {y} {z} e q h = record {
    noted = λ g c.
        let v = viewed (Many n left credit) e g in
        h.noted (many_ready e g) c ∙ sym (v.6 c x ∙ ap (note_calls (calls_branches v.0 c)) (own x q g));
  }

-- a record that takes something wrong is the answer
pub node_stops : {bytes decl : List ℕ} {at result : ℕ} {slots : List Slot} {bound m : ℕ} {t : Taken} → length slots ≡ 32 → m ≡ find_mark (mark_at bytes at)
    → t ≡ taken_of bytes decl at slots bound m result → (t.number ≡ 0 → ⊥) → Judged bytes decl at result slots bound (Fault t.number t.place)
node_stops {bytes} {decl} {at} {result} {slots} {bound} wide em et n = stops bytes decl at result slots wide bound em et n
