-- What the code's cycle of terms and branches asks for: where what follows lies, and one law for each way a term goes on. Assumes nothing.
use Prim.Native.Nat.{ℕ, zero, suc, ◌+◌, ◌-◌, ◌≤◌, ◌<◌}
use mathlib.Core.List.{List}
use mathlib.Core.Bool.{Bool, true, false}
use mathlib.Core.Path.{◌≡◌, refl, sym, ap, ◌∙◌, subst}
use lib.ListN.{length, get_or}
use lib.Dec.{leb, ltb, eqb}
use native.Mathlib.Omega.{arith}
use borrow.Author.Tests.{leb-false, ltb-false}
use Rattle.meaning.specs.Syntax.{Signature, Constructor}
use Rattle.meaning.specs.Reading.{branches}
use Rattle.checker.specs.declared.reading.Path.{Path}
use Rattle.checker.specs.Node.{Then, Node}
use Rattle.checker.specs.Node as then'
use Rattle.checker.specs.Read.{Read, Next, Fault}
use Rattle.meaning.specs.Choice.{pick}
use Rattle.checker.specs.ReadingBytes.{binds_of, room, atom_field, make_fields, call_fields, open_fields, sum_fields, fields_at, follows_at, path, node, limited, after_fields, node_of, node_at, fitting, branch_fields_by, branch_by, small_bytes, expect_at, on_next}
use Rattle.standing.specs.Bytes.{mark_at}
use Rattle.meaning.specs.Marks.{find_mark}
use Rattle.checker.specs.Reads.{span_of, Declares, From, on, off, ReadsTerm, ReadsBranches}
use Rattle.checker.proofs.reading.Nodes.{by_follow, by_node}
use Rattle.checker.proofs.reading.Cycle.{t_of, b_of, term_step, branch_step}

-- ---- where a read goes on
pub from_le : {f : List ℕ} {a b : ℕ} {r : Read} → b ≤ a → From f a r → From f b r
from_le {b = b} h (on {n = n} p q) = let w : b ≤ n = omega arith in on w q
from_le h (off x q) = off x q

pub next_is : {n m : ℕ} → Next n ≡ Next m → n ≡ m
next_is e = cc

-- an answer that refuses does not go on
pub fault_next : {A : Type 0} {x q n : ℕ} → Fault x q ≡ Next n → A
fault_next e = let z : ◌≡◌ {A = ℕ} 0 1 = cc in absurd (omega arith)

fault_is : (x p y q : ℕ) → Fault x p ≡ Fault y q → (x ≡ y) × (p ≡ q)
fault_is x p y q e = (cc, cc)

pub from_next : {f : List ℕ} {a n : ℕ} {r : Read} → r ≡ Next n → From f a r → (a ≤ n) × (n ≤ length f)
from_next {n = m} e (on {n = n} p q) = let z = next_is e in (omega arith, omega arith)
from_next e (off _ _) = fault_next e

pub from_fault : {f : List ℕ} {a x p : ℕ} {r : Read} → r ≡ Fault x p → From f a r → (0 < x) × (p ≤ length f)
from_fault e (on {n = n} p q) = let z : ◌≡◌ {A = ℕ} 0 1 = cc in absurd (omega arith)
from_fault {x = y} {p = q} e (off {x = x} {p = p} h l) = let z = fault_is x p y q e in (omega (arith, z.0), omega (arith, z.1))

-- a fault that was read stays one
pub from_off : {f : List ℕ} {a b x p : ℕ} {r : Read} → r ≡ Fault x p → From f a r → From f b (Fault x p)
from_off e h = let z = from_fault e h in off z.0 z.1

pub by_pick : {A : Type 0} (P : A → Type 0) (b : Bool) {x y : A} → P x → (b ≡ false → P y) → P (pick b x y)
unfolding pick
by_pick P true p q = p
by_pick P false p q = q refl

pub from_pick : {f : List ℕ} {a : ℕ} (b : Bool) {x y : Read} → From f a x → (b ≡ false → From f a y) → From f a (pick b x y)
from_pick {f} {a} b p q = by_pick (From f a) b p q

pub short : {f : List ℕ} {lo : ℕ} → From f lo (Fault 2 (length f))
short {f = f} = let a : 0 < 2 = omega arith in let b : length f ≤ length f = omega arith in off a b

pub wrong : {f : List ℕ} {lo : ℕ} (x p : ℕ) → 0 < x → p ≤ length f → From f lo (Fault x p)
wrong x p h l = off h l

from_room : (f : List ℕ) (lo a n : ℕ) → lo ≤ a + n → From f lo (room f a n)
unfolding room
from_room f lo a n h = from_pick _ short (λ e. on h (ltb-false (length f) (a + n) e))

from_atom : (f d : List ℕ) (a : ℕ) → From f (a + 1) (atom_field f d a)
unfolding atom_field
from_atom f d a = from_pick _ short (λ e. let l = leb-false (length f) a e in let h : a + 1 ≤ length f = omega arith in let q : a + 1 ≤ a + 1 = omega arith in from_pick _ (on q h) (λ _. wrong 4 a (omega arith) (omega arith)))

from_make : (f d : List ℕ) (a : ℕ) → From f (a + 1) (make_fields f d a)
unfolding make_fields
from_make f d a = from_pick _ short (λ e. let l = leb-false (length f) a e in from_pick _ (wrong 4 a (omega arith) (omega arith)) (λ _. from_pick _ (wrong 4 a (omega arith) (omega arith)) (λ _. from_room f (a + 1) (a + 1) _ (omega arith))))

from_call : (f d : List ℕ) (a : ℕ) → From f (a + 1) (call_fields f d a)
unfolding call_fields
from_call f d a = from_pick _ short (λ e. let l = leb-false (length f) a e in from_pick _ (wrong 4 a (omega arith) (omega arith)) (λ _. from_room f (a + 1) (a + 1) _ (omega arith)))

from_open : (f : List ℕ) (a : ℕ) → From f (a + 1) (open_fields f a)
unfolding open_fields
from_open f a =
    from_pick _ short (λ e.
    let l = leb-false (length f) (a + 1) e in
    let h : a + 2 ≤ length f = omega arith in
    let q : a + 1 ≤ a + 2 = omega arith in
    from_pick _ (wrong 4 (a + 1) (omega arith) (omega arith)) (λ _. from_pick _ (wrong 4 (a + 1) (omega arith) (omega arith)) (λ _. on q h)))

from_sum : (f : List ℕ) (a : ℕ) → From f (a + 1) (sum_fields f a)
unfolding sum_fields
from_sum f a = from_pick _ short (λ e. let l = leb-false (length f) a e in from_pick _ (wrong 4 a (omega arith) (omega arith)) (λ _. from_room f (a + 1) (a + 1) 2 (omega arith)))

pub from_fields : (f d : List ℕ) (at m : ℕ) → at ≤ length f → From f (at + 2 + 1) (fields_at f d at m)
unfolding fields_at
from_fields f d at m h =
    from_pick _ (from_room f _ (at + 2) 1 (omega arith)) (λ _. from_pick _ (from_atom f d (at + 2)) (λ _. from_pick _ (from_make f d (at + 2)) (λ _.
    from_pick _ (from_call f d (at + 2)) (λ _. from_pick _ (from_call f d (at + 2)) (λ _. from_pick _ (from_open f (at + 2)) (λ _. from_pick _ (from_open f (at + 2)) (λ _.
    from_pick _ (from_room f _ (at + 2) 2 (omega arith)) (λ _. from_pick _ (from_sum f (at + 2)) (λ _. from_pick _ (from_room f _ (at + 2) 1 (omega arith)) (λ _. wrong 3 at (omega arith) h))))))))))

-- ---- a node: what follows it lies past its place, and its path keeps the limits
pub data Ahead (f : List ℕ) (at : ℕ) : Then → Type 0 where
  leaf : {n : ℕ} → at < n → n ≤ length f → Ahead f at (then'.Leaf n)
  one : {n : ℕ} → at < n → n ≤ length f → Ahead f at (then'.One n)
  two : {n : ℕ} → at < n → n ≤ length f → Ahead f at (then'.Two n)
  many : {n k c : ℕ} → at < n → n ≤ length f → c ≤ 1 → Ahead f at (then'.Many n k c)
  fault : {x q : ℕ} → 0 < x → q ≤ length f → Ahead f at (then'.Fault x q)

pub record Fine (f : List ℕ) (at : ℕ) (n : Node) : Type 0 where
  pub ahead : Ahead f at n.then
  pub slots : n.path.slots ≤ 32
  pub nodes : n.path.nodes ≤ 64

ahead_pick : {f : List ℕ} {at : ℕ} (b : Bool) {x y : Then} → Ahead f at x → Ahead f at y → Ahead f at (pick b x y)
ahead_pick {f} {at} b p q = by_pick (Ahead f at) b p (λ _. q)

follows_ahead : (f : List ℕ) (at m n : ℕ) → at < n → n ≤ length f → Ahead f at (follows_at f at m n)
unfolding follows_at
follows_ahead f at m n p q = ahead_pick _ (leaf p q) (ahead_pick _ (leaf p q) (ahead_pick _ (many p q (omega arith)) (ahead_pick _ (many p q (omega arith)) (ahead_pick _ (two p q) (one p q)))))

fine_pick : {f : List ℕ} {at : ℕ} (b : Bool) {x y : Node} → Fine f at x → (b ≡ false → Fine f at y) → Fine f at (pick b x y)
fine_pick {f} {at} b p q = by_pick (Fine f at) b p q

module _ (f d : List ℕ) (at : ℕ) (p : Path) (h : at ≤ length f) (hs : p.slots ≤ 32) (hk : p.nodes ≤ 64) where
  refused : (x q : ℕ) → 0 < x → q ≤ length f → Fine f at (node (then'.Fault x q) p)
  refused x q a b = record { ahead = fault a b; slots = hs; nodes = hk }

  after_fine : (m : ℕ) {r : Read} → From f (at + 2 + 1) r → Fine f at (after_fields f at m p r)
  unfolding after_fields limited
  after_fine m (on {n = n} a b) =
      fine_pick _ (refused 5 at (omega arith) h) (λ e. fine_pick _ (refused 5 at (omega arith) h) (λ e'.
      let l = leb-false 64 p.nodes e in
      record { ahead = follows_ahead f at m n (omega arith) b; slots = ltb-false 32 (p.slots + binds_of m) e'; nodes = omega arith }))
  after_fine m (off {x = x} {p = q} a b) = refused x q a b

  pub node_fine : Fine f at (node_at f d at p)
  unfolding node_at node_of
  node_fine = fine_pick _ (refused 2 (length f) (omega arith) (omega arith)) (λ _. after_fine (find_mark (mark_at f at)) (from_fields f d at (find_mark (mark_at f at)) h))

pub goes : (f d : List ℕ) (at : ℕ) (p : Path) (n : Node) → n ≡ node_at f d at p → at ≤ length f → p.slots ≤ 32 → p.nodes ≤ 64 → Fine f at n
goes f d at p n e h hs hk = subst (Fine f at) (sym e) (node_fine f d at p h hs hk)

pub leaf_of : {f : List ℕ} {at n : ℕ} {t : Then} → t ≡ then'.Leaf n → Ahead f at t → (at < n) × (n ≤ length f)
leaf_of {f = f} {at = at} {n = n} e a = got (subst (Ahead f at) e a)
  where
    got : Ahead f at (then'.Leaf n) → (at < n) × (n ≤ length f)
    got (leaf l h) = (l, h)

pub one_of : {f : List ℕ} {at n : ℕ} {t : Then} → t ≡ then'.One n → Ahead f at t → (at < n) × (n ≤ length f)
one_of {f = f} {at = at} {n = n} e a = got (subst (Ahead f at) e a)
  where
    got : Ahead f at (then'.One n) → (at < n) × (n ≤ length f)
    got (one l h) = (l, h)

pub two_of : {f : List ℕ} {at n : ℕ} {t : Then} → t ≡ then'.Two n → Ahead f at t → (at < n) × (n ≤ length f)
two_of {f = f} {at = at} {n = n} e a = got (subst (Ahead f at) e a)
  where
    got : Ahead f at (then'.Two n) → (at < n) × (n ≤ length f)
    got (two l h) = (l, h)

pub many_of : {f : List ℕ} {at n k c : ℕ} {t : Then} → t ≡ then'.Many n k c → Ahead f at t → (at < n) × (n ≤ length f) × (c ≤ 1)
many_of {f = f} {at = at} {n = n} {k = k} {c = c} e a = got (subst (Ahead f at) e a)
  where
    got : Ahead f at (then'.Many n k c) → (at < n) × (n ≤ length f) × (c ≤ 1)
    got (many l h w) = (l, h, w)

pub fault_of : {f : List ℕ} {at lo x q : ℕ} {t : Then} → t ≡ then'.Fault x q → Ahead f at t → From f lo (Fault x q)
fault_of {f = f} {at = at} {lo = lo} {x = x} {q = q} e a = got (subst (Ahead f at) e a)
  where
    got : Ahead f at (then'.Fault x q) → From f lo (Fault x q)
    got (fault l h) = off l h

-- ---- a branch's record that does not read is refused at a place within the file
data Kept (f : List ℕ) : Read → Type 0 where
  kept : {n : ℕ} → Kept f (Next n)
  lost : {x q : ℕ} → 0 < x → q ≤ length f → Kept f (Fault x q)

kept_pick : {f : List ℕ} (b : Bool) {x y : Read} → Kept f x → (b ≡ false → Kept f y) → Kept f (pick b x y)
kept_pick {f} b p q = by_pick (Kept f) b p q

branch_kept : (f d : List ℕ) (at credit s : ℕ) → at ≤ length f → Kept f (branch_by (fitting at) f d at credit s)
unfolding branch_by branch_fields_by fitting
branch_kept f d at credit s h =
    kept_pick _ (lost (omega arith) (omega arith)) (λ _. kept_pick _ (kept_pick _ (lost (omega arith) (omega arith)) (λ e.
    let l = leb-false (length f) (at + 2) e in
    kept_pick _ (lost (omega arith) (omega arith)) (λ _. kept_pick _ (lost (omega arith) h) (λ _. kept)))) (λ _. lost (omega arith) h))

pub branch_off : (f d : List ℕ) (at credit s : ℕ) {lo x q : ℕ} → at ≤ length f → branch_by (fitting at) f d at credit s ≡ Fault x q → From f lo (Fault x q)
branch_off f d at credit s {lo} {x} {q} h e = got (subst (Kept f) e (branch_kept f d at credit s h))
  where
    got : Kept f (Fault x q) → From f lo (Fault x q)
    got (lost l w) = off l w

-- ---- one law for each way a term goes on
module _ (f d : List ℕ) (at : ℕ) (p : Path) (h : at ≤ length f) where
  reads_by : (r : Read) → ((cs : List Constructor) (fs : List Signature) → Declares d cs fs → (m : ℕ) → length f - at ≤ m → r ≡ by_node (node_at f d at p) (t_of f cs fs m) (b_of f cs fs m))
      → ReadsTerm f d at p r
  unfolding ReadsTerm
  reads_by r g cs fs D zero l = absurd (omega arith)
  reads_by r g cs fs D (suc m) l = g cs fs D m (omega arith) ∙ sym (term_step f d cs fs D m p at h)

  module _ (n : Node) (e : n ≡ node_at f d at p) where
    by : (t : Then) → n.then ≡ t → (cs : List Constructor) (fs : List Signature) (m : ℕ)
        → by_follow t n.path (t_of f cs fs m) (b_of f cs fs m) ≡ by_node (node_at f d at p) (t_of f cs fs m) (b_of f cs fs m)
    unfolding by_node
    by t q cs fs m = rw (← q) (ap (λ x. by_node x (t_of f cs fs m) (b_of f cs fs m)) e)

    pub leaf_reads : (a : ℕ) → n.then ≡ then'.Leaf a → ReadsTerm f d at p (Next a)
    unfolding by_follow
    leaf_reads a q = reads_by (Next a) (λ cs fs D m l. by (then'.Leaf a) q cs fs m)

    pub fault_reads : (x a : ℕ) → n.then ≡ then'.Fault x a → ReadsTerm f d at p (Fault x a)
    unfolding by_follow
    fault_reads x a q = reads_by (Fault x a) (λ cs fs D m l. by (then'.Fault x a) q cs fs m)

    pub one_reads : (a : ℕ) (r : Read) → n.then ≡ then'.One a → at < a → a ≤ length f → ReadsTerm f d a n.path r → ReadsTerm f d at p r
    unfolding by_follow ReadsTerm
    one_reads a r q u v c = reads_by r (λ cs fs D m l. c cs fs D m (omega arith) ∙ by (then'.One a) q cs fs m)

    pub two_stops : (a x z : ℕ) → n.then ≡ then'.Two a → at < a → a ≤ length f → ReadsTerm f d a n.path (Fault x z) → ReadsTerm f d at p (Fault x z)
    unfolding by_follow ReadsTerm on_next
    two_stops a x z q u v c =
        reads_by (Fault x z) (λ cs fs D m l. ap (λ r. on_next r (λ b. t_of f cs fs m b n.path)) (c cs fs D m (omega arith)) ∙ by (then'.Two a) q cs fs m)

    pub two_reads : (a b : ℕ) (r : Read) → n.then ≡ then'.Two a → at < a → a < b → b ≤ length f → ReadsTerm f d a n.path (Next b) → ReadsTerm f d b n.path r → ReadsTerm f d at p r
    unfolding by_follow ReadsTerm on_next
    two_reads a b r q u v w c c' =
        reads_by r (λ cs fs D m l. c' cs fs D m (omega arith) ∙ ap (λ s. on_next s (λ b'. t_of f cs fs m b' n.path)) (c cs fs D m (omega arith)) ∙ by (then'.Two a) q cs fs m)

    pub many_reads : (a k g : ℕ) (r : Read) → n.then ≡ then'.Many a k g → at < a → a ≤ length f → ReadsBranches f d a k g n.path r → ReadsTerm f d at p r
    unfolding by_follow ReadsBranches
    many_reads a k g r q u v c = reads_by r (λ cs fs D m l. c cs fs D m (omega arith) ∙ by (then'.Many a k g) q cs fs m)

-- ---- and a list of branches
module _ (f d : List ℕ) (at credit : ℕ) (p : Path) (h : at ≤ length f) (hk : p.nodes ≤ 64) where
  pub end_reads : (k : ℕ) → k ≡ 0 → ReadsBranches f d at k credit p (Next at)
  unfolding ReadsBranches branches span_of
  end_reads k e cs fs D zero l = absurd (omega arith)
  end_reads k e cs fs D (suc m) l = rw e

  lists_by : (c k : ℕ) → k ≡ suc c → (r : Read)
      → ((cs : List Constructor) (fs : List Signature) → Declares d cs fs → (m : ℕ) → length f - at ≤ m
      → r ≡ on_next (branch_by (fitting at) f d at credit p.slots) (λ s. on_next (t_of f cs fs m (at + 3) (path s p.nodes)) (λ n. b_of f cs fs m n c credit p)))
      → ReadsBranches f d at k credit p r
  unfolding ReadsBranches
  lists_by c k e r g cs fs D zero l = absurd (omega arith)
  lists_by c k e r g cs fs D (suc m) l = rw e (g cs fs D m (omega arith) ∙ sym (branch_step f d cs fs D m p at c credit h hk))

  pub branch_stops : (c k : ℕ) → k ≡ suc c → (x z : ℕ) → branch_by (fitting at) f d at credit p.slots ≡ Fault x z → ReadsBranches f d at k credit p (Fault x z)
  unfolding on_next
  branch_stops c k e x z q = lists_by c k e (Fault x z) (λ cs fs D m l. rw q)

  pub term_stops : (c k : ℕ) → k ≡ suc c → (s x z : ℕ) → branch_by (fitting at) f d at credit p.slots ≡ Next s → at + 3 ≤ length f
      → ReadsTerm f d (at + 3) (path s p.nodes) (Fault x z) → ReadsBranches f d at k credit p (Fault x z)
  unfolding on_next ReadsTerm
  term_stops c k e s x z q u t = lists_by c k e (Fault x z) (λ cs fs D m l. rw (q, ← t cs fs D m (omega arith)))

  pub branch_reads : (c k : ℕ) → k ≡ suc c → (s a : ℕ) (r : Read) → branch_by (fitting at) f d at credit p.slots ≡ Next s → at + 3 ≤ length f → at + 3 < a → a ≤ length f
      → ReadsTerm f d (at + 3) (path s p.nodes) (Next a) → ReadsBranches f d a c credit p r → ReadsBranches f d at k credit p r
  unfolding on_next ReadsTerm ReadsBranches
  branch_reads c k e s a r q u v w t b = lists_by c k e r (λ cs fs D m l. rw (q, ← t cs fs D m (omega arith)) (b cs fs D m (omega arith)))

-- ---- small steps for the code's proof
pub from_here : {f : List ℕ} {at : ℕ} → at ≤ length f → From f at (Next at)
from_here {at = at} h = let w : at ≤ at = omega arith in on w h

pub pred_is : (k : ℕ) → (k ≡ 0 → ⊥) → k ≡ suc (k - 1)
pred_is zero h = absurd (h refl)
pred_is (suc k) h = omega arith

-- ---- a loop over small bytes
pub small_none : (k : ℕ) (f : List ℕ) (p top : ℕ) → k ≡ 0 → small_bytes k f p top ≡ Next p
unfolding small_bytes
small_none k f p top e = rw e

pub small_turn : (k j : ℕ) (f : List ℕ) (p top : ℕ) → j < k
    → small_bytes (k - j) f p top ≡ pick (leb (length f) p) (Fault 2 (length f)) (pick (ltb top (get_or f p 0)) (Fault 4 p) (small_bytes (k - (j + 1)) f (p + 1) top))
unfolding small_bytes
small_turn k j f p top h =
    let e : k - j ≡ suc (k - (j + 1)) = omega arith in
    let q : p + 1 ≡ suc p = omega arith in
    rw (e, q)

pub from_small : (k : ℕ) (f : List ℕ) (p top : ℕ) → p ≤ length f → From f p (small_bytes k f p top)
unfolding small_bytes
from_small zero f p top h = from_here h
from_small (suc k) f p top h = from_pick _ short (λ e. from_pick _ (wrong 4 p (omega arith) h) (λ _. from_le (omega arith) (from_small k f (suc p) top (leb-false (length f) p e))))

-- ---- a mark that must stand here
pub expect_next : (f : List ℕ) (at m n : ℕ) → expect_at f at m ≡ Next n → (n ≡ at + 2) × (n ≤ length f)
unfolding expect_at pick
expect_next f at m n e = go (ltb (length f) (at + 2)) refl (eqb (find_mark (mark_at f at)) m) refl
  where
    other : (x q : ℕ) → expect_at f at m ≡ Fault x q → (n ≡ at + 2) × (n ≤ length f)
    other x q w = fault_next (sym w ∙ e)

    go : (u : Bool) → ltb (length f) (at + 2) ≡ u → (v : Bool) → eqb (find_mark (mark_at f at)) m ≡ v → (n ≡ at + 2) × (n ≤ length f)
    go true eu v ev = other 2 (length f) (rw eu)
    go false eu false ev = other 3 at (rw (eu, ev))
    go false eu true ev =
        let w : expect_at f at m ≡ Next (at + 2) = rw (eu, ev) in
        let y : Next (at + 2) ≡ Next n = sym w ∙ e in
        let z : at + 2 ≡ n = cc in
        let l = ltb-false (length f) (at + 2) eu in
        (sym z, omega arith)
