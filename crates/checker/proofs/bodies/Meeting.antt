-- Where reading and the ownership check meet: a node or a branch whose record reads lies within the file, its slots fit, and the check finds the
-- same terms behind it. Assumes nothing.
use Prim.Native.Nat.{ℕ, ◌+◌, ◌≤◌, ◌<◌}
use mathlib.Core.Bool.{Bool, true, false}
use mathlib.Core.List.{List}
use mathlib.Core.Path.{◌≡◌, refl, sym, ap, ◌∙◌}
use native.Mathlib.Omega.{arith}
use lib.ListN.{length, get_or}
use lib.Dec.{leb, ltb, eqb}
use borrow.Author.Tests.{leb-false, ltb-true, ltb-false, eqb-true}
use Rattle.meaning.specs.Choice.{pick}
use Rattle.meaning.specs.Marks.{row_at, find_mark}
use Rattle.standing.specs.Bytes.{byte_at, mark_at, arity_in, params_in}
use Rattle.checker.specs.declared.reading.Path.{Path}
use Rattle.checker.specs.Node.{Node}
use Rattle.checker.specs.Node as then
use Rattle.checker.specs.Read.{Read, Next, Fault}
use Rattle.checker.specs.ReadingBytes.{binds_of, known_arity, known_count, room, atom_field, make_fields, call_fields, open_fields, sum_fields, fields_at, follows_at, path, node, limited, after_fields, node_of, node_at, more_of, fitting, branch_fields_by, branch_by, branch_at}
use Rattle.checker.specs.Ownership.{named_by, past_of, then_of, credits_of}
use Rattle.checker.proofs.reading.Steps.{next_is, fault_next, from_next, from_fields}

-- a read that goes on took the way that its tests say
chosen : {A : Type 0} (b : Bool) (x y : Read) {n : ℕ} → pick b x y ≡ Next n → (b ≡ true → x ≡ Next n → A) → (b ≡ false → y ≡ Next n → A) → A
unfolding pick
chosen true x y e g h = g refl e
chosen false x y e g h = h refl e

-- one that a test would refuse did not meet it
passed : (b : Bool) (x q : ℕ) (y : Read) {n : ℕ} → pick b (Fault x q) y ≡ Next n → (b ≡ false) × (y ≡ Next n)
unfolding pick
passed true x q y e = fault_next e
passed false x q y e = (refl, e)

room_next : (f : List ℕ) (a n k : ℕ) → room f a n ≡ Next k → k ≡ a + n
unfolding room
room_next f a n k e = sym (next_is (passed (ltb (length f) (a + n)) _ _ _ e).1)

known_arity_lem : (d : List ℕ) (c : ℕ) → known_arity d c ≤ 4 → (c < 64) × (known_arity d c ≡ arity_in d c)
unfolding known_arity pick
known_arity_lem d c h = go (ltb c 64) refl
  where
    go : (b : Bool) → ltb c 64 ≡ b → (c < 64) × (known_arity d c ≡ arity_in d c)
    go true e = (ltb-true c 64 e, rw e)
    go false e = let z : known_arity d c ≡ 255 = rw e in absurd (omega (arith, h, z))

known_count_lem : (d : List ℕ) (g : ℕ) → known_count d g ≤ 8 → known_count d g ≡ params_in d g
unfolding known_count pick
known_count_lem d g h = go (ltb g 32) refl
  where
    go : (b : Bool) → ltb g 32 ≡ b → known_count d g ≡ params_in d g
    go true e = rw e
    go false e = let z : known_count d g ≡ 255 = rw e in absurd (omega (arith, h, z))

-- where the fields of a record end, by reading
module _ (f d : List ℕ) (a : ℕ) {k : ℕ} where
  atom_next : atom_field f d a ≡ Next k → k ≡ a + 1
  unfolding atom_field
  atom_next e = chosen (eqb (known_arity d (get_or f a 0)) 0) _ _ (passed (leb (length f) a) _ _ _ e).1 (λ _ w. sym (next_is w)) (λ _ w. fault_next w)

  make_next : make_fields f d a ≡ Next k → k ≡ a + 2 + arity_in d (get_or f a 0)
  unfolding make_fields
  make_next e =
      let c = get_or f a 0 in
      let u = passed (eqb (known_arity d c) 0) _ _ _ (passed (leb (length f) a) _ _ _ e).1 in
      let v = passed (ltb 4 (known_arity d c)) _ _ _ u.1 in
      let w = known_arity_lem d c (ltb-false 4 (known_arity d c) v.0) in
      let r = room_next f (a + 1) (known_arity d c + 1) k v.1 in
      omega (arith, r, w.1)

  call_next : call_fields f d a ≡ Next k → k ≡ a + 1 + params_in d (get_or f a 0)
  unfolding call_fields
  call_next e =
      let c = get_or f a 0 in
      let v = passed (ltb 8 (known_count d c)) _ _ _ (passed (leb (length f) a) _ _ _ e).1 in
      let w = known_count_lem d c (ltb-false 8 (known_count d c) v.0) in
      let r = room_next f (a + 1) (known_count d c) k v.1 in
      omega (arith, r, w)

  open_next : open_fields f a ≡ Next k → k ≡ a + 2
  unfolding open_fields
  open_next e =
      let u = passed (eqb (get_or f (a + 1) 0) 0) _ _ _ (passed (leb (length f) (a + 1)) _ _ _ e).1 in
      sym (next_is (passed (ltb 64 (get_or f (a + 1) 0)) _ _ _ u.1).1)

  sum_next : sum_fields f a ≡ Next k → k ≡ a + 3
  unfolding sum_fields
  sum_next e =
      let u = passed (ltb 3 (get_or f a 0)) _ _ _ (passed (leb (length f) a) _ _ _ e).1 in
      let r = room_next f (a + 1) 2 k u.1 in
      omega (arith, r)

-- and by the ownership check
module _ (f d : List ℕ) (at : ℕ) where
  past : (m n : ℕ) → m ≡ n → (k : ℕ) → k ≡ past_of f d at n → k ≡ past_of f d at m
  past m n e k q = q ∙ ap (past_of f d at) (sym e)

  fields_past : (m k : ℕ) → fields_at f d at m ≡ Next k → k ≡ past_of f d at m
  unfolding fields_at past_of named_by row_at pick
  fields_past m k e =
      chosen (eqb m 4) _ _ e (λ q w. past m 4 (eqb-true m 4 q) k (omega (arith, room_next f (at + 2) 1 k w))) (λ _ e.
      chosen (eqb m 5) _ _ e (λ q w. past m 5 (eqb-true m 5 q) k (omega (arith, atom_next f d (at + 2) w))) (λ _ e.
      chosen (eqb m 6) _ _ e (λ q w. past m 6 (eqb-true m 6 q) k (omega (arith, make_next f d (at + 2) w))) (λ _ e.
      chosen (eqb m 7) _ _ e (λ q w. past m 7 (eqb-true m 7 q) k (omega (arith, call_next f d (at + 2) w))) (λ _ e.
      chosen (eqb m 8) _ _ e (λ q w. past m 8 (eqb-true m 8 q) k (omega (arith, call_next f d (at + 2) w))) (λ _ e.
      chosen (eqb m 9) _ _ e (λ q w. past m 9 (eqb-true m 9 q) k (omega (arith, open_next f d (at + 2) w))) (λ _ e.
      chosen (eqb m 10) _ _ e (λ q w. past m 10 (eqb-true m 10 q) k (omega (arith, open_next f d (at + 2) w))) (λ _ e.
      chosen (eqb m 12) _ _ e (λ q w. past m 12 (eqb-true m 12 q) k (omega (arith, room_next f (at + 2) 2 k w))) (λ _ e.
      chosen (eqb m 13) _ _ e (λ q w. past m 13 (eqb-true m 13 q) k (omega (arith, sum_next f d (at + 2) w))) (λ _ e.
      chosen (eqb m 14) _ _ e (λ q w. past m 14 (eqb-true m 14 q) k (omega (arith, room_next f (at + 2) 1 k w))) (λ _ w. fault_next w))))))))))

  follows_past : (m k : ℕ) → k ≡ past_of f d at m → follows_at f at m k ≡ then_of f d at m
  unfolding follows_at then_of
  follows_past m k e = rw e

-- a node that reads
pub record NodeRead (f d : List ℕ) (at : ℕ) (p : Path) (n : Node) : Type 0 where
  pub inside : at + 3 ≤ length f
  pub slots : n.path.slots ≡ p.slots + (row_at (find_mark (mark_at f at))).binds
  pub fits : n.path.slots ≤ 32
  pub follows : n.then ≡ then_of f d at (find_mark (mark_at f at))

pub node_read : {f d : List ℕ} {at : ℕ} {p : Path} {n : Node} → n ≡ node_at f d at p → at ≤ length f → ((x q : ℕ) → n.then ≡ then.Fault x q → ⊥) → NodeRead f d at p n
unfolding node_at node_of after_fields limited binds_of pick
node_read {f} {d} {at} {p} {n} e h k = short (ltb (length f) (at + 2)) refl
  where
    faulty : {x q : ℕ} {A : Type 0} → node_at f d at p ≡ node (then.Fault x q) p → A
    faulty {x} {q} w = absurd (k x q (ap (λ y. y.then) (e ∙ w)))

    limits : (next : ℕ) → ltb (length f) (at + 2) ≡ false → fields_at f d at (find_mark (mark_at f at)) ≡ Next next → (b : Bool) → leb 64 p.nodes ≡ b
        → (c : Bool) → ltb 32 (p.slots + (row_at (find_mark (mark_at f at))).binds) ≡ c → NodeRead f d at p n
    limits next a w true eb c ec = faulty {x = 5} {q = at} (rw (a, w, eb))
    limits next a w false eb true ec = faulty {x = 5} {q = at} (rw (a, w, eb, ec))
    limits next a w false eb false ec =
        let m = find_mark (mark_at f at) in
        let is : n ≡ node (follows_at f at m next) (path (p.slots + (row_at m).binds) (p.nodes + 1)) = e ∙ rw (a, w, eb, ec) in
        let l = from_next w (from_fields f d at m h) in
        let z = fields_past f d at m next w in
        record {
          inside = omega (arith, l.0, l.1);
          slots = ap (λ y. y.path.slots) is;
          fits = rw is (ltb-false 32 (p.slots + (row_at m).binds) ec);
          follows = ap (λ y. y.then) is ∙ follows_past f d at m next z;
        }

    fields : ltb (length f) (at + 2) ≡ false → (r : Read) → fields_at f d at (find_mark (mark_at f at)) ≡ r → NodeRead f d at p n
    fields a (Next next) w = limits next a w (leb 64 p.nodes) refl (ltb 32 (p.slots + (row_at (find_mark (mark_at f at))).binds)) refl
    fields a (Fault x q) w = faulty {x = x} {q = q} (rw (a, w))

    short : (b : Bool) → ltb (length f) (at + 2) ≡ b → NodeRead f d at p n
    short true a = faulty {x = 2} {q = length f} (rw a)
    short false a = fields a (fields_at f d at (find_mark (mark_at f at))) refl

-- a branch that reads, and the slots behind its record
pub record BranchRead (f d : List ℕ) (at credit bound more : ℕ) : Type 0 where
  pub inside : at + 3 ≤ length f
  pub low : byte_at f (at + 2) < 64
  pub count : more ≡ bound + arity_in d (byte_at f (at + 2)) + credits_of (arity_in d (byte_at f (at + 2))) credit
  pub fits : more ≤ 32

more_is : (k credit : ℕ) → more_of k credit ≡ k + credits_of k credit
unfolding more_of credits_of pick
more_is k credit = go (eqb k 0) refl
  where
    go : (b : Bool) → eqb k 0 ≡ b → more_of k credit ≡ k + credits_of k credit
    go true e = let z = eqb-true k 0 e in rw e (omega (arith, z))
    go false e = rw e

pub branch_read : {f d : List ℕ} {at credit bound more : ℕ} → branch_at f d at credit bound ≡ Next more → at ≤ length f → BranchRead f d at credit bound more
unfolding branch_by branch_fields_by fitting
branch_read {f} {d} {at} {credit} {bound} {more} e h =
    let c = byte_at f (at + 2) in
    chosen (eqb (find_mark (mark_at f at)) 11) _ _ (passed (ltb (length f) (at + 2)) _ _ _ e).1 (λ _ w.
    let u = passed (leb (length f) (at + 2)) _ _ _ w in
    let v = passed (ltb 4 (known_arity d c)) _ _ _ u.1 in
    let y = passed (ltb 32 (bound + more_of (known_arity d c) credit)) _ _ _ v.1 in
    let a = known_arity_lem d c (ltb-false 4 (known_arity d c) v.0) in
    let s : bound + more_of (known_arity d c) credit ≡ more = next_is y.1 in
    let t : more_of (known_arity d c) credit ≡ arity_in d c + credits_of (arity_in d c) credit = ap (λ k. more_of k credit) a.1 ∙ more_is (arity_in d c) credit in
    let l = leb-false (length f) (at + 2) u.0 in
    record {
      inside = omega (arith, l);
      low = a.0;
      count = omega (arith, s, t);
      fits = omega (arith, s, ltb-false 32 (bound + more_of (known_arity d c) credit) y.0);
    }) (λ _ w. fault_next w)
