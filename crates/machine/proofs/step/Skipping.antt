-- A term that stands is passed over by its marks; the byte after it is one only. Assumes nothing.
use Rattle.std.proofs.Common.{◌≡◌, ℕ, suc, ◌+◌, ◌-◌, ◌<◌, ◌≤◌, ◌⊎◌, List, [], length, get_or, sym, refl, ap, ◌∙◌, subst, inl, inr, arith, eq-eqb, ne_eqb}
use mathlib.Core.Option.{none, some}
use Rattle.machine.specs.Skips.{Leaf, One, Two, Many}
use Rattle.machine.specs.Skips.{past, then_of, then_at, Safe, SafeAt, Skips, SkipsAll, Found}
use Rattle.meaning.specs.Syntax.{Term, Branches, Constructor, File}
use Rattle.meaning.specs.Plain.{place_of, branch}
use Rattle.standing.specs.Bytes.{byte_at, mark_at, arity_in, params_in}
use Rattle.meaning.specs.declared.Mark.{Mark}
use Rattle.meaning.specs.Marks.{row_at, number_of, mark_of}
use Rattle.machine.proofs.step.Marked.{past_is}
use Rattle.standing.specs.Stands.{Stands, Each, count}
use Rattle.standing.specs.Table.{Declared}

module _ (bytes decl : List ℕ) where
  mutual
    pub skips_past : {at next : ℕ} → Skips bytes decl at next → at < next
    skips_past (Skips.leaf s e l) = l
    skips_past (Skips.one s e l k) = omega (arith, skips_past k)
    skips_past (Skips.two s e l k j) = omega (arith, skips_past k, skips_past j)
    skips_past (Skips.many s e l k) = omega (arith, skips_all_past k)

    pub skips_all_past : {at n next : ℕ} → SkipsAll bytes decl at n next → at ≤ next
    skips_all_past (SkipsAll.none e f) = omega arith
    skips_all_past (SkipsAll.more e b k j) = omega (arith, skips_past k, skips_all_past j)

  pub skips_safe : {at next : ℕ} → Skips bytes decl at next → Safe bytes at
  skips_safe (Skips.leaf s e l) = s
  skips_safe (Skips.one s e l k) = s
  skips_safe (Skips.two s e l k j) = s
  skips_safe (Skips.many s e l k) = s

  -- by what follows
  pub leaf_next : {at next m : ℕ} → Skips bytes decl at next → then_of bytes decl at ≡ Leaf m → next ≡ m
  leaf_next (Skips.leaf s e l) f = cc
  leaf_next (Skips.one s e l k) f = let z : ◌≡◌ {A = ℕ} 0 1 = cc in absurd (omega arith)
  leaf_next (Skips.two s e l k j) f = let z : ◌≡◌ {A = ℕ} 0 1 = cc in absurd (omega arith)
  leaf_next (Skips.many s e l k) f = let z : ◌≡◌ {A = ℕ} 0 1 = cc in absurd (omega arith)

  pub one_next : {at next m : ℕ} → Skips bytes decl at next → then_of bytes decl at ≡ One m → (at < m) × Skips bytes decl m next
  one_next (Skips.leaf s e l) f = let z : ◌≡◌ {A = ℕ} 0 1 = cc in absurd (omega arith)
  one_next {at} {next} {m} (Skips.one {m = n} s e l k) f = let q : n ≡ m = cc in (subst (λ x. at < x) q l, subst (λ x. Skips bytes decl x next) q k)
  one_next (Skips.two s e l k j) f = let z : ◌≡◌ {A = ℕ} 0 1 = cc in absurd (omega arith)
  one_next (Skips.many s e l k) f = let z : ◌≡◌ {A = ℕ} 0 1 = cc in absurd (omega arith)

  pub two_next : {at next m : ℕ} → Skips bytes decl at next → then_of bytes decl at ≡ Two m → (at < m) × ((k : ℕ) × Skips bytes decl m k × Skips bytes decl k next)
  two_next (Skips.leaf s e l) f = let z : ◌≡◌ {A = ℕ} 0 1 = cc in absurd (omega arith)
  two_next (Skips.one s e l k) f = let z : ◌≡◌ {A = ℕ} 0 1 = cc in absurd (omega arith)
  two_next {at} {next} {m} (Skips.two {m = n} {k = x} s e l k j) f = let q : n ≡ m = cc in (subst (λ x. at < x) q l, (x, subst (λ y. Skips bytes decl y x) q k, j))
  two_next (Skips.many s e l k) f = let z : ◌≡◌ {A = ℕ} 0 1 = cc in absurd (omega arith)

  pub many_next : {at next m n : ℕ} → Skips bytes decl at next → then_of bytes decl at ≡ Many m n → (at < m) × SkipsAll bytes decl m n next
  many_next (Skips.leaf s e l) f = let z : ◌≡◌ {A = ℕ} 0 1 = cc in absurd (omega arith)
  many_next (Skips.one s e l k) f = let z : ◌≡◌ {A = ℕ} 0 1 = cc in absurd (omega arith)
  many_next (Skips.two s e l k j) f = let z : ◌≡◌ {A = ℕ} 0 1 = cc in absurd (omega arith)
  many_next {at} {next} {m} {n} (Skips.many {m = x} {n = y} s e l k) f =
      let q : x ≡ m = cc in
      let v : y ≡ n = cc in
      (subst (λ x. at < x) q l, subst (λ y. SkipsAll bytes decl m y next) v (subst (λ x. SkipsAll bytes decl x y next) q k))

  mutual
    pub skips_one : {at n m : ℕ} → Skips bytes decl at n → Skips bytes decl at m → n ≡ m
    skips_one (Skips.leaf s e l) k = sym (leaf_next k e)
    skips_one (Skips.one s e l j) k = skips_one j (one_next k e).1
    skips_one {m = m} (Skips.two s e l i j) k =
        let t = (two_next k e).1 in
        skips_one j (subst (λ x. Skips bytes decl x m) (sym (skips_one i t.1)) t.2)
    skips_one (Skips.many s e l j) k = all_one j (many_next k e).1

    pub all_one : {at n a b : ℕ} → SkipsAll bytes decl at n a → SkipsAll bytes decl at n b → a ≡ b
    all_one (SkipsAll.none e f) (SkipsAll.none g h) = f ∙ sym h
    all_one (SkipsAll.none e f) (SkipsAll.more g b j k) = absurd (omega arith)
    all_one (SkipsAll.more e b j k) (SkipsAll.none g h) = absurd (omega arith)
    all_one {b = b} (SkipsAll.more {k = x} {m = y} e c j k) (SkipsAll.more {k = z} {m = w} g d u v) =
        let p : z ≡ x = omega arith in
        let q : w ≡ y = sym (skips_one j u) in
        all_one k (subst (λ i. SkipsAll bytes decl y i b) p (subst (λ i. SkipsAll bytes decl i z b) q v))

module _ (file : File) (bytes decl : List ℕ) (d : Declared file bytes decl) where
  node_then : (p : ℕ) {m : ℕ} (k : Mark) → mark_at bytes p ≡ m → mark_of m ≡ k → then_of bytes decl p ≡ then_at k bytes decl p
  unfolding then_of
  node_then p k e f = ap (λ x. then_at x bytes decl p) (ap mark_of e ∙ f)

  node_safe : (p : ℕ) {m : ℕ} (k : Mark) → mark_at bytes p ≡ m → mark_of m ≡ k → SafeAt k bytes p → p + 3 ≤ length bytes → Safe bytes p
  node_safe p k e f s l = (l, subst (λ x. SafeAt x bytes p) (sym (ap mark_of e ∙ f)) s)

  mutual
    unfolding mark_of row_at number_of

    pub stands_skips : {slots next : ℕ} {t : Term} → Stands file bytes slots t next → Skips bytes decl (place_of t) next
    stands_skips (Stands.GV {p = p} m b e n) =
        let z = past_is Mark.GV refl p in
        Skips.leaf (node_safe p Mark.GV m refl tt b) (node_then p Mark.GV m refl ∙ ap (λ x. Leaf x) (z ∙ sym n)) (omega arith)
    stands_skips {next = next} (Stands.AT {p = p} m b e l q x) =
        let z = past_is Mark.AT refl p in
        Skips.one (node_safe p Mark.AT m refl tt b) (node_then p Mark.AT m refl) (omega arith) (subst (λ a. Skips bytes decl a next) (q ∙ sym z) (stands_skips x))
    stands_skips {next = next} (Stands.MK {p = p} {c} {t = t} m b e f g h i l q x) =
        let z = past_is Mark.MK refl p in
        let n = d.constructors in
        let k : place_of t ≡ past Mark.MK p + arity_in decl (byte_at bytes (p + 2)) = q ∙ (λ j. sym z j + (i ∙ sym (d.arities c h) ∙ ap (λ c. arity_in decl c) (sym e)) j) in
        Skips.one (node_safe p Mark.MK m refl (omega (arith, e)) (omega arith)) (node_then p Mark.MK m refl) (omega arith) (subst (λ a. Skips bytes decl a next) k (stands_skips x))
    stands_skips {next = next} (Stands.CL {p = p} {f} {t = t} m b e g h i l q x) =
        let z = past_is Mark.CL refl p in
        let n = d.functions in
        let k : place_of t ≡ past Mark.CL p + params_in decl (byte_at bytes (p + 2)) = q ∙ (λ j. sym z j + (i ∙ sym (d.parameters f h) ∙ ap (λ c. params_in decl c) (sym e)) j) in
        Skips.one (node_safe p Mark.CL m refl (omega (arith, e)) (omega arith)) (node_then p Mark.CL m refl) (omega arith) (subst (λ a. Skips bytes decl a next) k (stands_skips x))
    stands_skips (Stands.TL {p = p} {f} m b e g h i n) =
        let z = past_is Mark.TL refl p in
        let l = d.functions in
        let k = n ∙ (λ j. sym z j + (i ∙ sym (d.parameters f h) ∙ ap (λ c. params_in decl c) (sym e)) j) in
        Skips.leaf (node_safe p Mark.TL m refl (omega (arith, e)) (omega arith)) (node_then p Mark.TL m refl ∙ ap (λ x. Leaf x) (sym k)) (omega arith)
    stands_skips {next = next} (Stands.OP {p = p} m b e f x) =
        let z = past_is Mark.OP refl p in
        Skips.many (node_safe p Mark.OP m refl b (omega arith)) (node_then p Mark.OP m refl) (omega arith)
        (subst (λ a. SkipsAll bytes decl a (byte_at bytes (p + 3)) next) (sym z) (subst (λ k. SkipsAll bytes decl (p + 4) k next) (sym f) (each_skips x)))
    stands_skips {next = next} (Stands.LK {p = p} m b e f x) =
        let z = past_is Mark.LK refl p in
        Skips.many (node_safe p Mark.LK m refl b (omega arith)) (node_then p Mark.LK m refl) (omega arith)
        (subst (λ a. SkipsAll bytes decl a (byte_at bytes (p + 3)) next) (sym z) (subst (λ k. SkipsAll bytes decl (p + 4) k next) (sym f) (each_skips x)))
    stands_skips {next = next} (Stands.NU {p = p} m b e l q x) =
        let z = past_is Mark.NU refl p in
        Skips.one (node_safe p Mark.NU m refl tt (omega arith)) (node_then p Mark.NU m refl) (omega arith) (subst (λ a. Skips bytes decl a next) (q ∙ sym z) (stands_skips x))
    stands_skips {next = next} (Stands.AR {p = p} m b e f g l q x) =
        let z = past_is Mark.AR refl p in
        Skips.one (node_safe p Mark.AR m refl tt (omega arith)) (node_then p Mark.AR m refl) (omega arith) (subst (λ a. Skips bytes decl a next) (q ∙ sym z) (stands_skips x))
    stands_skips {next = next} (Stands.IF {p = p} {second = second} m b e q x r y) =
        let z = past_is Mark.IF refl p in
        Skips.two (node_safe p Mark.IF m refl tt b) (node_then p Mark.IF m refl) (omega arith)
        (subst (λ a. Skips bytes decl a second) (q ∙ sym z) (stands_skips x)) (subst (λ a. Skips bytes decl a next) r (stands_skips y))

    pub each_skips : {slots at next : ℕ} {extra : Constructor → ℕ} {bs : Branches} → Each file bytes slots extra at bs next → SkipsAll bytes decl at (count bs) next
    each_skips (Each.end e) = SkipsAll.none refl e
    each_skips (Each.BR {second = second} a g b e h l q x y) =
        SkipsAll.more refl (ap (λ z. mark_of (mark_at bytes z)) a ∙ ap mark_of g) (subst (λ z. Skips bytes decl z second) (q ∙ ap (λ z. z + 3) (sym a)) (stands_skips x)) (each_skips y)

  -- what stands ends within the file
  mutual
    pub stands_ends : {slots next : ℕ} {t : Term} → Stands file bytes slots t next → next ≤ length bytes
    stands_ends (Stands.GV m b e n) = omega arith
    stands_ends (Stands.AT m b e l q x) = stands_ends x
    stands_ends (Stands.MK m b e f g h i l q x) = stands_ends x
    stands_ends (Stands.CL m b e g h i l q x) = stands_ends x
    stands_ends (Stands.TL m b e g h i n) = omega arith
    stands_ends (Stands.OP m b e f x) = each_ends b x
    stands_ends (Stands.LK m b e f x) = each_ends b x
    stands_ends (Stands.NU m b e l q x) = stands_ends x
    stands_ends (Stands.AR m b e f g l q x) = stands_ends x
    stands_ends (Stands.IF m b e q x r y) = stands_ends y

    pub each_ends : {slots at next : ℕ} {extra : Constructor → ℕ} {bs : Branches} → at ≤ length bytes → Each file bytes slots extra at bs next → next ≤ length bytes
    each_ends h (Each.end e) = omega arith
    each_ends h (Each.BR a g b e i l q x y) = each_ends (stands_ends x) y

  -- the branch that is found
  pub record Taken (slots : ℕ) (extra : Constructor → ℕ) (bs : Branches) (con r : ℕ) : Type 0 where
    pub term : Term
    pub next : ℕ
    pub is : branch bs con ≡ some term
    pub here : r ≡ place_of term
    pub past : 0 < r
    pub known : con < length file.constructors
    pub fits : slots + (length (get_or file.constructors con []) + extra (get_or file.constructors con [])) ≤ 32
    pub stands : Stands file bytes (slots + (length (get_or file.constructors con []) + extra (get_or file.constructors con []))) term next

  pub found_branch : {slots at next con n r : ℕ} {extra : Constructor → ℕ} {bs : Branches} → Each file bytes slots extra at bs next → count bs ≡ n → Found bytes decl con at n r
      → ((branch bs con ≡ none) × (r ≡ 0)) ⊎ Taken slots extra bs con r
  found_branch (Each.end e) c (Found.none f g) = inl (refl, g)
  found_branch (Each.end e) c (Found.here f g h) = absurd (omega arith)
  found_branch (Each.end e) c (Found.later f g h i) = absurd (omega arith)
  found_branch (Each.BR a j b e h l q x y) c (Found.none f g) = absurd (omega arith)
  found_branch {slots} {con = con} {extra = extra} (Each.BR {p = p} {c = k} {second = second} {t = t} a j b e h l q x y) c (Found.here f g i) =
      let z : con ≡ k = sym g ∙ ap (λ v. byte_at bytes (v + 2)) a ∙ e in
      inr (record {
        term = t;
        next = second;
        is = rw (eq-eqb con k z, branch);
        here = i ∙ ap (λ v. v + 3) a ∙ sym q;
        past = omega arith;
        known = subst (λ v. v < length file.constructors) (sym z) h;
        fits = subst (λ v. slots + (length (get_or file.constructors v []) + extra (get_or file.constructors v [])) ≤ 32) (sym z) l;
        stands = subst (λ v. Stands file bytes (slots + (length (get_or file.constructors v []) + extra (get_or file.constructors v []))) t second) (sym z) x;
      })
  found_branch {slots} {con = con} {r = r} {extra = extra} (Each.BR {p = p} {c = k} {second = second} {t = t} {bs} a o b e h l q x y) c (Found.later {k = j} {m = m} f g s u) =
      let z : second ≡ m = skips_one bytes decl (subst (λ v. Skips bytes decl v second) (q ∙ ap (λ v. v + 3) (sym a)) (stands_skips x)) s in
      let w = found_branch y (omega arith) (subst (λ v. Found bytes decl con v j r) (sym z) u) in
      rw (ne_eqb con k (λ v. g (ap (λ v. byte_at bytes (v + 2)) a ∙ e ∙ sym v)), branch)
      (elim w [
        | inl v ↦ inl v
        | inr v ↦ inr (record { term = v.term; next = v.next; is = rw (ne_eqb con k (λ v. g (ap (λ v. byte_at bytes (v + 2)) a ∙ e ∙ sym v)), branch) v.is; here = v.here; past = v.past; known = v.known; fits = v.fits; stands = v.stands })
      ])

module _ (bytes decl : List ℕ) where
  pub all_next : {at n next : ℕ} → SkipsAll bytes decl at n next → (n ≡ 0 → ⊥) → (m : ℕ) × Skips bytes decl (at + 3) m × SkipsAll bytes decl m (n - 1) next
  all_next (SkipsAll.none e f) z = absurd (z e)
  all_next {n = n} {next = next} (SkipsAll.more {k = k} {m = m} e b s r) z = let q : k ≡ n - 1 = omega arith in (m, s, subst (λ x. SkipsAll bytes decl m x next) q r)

  pub all_from : {at m k n next : ℕ} → Skips bytes decl at m → Skips bytes decl at k → SkipsAll bytes decl m n next → SkipsAll bytes decl k n next
  all_from {n = n} {next = next} s r x = subst (λ y. SkipsAll bytes decl y n next) (skips_one bytes decl s r) x

  pub found_here : {con at n c : ℕ} → 0 < n → c ≡ byte_at bytes (at + 2) → c ≡ con → Found bytes decl con at n (at + 3)
  found_here {n = n} h e f = let q : n ≡ suc (n - 1) = omega arith in Found.here q (sym e ∙ f) refl

  pub found_later : {con at n m r c : ℕ} → 0 < n → c ≡ byte_at bytes (at + 2) → (c ≡ con → ⊥) → Skips bytes decl (at + 3) m → Found bytes decl con m (n - 1) r → Found bytes decl con at n r
  found_later {n = n} h e f s x = let q : n ≡ suc (n - 1) = omega arith in Found.later q (λ z. f (e ∙ z)) s x
