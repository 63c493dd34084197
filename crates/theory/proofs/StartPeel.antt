-- Removal in topological order leaves nothing exactly where no cell reaches itself. Assumes nothing.
use Prim.Native.Nat.{ℕ, zero, suc, ◌+◌, ◌≤◌, ◌<◌}
use mathlib.Core.Path.{◌≡◌, refl, sym, ap, ◌∙◌, subst}
use mathlib.Core.Logic.{⊎_elim}
use mathlib.Core.List.{List, [], ◌∷◌, ◌++◌}
use mathlib.Core.Bool.{true, false, true≢false}
use native.Mathlib.Omega.{arith}
use lib.Dec.{eqb, leb}
use lib.ListN.{length, get_or, take, length-append, length-take, get_or-append}
use lib.Seq.{take-append-le, take-suc, take_all, get_or_at, take_at, get_or-take}
use borrow.Author.Tests.{le-leb, lt-leb, leb-true, leb-false}
use Rattle.meaning.specs.Choice.{pick}
use Rattle.meaning.specs.Walk.{count, Walk, walk, visit, visits, drain}
use Rattle.theory.proofs.StartGraph.{Way, single, more}
use Rattle.theory.proofs.Reached.{one_if, count_cons}
use Rattle.theory.proofs.StartCounting.{total, same?, le?, one_same, one_other, total_append, total_cons, total_nil, total_le, total_ge, length_le, count_take, place_of, find}
use Rattle.theory.proofs.StartWalk.{Kept, Drained, drain_step, visit_kept, visit_grows, taken, passed, met_count}
use Rattle.theory.proofs.StartReached.{Done}

-- each cell of q stands after every cell that names it
abbrev pub Ordered : (ℕ → List ℕ) → List ℕ → List ℕ → Type 0
Ordered kids cells q = (i : ℕ) → i < length q → (d : ℕ) → 1 ≤ count d cells → 1 ≤ count (get_or q i 0) (kids d) → 1 ≤ count d (take i q)

ordered_snoc : (kids : ℕ → List ℕ) (cells q : List ℕ) (c : ℕ) → Ordered kids cells q → ((d : ℕ) → 1 ≤ count d cells → 1 ≤ count c (kids d) → 1 ≤ count d q) → Ordered kids cells (q ++ (c ∷ []))
ordered_snoc kids cells q c o h i l d m k =
    ⊎_elim
    (λ (p : suc i ≤ length q).
    let e : get_or (q ++ (c ∷ [])) i 0 ≡ get_or q i 0 = get_or-append q (c ∷ []) 0 i p in
    let k' : 1 ≤ count (get_or q i 0) (kids d) = subst (λ y. 1 ≤ count y (kids d)) e k in
    let le : i ≤ length q = omega arith in
    rw (take-append-le i q (c ∷ []) le) (o i p d m k'))
    (λ (p : length q < suc i).
    let b : length (q ++ (c ∷ [])) ≡ length q + 1 = length-append q (c ∷ []) in
    let e : length q ≡ i = omega arith in
    let k' : 1 ≤ count c (kids d) = subst (λ y. 1 ≤ count y (kids d)) (get_or_at q c [] 0 i e) k in
    rw (take_at q (c ∷ []) i e) (h d m k'))
    (le? (suc i) (length q))

module _ (kids : ℕ → List ℕ) (roots : List ℕ) (s₁ : Walk) (d₁ : Done kids (λ _. 1) roots s₁) where
  abbrev t₂ : ℕ → ℕ
  t₂ c = count c s₁.seen

  in_cells : (x : ℕ) → 1 ≤ count x s₁.seen → 1 ≤ count x s₁.queue
  in_cells x h = d₁.kept.ins x (omega arith) h

  -- a cell that has been named as often as in all is named by no cell outside the first m
  enough : (m : ℕ) (s : Walk) (c d : ℕ) → Kept t₂ s → count c s₁.seen ≤ count c roots + total (λ e. count c (kids e)) (take m s.queue)
      → 1 ≤ count d s₁.queue → 1 ≤ count c (kids d) → 1 ≤ count d (take m s.queue)
  enough m s c d k h i n =
      ⊎_elim
      (λ (p : 1 ≤ count d (take m s.queue)). p)
      (λ (p : count d (take m s.queue) < 1).
      let f : ℕ → ℕ = λ e. count c (kids e) in
      let each : (e : ℕ) → 1 ≤ f e → count e (d ∷ take m s.queue) ≤ count e s₁.queue = λ e _.
      ⊎_elim
      (λ (q : e ≡ d).
      let a : count e s₁.queue ≡ count d s₁.queue = ap (λ y. count y s₁.queue) q in
      let b : count e (take m s.queue) ≡ count d (take m s.queue) = ap (λ y. count y (take m s.queue)) q in
      omega (arith, count_cons e d (take m s.queue), one_same e d q))
      (λ (q : e ≡ d → ⊥).
      ⊎_elim
      (λ (r : 1 ≤ count e s.queue). omega (arith, count_cons e d (take m s.queue), one_other e d q, count_take e m s.queue, k.once e, in_cells e (k.outs e r).0))
      (λ (r : count e s.queue < 1). omega (arith, count_cons e d (take m s.queue), one_other e d q, count_take e m s.queue))
      (le? 1 (count e s.queue)))
      (same? e d) in
      absurd (omega (arith, d₁.all c, total_cons f d (take m s.queue), total_le f (d ∷ take m s.queue) s₁.queue each)))
      (le? 1 (count d (take m s.queue)))

  visit_ordered : (m : ℕ) (s : Walk) (c : ℕ) → Kept t₂ s → Ordered kids s₁.queue s.queue
      → one_if (eqb c c) + count c s.seen ≤ count c roots + total (λ e. count c (kids e)) (take m s.queue) → Ordered kids s₁.queue (visit t₂ s c).queue
  visit_ordered m s c k o h =
      ⊎_elim
      (λ (e : 1 + count c s.seen ≡ t₂ c).
      rw (taken t₂ s c e)
      (ordered_snoc kids s₁.queue s.queue c o (λ d i n. omega (arith, count_take d m s.queue, enough m s c d k (omega (arith, one_same c c refl)) i n))))
      (λ (e : 1 + count c s.seen ≡ t₂ c → ⊥). rw (passed t₂ s c e) o)
      (same? (1 + count c s.seen) (t₂ c))

  visits_ordered : (m : ℕ) (s : Walk) (cs : List ℕ) → Kept t₂ s → m ≤ length s.queue → Ordered kids s₁.queue s.queue
      → ((x : ℕ) → count x cs + count x s.seen ≤ count x roots + total (λ e. count x (kids e)) (take m s.queue)) → Ordered kids s₁.queue (visits t₂ s cs).queue
  unfolding visits
  visits_ordered m s [] k l o h = o
  visits_ordered m s (c ∷ cs) k l o h =
      let g = visit_grows t₂ s c in
      let prefix : take m (visit t₂ s c).queue ≡ take m s.queue = ap (take m) g.1 ∙ take-append-le m s.queue g.0 l in
      let far : m ≤ length (visit t₂ s c).queue = rw g.1 (simp length-append (omega arith)) in
      visits_ordered m (visit t₂ s c) cs (visit_kept t₂ s c k) far
      (visit_ordered m s c k o (omega (arith, h c, count_cons c c cs)))
      (λ x. rw prefix (omega (arith, h x, count_cons x c cs, met_count t₂ s c x)))

  pub drain_ordered : (n head : ℕ) (s : Walk) → Drained kids t₂ roots head s → Ordered kids s₁.queue s.queue → Ordered kids s₁.queue (drain kids t₂ n head s).queue
  unfolding drain pick
  drain_ordered zero head s d o = o
  drain_ordered (suc n) head s d o =
      ⊎_elim
      (λ (p : length s.queue ≤ head). rw (le-leb (length s.queue) head p) o)
      (λ (p : head < length s.queue).
      rw (lt-leb (length s.queue) head p)
      (drain_ordered n (suc head) (visits t₂ s (kids (get_or s.queue head 0))) (drain_step kids t₂ roots head s d p)
      (visits_ordered (suc head) s (kids (get_or s.queue head 0)) d.kept p o
      (λ x.
      let f : ℕ → ℕ = λ e. count x (kids e) in
      rw (take-suc s.queue head 0 p)
      (omega (arith, d.all x, total_append f (take head s.queue) (get_or s.queue head 0 ∷ []), total_cons f (get_or s.queue head 0) [], total_nil f))))))
      (le? (length s.queue) head)

  pub roots_ordered : Ordered kids s₁.queue (visits t₂ (walk [] []) roots).queue
  roots_ordered =
      visits_ordered 0 (walk [] []) roots
      (record { once = λ x. omega (arith); ins = λ x p q. omega (arith); outs = λ x p. absurd (omega (arith)) })
      (omega arith)
      (λ i l. absurd (omega arith))
      (λ x. omega (arith, total_nil (λ e. count x (kids e))))

-- ways
join : (kids : ℕ → List ℕ) (d e : ℕ) → Way kids d e → {x : ℕ} → Way kids e x → Way kids d x
join kids d e w (single x p) = more e x w p
join kids d e w (more f x v p) = more f x (join kids d e w v) p

-- where each of some cells is reached from one-if (eqb of them), one-if (eqb reaches itself)
cycle : (kids : ℕ → List ℕ) (B : List ℕ) (b : ℕ) → 1 ≤ count b B → ((x : ℕ) → 1 ≤ count x B → (y : ℕ) × (1 ≤ count y B) × Way kids y x) → (x : ℕ) × (1 ≤ count x B) × Way kids x x
cycle kids [] b h g = absurd (omega (arith))
cycle kids (a ∷ B) b h g =
    let ina : 1 ≤ count a (a ∷ B) = omega (arith, count_cons a a B, one_same a a refl) in
    let p = g a ina in
    ⊎_elim
    (λ (e : p.0 ≡ a). (a, ina, subst (λ y. Way kids y a) e p.2))
    (λ (e : p.0 ≡ a → ⊥).
    let inp : 1 ≤ count p.0 B = omega (arith, count_cons p.0 a B, one_other p.0 a e, p.1) in
    let g' : (x : ℕ) → 1 ≤ count x B → (y : ℕ) × (1 ≤ count y B) × Way kids y x = λ x i.
    let q = g x (omega (arith, count_cons x a B)) in
    ⊎_elim
    (λ (r : q.0 ≡ a). (p.0, inp, join kids p.0 a p.2 (subst (λ y. Way kids y x) r q.2)))
    (λ (r : q.0 ≡ a → ⊥). (q.0, omega (arith, count_cons q.0 a B, one_other q.0 a r, q.1), q.2))
    (same? q.0 a) in
    let r = cycle kids B p.0 inp g' in
    (r.0, omega (arith, count_cons r.0 a B, r.1), r.2))
    (same? p.0 a)

-- the cells of a list that are not in another
missing : List ℕ → List ℕ → List ℕ
missing q [] = []
missing q (d ∷ l) = pick (leb 1 (count d q)) (missing q l) (d ∷ missing q l)

missing_in : (q : List ℕ) (d : ℕ) (l : List ℕ) → 1 ≤ count d q → count d (missing q l) ≡ 0
unfolding missing pick
missing_in q d [] h = refl
missing_in q d (a ∷ l) h =
    ⊎_elim
    (λ (p : 1 ≤ count a q). rw (le-leb 1 (count a q) p) (missing_in q d l h))
    (λ (p : count a q < 1).
    let n : d ≡ a → ⊥ = λ e. (let z : count d q ≡ count a q = ap (λ y. count y q) e in omega arith) in
    rw (lt-leb 1 (count a q) p) (omega (arith, count_cons d a (missing q l), one_other d a n, missing_in q d l h)))
    (le? 1 (count a q))

missing_out : (q : List ℕ) (d : ℕ) (l : List ℕ) → count d q < 1 → count d (missing q l) ≡ count d l
unfolding missing pick
missing_out q d [] h = refl
missing_out q d (a ∷ l) h =
    ⊎_elim
    (λ (p : 1 ≤ count a q).
    let n : d ≡ a → ⊥ = λ e. (let z : count d q ≡ count a q = ap (λ y. count y q) e in omega arith) in
    rw (le-leb 1 (count a q) p) (omega (arith, count_cons d a l, one_other d a n, missing_out q d l h)))
    (λ (p : count a q < 1). rw (lt-leb 1 (count a q) p) (omega (arith, count_cons d a l, count_cons d a (missing q l), missing_out q d l h)))
    (le? 1 (count a q))

module _ (kids : ℕ → List ℕ) (roots : List ℕ) (s₁ s₂ : Walk) (d₁ : Done kids (λ _. 1) roots s₁) (d₂ : Done kids (λ c. count c s₁.seen) roots s₂) where
  gone : (x : ℕ) → 1 ≤ count x (missing s₂.queue s₁.queue) → (count x s₂.queue < 1) × (1 ≤ count x s₁.queue)
  gone x h =
      ⊎_elim
      (λ (p : 1 ≤ count x s₂.queue). absurd (omega (arith, missing_in s₂.queue x s₁.queue p)))
      (λ (p : count x s₂.queue < 1). (p, omega (arith, missing_out s₂.queue x s₁.queue p)))
      (le? 1 (count x s₂.queue))

  -- a cell held back is named by a cell held back
  held : (x : ℕ) → 1 ≤ count x (missing s₂.queue s₁.queue) → (y : ℕ) × (1 ≤ count y (missing s₂.queue s₁.queue)) × Way kids y x
  held x h =
      ⊎_elim
      (λ (r : (d : ℕ) × (1 ≤ count d (missing s₂.queue s₁.queue)) × (leb 1 (count x (kids d)) ≡ true)). (r.0, r.1, single x (leb-true 1 (count x (kids r.0)) r.2)))
      (λ (r : (d : ℕ) → 1 ≤ count d (missing s₂.queue s₁.queue) → leb 1 (count x (kids d)) ≡ false).
      let f : ℕ → ℕ = λ e. count x (kids e) in
      let each : (d : ℕ) → 1 ≤ f d → count d s₁.queue ≤ count d s₂.queue = λ d n.
      ⊎_elim
      (λ (p : 1 ≤ count d s₂.queue). omega (arith, d₁.kept.once d))
      (λ (p : count d s₂.queue < 1).
      ⊎_elim
      (λ (q : 1 ≤ count d s₁.queue). absurd (omega (arith, leb-false 1 (count x (kids d)) (r d (omega (arith, missing_out s₂.queue d s₁.queue p))))))
      (λ (q : count d s₁.queue < 1). omega arith)
      (le? 1 (count d s₁.queue)))
      (le? 1 (count d s₂.queue)) in
      let w = gone x h in
      let o = d₁.kept.outs x w.1 in
      absurd (omega (arith, w.0, d₂.kept.ins x o.1 (omega (arith, d₁.all x, d₂.all x, total_le f s₁.queue s₂.queue each)))))
      (find (λ d. leb 1 (count x (kids d))) (missing s₂.queue s₁.queue))

  pub loop_there : length s₂.queue < length s₁.queue → (x : ℕ) × (1 ≤ count x s₁.queue) × Way kids x x
  loop_there h =
      ⊎_elim
      (λ (r : (d : ℕ) × (1 ≤ count d (missing s₂.queue s₁.queue)) × (true ≡ true)).
      let c = cycle kids (missing s₂.queue s₁.queue) r.0 r.1 held in
      (c.0, (gone c.0 c.1).1, c.2))
      (λ (r : (d : ℕ) → 1 ≤ count d (missing s₂.queue s₁.queue) → true ≡ false).
      let each : (d : ℕ) → count d s₁.queue ≤ count d s₂.queue = λ d.
      ⊎_elim
      (λ (p : 1 ≤ count d s₂.queue). omega (arith, d₁.kept.once d))
      (λ (p : count d s₂.queue < 1).
      ⊎_elim
      (λ (q : 1 ≤ count d s₁.queue). absurd (true≢false (r d (omega (arith, missing_out s₂.queue d s₁.queue p)))))
      (λ (q : count d s₁.queue < 1). omega arith)
      (le? 1 (count d s₁.queue)))
      (le? 1 (count d s₂.queue)) in
      absurd (omega (arith, length_le s₁.queue s₂.queue each)))
      (find (λ _. true) (missing s₂.queue s₁.queue))

  -- where nothing is held back
  inside_first : (x : ℕ) → 1 ≤ count x s₂.queue → 1 ≤ count x s₁.queue
  inside_first x h = d₁.kept.ins x (omega arith) (d₂.kept.outs x h).0

  pub all_out : length s₁.queue ≤ length s₂.queue → (d : ℕ) → 1 ≤ count d s₁.queue → 1 ≤ count d s₂.queue
  all_out h d i =
      ⊎_elim
      (λ (p : 1 ≤ count d s₂.queue). p)
      (λ (p : count d s₂.queue < 1).
      let each : (e : ℕ) → count e (d ∷ s₂.queue) ≤ count e s₁.queue = λ e.
      ⊎_elim
      (λ (q : e ≡ d).
      let a : count e s₁.queue ≡ count d s₁.queue = ap (λ y. count y s₁.queue) q in
      let b : count e s₂.queue ≡ count d s₂.queue = ap (λ y. count y s₂.queue) q in
      omega (arith, count_cons e d s₂.queue, one_same e d q))
      (λ (q : e ≡ d → ⊥).
      ⊎_elim
      (λ (r : 1 ≤ count e s₂.queue). omega (arith, count_cons e d s₂.queue, one_other e d q, d₂.kept.once e, inside_first e r))
      (λ (r : count e s₂.queue < 1). omega (arith, count_cons e d s₂.queue, one_other e d q))
      (le? 1 (count e s₂.queue)))
      (same? e d) in
      absurd (omega (arith, length_le (d ∷ s₂.queue) s₁.queue each)))
      (le? 1 (count d s₂.queue))

  pub closed : (d x : ℕ) → 1 ≤ count d s₁.queue → 1 ≤ count x (kids d) → 1 ≤ count x s₁.queue
  closed d x i n = d₁.kept.ins x (omega arith) (omega (arith, d₁.all x, total_ge (λ e. count x (kids e)) d s₁.queue i))

  way_in : (d : ℕ) → 1 ≤ count d s₁.queue → {x : ℕ} → Way kids d x → 1 ≤ count x s₁.queue
  way_in d i (single x n) = closed d x i n
  way_in d i (more e x w n) = closed e x (way_in d i w) n

  pub step_back : Ordered kids s₁.queue s₂.queue → (i d x : ℕ) → 1 ≤ count d s₁.queue → 1 ≤ count x (kids d) → 1 ≤ count x (take i s₂.queue) → (j : ℕ) × (j < i) × (1 ≤ count d (take j s₂.queue))
  step_back o i d x m n h =
      let p = place_of x (take i s₂.queue) h in
      let l = length-take i s₂.queue in
      let lt : p.0 < i = omega (arith, p.1) in
      let lq : p.0 < length s₂.queue = omega (arith, p.1) in
      let e : x ≡ get_or s₂.queue p.0 0 = sym p.2 ∙ get_or-take i s₂.queue p.0 0 lt in
      (p.0, lt, o p.0 lq d m (subst (λ y. 1 ≤ count y (kids d)) e n))

  way_back : Ordered kids s₁.queue s₂.queue → (d : ℕ) → 1 ≤ count d s₁.queue → {x : ℕ} → Way kids d x → (i : ℕ) → 1 ≤ count x (take i s₂.queue) → (j : ℕ) × (j < i) × (1 ≤ count d (take j s₂.queue))
  way_back o d m (single x n) i h = step_back o i d x m n h
  way_back o d m (more e x w n) i h =
      let a = step_back o i e x (way_in d m w) n h in
      let b = way_back o d m w a.0 a.2 in
      (b.0, omega (arith, a.1, b.1), b.2)

  descent : Ordered kids s₁.queue s₂.queue → (x : ℕ) → 1 ≤ count x s₁.queue → Way kids x x → (n i : ℕ) → i ≤ n → 1 ≤ count x (take i s₂.queue) → ⊥
  descent o x m w zero i l h = let b = way_back o x m w i h in omega (arith, b.1)
  descent o x m w (suc n) i l h = let b = way_back o x m w i h in descent o x m w n b.0 (omega (arith, b.1)) b.2

  pub no_loop : Ordered kids s₁.queue s₂.queue → length s₁.queue ≤ length s₂.queue → (x : ℕ) → 1 ≤ count x s₁.queue → Way kids x x → ⊥
  no_loop o h x m w =
      descent o x m w (length s₂.queue) (length s₂.queue) (omega arith)
      (rw (take_all (length s₂.queue) s₂.queue (omega arith)) (all_out h x m))
