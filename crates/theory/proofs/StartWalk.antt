-- What a walk by a worklist has met and queued. Assumes nothing.
use Prim.Native.Nat.{ℕ, suc, ◌+◌, ◌≤◌, ◌<◌}
use mathlib.Core.Path.{◌≡◌, refl, sym, ap, ◌∙◌}
use mathlib.Core.Logic.{◌⊎◌, inl, inr, ⊎_elim}
use mathlib.Core.List.{List, [], ◌∷◌, ◌++◌, append_assoc, append-nil}
use native.Mathlib.Omega.{arith}
use lib.Dec.{eqb}
use lib.ListN.{length, get_or, take, length-append}
use lib.Seq.{take-append-le, take-suc}
use borrow.Author.Tests.{eq-eqb, ne_eqb}
use Rattle.meaning.specs.Choice.{pick}
use Rattle.meaning.specs.Walk.{count, Walk, visit, visits}
use Rattle.theory.proofs.Reached.{one_if, count_cons, count_append}
use Rattle.theory.proofs.StartCounting.{total, same?, le?, one_same, one_other, total_append, total_cons, total_nil}

-- one visit
pub taken : (t : ℕ → ℕ) (s : Walk) (c : ℕ) → 1 + count c s.seen ≡ t c → (visit t s c).queue ≡ s.queue ++ (c ∷ [])
unfolding visit pick
taken t s c e = rw (eq-eqb (count c (c ∷ s.seen)) (t c) (count_cons c c s.seen ∙ rw (one_same c c refl) e))

pub passed : (t : ℕ → ℕ) (s : Walk) (c : ℕ) → (1 + count c s.seen ≡ t c → ⊥) → (visit t s c).queue ≡ s.queue
unfolding visit pick
passed t s c n = rw (ne_eqb (count c (c ∷ s.seen)) (t c) (λ e. n (sym (count_cons c c s.seen ∙ rw (one_same c c refl)) ∙ e)))

pub met : (t : ℕ → ℕ) (s : Walk) (c : ℕ) → (visit t s c).seen ≡ c ∷ s.seen
unfolding visit
met t s c = refl

pub met_count : (t : ℕ → ℕ) (s : Walk) (c x : ℕ) → count x (visit t s c).seen ≡ one_if (eqb x c) + count x s.seen
unfolding visit
met_count t s c x = count_cons x c s.seen

-- the queue holds, once each, the cells named as often as t says
pub record Kept (t : ℕ → ℕ) (s : Walk) : Type 0 where
  pub once : (x : ℕ) → count x s.queue ≤ 1
  pub ins : (x : ℕ) → 1 ≤ t x → t x ≤ count x s.seen → 1 ≤ count x s.queue
  pub outs : (x : ℕ) → 1 ≤ count x s.queue → (1 ≤ t x) × (t x ≤ count x s.seen)

count_snoc : (x c : ℕ) (q : List ℕ) → count x (q ++ (c ∷ [])) ≡ count x q + one_if (eqb x c)
count_snoc x c q = count_append x q (c ∷ []) ∙ ap (λ n. count x q + n) (count_cons x c [] ∙ omega (arith))

abbrev KeptAt : (t : ℕ → ℕ) (s q : List ℕ) (x : ℕ) → Type 0
KeptAt t s q x = (count x q ≤ 1) × (1 ≤ t x → t x ≤ count x s → 1 ≤ count x q) × (1 ≤ count x q → (1 ≤ t x) × (t x ≤ count x s))

kept_taken : (t : ℕ → ℕ) (s : Walk) (c x : ℕ) → Kept t s → 1 + count c s.seen ≡ t c → (x ≡ c) ⊎ (x ≡ c → ⊥) → KeptAt t (c ∷ s.seen) (s.queue ++ (c ∷ [])) x
kept_taken t s c x k e (inl q) =
    let a = count_snoc x c s.queue in
    let b = count_cons x c s.seen in
    let o = one_same x c q in
    let te : t x ≡ t c = ap t q in
    let se : count x s.seen ≡ count c s.seen = ap (λ y. count y s.seen) q in
    ⊎_elim
    (λ (p : 1 ≤ count x s.queue). absurd (omega (arith, (k.outs x p).1)))
    (λ (p : count x s.queue < 1). (omega arith, (λ u v. omega arith), λ u. (omega arith, omega arith)))
    (le? 1 (count x s.queue))
kept_taken t s c x k e (inr q) =
    let a = count_snoc x c s.queue in
    let b = count_cons x c s.seen in
    let o = one_other x c q in
    (omega (arith, k.once x), (λ u v. omega (arith, k.ins x u (omega arith))), λ u. (omega (arith, (k.outs x (omega arith)).0), omega (arith, (k.outs x (omega arith)).1)))

kept_passed : (t : ℕ → ℕ) (s : Walk) (c x : ℕ) → Kept t s → (1 + count c s.seen ≡ t c → ⊥) → (x ≡ c) ⊎ (x ≡ c → ⊥) → KeptAt t (c ∷ s.seen) s.queue x
kept_passed t s c x k e (inl q) =
    let b = count_cons x c s.seen in
    let o = one_same x c q in
    let te : t x ≡ t c = ap t q in
    let se : count x s.seen ≡ count c s.seen = ap (λ y. count y s.seen) q in
    (k.once x, (λ u v. k.ins x u (omega (arith, e))), λ u. ((k.outs x u).0, omega (arith, (k.outs x u).1)))
kept_passed t s c x k e (inr q) =
    let b = count_cons x c s.seen in
    let o = one_other x c q in
    (k.once x, (λ u v. k.ins x u (omega arith)), λ u. ((k.outs x u).0, omega (arith, (k.outs x u).1)))

kept_by : (t : ℕ → ℕ) (s : Walk) → ((x : ℕ) → KeptAt t s.seen s.queue x) → Kept t s
kept_by t s h = record { once = λ x. (h x).0; ins = λ x. (h x).1; outs = λ x. (h x).2 }

pub visit_kept : (t : ℕ → ℕ) (s : Walk) (c : ℕ) → Kept t s → Kept t (visit t s c)
visit_kept t s c k =
    ⊎_elim
    (λ (e : 1 + count c s.seen ≡ t c). kept_by t (visit t s c) (λ x. rw (taken t s c e, met t s c) (kept_taken t s c x k e (same? x c))))
    (λ (e : 1 + count c s.seen ≡ t c → ⊥). kept_by t (visit t s c) (λ x. rw (passed t s c e, met t s c) (kept_passed t s c x k e (same? x c))))
    (same? (1 + count c s.seen) (t c))

-- several visits
pub visits_kept : (t : ℕ → ℕ) (s : Walk) (cs : List ℕ) → Kept t s → Kept t (visits t s cs)
unfolding visits
visits_kept t s [] k = k
visits_kept t s (c ∷ cs) k = visits_kept t (visit t s c) cs (visit_kept t s c k)

pub visits_seen : (t : ℕ → ℕ) (s : Walk) (cs : List ℕ) (x : ℕ) → count x (visits t s cs).seen ≡ count x cs + count x s.seen
unfolding visits
visits_seen t s [] x = omega (arith)
visits_seen t s (c ∷ cs) x = omega (arith, visits_seen t (visit t s c) cs x, met_count t s c x, count_cons x c cs)

pub visit_grows : (t : ℕ → ℕ) (s : Walk) (c : ℕ) → (l : List ℕ) × ((visit t s c).queue ≡ s.queue ++ l)
visit_grows t s c =
    ⊎_elim
    (λ (e : 1 + count c s.seen ≡ t c). (c ∷ [], taken t s c e))
    (λ (e : 1 + count c s.seen ≡ t c → ⊥). ([], passed t s c e ∙ sym (append-nil s.queue)))
    (same? (1 + count c s.seen) (t c))

pub visits_grows : (t : ℕ → ℕ) (s : Walk) (cs : List ℕ) → (l : List ℕ) × ((visits t s cs).queue ≡ s.queue ++ l)
unfolding visits
visits_grows t s [] = ([], sym (append-nil s.queue))
visits_grows t s (c ∷ cs) =
    let a = visit_grows t s c in
    let b = visits_grows t (visit t s c) cs in
    (a.0 ++ b.0, b.1 ∙ ap (λ q. q ++ b.0) a.1 ∙ append_assoc s.queue a.0 b.0)

-- draining: the cells passed are expanded
abbrev namings : (ℕ → List ℕ) → ℕ → ℕ → ℕ
namings kids x = λ d. count x (kids d)

pub record Drained (kids : ℕ → List ℕ) (t : ℕ → ℕ) (roots : List ℕ) (head : ℕ) (s : Walk) : Type 0 where
  pub kept : Kept t s
  pub far : head ≤ length s.queue
  pub all : (x : ℕ) → count x s.seen ≡ count x roots + total (λ d. count x (kids d)) (take head s.queue)

pub drain_step : (kids : ℕ → List ℕ) (t : ℕ → ℕ) (roots : List ℕ) (head : ℕ) (s : Walk) → Drained kids t roots head s → head < length s.queue
    → Drained kids t roots (suc head) (visits t s (kids (get_or s.queue head 0)))
drain_step kids t roots head s d h = record { kept = visits_kept t s cs d.kept; far = far; all = all }
  where
    cs : List ℕ
    cs = kids (get_or s.queue head 0)

    g : (l : List ℕ) × ((visits t s cs).queue ≡ s.queue ++ l)
    g = visits_grows t s cs

    far : suc head ≤ length (visits t s cs).queue
    far = rw g.1 (simp length-append (omega arith))

    prefix : take (suc head) (visits t s cs).queue ≡ take head s.queue ++ (get_or s.queue head 0 ∷ [])
    prefix = ap (take (suc head)) g.1 ∙ take-append-le (suc head) s.queue g.0 h ∙ take-suc s.queue head 0 h

    all : (x : ℕ) → count x (visits t s cs).seen ≡ count x roots + total (λ d. count x (kids d)) (take (suc head) (visits t s cs).queue)
    all x =
        let f : ℕ → ℕ = λ d. count x (kids d) in
        rw prefix
        (omega (arith, visits_seen t s cs x, d.all x, total_append f (take head s.queue) (get_or s.queue head 0 ∷ []), total_cons f (get_or s.queue head 0) [], total_nil f))
