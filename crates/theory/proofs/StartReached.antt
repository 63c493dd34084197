-- A walk that is drained has reached what can be reached, and nothing else. Assumes nothing.
use Prim.Native.Nat.{ℕ, zero, suc, ◌+◌, ◌≤◌, ◌<◌}
use mathlib.Core.Path.{◌≡◌, sym, ap, ◌∙◌}
use mathlib.Core.Logic.{⊎_elim}
use mathlib.Core.List.{List, [], ◌++◌, append_assoc, append-nil}
use native.Mathlib.Omega.{arith}
use lib.ListN.{length, get_or, take, length-append}
use lib.Seq.{take-append-le, take_all}
use borrow.Author.Tests.{le-leb, lt-leb}
use Rattle.meaning.specs.Choice.{pick}
use Rattle.meaning.specs.Walk.{count, Walk, walk, visits, drain}
use Rattle.theory.proofs.StartGraph.{Found, root, next}
use Rattle.theory.proofs.Reached.{count_append}
use Rattle.theory.proofs.StartCounting.{total, le?, total_nil, total_ge, few, count_at}
use Rattle.theory.proofs.StartWalk.{Kept, Drained, drain_step, visits_kept, visits_seen, visits_grows}

pub found_more : (kids : ℕ → List ℕ) (r m : List ℕ) → ((y : ℕ) → 1 ≤ count y r → 1 ≤ count y m) → {x : ℕ} → Found kids r x → Found kids m x
found_more kids r m h (root x p) = root x (h x p)
found_more kids r m h (next d x p q) = next d x (found_more kids r m h p) q

pub Sound : (ℕ → List ℕ) → List ℕ → Walk → Type 0
Sound kids roots s = (x : ℕ) → 1 ≤ count x s.seen → Found kids roots x

-- a drained walk
pub record Done (kids : ℕ → List ℕ) (t : ℕ → ℕ) (roots : List ℕ) (s : Walk) : Type 0 where
  pub kept : Kept t s
  pub all : (x : ℕ) → count x s.seen ≡ count x roots + total (λ d. count x (kids d)) s.queue
  pub sound : (x : ℕ) → 1 ≤ count x s.seen → Found kids roots x

-- a state from which further roots or further draining go on
pub begun : (kids : ℕ → List ℕ) (t : ℕ → ℕ) → Drained kids t [] 0 (walk [] [])
begun kids t = record { kept = record { once = λ x. omega (arith); ins = λ x p q. omega (arith); outs = λ x p. absurd (omega (arith)) }; far = omega arith; all = λ x. omega (arith, total_nil (λ d. count x (kids d))) }

pub done_drained : (kids : ℕ → List ℕ) (t : ℕ → ℕ) (roots : List ℕ) (s : Walk) → Done kids t roots s → Drained kids t roots (length s.queue) s
done_drained kids t roots s d = record { kept = d.kept; far = omega arith; all = λ x. rw (take_all (length s.queue) s.queue (omega arith)) (d.all x) }

pub with_roots : (kids : ℕ → List ℕ) (t : ℕ → ℕ) (roots : List ℕ) (head : ℕ) (s : Walk) (cs : List ℕ) → Drained kids t roots head s → Drained kids t (roots ++ cs) head (visits t s cs)
with_roots kids t roots head s cs d = record { kept = visits_kept t s cs d.kept; far = far; all = all }
  where
    g : (l : List ℕ) × ((visits t s cs).queue ≡ s.queue ++ l)
    g = visits_grows t s cs

    far : head ≤ length (visits t s cs).queue
    far = rw g.1 (simp length-append (omega (arith, d.far)))

    prefix : take head (visits t s cs).queue ≡ take head s.queue
    prefix = ap (take head) g.1 ∙ take-append-le head s.queue g.0 d.far

    all : (x : ℕ) → count x (visits t s cs).seen ≡ count x (roots ++ cs) + total (λ d. count x (kids d)) (take head (visits t s cs).queue)
    all x = rw prefix (omega (arith, visits_seen t s cs x, d.all x, count_append x roots cs))

pub sound_visits : (kids : ℕ → List ℕ) (t : ℕ → ℕ) (roots : List ℕ) (s : Walk) (cs : List ℕ) → ((x : ℕ) → 1 ≤ count x s.seen → Found kids roots x)
    → ((x : ℕ) → 1 ≤ count x cs → Found kids roots x) → (x : ℕ) → 1 ≤ count x (visits t s cs).seen → Found kids roots x
sound_visits kids t roots s cs a b x h =
    ⊎_elim (λ (p : 1 ≤ count x cs). b x p) (λ (p : count x cs < 1). a x (omega (arith, visits_seen t s cs x))) (le? 1 (count x cs))

module _ (kids : ℕ → List ℕ) (t : ℕ → ℕ) (roots : List ℕ) (N : ℕ) (small : (x : ℕ) → Found kids roots x → x < N) where
  queue_small : (s : Walk) → Kept t s → ((x : ℕ) → 1 ≤ count x s.seen → Found kids roots x) → length s.queue ≤ N
  queue_small s k a = few N s.queue k.once (λ x p. small x (a x (omega (arith, (k.outs x p).0, (k.outs x p).1))))

  stop : (head : ℕ) (s : Walk) → Drained kids t roots head s → ((x : ℕ) → 1 ≤ count x s.seen → Found kids roots x) → length s.queue ≤ head → Done kids t roots s
  stop head s d a h =
      record { kept = d.kept; all = λ x. d.all x ∙ ap (λ q. count x roots + total (λ e. count x (kids e)) q) (take_all head s.queue h); sound = a }

  -- after enough turns the walk is drained
  pub drain_done : (n head : ℕ) (s : Walk) → Drained kids t roots head s → ((x : ℕ) → 1 ≤ count x s.seen → Found kids roots x) → N ≤ n + head → Done kids t roots (drain kids t n head s)
  unfolding drain pick
  drain_done zero head s d a h = stop head s d a (omega (arith, queue_small s d.kept a))
  drain_done (suc n) head s d a h =
      ⊎_elim
      (λ (p : length s.queue ≤ head). rw (le-leb (length s.queue) head p) (stop head s d a p))
      (λ (p : head < length s.queue).
      rw (lt-leb (length s.queue) head p)
      (drain_done n (suc head) (visits t s (kids (get_or s.queue head 0))) (drain_step kids t roots head s d p)
      (sound_visits kids t roots s (kids (get_or s.queue head 0)) a
      (λ x q. next (get_or s.queue head 0) x (a (get_or s.queue head 0)
      (let o = d.kept.outs (get_or s.queue head 0) (count_at s.queue head p) in omega (arith, o.0, o.1))) q))
      (omega arith)))
      (le? (length s.queue) head)

  -- every cell that is found has been named
  pub complete : (s : Walk) → Done kids t roots s → ((x : ℕ) → t x ≡ 1) → {x : ℕ} → Found kids roots x → 1 ≤ count x s.queue
  complete s d e (root x p) = d.kept.ins x (omega (arith, e x)) (omega (arith, e x, d.all x))
  complete s d e (next c x f p) =
      d.kept.ins x (omega (arith, e x)) (omega (arith, e x, d.all x, total_ge (λ y. count x (kids y)) c s.queue (complete s d e f)))

  pub queued_found : (s : Walk) → Done kids t roots s → (x : ℕ) → 1 ≤ count x s.queue → Found kids roots x
  queued_found s d x p = d.sound x (let o = d.kept.outs x p in omega (arith, o.0, o.1))

pub drain_grows : (kids : ℕ → List ℕ) (t : ℕ → ℕ) (n head : ℕ) (s : Walk) → (l : List ℕ) × ((drain kids t n head s).queue ≡ s.queue ++ l)
unfolding drain pick
drain_grows kids t zero head s = ([], sym (append-nil s.queue))
drain_grows kids t (suc n) head s =
    ⊎_elim
    (λ (p : length s.queue ≤ head). ([], rw (le-leb (length s.queue) head p) (sym (append-nil s.queue))))
    (λ (p : head < length s.queue).
    let cs = kids (get_or s.queue head 0) in
    let a = visits_grows t s cs in
    let b = drain_grows kids t n (suc head) (visits t s cs) in
    (a.0 ++ b.0, rw (lt-leb (length s.queue) head p) (b.1 ∙ ap (λ q. q ++ b.0) a.1 ∙ append_assoc s.queue a.0 b.0)))
    (le? (length s.queue) head)
