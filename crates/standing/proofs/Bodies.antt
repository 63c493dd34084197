-- The bodies that are read stand one after the other: BD between them, ND behind the last, and nothing after. Assumes nothing.
use Prim.Native.Nat.{ℕ, zero, suc, ◌+◌, ◌*◌, ◌≤◌, ◌<◌}
use mathlib.Core.List.{List, [], ◌∷◌}
use mathlib.Core.Bool.{Bool, true, false}
use mathlib.Core.Path.{◌≡◌, refl, sym, ap, ◌∙◌, subst}
use lib.ListN.{length, drop, get_or, drop_of_length-le}
use lib.Seq.{drop-cons}
use lib.Dec.{leb, eqb}
use native.Mathlib.Omega.{arith}
use borrow.Author.Tests.{leb-true, leb-false, eqb-true}
use Rattle.meaning.specs.Syntax.{Signature, Term, File}
use Rattle.meaning.specs.Outcome.{Outcome, then}
use Rattle.meaning.specs.Reading.{ensure, expect, finish, between, term, bodies}
use Rattle.meaning.specs.Ownership.{no_function}
use Rattle.meaning.specs.declared.Mark.{Mark}
use Rattle.meaning.specs.Marks.{code}
use Rattle.meaning.specs.Plain.{place_of, no_body}
use Rattle.standing.specs.Bytes.{mark_at}
use Rattle.standing.specs.Stands.{Stands}
use Rattle.standing.proofs.Readers.{ensure_gen, two_gen}
use Rattle.standing.proofs.Stood.{Stood, stood, refused, on_with}
use Rattle.standing.proofs.Terms.{Good, term_stands}

module _ {B : Type 0} (f : List ℕ) (P : B → ℕ → Type 0) where
  expect_stood : (w a : ℕ) (k : Unit {0} × ℕ × List ℕ → Outcome (B × ℕ × List ℕ)) → a ≤ length f
      → (mark_at f a ≡ w → a + 2 ≤ length f → Stood f P (k (tt, a + 2, drop (a + 2) f))) → Stood f P (then (expect w a (drop a f)) k)
  unfolding expect
  expect_stood w a k h goes =
      two_gen f (Stood f P) (λ x y. ensure 3 a (eqb (x * 256 + y) w)) a k h (λ _. refused)
      (λ l. ensure_gen f (Stood f P) 3 a (a + 2) (drop (a + 2) f) (eqb (mark_at f a) w) k (λ _. refused) (λ q. goes (eqb-true (mark_at f a) w q) l))

  finish_stood : (a : ℕ) (k : Unit {0} × ℕ × List ℕ → Outcome (B × ℕ × List ℕ)) → a ≤ length f
      → (length f ≡ a → Stood f P (k (tt, a, drop a f))) → Stood f P (then (finish a (drop a f)) k)
  unfolding finish
  finish_stood a k h goes = go (leb (length f) a) refl
    where
      go : (t : Bool) → leb (length f) a ≡ t → Stood f P (then (finish a (drop a f)) k)
      go true e =
          let l = leb-true (length f) a e in
          let z = drop_of_length-le f l in
          subst (λ b. Stood f P (then (finish a b) k)) (sym z) (subst (λ b. Stood f P (k (tt, a, b))) z (goes (omega arith)))
      go false e = subst (λ b. Stood f P (then (finish a b) k)) (sym (drop-cons f a 0 (leb-false (length f) a e))) refused

  -- what stands between a body's end and the next place that is read
  abbrev pub Follows : List Signature → (stop next : ℕ) → Type 0
  Follows [] stop next = next ≡ stop
  Follows (g ∷ gs) stop next = (mark_at f stop ≡ code Mark.BD) × (next ≡ stop + 2)

  between_stood : (gs : List Signature) (a : ℕ) (k : Unit {0} × ℕ × List ℕ → Outcome (B × ℕ × List ℕ)) → a ≤ length f
      → ((n : ℕ) → Follows gs a n → n ≤ length f → Stood f P (k (tt, n, drop n f))) → Stood f P (then (between gs a (drop a f)) k)
  between_stood [] a k h goes = goes a refl h
  between_stood (g ∷ gs) a k h goes = expect_stood (code Mark.BD) a k h (λ e l. goes (a + 2) (e, refl) l)

module _ (file : File) (f : List ℕ) where
  abbrev Next : List Signature → (stop next : ℕ) → Type 0
  Next gs stop next = Follows f (λ (ts : List Term) (n : ℕ). Unit {0}) gs stop next

  -- bodies for these functions, from a place on
  pub data Laid : List Signature → (at : ℕ) → List Term → Type 0 where
    last : {at : ℕ} → mark_at f at ≡ code Mark.ND → length f ≡ at + 2 → Laid [] at []
    body : {g : Signature} {gs : List Signature} {at stop next : ℕ} {t : Term} {ts : List Term} → at ≤ length f → place_of t ≡ at
        → Stands file f (length g.parameters) t stop → Next gs stop next → Laid gs next ts → Laid (g ∷ gs) at (t ∷ ts)

  pub bodies_stood : (fuel : ℕ) (gs : List Signature) (at : ℕ) → at ≤ length f
      → Stood f (λ ts n. Laid gs at ts) (bodies fuel file.constructors file.functions gs at (drop at f))
  unfolding bodies
  bodies_stood fuel [] at h =
      expect_stood f (λ ts n. Laid [] at ts) (code Mark.ND) at _ h (λ e l. finish_stood f (λ ts n. Laid [] at ts) (at + 2) _ l (λ q. stood refl l (last e q)))
  bodies_stood fuel (g ∷ gs) at h =
      on_with f (Good file f at (length g.parameters)) (λ ts n. Laid (g ∷ gs) at ts) (term file.constructors file.functions fuel (length g.parameters) 0 at (drop at f)) _
      (term_stands file f fuel (length g.parameters) 0 at h)
      (λ t stop l x. between_stood f (λ ts n. Laid (g ∷ gs) at ts) gs stop _ l
      (λ next y l'. on_with f (λ ts n. Laid gs next ts) (λ ts n. Laid (g ∷ gs) at ts) (bodies fuel file.constructors file.functions gs next (drop next f)) _ (bodies_stood fuel gs next l')
      (λ ts n l'' z. stood refl l'' (body h x.0 x.1 y z))))

  -- where each body ends
  pub ends_of : {gs : List Signature} {at : ℕ} {ts : List Term} → Laid gs at ts → ℕ → ℕ
  ends_of (last m e) i = 0
  ends_of (body {stop = stop} h p s n l) zero = stop
  ends_of (body h p s n l) (suc i) = ends_of l i

  pub each_stands : {gs : List Signature} {at : ℕ} {ts : List Term} (l : Laid gs at ts) (i : ℕ) → i < length gs
      → Stands file f (length (get_or gs i no_function).parameters) (get_or ts i no_body) (ends_of l i)
  unfolding ends_of
  each_stands (last m e) i h = absurd (omega arith)
  each_stands (body h p s n l) zero u = s
  each_stands (body h p s n l) (suc i) u = each_stands l i (omega arith)

  pub each_inside : {gs : List Signature} {at : ℕ} {ts : List Term} → Laid gs at ts → (i : ℕ) → i < length gs → place_of (get_or ts i no_body) ≤ length f
  each_inside (last m e) i h = absurd (omega arith)
  each_inside (body h p s n l) zero u = omega arith
  each_inside (body h p s n l) (suc i) u = each_inside l i (omega arith)

  pub laid_many : {gs : List Signature} {at : ℕ} {ts : List Term} → Laid gs at ts → length ts ≡ length gs
  laid_many (last m e) = refl
  laid_many (body h p s n l) = ap suc (laid_many l)

  pub laid_first : {gs : List Signature} {at : ℕ} {ts : List Term} → Laid gs at ts → 1 ≤ length gs → place_of (get_or ts 0 no_body) ≡ at
  laid_first (last m e) h = absurd (omega arith)
  laid_first (body h p s n l) u = p

  -- BD and the next body behind each body but the last, ND and the file's end behind that
  pub laid_between : {gs : List Signature} {at : ℕ} {ts : List Term} (l : Laid gs at ts) (i : ℕ) → suc i < length gs
      → (mark_at f (ends_of l i) ≡ code Mark.BD) × (place_of (get_or ts (suc i) no_body) ≡ ends_of l i + 2)
  unfolding ends_of
  laid_between (last m e) i u = absurd (omega arith)
  laid_between (body h p s n (last m e)) zero u = absurd (omega arith)
  laid_between (body h p s n (body h' p' s' n' l)) zero u = (n.0, p' ∙ n.1)
  laid_between (body h p s n l) (suc i) u = laid_between l i (omega arith)

  pub laid_last : {gs : List Signature} {at : ℕ} {ts : List Term} (l : Laid gs at ts) (i : ℕ) → suc i ≡ length gs
      → (mark_at f (ends_of l i) ≡ code Mark.ND) × (length f ≡ ends_of l i + 2)
  unfolding ends_of
  laid_last (last m e) i u = absurd (omega arith)
  laid_last (body h p s n (last m e)) zero u = (subst (λ a. mark_at f a ≡ code Mark.ND) n m, e ∙ ap (λ a. a + 2) n)
  laid_last (body h p s n (body h' p' s' n' l)) zero u = absurd (omega arith)
  laid_last (body h p s n l) (suc i) u = laid_last l i (omega arith)
