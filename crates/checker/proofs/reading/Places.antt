-- A term that is read stands at the place where its reader began. Assumes nothing.
use Prim.Native.Nat.{ℕ, zero, suc}
use mathlib.Core.List.{List}
use mathlib.Core.Path.{◌≡◌, refl, subst}
use mathlib.Core.Bool.{◌&&◌}
use lib.ListN.{length}
use lib.Dec.{leb, ltb}
use Rattle.meaning.specs.Syntax.{Signature, Constructor, Term, Branches}
use Rattle.meaning.specs.Outcome.{Outcome, ok, refuse, then}
use Rattle.meaning.specs.Plain.{place_of}
use Rattle.meaning.specs.declared.Mark.{Mark}
use Rattle.meaning.specs.declared.Mark.TheVariants.{CN, FN, BD, ND, GV, AT, MK, CL, TL, OP, LK, BR, NU, AR, IF, Other}
use Rattle.meaning.specs.Reading.{Reader, byte, ensure, times, below, declared, any, is_atom, is_node, credits, limits, mark, node, term}

data Placed (p : ℕ) : Outcome (Term × ℕ × List ℕ) → Type 0 where
  placed : {t : Term} {n : ℕ} {rest : List ℕ} → place_of t ≡ p → Placed p (ok (t, n, rest))
  unplaced : {x q : ℕ} → Placed p (refuse x q)

placed_then : {A : Type 0} {p : ℕ} (o : Outcome A) {k : A → Outcome (Term × ℕ × List ℕ)} → ((a : A) → Placed p (k a)) → Placed p (then o k)
placed_then (ok a) h = h a
placed_then (refuse x q) h = unplaced

module _ (cs : List Constructor) (fs : List Signature) (T : (slots nodes : ℕ) → Reader Term) (B : (count : ℕ) → (Constructor → ℕ) → (slots nodes : ℕ) → Reader Branches) where
  node_placed : (s k p : ℕ) (m : Mark) (a : ℕ) (bytes : List ℕ) → Placed p (node cs fs T B s k p m a bytes)
  unfolding node
  node_placed s k p GV a bytes = placed_then (byte a bytes) (λ x. placed_then (limits cs fs p s (suc k) x.1 x.2) (λ y. placed refl))
  node_placed s k p AT a bytes = placed_then (declared cs is_atom a bytes) (λ x. placed_then (limits cs fs p (suc s) (suc k) x.1 x.2) (λ y. placed_then (T (suc s) (suc k) y.1 y.2) (λ z. placed refl)))
  node_placed s k p MK a bytes = placed_then (declared cs is_node a bytes) (λ x. placed_then (byte x.1 x.2) (λ y. placed_then (times (length x.0.1) byte y.1 y.2) (λ z. placed_then (limits cs fs p (suc s) (suc k) z.1 z.2) (λ u. placed_then (T (suc s) (suc k) u.1 u.2) (λ v. placed refl)))))
  node_placed s k p CL a bytes = placed_then (declared fs any a bytes) (λ x. placed_then (times (length x.0.1.parameters) byte x.1 x.2) (λ y. placed_then (limits cs fs p (suc s) (suc k) y.1 y.2) (λ z. placed_then (T (suc s) (suc k) z.1 z.2) (λ u. placed refl))))
  node_placed s k p TL a bytes = placed_then (declared fs any a bytes) (λ x. placed_then (times (length x.0.1.parameters) byte x.1 x.2) (λ y. placed_then (limits cs fs p s (suc k) y.1 y.2) (λ z. placed refl)))
  node_placed s k p OP a bytes = placed_then (byte a bytes) (λ x. placed_then (byte x.1 x.2) (λ y. placed_then (ensure 4 x.1 (ltb 0 y.0 && leb y.0 64) y.1 y.2) (λ z. placed_then (limits cs fs p s (suc k) z.1 z.2) (λ u. placed_then (B y.0 credits s (suc k) u.1 u.2) (λ v. placed refl)))))
  node_placed s k p LK a bytes = placed_then (byte a bytes) (λ x. placed_then (byte x.1 x.2) (λ y. placed_then (ensure 4 x.1 (ltb 0 y.0 && leb y.0 64) y.1 y.2) (λ z. placed_then (limits cs fs p s (suc k) z.1 z.2) (λ u. placed_then (B y.0 (λ c. 0) s (suc k) u.1 u.2) (λ v. placed refl)))))
  node_placed s k p NU a bytes = placed_then (byte a bytes) (λ x. placed_then (byte x.1 x.2) (λ y. placed_then (limits cs fs p (suc s) (suc k) y.1 y.2) (λ z. placed_then (T (suc s) (suc k) z.1 z.2) (λ u. placed refl))))
  node_placed s k p AR a bytes = placed_then (below 4 a bytes) (λ x. placed_then (byte x.1 x.2) (λ y. placed_then (byte y.1 y.2) (λ z. placed_then (limits cs fs p (suc s) (suc k) z.1 z.2) (λ u. placed_then (T (suc s) (suc k) u.1 u.2) (λ v. placed refl)))))
  node_placed s k p IF a bytes = placed_then (byte a bytes) (λ x. placed_then (limits cs fs p s (suc k) x.1 x.2) (λ y. placed_then (T s (suc k) y.1 y.2) (λ z. placed_then (T s (suc k) z.1 z.2) (λ u. placed refl))))
  node_placed s k p CN a bytes = unplaced
  node_placed s k p FN a bytes = unplaced
  node_placed s k p BD a bytes = unplaced
  node_placed s k p ND a bytes = unplaced
  node_placed s k p BR a bytes = unplaced
  node_placed s k p Other a bytes = unplaced

term_placed : (cs : List Constructor) (fs : List Signature) (n s k a : ℕ) (bytes : List ℕ) → Placed a (term cs fs n s k a bytes)
unfolding term
term_placed cs fs zero s k a bytes = unplaced
term_placed cs fs (suc n) s k a bytes = placed_then (mark a bytes) (λ r. node_placed cs fs _ _ s k a r.0 r.1 r.2)

pub term_place : (cs : List Constructor) (fs : List Signature) (n s k a : ℕ) (bytes : List ℕ) (t : Term) (m : ℕ) (rest : List ℕ)
    → term cs fs n s k a bytes ≡ ok (t, m, rest) → place_of t ≡ a
term_place cs fs n s k a bytes t m rest e = of (subst (Placed a) e (term_placed cs fs n s k a bytes))
  where
    of : Placed a (ok (t, m, rest)) → place_of t ≡ a
    of (placed q) = q
