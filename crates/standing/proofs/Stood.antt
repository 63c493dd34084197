-- What a reader reads stands in the bytes: a relation on outcomes, and how it goes through a chain of readers. Assumes nothing.
use Prim.Native.Nat.{ℕ, zero, suc, ◌+◌, ◌≤◌, ◌<◌}
use mathlib.Core.List.{List, [], ◌∷◌}
use mathlib.Core.Option.{some, none-ne-some}
use mathlib.Core.Path.{◌≡◌, refl, sym, ap, subst}
use lib.ListN.{length, drop, get_or, get_elem?}
use native.Mathlib.Omega.{arith}
use Rattle.meaning.specs.Outcome.{Outcome, ok, refuse, then}
use Rattle.standing.specs.Bytes.{bytes_at}
use Rattle.standing.specs.Stands.{Listed}

-- where an outcome goes on, P holds of what was read and of where it ends, and the bytes left are those from there on
pub data Stood {A : Type 0} (f : List ℕ) (P : A → ℕ → Type 0) : Outcome (A × ℕ × List ℕ) → Type 0 where
  stood : {a : A} {n : ℕ} {rest : List ℕ} → rest ≡ drop n f → n ≤ length f → P a n → Stood f P (ok (a, n, rest))
  refused : {x p : ℕ} → Stood f P (refuse x p)

pub on_with : {A B : Type 0} (f : List ℕ) (P : A → ℕ → Type 0) (Q : B → ℕ → Type 0) (o : Outcome (A × ℕ × List ℕ)) (k : A × ℕ × List ℕ → Outcome (B × ℕ × List ℕ))
    → Stood f P o → ((a : A) (n : ℕ) → n ≤ length f → P a n → Stood f Q (k (a, n, drop n f))) → Stood f Q (then o k)
on_with f P Q (ok r) k (stood {a = a} {n = n} e h x) c = subst (λ b. Stood f Q (k (a, n, b))) (sym e) (c a n h x)
on_with f P Q (refuse x p) k refused c = refused

-- the same, for any claim on the outcome
pub on_goal : {A B : Type 0} (f : List ℕ) (P : A → ℕ → Type 0) (Goal : Outcome B → Type 0) (o : Outcome (A × ℕ × List ℕ)) (k : A × ℕ × List ℕ → Outcome B)
    → Stood f P o → ((x p : ℕ) → Goal (refuse x p)) → ((a : A) (n : ℕ) → n ≤ length f → P a n → Goal (k (a, n, drop n f))) → Goal (then o k)
on_goal f P Goal (ok r) k (stood {a = a} {n = n} e h x) c d = subst (λ b. Goal (k (a, n, b))) (sym e) (d a n h x)
on_goal f P Goal (refuse x p) k refused c d = c x p

pub weaker : {A : Type 0} {f : List ℕ} {P Q : A → ℕ → Type 0} {o : Outcome (A × ℕ × List ℕ)} → ((a : A) (n : ℕ) → P a n → Q a n) → Stood f P o → Stood f Q o
weaker g (stood e h x) = stood e h (g _ _ x)
weaker g refused = refused

pub got : {A : Type 0} {f : List ℕ} {P : A → ℕ → Type 0} {r : A × ℕ × List ℕ} → Stood f P (ok r) → P r.0 r.1 × (r.1 ≤ length f) × (r.2 ≡ drop r.1 f)
got (stood e h x) = (x, h, e)

-- an entry that is found in a list
pub entry : {A : Type 0} (xs : List A) (i : ℕ) (x d : A) → get_elem? xs i ≡ some x → (get_or xs i d ≡ x) × (i < length xs)
entry [] i x d e = absurd (none-ne-some x e)
entry (y ∷ xs) zero x d e = (cc, omega arith)
entry (y ∷ xs) (suc i) x d e = let r = entry xs i x d e in (r.0, omega (arith, r.1))

pub listed : (f : List ℕ) (n a b : ℕ) → a ≡ b → Listed f b (bytes_at f a n)
unfolding bytes_at
listed f zero a b e = tt
listed f (suc n) a b e = (ap (λ k. get_or f k 0) (sym e), listed f n (suc a) (b + 1) (omega arith))

pub length_bytes : (f : List ℕ) (n a : ℕ) → length (bytes_at f a n) ≡ n
unfolding bytes_at
length_bytes f zero a = refl
length_bytes f (suc n) a = ap suc (length_bytes f n (suc a))
