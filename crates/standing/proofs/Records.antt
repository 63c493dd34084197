-- The fields of CN and FN stand at their bytes. Assumes nothing.
use Prim.Native.Nat.{ℕ, zero, suc, ◌+◌, ◌≤◌, ◌<◌}
use mathlib.Core.List.{List, [], ◌∷◌}
use mathlib.Core.Path.{◌≡◌, refl, ap, subst}
use lib.ListN.{length, drop, get_or}
use native.Mathlib.Omega.{arith}
use borrow.Author.Tests.{ltb-true}
use Rattle.meaning.specs.Syntax.{Sort, Mode, Signature, Constructor}
use Rattle.meaning.specs.Outcome.{Outcome}
use Rattle.meaning.specs.Reading.{Reader, times, sort, mode, constructor, signature}
use Rattle.standing.specs.Bytes.{byte_at}
use Rattle.standing.specs.Table.{sort_byte, mode_byte, Sorts, Modes}
use Rattle.standing.proofs.Readers.{below_gen}
use Rattle.standing.proofs.Stood.{Stood, stood, refused, on_with, weaker}

module _ (f : List ℕ) where
  -- one byte that says what was read
  abbrev One : {A : Type 0} → (A → ℕ) → ℕ → A → ℕ → Type 0
  One code a x n = (byte_at f a ≡ code x) × (a < length f) × (n ≡ suc a)

  sort_stood : (a : ℕ) → a ≤ length f → Stood f (One sort_byte a) (sort a (drop a f))
  unfolding sort
  sort_stood a h = below_gen f (Stood f (One sort_byte a)) 2 a _ h (λ _. refused) (λ _ _. refused) (λ l q. stood refl l (is (get_or f a 0) (ltb-true (get_or f a 0) 2 q), l, refl))
    where
      is : (b : ℕ) → b < 2 → b ≡ sort_byte (elim b [ zero ↦ Sort.number | suc _ ↦ Sort.tree ])
      is zero u = refl
      is (suc zero) u = refl
      is (suc (suc b)) u = absurd (omega arith)

  mode_stood : (a : ℕ) → a ≤ length f → Stood f (One mode_byte a) (mode a (drop a f))
  unfolding mode
  mode_stood a h = below_gen f (Stood f (One mode_byte a)) 3 a _ h (λ _. refused) (λ _ _. refused) (λ l q. stood refl l (is (get_or f a 0) (ltb-true (get_or f a 0) 3 q), l, refl))
    where
      is : (b : ℕ) → b < 3 → b ≡ mode_byte (elim b [ zero ↦ Mode.number | suc c ↦ elim c [ zero ↦ Mode.lent | suc _ ↦ Mode.owned ] ])
      is zero u = refl
      is (suc zero) u = refl
      is (suc (suc zero)) u = refl
      is (suc (suc (suc b))) u = absurd (omega arith)

  module _ {A : Type 0} (code : A → ℕ) (m : Reader A) (one : (a : ℕ) → a ≤ length f → Stood f (One code a) (m a (drop a f)))
      (P : ℕ → List A → Type 0) (nothing : (a : ℕ) → P a []) (more : (a : ℕ) (x : A) (xs : List A) → byte_at f a ≡ code x → a < length f → P (a + 1) xs → P a (x ∷ xs)) where
    abbrev Many : ℕ → ℕ → List A → ℕ → Type 0
    Many k a xs n = (length xs ≡ k) × P a xs × (n ≡ a + k)

    times_stood : (k a : ℕ) → a ≤ length f → Stood f (Many k a) (times k m a (drop a f))
    unfolding times
    times_stood zero a h = stood refl h (refl, nothing a, omega arith)
    times_stood (suc k) a h =
        on_with f (One code a) (Many (suc k) a) (m a (drop a f)) _ (one a h)
        (λ x n l u. on_with f (Many k n) (Many (suc k) a) (times k m n (drop n f)) _ (times_stood k n l)
        (λ xs n' l' v. let e : n ≡ a + 1 = omega (arith, u.2) in stood refl l' (ap suc v.0, more a x xs u.0 u.1 (subst (λ b. P b xs) e v.1), omega (arith, u.2, v.2))))

  sorts_stood : (k a : ℕ) → a ≤ length f → Stood f (λ ss n. (length ss ≡ k) × Sorts f a ss × (n ≡ a + k)) (times k sort a (drop a f))
  sorts_stood k a h = times_stood sort_byte sort sort_stood (λ b ss. Sorts f b ss) (λ b. tt) (λ b s ss e l u. (e, l, u)) k a h

  modes_stood : (k a : ℕ) → a ≤ length f → Stood f (λ ms n. (length ms ≡ k) × Modes f a ms × (n ≡ a + k)) (times k mode a (drop a f))
  modes_stood k a h = times_stood mode_byte mode mode_stood (λ b ms. Modes f b ms) (λ b. tt) (λ b s ss e l u. (e, l, u)) k a h

  -- behind CN at `at`: a constructor, which ends at n
  abbrev pub ConAt : (at : ℕ) → Constructor → ℕ → Type 0
  ConAt at c n = (length c ≤ 4) × Sorts f (at + 3) c × (n ≡ at + 3 + length c)

  pub con_stood : (at : ℕ) → at + 2 ≤ length f → Stood f (ConAt at) (constructor (at + 2) (drop (at + 2) f))
  unfolding constructor
  con_stood at h =
      below_gen f (Stood f (ConAt at)) 5 (at + 2) _ h (λ _. refused) (λ _ _. refused)
      (λ l q. weaker (λ c n u. found c n (ltb-true (get_or f (at + 2) 0) 5 q) u) (sorts_stood (get_or f (at + 2) 0) (suc (at + 2)) l))
    where
      found : (c : Constructor) (n : ℕ) → get_or f (at + 2) 0 < 5 → (length c ≡ get_or f (at + 2) 0) × Sorts f (suc (at + 2)) c × (n ≡ suc (at + 2) + get_or f (at + 2) 0) → ConAt at c n
      found c n l u = let e : suc (at + 2) ≡ at + 3 = omega arith in (omega (arith, u.0), subst (λ a. Sorts f a c) e u.1, omega (arith, u.0, u.2))

  -- behind FN at `at`: a function's parameters and its result
  abbrev pub FunAt : (at : ℕ) → Signature → Type 0
  FunAt at g =
      (length g.parameters ≤ 8) × Modes f (at + 3) g.parameters × (byte_at f (at + 3 + length g.parameters) ≡ sort_byte g.result)
      × (at + 3 + length g.parameters < length f)

  pub fun_stood : (at : ℕ) → at + 2 ≤ length f → Stood f (λ g n. FunAt at g × (n ≡ at + 4 + length g.parameters)) (signature (at + 2) (drop (at + 2) f))
  unfolding signature
  fun_stood at h =
      below_gen f Goal 9 (at + 2) _ h (λ _. refused) (λ _ _. refused)
      (λ l q. on_with f (ModesAt (get_or f (at + 2) 0)) Fun (times (get_or f (at + 2) 0) mode (suc (at + 2)) (drop (suc (at + 2)) f)) _ (modes_stood (get_or f (at + 2) 0) (suc (at + 2)) l)
      (λ ms n l' u. on_with f (One sort_byte n) Fun (sort n (drop n f)) _ (sort_stood n l') (λ r n' l'' v. stood refl l'' (found ms r n n' (ltb-true (get_or f (at + 2) 0) 9 q) u v))))
    where
      Fun : Signature → ℕ → Type 0
      Fun g n = FunAt at g × (n ≡ at + 4 + length g.parameters)

      Goal : Outcome (Signature × ℕ × List ℕ) → Type 0
      Goal o = Stood f Fun o

      ModesAt : ℕ → List Mode → ℕ → Type 0
      ModesAt k ms n = (length ms ≡ k) × Modes f (suc (at + 2)) ms × (n ≡ suc (at + 2) + k)

      found : (ms : List Mode) (r : Sort) (n n' : ℕ) → get_or f (at + 2) 0 < 9 → ModesAt (get_or f (at + 2) 0) ms n → One sort_byte n r n' → Fun (record { parameters = ms; result = r }) n'
      found ms r n n' l u v =
          let e : suc (at + 2) ≡ at + 3 = omega arith in
          let z : n ≡ at + 3 + length ms = omega (arith, u.0, u.2) in
          ((omega (arith, u.0), subst (λ a. Modes f a ms) e u.1, subst (λ a. byte_at f a ≡ sort_byte r) z v.0, omega (arith, v.1)), omega (arith, v.2))
