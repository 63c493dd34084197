-- The rounds of the table against walks. Assumes nothing.
use Prim.Native.Nat.{ℕ, zero, suc, ◌+◌, ◌≤◌, ◌<◌, max}
use mathlib.Core.Bool.{Bool, true, false, ◌&&◌}
use mathlib.Core.List.{List, [], ◌∷◌}
use mathlib.Core.Path.{◌≡◌, refl, sym, ◌∙◌, subst}
use mathlib.Core.Logic.{◌⊎◌, inl, inr}
use native.Mathlib.Omega.{arith}
use native.Mathlib.Decide.{ℕ_discrete, dec_lt, dec_le}
use lib.ListN.{length, get_or, replicate, get_or-eq_default}
use lib.Dec.{eqb}
use borrow.Author.Tests.{eqb-true, eqb-false}
use Rattle.meaning.specs.declared.How.{How}
use Rattle.meaning.specs.declared.How.TheVariants.{Never, Tail, Waits}
use Rattle.meaning.specs.Derivation.{Has}
use Rattle.meaning.specs.Sets.{upto, how_many}
use Rattle.meaning.specs.Calls.{Square, entry, Walk, stay, tail, wait, Flat, Distinct, more, reach, through, best, relax, rounds, same}
use Rattle.theory.proofs.Counting.{no_longer, has_inv, nowhere}
use Rattle.theory.proofs.Bools.{upto_length, upto_at}
use Rattle.theory.proofs.Walks.{Narrow, join, not_tail, not_wait, inside, ends_inside}
use Rattle.theory.proofs.Reach.{clash, decided, reach_found, reach_walk, reached}

through_mono : (h : How) (x y : ℕ) → x ≤ y → through h x ≤ through h y
through_mono Never x y l = omega arith
through_mono Tail x y l = l
through_mono Waits x y l = omega arith

-- the best of a row
best_most : (k : ℕ) (sq : Square) (f : ℕ) (t : List ℕ) (g : ℕ) → g < k → through (entry sq f g) (get_or t g 0) ≤ best k sq f t
unfolding best
best_most zero sq f t g l = absurd (omega arith)
best_most (suc k) sq f t g l = go (ℕ_discrete g k) (λ h. best_most k sq f t g h)
  where
    go : Dec (g ≡ k) → (g < k → through (entry sq f g) (get_or t g 0) ≤ best k sq f t)
        → through (entry sq f g) (get_or t g 0) ≤ max (best k sq f t) (through (entry sq f k) (get_or t k 0))
    go (yes e) ih = rw e (omega arith)
    go (no n) ih = let h = ih (omega arith) in omega arith

pub data Best (sq : Square) (f : ℕ) (t : List ℕ) (n : ℕ) : Type 0 where
  nothing : n ≡ 0 → Best sq f t n
  by_tail : (g : ℕ) → entry sq f g ≡ Tail → n ≡ get_or t g 0 → Best sq f t n
  by_wait : (g : ℕ) → entry sq f g ≡ Waits → n ≡ suc (get_or t g 0) → Best sq f t n

best_one : (sq : Square) (f : ℕ) (t : List ℕ) (g : ℕ) → Best sq f t (through (entry sq f g) (get_or t g 0))
best_one sq f t g = go (entry sq f g) refl
  where
    go : (h : How) → entry sq f g ≡ h → Best sq f t (through h (get_or t g 0))
    go Never e = nothing refl
    go Tail e = by_tail g e refl
    go Waits e = by_wait g e refl

best_is : (k : ℕ) (sq : Square) (f : ℕ) (t : List ℕ) → Best sq f t (best k sq f t)
unfolding best
best_is zero sq f t = nothing refl
best_is (suc k) sq f t = go (dec_le (through (entry sq f k) (get_or t k 0)) (best k sq f t)) (best_is k sq f t)
  where
    go : Dec (through (entry sq f k) (get_or t k 0) ≤ best k sq f t) → Best sq f t (best k sq f t)
        → Best sq f t (max (best k sq f t) (through (entry sq f k) (get_or t k 0)))
    go (yes l) b = let e : max (best k sq f t) (through (entry sq f k) (get_or t k 0)) ≡ best k sq f t = omega arith in rw e b
    go (no l) b =
        let e : max (best k sq f t) (through (entry sq f k) (get_or t k 0)) ≡ through (entry sq f k) (get_or t k 0) = omega arith in
        rw e (best_one sq f t k)

best_mono : (k : ℕ) (sq : Square) (f : ℕ) (t u : List ℕ) → ((g : ℕ) → get_or t g 0 ≤ get_or u g 0) → best k sq f t ≤ best k sq f u
unfolding best
best_mono zero sq f t u h = omega arith
best_mono (suc k) sq f t u h =
    omega (arith, best_mono k sq f t u h, through_mono (entry sq f k) (get_or t k 0) (get_or u k 0) (h k))

zeros : (n i : ℕ) → ◌≡◌ {A = ℕ} (get_or (replicate n 0) i 0) 0
zeros zero i = refl
zeros (suc n) zero = refl
zeros (suc n) (suc i) = zeros n i

-- one round
relax_in : (sq : Square) (seen : List Bool) (t : List ℕ) (f : ℕ) → f < 32 → get_or seen f false ≡ true → get_or (relax sq seen t) f 0 ≡ best 32 sq f t
unfolding relax
relax_in sq seen t f l e = upto_at 32 (λ f. elim (get_or seen f false) as (λ _. ℕ) [ true ↦ best 32 sq f t | false ↦ 0 ]) f 0 l ∙ rw e

relax_out : (sq : Square) (seen : List Bool) (t : List ℕ) (f : ℕ) → get_or seen f false ≡ false → get_or (relax sq seen t) f 0 ≡ 0
unfolding relax
relax_out sq seen t f e = go (dec_lt f 32)
  where
    g : ℕ → ℕ
    g = λ f. elim (get_or seen f false) as (λ _. ℕ) [ true ↦ best 32 sq f t | false ↦ 0 ]

    go : Dec (f < 32) → get_or (upto 32 g) f 0 ≡ 0
    go (yes l) = upto_at 32 g f 0 l ∙ rw e
    go (no l) = get_or-eq_default (upto 32 g) 0 (omega (arith, upto_length 32 g))

pub same_all : (k : ℕ) (a b : List ℕ) → same k a b ≡ true → (f : ℕ) → f < k → get_or a f 0 ≡ get_or b f 0
unfolding same
same_all zero a b e f l = absurd (omega arith)
same_all (suc k) a b e f l = go (eqb (get_or a k 0) (get_or b k 0)) refl e (ℕ_discrete f k) (λ e l. same_all k a b e f l)
  where
    go : (x : Bool) → eqb (get_or a k 0) (get_or b k 0) ≡ x → (x && same k a b) ≡ true → Dec (f ≡ k)
        → (same k a b ≡ true → f < k → get_or a f 0 ≡ get_or b f 0) → get_or a f 0 ≡ get_or b f 0
    go true q e (yes z) ih = rw z (eqb-true (get_or a k 0) (get_or b k 0) q)
    go true q e (no z) ih = ih e (omega arith)
    go false q e d ih = absurd (clash e refl)

pub same_not : (k : ℕ) (a b : List ℕ) → same k a b ≡ false → (f : ℕ) × (f < k) × (get_or a f 0 ≡ get_or b f 0 → ⊥)
unfolding same
same_not zero a b e = absurd (clash refl e)
same_not (suc k) a b e = go (eqb (get_or a k 0) (get_or b k 0)) refl e (λ e. same_not k a b e)
  where
    go : (x : Bool) → eqb (get_or a k 0) (get_or b k 0) ≡ x → (x && same k a b) ≡ false
        → (same k a b ≡ false → (f : ℕ) × (f < k) × (get_or a f 0 ≡ get_or b f 0 → ⊥)) → (f : ℕ) × (f < suc k) × (get_or a f 0 ≡ get_or b f 0 → ⊥)
    go true q e ih = let r = ih e in let l = r.1 in (r.0, omega arith, r.2)
    go false q e ih = (k, omega arith, eqb-false (get_or a k 0) (get_or b k 0) q)

-- T k f: the table after k rounds
abbrev pub T : Square → ℕ → ℕ → ℕ
T sq k f = get_or (rounds k sq (reach sq)) f 0

abbrev pub Seen : Square → ℕ → Type 0
Seen sq f = get_or (reach sq) f false ≡ true

module _ (sq : Square) (narrow : Narrow sq) where
  seen_small : (f : ℕ) → Seen sq f → f < 32
  seen_small f s = ends_inside narrow (omega arith) ((reach_found sq narrow).known f s).1

  round_in : (k f : ℕ) → Seen sq f → T sq (suc k) f ≡ best 32 sq f (rounds k sq (reach sq))
  unfolding rounds
  round_in k f s = relax_in sq (reach sq) (rounds k sq (reach sq)) f (seen_small f s) s

  round_out : (k f : ℕ) → get_or (reach sq) f false ≡ false → T sq (suc k) f ≡ 0
  unfolding rounds
  round_out k f s = relax_out sq (reach sq) (rounds k sq (reach sq)) f s

  round_none : (f : ℕ) → T sq 0 f ≡ 0
  unfolding rounds
  round_none f = zeros 32 f

  -- it only grows
  grows : (k f : ℕ) → T sq k f ≤ T sq (suc k) f
  grows zero f = omega (arith, round_none f)
  grows (suc k) f = go (λ g. grows k g) (decided (get_or (reach sq) f false))
    where
      go : ((g : ℕ) → T sq k g ≤ T sq (suc k) g) → Seen sq f ⊎ (get_or (reach sq) f false ≡ false) → T sq (suc k) f ≤ T sq (suc (suc k)) f
      go ih (inl s) = omega (arith, round_in k f s, round_in (suc k) f s, best_mono 32 sq f (rounds k sq (reach sq)) (rounds (suc k) sq (reach sq)) ih)
      go ih (inr s) = omega (arith, round_out k f s)

  grows_to : (k m f : ℕ) → m ≤ k → T sq m f ≤ T sq k f
  grows_to zero m f l = let e : m ≡ 0 = omega arith in rw e (omega arith)
  grows_to (suc k) m f l = go (ℕ_discrete m (suc k)) (λ h. grows_to k m f h)
    where
      go : Dec (m ≡ suc k) → (m ≤ k → T sq m f ≤ T sq k f) → T sq m f ≤ T sq (suc k) f
      go (yes e) ih = rw e (omega arith)
      go (no n) ih = omega (arith, ih (omega arith), grows k f)

  step_tail : (k f g : ℕ) → Seen sq f → entry sq f g ≡ Tail → T sq k g ≤ T sq (suc k) f
  step_tail k f g s e =
      let b = best_most 32 sq f (rounds k sq (reach sq)) g (inside sq narrow f g (not_tail e)) in
      let c : T sq k g ≤ best 32 sq f (rounds k sq (reach sq)) = rw e at b in
      omega (arith, round_in k f s)

  step_wait : (k f g : ℕ) → Seen sq f → entry sq f g ≡ Waits → suc (T sq k g) ≤ T sq (suc k) f
  step_wait k f g s e =
      let b = best_most 32 sq f (rounds k sq (reach sq)) g (inside sq narrow f g (not_wait e)) in
      let c : suc (T sq k g) ≤ best 32 sq f (rounds k sq (reach sq)) = rw e at b in
      omega (arith, round_in k f s)

  seen_tail : (f g : ℕ) → Seen sq f → entry sq f g ≡ Tail → Seen sq g
  seen_tail f g s e = reach_walk sq narrow s (tail e stay)

  seen_wait : (f g : ℕ) → Seen sq f → entry sq f g ≡ Waits → Seen sq g
  seen_wait f g s e = reach_walk sq narrow s (wait e stay)

  -- the table tells of walks
  pub sound : (k f : ℕ) → (g : ℕ) × Walk sq f g (T sq k f)
  sound zero f = (f, rw (round_none f) stay)
  sound (suc k) f = go (λ g. sound k g) (decided (get_or (reach sq) f false))
    where
      by : ((g : ℕ) → (h : ℕ) × Walk sq g h (T sq k g)) → T sq (suc k) f ≡ best 32 sq f (rounds k sq (reach sq))
          → Best sq f (rounds k sq (reach sq)) (best 32 sq f (rounds k sq (reach sq))) → (g : ℕ) × Walk sq f g (T sq (suc k) f)
      by ih e (nothing q) = (f, subst (λ n. Walk sq f f n) (sym (e ∙ q)) stay)
      by ih e (by_tail g d q) = let r = ih g in (r.0, subst (λ n. Walk sq f r.0 n) (sym (e ∙ q)) (tail d r.1))
      by ih e (by_wait g d q) = let r = ih g in (r.0, subst (λ n. Walk sq f r.0 n) (sym (e ∙ q)) (wait d r.1))

      go : ((g : ℕ) → (h : ℕ) × Walk sq g h (T sq k g)) → Seen sq f ⊎ (get_or (reach sq) f false ≡ false) → (g : ℕ) × Walk sq f g (T sq (suc k) f)
      go ih (inl s) = by ih (round_in k f s) (best_is 32 sq f (rounds k sq (reach sq)))
      go ih (inr s) = (f, rw (round_out k f s) stay)

  -- a table that a round does not change bounds every walk
  pub gain : (K : ℕ) → ((f : ℕ) → f < 32 → T sq (suc K) f ≡ T sq K f) → {f g n : ℕ} → Seen sq f → Walk sq f g n → n + T sq K g ≤ T sq K f
  gain K stable s stay = omega arith
  gain K stable s (tail {f} {g} e v) =
      omega (arith, gain K stable (seen_tail f g s e) v, step_tail K f g s e, stable f (seen_small f s))
  gain K stable s (wait {f} {g} e v) =
      omega (arith, gain K stable (seen_wait f g s e) v, step_wait K f g s e, stable f (seen_small f s))

  -- a function seen earlier on a chain of changes, and the walk from there
  record Trail (g m f : ℕ) : Type 0 where
    round : ℕ
    count : ℕ
    later : m < round
    change : T sq round g < T sq (suc round) g
    value : T sq (suc round) g ≡ count + T sq (suc m) f
    way : Walk sq g f count
    seen : Seen sq g

  abbrev Chain : ℕ → Type 0
  Chain n = (xs : List ℕ) × Distinct xs × ((x : ℕ) → Has x xs → Seen sq x) × (length xs ≡ n)

  fresh_one : Flat sq → {m f : ℕ} → Seen sq f → Trail f m f → ⊥
  fresh_one flat {m} {f} s tr =
      omega (arith, tr.value, tr.change, grows_to tr.round (suc m) f tr.later, flat f tr.count ((reach_found sq narrow).known f s) tr.way)

  on : {m f g c : ℕ} {past : List ℕ} → Seen sq f → T sq (suc m) f < T sq (suc (suc m)) f → Walk sq f g c → T sq (suc (suc m)) f ≡ c + T sq (suc m) g
      → ((x : ℕ) → Has x past → Trail x (suc m) f) → (x : ℕ) → (x ≡ f) ⊎ Has x past → Trail x m g
  on {m} {f} {g} {c} s l w v trails x (inl e) =
      record {
        round = suc m;
        count = c;
        later = omega arith;
        change = rw e l;
        value = rw e v;
        way = rw e w;
        seen = rw e s;
      }
  on {m} {f} {g} {c} s l w v trails x (inr h) =
      let tr = trails x h in
      record {
        round = tr.round;
        count = tr.count + c;
        later = omega (arith, tr.later);
        change = tr.change;
        value = omega (arith, tr.value, v);
        way = join tr.way w;
        seen = tr.seen;
      }

  chain : Flat sq → (m f : ℕ) (past : List ℕ) → Distinct past → ((x : ℕ) → Has x past → Trail x m f) → Seen sq f → T sq m f < T sq (suc m) f
      → Chain (suc m + length past)
  chain flat zero f past d trails s l =
      (f ∷ past, more (λ h. fresh_one flat s (trails f h)) d, λ x h. all x (has_inv h), omega arith)
    where
      all : (x : ℕ) → (x ≡ f) ⊎ Has x past → Seen sq x
      all x (inl e) = rw e s
      all x (inr h) = (trails x h).seen
  chain flat (suc m) f past d trails s l =
      go (best_is 32 sq f (rounds (suc m) sq (reach sq))) (λ g t r e. chain flat m g (f ∷ past) (more (λ h. fresh_one flat s (trails f h)) d) t r e)
    where
      go : Best sq f (rounds (suc m) sq (reach sq)) (best 32 sq f (rounds (suc m) sq (reach sq)))
          → ((g : ℕ) → ((x : ℕ) → Has x (f ∷ past) → Trail x m g) → Seen sq g → T sq m g < T sq (suc m) g → Chain (suc m + length (f ∷ past)))
          → Chain (suc (suc m) + length past)
      go (nothing q) ih = absurd (omega (arith, round_in (suc m) f s))
      go (by_tail g e q) ih =
          let v : T sq (suc (suc m)) f ≡ 0 + T sq (suc m) g = omega (arith, round_in (suc m) f s) in
          let r = ih g (λ x h. on s l (tail e stay) v trails x (has_inv h)) (seen_tail f g s e) (omega (arith, step_tail m f g s e)) in
          (r.0, r.1, r.2, omega (arith, r.3))
      go (by_wait g e q) ih =
          let v : T sq (suc (suc m)) f ≡ 1 + T sq (suc m) g = omega (arith, round_in (suc m) f s) in
          let r = ih g (λ x h. on s l (wait e stay) v trails x (has_inv h)) (seen_wait f g s e) (omega (arith, step_wait m f g s e)) in
          (r.0, r.1, r.2, omega (arith, r.3))

  -- so a flat file's table does not change after as many rounds as functions are reached
  pub settled : Flat sq → (f : ℕ) → T sq (suc (how_many (reach sq))) f ≡ T sq (how_many (reach sq)) f
  settled flat f = go (decided (get_or (reach sq) f false)) (dec_lt (T sq (how_many (reach sq)) f) (T sq (suc (how_many (reach sq))) f))
    where
      too_many : Chain (suc (how_many (reach sq)) + 0) → ⊥
      too_many c =
          let r = reached sq narrow in
          omega (arith, c.3, r.count, no_longer c.1 r.functions (λ x h. (r.exactly x).1 ((reach_found sq narrow).known x (c.2 x h))))

      go : Seen sq f ⊎ (get_or (reach sq) f false ≡ false) → Dec (T sq (how_many (reach sq)) f < T sq (suc (how_many (reach sq))) f)
          → T sq (suc (how_many (reach sq))) f ≡ T sq (how_many (reach sq)) f
      go (inl s) (yes l) = absurd (too_many (chain flat (how_many (reach sq)) f [] Distinct.none (λ x h. absurd (nowhere h)) s l))
      go (inl s) (no l) = omega (arith, grows (how_many (reach sq)) f)
      go (inr s) d = omega (arith, round_out (how_many (reach sq)) f s, grows (how_many (reach sq)) f)
