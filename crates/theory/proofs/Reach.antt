-- Visiting finds exactly the functions that walks from function 0 reach. Assumes nothing.
use Prim.Native.Nat.{ℕ, zero, suc, ◌+◌, ◌≤◌, ◌<◌}
use mathlib.Core.Bool.{Bool, true, false}
use mathlib.Core.List.{List, [], ◌∷◌}
use mathlib.Core.Path.{◌≡◌, refl, sym, ap, ◌∙◌, subst}
use mathlib.Core.Logic.{◌⊎◌, inl, inr}
use native.Mathlib.Omega.{arith}
use native.Mathlib.Decide.{ℕ_discrete, dec_lt}
use lib.ListN.{length, get_or, set, replicate, length-set, get_or-eq_default}
use lib.Seq.{get_or-set_same, get_or-set_other}
use lib.Dec.{leb}
use borrow.Author.Tests.{leb-true, leb-false}
use Rattle.meaning.specs.Derivation.{Has}
use Rattle.meaning.specs.Sets.{first, how_many, zip, or, differ, except}
use Rattle.meaning.specs.Calls.{Square, entry, Walk, stay, tail, wait, Reaches, Distinct, more, IsReached, called, row, visits, start, reach}
use Rattle.theory.proofs.Counting.{no_longer, numbers, numbers_length, in_numbers, has_inv, nowhere}
use Rattle.theory.proofs.Bools.{upto_length, upto_at, zip_length, zip_at, first_in, first_none, members, members_length, member_from, member_at, members_distinct}
use Rattle.theory.proofs.Walks.{Narrow, reaches_next, ends_inside}
use Rattle.theory.proofs.Passing.{contradiction}

-- Bools
pub clash : {b : Bool} → b ≡ true → b ≡ false → ⊥
clash p q = let z : ◌≡◌ {A = ℕ} 0 1 = cc in contradiction z

pub decided : (b : Bool) → (b ≡ true) ⊎ (b ≡ false)
decided true = inl refl
decided false = inr refl

or_right : (r s : Bool) → s ≡ true → or r s ≡ true
or_right true s e = refl
or_right false s e = e

or_cases : (r s : Bool) → or r s ≡ true → (r ≡ true) ⊎ (s ≡ true)
or_cases true s e = inl refl
or_cases false s e = inr e

or_neither : (r s : Bool) → or r s ≡ false → (r ≡ false) × (s ≡ false)
or_neither true s e = absurd (clash refl e)
or_neither false s e = (refl, e)

-- of the row, what is not seen
abbrev fresh : Bool → Bool → Bool
fresh r s = differ (or r s) s

fresh_seen : (r s : Bool) → s ≡ true → fresh r s ≡ false
fresh_seen true true e = refl
fresh_seen false true e = refl
fresh_seen true false e = absurd (clash e refl)
fresh_seen false false e = refl

fresh_seen_then : (r s : Bool) → fresh r s ≡ true → or r s ≡ true
fresh_seen_then true s e = refl
fresh_seen_then false true e = refl
fresh_seen_then false false e = e

not_fresh : (r s : Bool) → fresh r s ≡ false → or r s ≡ true → s ≡ true
not_fresh true true e f = refl
not_fresh true false e f = absurd (clash refl e)
not_fresh false s e f = f

in_length : (l : List Bool) (i : ℕ) → get_or l i false ≡ true → i < length l
in_length l i e = go (dec_lt i (length l))
  where
    go : Dec (i < length l) → i < length l
    go (yes h) = h
    go (no h) = absurd (clash e (get_or-eq_default l false (omega arith)))

-- what is found in the end
pub record Found (sq : Square) (seen : List Bool) : Type 0 where
  pub size : length seen ≡ 32
  pub known : (f : ℕ) → get_or seen f false ≡ true → Reaches sq f
  pub zero_in : get_or seen 0 false ≡ true
  pub closed : (f : ℕ) → get_or seen f false ≡ true → (g : ℕ) → called (entry sq f g) ≡ true → get_or seen g false ≡ true

-- on the way: `done` are the functions visited
record Going (sq : Square) (todo seen : List Bool) (done : List ℕ) : Type 0 where
  size : length seen ≡ 32
  size_todo : length todo ≡ 32
  known : (f : ℕ) → get_or seen f false ≡ true → Reaches sq f
  zero_in : get_or seen 0 false ≡ true
  within : (f : ℕ) → get_or todo f false ≡ true → get_or seen f false ≡ true
  closed : (f : ℕ) → get_or seen f false ≡ true → get_or todo f false ≡ false → (g : ℕ) → called (entry sq f g) ≡ true → get_or seen g false ≡ true
  distinct : Distinct done
  over : (f : ℕ) → Has f done → (get_or seen f false ≡ true) × (get_or todo f false ≡ false)

-- nothing left to do
all_done : {sq : Square} {todo seen : List Bool} {done : List ℕ} → Going sq todo seen done → ((f : ℕ) → get_or todo f false ≡ false) → Found sq seen
all_done g none = record { size = g.size; known = g.known; zero_in = g.zero_in; closed = λ f e. g.closed f e (none f) }

-- 32 visits are enough
spent : {sq : Square} {todo seen : List Bool} {done : List ℕ} → Going sq todo seen done → length done ≡ 32 → (f : ℕ) → get_or todo f false ≡ false
spent {todo} {seen} {done} g e f = go (decided (get_or todo f false))
  where
    small : (x : ℕ) → (x ≡ f) ⊎ Has x done → get_or todo f false ≡ true → x < 32
    small x (inl q) t = omega (arith, in_length todo f t, g.size_todo)
    small x (inr h) t = omega (arith, in_length seen x (g.over x h).0, g.size)

    go : (get_or todo f false ≡ true) ⊎ (get_or todo f false ≡ false) → get_or todo f false ≡ false
    go (inr q) = q
    go (inl q) =
        let d : Distinct (f ∷ done) = more (λ h. clash q (g.over f h).1) g.distinct in
        absurd (omega (arith, numbers_length 32, no_longer d (numbers 32) (λ x h. in_numbers 32 x (small x (has_inv h) q))))

module _ (sq : Square) (narrow : Narrow sq) where
  row_at : (i j : ℕ) → get_or (row sq i) j false ≡ called (entry sq i j)
  unfolding row
  row_at i j = go (dec_lt j 32)
    where
      go : Dec (j < 32) → get_or (row sq i) j false ≡ called (entry sq i j)
      go (yes h) = upto_at 32 (λ g. called (entry sq i g)) j false h
      go (no h) =
          get_or-eq_default (row sq i) false (omega (arith, upto_length 32 (λ g. called (entry sq i g))))
          ∙ sym (ap called (narrow i j (omega arith)))

  row_length : (i : ℕ) → length (row sq i) ≡ 32
  unfolding row
  row_length i = upto_length 32 (λ g. called (entry sq i g))

-- one visit, to i
abbrev seen' : Square → (todo seen : List Bool) → ℕ → List Bool
seen' sq todo seen i = zip or (row sq i) seen

abbrev todo' : Square → (todo seen : List Bool) → ℕ → List Bool
todo' sq todo seen i = zip or (set todo i false) (except (row sq i) seen)

or_none : (r s : Bool) → r ≡ false → s ≡ false → or r s ≡ false
or_none r s p q = rw (p, q)

module _ (sq : Square) (narrow : Narrow sq) {todo seen : List Bool} {done : List ℕ} (i : ℕ) (l : i < 32) (t : get_or todo i false ≡ true) (g : Going sq todo seen done) where
  lines : length (row sq i) ≡ length seen
  lines = row_length sq narrow i ∙ sym g.size

  seen_length : length (seen' sq todo seen i) ≡ length seen
  seen_length = zip_length or (row sq i) seen lines ∙ lines

  new_length : length (except (row sq i) seen) ≡ length seen
  new_length = zip_length differ (zip or (row sq i) seen) seen seen_length ∙ seen_length

  pairs : length (set todo i false) ≡ length (except (row sq i) seen)
  pairs = length-set todo i false ∙ g.size_todo ∙ sym g.size ∙ sym new_length

  seen_at : (j : ℕ) → get_or (seen' sq todo seen i) j false ≡ or (called (entry sq i j)) (get_or seen j false)
  seen_at j = zip_at or refl (row sq i) seen j lines ∙ ap (λ b. or b (get_or seen j false)) (row_at sq narrow i j)

  todo_at : (j : ℕ) → get_or (todo' sq todo seen i) j false ≡ or (get_or (set todo i false) j false) (fresh (called (entry sq i j)) (get_or seen j false))
  todo_at j =
      zip_at or refl (set todo i false) (except (row sq i) seen) j pairs
      ∙ ap (λ b. or (get_or (set todo i false) j false) b) (zip_at differ refl (zip or (row sq i) seen) seen j seen_length ∙ ap (λ b. differ b (get_or seen j false)) (seen_at j))

  keeps : (f : ℕ) → get_or seen f false ≡ true → get_or (seen' sq todo seen i) f false ≡ true
  keeps f e = seen_at f ∙ or_right (called (entry sq i f)) (get_or seen f false) e

  unset : (f : ℕ) → (f ≡ i) ⊎ (get_or todo f false ≡ false) → get_or (set todo i false) f false ≡ false
  unset f (inl e) = rw e (get_or-set_same todo i false false (omega (arith, g.size_todo)))
  unset f (inr e) = go (ℕ_discrete f i)
    where
      go : Dec (f ≡ i) → get_or (set todo i false) f false ≡ false
      go (yes q) = rw q (get_or-set_same todo i false false (omega (arith, g.size_todo)))
      go (no q) = get_or-set_other todo i f false false q ∙ e

  seen_now : (f : ℕ) → (called (entry sq i f) ≡ true) ⊎ (get_or seen f false ≡ true) → Reaches sq f
  seen_now f (inl c) = reaches_next sq i f (g.known i (g.within i t)) c
  seen_now f (inr s) = g.known f s

  within_now : (f : ℕ) → (get_or (set todo i false) f false ≡ true) ⊎ (fresh (called (entry sq i f)) (get_or seen f false) ≡ true)
      → get_or (seen' sq todo seen i) f false ≡ true
  within_now f (inr e) = seen_at f ∙ fresh_seen_then (called (entry sq i f)) (get_or seen f false) e
  within_now f (inl e) = go (decided (get_or todo f false))
    where
      go : (get_or todo f false ≡ true) ⊎ (get_or todo f false ≡ false) → get_or (seen' sq todo seen i) f false ≡ true
      go (inl q) = keeps f (g.within f q)
      go (inr q) = absurd (clash e (unset f (inr q)))

  closed_now : (f : ℕ) → get_or (seen' sq todo seen i) f false ≡ true → get_or (todo' sq todo seen i) f false ≡ false → (h : ℕ) → called (entry sq f h) ≡ true
      → get_or (seen' sq todo seen i) h false ≡ true
  closed_now f e n h c =
      let b = or_neither (get_or (set todo i false) f false) (fresh (called (entry sq i f)) (get_or seen f false)) (sym (todo_at f) ∙ n) in
      go (ℕ_discrete f i) b.0 (not_fresh (called (entry sq i f)) (get_or seen f false) b.1 (sym (seen_at f) ∙ e))
    where
      go : Dec (f ≡ i) → get_or (set todo i false) f false ≡ false → get_or seen f false ≡ true → get_or (seen' sq todo seen i) h false ≡ true
      go (yes q) u s = seen_at h ∙ ap (λ b. or b (get_or seen h false)) (ap (λ x. called (entry sq x h)) (sym q) ∙ c)
      go (no q) u s = keeps h (g.closed f s (sym (get_or-set_other todo i f false false q) ∙ u) h c)

  over_now : (f : ℕ) → (f ≡ i) ⊎ Has f done → (get_or (seen' sq todo seen i) f false ≡ true) × (get_or (todo' sq todo seen i) f false ≡ false)
  over_now f (inl e) =
      let s : get_or seen f false ≡ true = rw e (g.within i t) in
      (keeps f s, todo_at f ∙ or_none (get_or (set todo i false) f false) (fresh (called (entry sq i f)) (get_or seen f false)) (unset f (inl e)) (fresh_seen (called (entry sq i f)) (get_or seen f false) s))
  over_now f (inr h) =
      let o = g.over f h in
      (keeps f o.0, todo_at f ∙ or_none (get_or (set todo i false) f false) (fresh (called (entry sq i f)) (get_or seen f false)) (unset f (inr o.1)) (fresh_seen (called (entry sq i f)) (get_or seen f false) o.0))

  visited : Going sq (todo' sq todo seen i) (seen' sq todo seen i) (i ∷ done)
  visited =
      record {
        size = seen_length ∙ g.size;
        size_todo = zip_length or (set todo i false) (except (row sq i) seen) pairs ∙ length-set todo i false ∙ g.size_todo;
        known = λ f e. seen_now f (or_cases (called (entry sq i f)) (get_or seen f false) (sym (seen_at f) ∙ e));
        zero_in = keeps 0 g.zero_in;
        within = λ f e. within_now f (or_cases (get_or (set todo i false) f false) (fresh (called (entry sq i f)) (get_or seen f false)) (sym (todo_at f) ∙ e));
        closed = closed_now;
        distinct = more (λ h. clash t (g.over i h).1) g.distinct;
        over = λ f h. over_now f (has_inv h);
      }

module _ (sq : Square) (narrow : Narrow sq) where
  visits_found : (n : ℕ) (todo seen : List Bool) (done : List ℕ) → Going sq todo seen done → n + length done ≡ 32 → Found sq (visits n sq todo seen)
  unfolding visits
  visits_found zero todo seen done g e = all_done g (spent g (omega arith))
  visits_found (suc n) todo seen done g e =
      go (leb 32 (first todo)) refl
      (λ l. visits_found n (todo' sq todo seen (first todo)) (seen' sq todo seen (first todo)) (first todo ∷ done)
      (visited sq narrow (first todo) l (first_in todo (omega (arith, g.size_todo))) g) (omega arith))
    where
      go : (b : Bool) → leb 32 (first todo) ≡ b
          → (first todo < 32 → Found sq (visits n sq (todo' sq todo seen (first todo)) (seen' sq todo seen (first todo))))
          → Found sq (elim b as (λ _. List Bool) [ true ↦ seen | false ↦ visits n sq (todo' sq todo seen (first todo)) (seen' sq todo seen (first todo)) ])
      go true q ih = all_done g (first_none todo (omega (arith, leb-true 32 (first todo) q, g.size_todo)))
      go false q ih = ih (leb-false 32 (first todo) q)

  no_others : (n f : ℕ) → get_or (replicate n false) f false ≡ false
  no_others zero f = refl
  no_others (suc n) zero = refl
  no_others (suc n) (suc f) = no_others n f

  only_zero : (f : ℕ) → get_or start f false ≡ true → Reaches sq f
  unfolding start
  only_zero zero e = (0, stay)
  only_zero (suc f) e = absurd (clash e (no_others 31 f))

  begun : Going sq start start []
  unfolding start
  begun =
      record {
        size = refl;
        size_todo = refl;
        known = only_zero;
        zero_in = refl;
        within = λ f e. e;
        closed = λ f a b. absurd (clash a b);
        distinct = Distinct.none;
        over = λ f h. absurd (nowhere h);
      }

  pub reach_found : Found sq (reach sq)
  unfolding reach
  reach_found = visits_found 32 start start [] begun refl

  -- exactly what walks reach
  walked : (seen : List Bool) → Found sq seen → {f g n : ℕ} → get_or seen f false ≡ true → Walk sq f g n → get_or seen g false ≡ true
  walked seen w s stay = s
  walked seen w s (tail {f} {g} e v) = walked seen w (w.closed f s g (ap called e)) v
  walked seen w s (wait {f} {g} e v) = walked seen w (w.closed f s g (ap called e)) v

  pub reach_walk : {f g n : ℕ} → get_or (reach sq) f false ≡ true → Walk sq f g n → get_or (reach sq) g false ≡ true
  reach_walk s v = walked (reach sq) reach_found s v

  pub reach_all : (f : ℕ) → Reaches sq f → get_or (reach sq) f false ≡ true
  reach_all f r = reach_walk reach_found.zero_in r.1

  pub reached : IsReached sq (how_many (reach sq))
  reached =
      record {
        functions = members 0 (reach sq);
        distinct = members_distinct 0 (reach sq);
        exactly = λ f. (λ h. from f (member_from 0 (reach sq) f h), λ r. to f (reach_all f r));
        count = members_length 0 (reach sq);
      }
    where
      from : (f : ℕ) → (i : ℕ) × (f ≡ 0 + i) × (get_or (reach sq) i false ≡ true) → Reaches sq f
      from f r = let e : f ≡ r.0 = let q = r.1 in omega arith in reach_found.known f (rw e r.2)

      to : (f : ℕ) → get_or (reach sq) f false ≡ true → Has f (members 0 (reach sq))
      to f e = let q : 0 + f ≡ f = omega arith in subst (λ x. Has x (members 0 (reach sq))) q (member_at 0 (reach sq) f e)

-- a count of what is reached is the only one, and at most 32
pub reached_least : {sq : Square} {R S : ℕ} → IsReached sq R → IsReached sq S → R ≤ S
reached_least r s = omega (arith, r.count, s.count, no_longer r.distinct s.functions (λ f h. (s.exactly f).1 ((r.exactly f).0 h)))

pub reached_most : (sq : Square) → Narrow sq → (R : ℕ) → IsReached sq R → R ≤ 32
reached_most sq narrow R r =
    omega (arith, r.count, numbers_length 32, no_longer r.distinct (numbers 32) (λ f h. in_numbers 32 f (ends_inside narrow (omega arith) ((r.exactly f).0 h).1)))
