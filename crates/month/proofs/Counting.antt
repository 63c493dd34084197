-- The counts, the greatest, the least and the table of answer numbers in the library's words. Assumes nothing.
use Prim.Native.Nat.{ℕ, zero, suc, ◌+◌, ◌≤◌, max, min}
use mathlib.Core.Path.{◌≡◌, refl, sym, ap, subst, ◌∙◌}
use mathlib.Core.Bool.{Bool, true, false, cond, ◌&&◌, ◌||◌}
use mathlib.Core.List.{List, [], ◌∷◌, map}
use mir.Val.{bool_byte}
use denote.Ref.{Bor}
use native.Mathlib.Omega.{arith}
use borrow.Author.Tests.{eq-eqb, ne_eqb}
use Rattle.std.proofs.lemmas.Bool.{eqb-true, false≢true}
use lib.ListN.{length, drop, drop_of_length-le}
use lib.Seq.{drop-cons}
use denote.Param.Members.{Mut}
use Rattle.std.specs.Fn.{Called}
use Rattle.std.specs.Iterator.{ActsAs, ActsAsAt}
use Rattle.std.specs.Array.{IsMapOf, MapsFrom}
use lib.Dec.{leb, eqb}
use Rattle.std.specs.List.{list_all, list_any, count_by, filter, fold}
use Rattle.std.specs.Ordering.{ord_max, nat_cmp}
use Rattle.std.proofs.lemmas.List.Sums.{length-filter}
use Rattle.std.proofs.lemmas.List.{length-map}
use Rattle.std.proofs.lemmas.List.Recursion.{is_count_by, same_from_clauses}
use Rattle.meaning.specs.Choice.{pick}
use Rattle.month.specs.declared.Run.{Run}
use Rattle.month.specs.Month.{numbers, among, known, count, those, ended, steps_of, highest, lowest, within}

pick_cond : {A : Type 0} (b : Bool) (x y : A) → pick b x y ≡ cond b x y
unfolding pick
pick_cond true x y = refl
pick_cond false x y = refl

pick_more : (b : Bool) (n : ℕ) → pick b (suc n) n ≡ cond b (1 + n) n
unfolding pick
pick_more true n = omega arith
pick_more false n = refl

pick_or : (b t : Bool) → pick b true t ≡ (b || t)
unfolding pick
pick_or true t = refl
pick_or false t = refl

pick_and : (b t : Bool) → pick b t false ≡ (b && t)
unfolding pick
pick_and true t = refl
pick_and false t = refl

eqb_swap : (a b : ℕ) → eqb a b ≡ eqb b a
eqb_swap a b = go (eqb a b) refl
  where
    go : (t : Bool) → eqb a b ≡ t → eqb a b ≡ eqb b a
    go true e = e ∙ sym (eq-eqb b a (sym (eqb-true a b e)))
    go false e = e ∙ sym (ne_eqb b a (λ h. false≢true (sym e ∙ eq-eqb a b (sym h))))

pub among_any : (n : ℕ) (xs : List ℕ) → list_any (λ m. eqb m n) xs ≡ among n xs
unfolding among
among_any n = same_from_clauses (list_any (λ m. eqb m n)) (among n) (λ m b. eqb m n || b) refl (λ m rest. refl) (λ m rest. pick_or (eqb n m) (among n rest) ∙ ap (λ b. b || among n rest) (eqb_swap n m))

pub known_all : (rs : List Run) → list_all (λ r. among r.number numbers) rs ≡ known rs
unfolding known
known_all = same_from_clauses (list_all (λ r. among r.number numbers)) known (λ r b. among r.number numbers && b) refl (λ r rest. refl) (λ r rest. pick_and (among r.number numbers) (known rest))

pub count_counts : (n : ℕ) (rs : List Run) → count n rs ≡ count_by (λ r. eqb r.number n) rs
unfolding count
count_counts n = is_count_by (count n) (λ r. eqb r.number n) refl (λ r rest. pick_more (eqb r.number n) (count n rest))

pub ended_filter : (rs : List Run) → filter (λ r. eqb r.number 0) rs ≡ ended rs
unfolding ended those
ended_filter = same_from_clauses (filter (λ r. eqb r.number 0)) ended (λ r l. cond (eqb r.number 0) (r ∷ l) l) refl (λ r rest. refl) (λ r rest. pick_cond (eqb r.number 0) (r ∷ ended rest) (ended rest))

-- as many runs ended with 0 as are counted for it
pub ended_count : (rs : List Run) → length (steps_of rs) ≡ count_by (λ r. eqb r.number 0) rs
unfolding steps_of
ended_count rs = simp length-map (ap length (sym (ended_filter rs)) ∙ length-filter (λ r. eqb r.number 0) rs)

within_step : (bound : ℕ) (r : Run) (rest : List Run) (b : Bool) → within bound (map (λ x. x.steps) (pick b (r ∷ ended rest) (ended rest))) ≡ cond (b && leb r.steps bound) (1 + within bound (steps_of rest)) (within bound (steps_of rest))
unfolding steps_of within pick
within_step bound r rest true = pick_more (leb r.steps bound) (within bound (steps_of rest))
within_step bound r rest false = refl

pub within_counts : (bound : ℕ) (rs : List Run) → within bound (steps_of rs) ≡ count_by (λ r. eqb r.number 0 && leb r.steps bound) rs
unfolding within steps_of ended those
within_counts bound = is_count_by (λ l. within bound (steps_of l)) (λ r. eqb r.number 0 && leb r.steps bound) refl (λ r rest. within_step bound r rest (eqb r.number 0))

-- a step of the loop for the greatest of a figure, where a run that did not end with 0 counts as 0, and of that for the least steps, where it counts as the top
abbrev pub raised : (Run → ℕ) → ℕ → Run → ℕ
raised f had r = max had (cond (eqb r.number 0) (f r) 0)

abbrev pub lowered : (top : ℕ) → ℕ → Run → ℕ
lowered top had r = min had (cond (eqb r.number 0) r.steps top)

pub raised_at : (f : Run → ℕ) (had : ℕ) (r : Run) {value : ℕ} → r.number ≡ 0 → value ≡ f r → max had value ≡ raised f had r
raised_at f had r e k = rw (k, eq-eqb r.number 0 e)

pub raised_past : (f : Run → ℕ) (had : ℕ) (r : Run) {value : ℕ} → (r.number ≡ 0 → ⊥) → value ≡ 0 → max had value ≡ raised f had r
raised_past f had r e k = rw (k, ne_eqb r.number 0 e)

pub lowered_at : (top had : ℕ) (r : Run) {value : ℕ} → r.number ≡ 0 → value ≡ r.steps → min had value ≡ lowered top had r
lowered_at top had r e k = rw (k, eq-eqb r.number 0 e)

pub lowered_past : (top had : ℕ) (r : Run) {value : ℕ} → (r.number ≡ 0 → ⊥) → value ≡ top → min had value ≡ lowered top had r
lowered_past top had r e k = rw (k, ne_eqb r.number 0 e)

-- the whole loop
pub highest_raised : (f : Run → ℕ) (from : ℕ) (rs : List Run) → fold (raised f) from rs ≡ highest from (map f (ended rs))
unfolding highest ended those pick
highest_raised f from [] = refl
highest_raised f from (r ∷ rest) = go (λ had. highest_raised f had rest) (eqb r.number 0)
  where
    go : ((had : ℕ) → fold (raised f) had rest ≡ highest had (map f (ended rest))) → (b : Bool) → fold (raised f) (max from (cond b (f r) 0)) rest ≡ highest from (map f (pick b (r ∷ ended rest) (ended rest)))
    go later true = later (max from (f r))
    go later false = let e : max from 0 ≡ from = omega arith in ap (λ m. fold (raised f) m rest) e ∙ later from

pub lowest_lowered : (top from : ℕ) → from ≤ top → (rs : List Run) → fold (lowered top) from rs ≡ lowest from (steps_of rs)
unfolding lowest steps_of ended those pick
lowest_lowered top from h [] = refl
lowest_lowered top from h (r ∷ rest) = go (λ had k. lowest_lowered top had k rest) (eqb r.number 0)
  where
    go : ((had : ℕ) → had ≤ top → fold (lowered top) had rest ≡ lowest had (steps_of rest)) → (b : Bool) → fold (lowered top) (min from (cond b r.steps top)) rest ≡ lowest from (map (λ x. x.steps) (pick b (r ∷ ended rest) (ended rest)))
    go later true = later (min from r.steps) (omega arith)
    go later false = let e : min from top ≡ from = omega arith in ap (λ m. fold (lowered top) m rest) e ∙ later from h

-- what `max` gives
pub greater : (a b : ℕ) → ord_max nat_cmp a b ≡ max a b
greater a b = grind arith

-- a closure that a loop has left as it was, called once more, at a reference and at a value
pub called_again : {F A R : Type 0} (g : Mut F (Bor A × Unit {0}) R) {f s q : F} (h : A → R) {x : Bor A} {r : R} → ActsAsAt g f h → s ≡ f → Called g s (x, tt) r q → (q ≡ f) × (r ≡ h x.now)
called_again g {s = s} {q = q} h {x = x} {r = r} acts e called = acts x.now r q (record { shown = x; shows = refl; called = subst (λ p. Called g p (x, tt) r q) e called })

pub value_again : {F A R : Type 0} (g : Mut F (A × Unit {0}) R) {f s q : F} (h : A → R) {x : A} {r : R} → ActsAs g f h → s ≡ f → Called g s (x, tt) r q → (q ≡ f) × (r ≡ h x)
value_again g {s = s} {q = q} h {x = x} {r = r} acts e called = acts x r q (subst (λ p. Called g p (x, tt) r q) e called)

-- what `u32::from` gives of a test
pub byte_cond : (b : Bool) → bool_byte b ≡ cond b 1 0
byte_cond true = refl
byte_cond false = refl

-- what an array's `map` gives, where each call gives what h gives and leaves the closure as it was
module _ {F A B : Type 0} (g : Mut F (A × Unit {0}) B) (f : F) (h : A → B) (acts : ActsAs g f h) (xs : List A) (ys : List B) where
  mapped_from : (n i : ℕ) → MapsFrom g f xs ys i n → length xs ≡ i + n → length ys ≡ i + n → drop i ys ≡ map h (drop i xs)
  mapped_from zero i m a b = rw (drop_of_length-le ys {i = i} (omega arith), drop_of_length-le xs {i = i} (omega arith))
  mapped_from (suc n) i m a b =
      let k = acts m.1 m.2 m.0 m.5 in
      let s : suc i ≡ i + 1 = omega arith in
      let later = mapped_from n (suc i) (subst (λ j. MapsFrom g f xs ys j n) (sym s) (subst (λ q. MapsFrom g q xs ys (i + 1) n) k.0 m.6)) (omega arith) (omega arith) in
      rw (drop-cons ys i m.2 (omega arith), drop-cons xs i m.1 (omega arith), later, m.3.0, m.4.0, k.1)

  pub mapped : {n : ℕ} → IsMapOf g f xs ys n → length xs ≡ n → ys ≡ map h xs
  mapped {n} m e = mapped_from n 0 m.each (omega arith) (omega (arith, m.long))
