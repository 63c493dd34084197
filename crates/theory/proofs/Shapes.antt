-- The verdict flat D R or stacked R says what walks over the square say. Assumes nothing.
use Prim.Native.Nat.{ℕ, suc, ◌≤◌, ◌<◌}
use mathlib.Core.Bool.{Bool, true, false}
use mathlib.Core.List.{List, [], ◌∷◌}
use mathlib.Core.Path.{◌≡◌, refl, ap, ap₂, subst}
use mathlib.Core.Logic.{◌⊎◌, inl, inr, ◌↔◌}
use native.Mathlib.Omega.{arith}
use native.Mathlib.Decide.{ℕ_discrete, dec_lt}
use lib.ListN.{length, get_or, set, replicate, length-set, get_or-replicate, get_or-eq_default}
use lib.Seq.{get_or-set_same, get_or-set_other, set_out}
use Rattle.meaning.specs.declared.Call.{Call}
use Rattle.meaning.specs.declared.How.{How}
use Rattle.meaning.specs.declared.How.TheVariants.{Never}
use Rattle.meaning.specs.Syntax.{File}
use Rattle.meaning.specs.Derivation.{Has}
use Rattle.meaning.specs.Sets.{how_many}
use Rattle.meaning.specs.Calls.{Square, entry, stronger, noted, fill, no_calls, calls_from, square, Walk, stay, tail, wait, Reaches, Flat, IsDepth, Distinct, more, IsReached, reach, relax, rounds, same, Shape, flat, stacked, settle, judge, shape}
use Rattle.theory.proofs.Counting.{no_longer, has_inv, nowhere}
use Rattle.theory.proofs.Walks.{Narrow, reaches_next}
use Rattle.theory.proofs.Reach.{reach_found, reach_all, reached, reached_least, reached_most}
use Rattle.theory.proofs.Depth.{T, sound, gain, settled, same_all, same_not}
use Rattle.theory.proofs.Passing.{contradiction}

-- what is given is the only one
pub depth_only : {sq : Square} {D E : ℕ} → IsDepth sq D → IsDepth sq E → D ≡ E
depth_only d e = omega (arith, d.one_more, e.one_more, d.largest e.last e.most e.longest, e.largest d.last d.most d.longest)

pub reached_only : {sq : Square} {R S : ℕ} → IsReached sq R → IsReached sq S → R ≡ S
reached_only r s = omega (arith, reached_least r s, reached_least s r)

pub data Judged (sq : Square) : Shape → Type 0 where
  as_flat : {D R : ℕ} → Flat sq → IsDepth sq D → IsReached sq R → Judged sq (flat D R)
  as_stacked : {R : ℕ} → (Flat sq → ⊥) → IsReached sq R → Judged sq (stacked R)

module _ (sq : Square) (narrow : Narrow sq) where
  abbrev n : ℕ
  n = how_many (reach sq)

  steady : same 32 (relax sq (reach sq) (rounds n sq (reach sq))) (rounds n sq (reach sq)) ≡ true → (f : ℕ) → f < 32 → T sq (suc n) f ≡ T sq n f
  unfolding rounds
  steady e f l = same_all 32 (relax sq (reach sq) (rounds n sq (reach sq))) (rounds n sq (reach sq)) e f l

  unsteady : same 32 (relax sq (reach sq) (rounds n sq (reach sq))) (rounds n sq (reach sq)) ≡ false → Flat sq → ⊥
  unfolding rounds
  unsteady e f = let r = same_not 32 (relax sq (reach sq) (rounds n sq (reach sq))) (rounds n sq (reach sq)) e in r.2 (settled sq narrow f r.0)

  steady_flat : ((f : ℕ) → f < 32 → T sq (suc n) f ≡ T sq n f) → Flat sq
  steady_flat s f m r w = omega (arith, gain sq narrow n s (reach_all sq narrow f r) w)

  steady_depth : ((f : ℕ) → f < 32 → T sq (suc n) f ≡ T sq n f) → IsDepth sq (suc (T sq n 0))
  steady_depth s =
      let w = sound sq narrow n 0 in
      record {
        last = w.0;
        most = T sq n 0;
        longest = w.1;
        largest = λ f m v. omega (arith, gain sq narrow n s (reach_found sq narrow).zero_in v);
        one_more = refl;
      }

  pub judged : Judged sq (judge sq)
  unfolding judge settle
  judged = go (same 32 (relax sq (reach sq) (rounds n sq (reach sq))) (rounds n sq (reach sq))) refl
    where
      go : (b : Bool) → same 32 (relax sq (reach sq) (rounds n sq (reach sq))) (rounds n sq (reach sq)) ≡ b
          → Judged sq (elim b as (λ _. Shape) [ true ↦ flat (suc (T sq n 0)) n | false ↦ stacked n ])
      go true e = as_flat (steady_flat (steady e)) (steady_depth (steady e)) (reached sq narrow)
      go false e = as_stacked (unsteady e) (reached sq narrow)

-- both verdicts, both ways
judged_flat : {sq : Square} {s : Shape} → Judged sq s → {D R : ℕ} → s ≡ flat D R → Flat sq × IsDepth sq D × IsReached sq R
judged_flat {sq} (as_flat {D = E} {R = S} f d r) {D} {R} e =
    let p : E ≡ D = cc in
    let q : S ≡ R = cc in
    (f, subst (IsDepth sq) p d, subst (IsReached sq) q r)
judged_flat (as_stacked k r) e = let z : ◌≡◌ {A = ℕ} 0 1 = cc in absurd (contradiction z)

flat_judged : {sq : Square} {s : Shape} → Judged sq s → {D R : ℕ} → Flat sq → IsDepth sq D → IsReached sq R → s ≡ flat D R
flat_judged (as_flat f d r) g e s = ap₂ flat (depth_only d e) (reached_only r s)
flat_judged (as_stacked k r) g e s = absurd (k g)

judged_stacked : {sq : Square} {s : Shape} → Judged sq s → {R : ℕ} → s ≡ stacked R → (Flat sq → ⊥) × IsReached sq R
judged_stacked (as_flat f d r) e = let z : ◌≡◌ {A = ℕ} 0 1 = cc in absurd (contradiction z)
judged_stacked {sq} (as_stacked {R = S} k r) {R} e = let q : S ≡ R = cc in (k, subst (IsReached sq) q r)

stacked_judged : {sq : Square} {s : Shape} → Judged sq s → {R : ℕ} → (Flat sq → ⊥) → IsReached sq R → s ≡ stacked R
stacked_judged (as_flat f d r) k s = absurd (k f)
stacked_judged (as_stacked g r) k s = ap stacked (reached_only r s)

-- a walk with n CL in a flat file passes n + 1 functions
spread : {sq : Square} → Flat sq → {f g n : ℕ} → Reaches sq f → Walk sq f g n
    → (xs : List ℕ) × Distinct xs × (length xs ≡ suc n) × ((x : ℕ) → Has x xs → (m : ℕ) × Walk sq f x m)
spread {sq} level {f} r stay = (f ∷ [], more nowhere Distinct.none, refl, λ x h. at x (has_inv h))
  where
    at : (x : ℕ) → (x ≡ f) ⊎ Has x [] → (m : ℕ) × Walk sq f x m
    at x (inl e) = (0, rw e stay)
    at x (inr h) = absurd (nowhere h)
spread {sq} level r (tail {f} {g} e v) =
    let s = spread level (reaches_next sq f g r (rw e)) v in
    (s.0, s.1, s.2, λ x h. let w = s.3 x h in (w.0, tail e w.1))
spread {sq} level r (wait {f} {g} e v) =
    let s = spread level (reaches_next sq f g r (rw e)) v in
    (f ∷ s.0, more (λ h. let w = s.3 f h in omega (arith, level f (suc w.0) r (wait e w.1))) s.1, ap suc s.2, λ x h. at x (has_inv h) s.3)
  where
    at : {xs : List ℕ} (x : ℕ) → (x ≡ f) ⊎ Has x xs → ((x : ℕ) → Has x xs → (m : ℕ) × Walk sq g x m) → (m : ℕ) × Walk sq f x m
    at x (inl q) ih = (0, rw q stay)
    at x (inr h) ih = let w = ih x h in (suc w.0, wait e w.1)

pub no_deeper : {sq : Square} {D R : ℕ} → Flat sq → IsDepth sq D → IsReached sq R → D ≤ R
no_deeper level d r =
    let s = spread level (0, stay) d.longest in
    omega (arith, d.one_more, s.2, r.count, no_longer s.1 r.functions (λ x h. (r.exactly x).1 (s.3 x h)))

-- the square of a file has 32 columns
abbrev Rows : Square → Type 0
Rows sq = (f : ℕ) → length (get_or sq f []) ≤ 32

rows_noted : (sq : Square) (i j : ℕ) (h : How) → Rows sq → Rows (noted sq i j h)
rows_noted sq i j h r f = go (ℕ_discrete f i) (dec_lt i (length sq))
  where
    new : List How
    new = set (get_or sq i []) j (stronger (entry sq i j) h)

    go : Dec (f ≡ i) → Dec (i < length sq) → length (get_or (set sq i new) f []) ≤ 32
    go (yes e) (yes l) = rw (e, get_or-set_same sq i new [] l) (omega (arith, r i, length-set (get_or sq i []) j (stronger (entry sq i j) h)))
    go (yes e) (no l) = rw (set_out sq i new (omega arith)) (r f)
    go (no e) d = rw (get_or-set_other sq i f new [] e) (r f)

rows_fill : (cs : List Call) (sq : Square) → Rows sq → Rows (fill cs sq)
unfolding fill
rows_fill [] sq r = r
rows_fill (c ∷ cs) sq r = rows_fill cs (noted sq c.caller c.callee c.how) (rows_noted sq c.caller c.callee c.how r)

rows_none : Rows no_calls
unfolding no_calls
rows_none f = go (dec_lt f 32)
  where
    go : Dec (f < 32) → length (get_or (replicate 32 (replicate 32 Never)) f []) ≤ 32
    go (yes l) = rw (get_or-replicate 32 f (replicate 32 Never) [] l) (omega arith)
    go (no l) = rw (get_or-eq_default (replicate 32 (replicate 32 Never)) [] {n = f} (omega arith)) (omega arith)

pub square_narrow : (file : File) → Narrow (square file)
unfolding square
square_narrow file f g l = get_or-eq_default (get_or (square file) f []) Never (omega (arith, rows_fill (calls_from 0 file.bodies) no_calls rows_none f))

-- the theorems
module _ (file : File) where
  pub shape_flat : (D R : ℕ) → (shape file ≡ flat D R) ↔ (Flat (square file) × IsDepth (square file) D × IsReached (square file) R)
  unfolding shape
  shape_flat D R =
      let j = judged (square file) (square_narrow file) in
      (λ e. judged_flat j e, λ p. flat_judged j p.0 p.1 p.2)

  pub shape_stacked : (R : ℕ) → (shape file ≡ stacked R) ↔ ((Flat (square file) → ⊥) × IsReached (square file) R)
  unfolding shape
  shape_stacked R =
      let j = judged (square file) (square_narrow file) in
      (λ e. judged_stacked j e, λ p. stacked_judged j p.0 p.1)

  pub shape_bounds : (D R : ℕ) → shape file ≡ flat D R → (D ≤ R) × (R ≤ 32)
  shape_bounds D R e =
      let p = (shape_flat D R).0 e in
      (no_deeper p.0 p.1 p.2, reached_most (square file) (square_narrow file) R p.2)
