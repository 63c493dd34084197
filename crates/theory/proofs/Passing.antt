-- An argument list: passing slots one by one, and splitting Γ at once, both ways. Assumes nothing.
use Prim.Native.Nat.{ℕ, zero, suc}
use mathlib.Core.Bool.{Bool, true, false, ◌||◌, or-true}
use mathlib.Core.List.{List, [], ◌∷◌, ◌++◌}
use mathlib.Core.Option.{some}
use mathlib.Core.Path.{◌≡◌, refl, sym, ap, ◌∙◌, subst}
use mathlib.Core.Logic.{◌⊎◌, inl, inr}
use native.Mathlib.Omega.{arith}
use lib.ListN.{get_elem?, set}
use lib.Dec.{eqb}
use borrow.Author.Tests.{eqb-true, eq-eqb}
use Rattle.meaning.specs.Syntax.{Mode}
use Rattle.meaning.specs.Outcome.{ok}
use Rattle.meaning.specs.Ownership.{Kind, Slot, Slots, Want, take, pass, member}
use Rattle.meaning.specs.Derivation.{Item, own, credit, Split, left, right, Has, here, there, Tuple}
use Rattle.theory.proofs.Splits.{all_right, nothing_left, first, join, swap, has_left, has_right}
use Rattle.theory.proofs.Gather.{used_up, Stands}
use Rattle.theory.proofs.Taking.{Takes, take_ok, take_inv, steps_ok, refused}
use Rattle.theory.proofs.Wants.{N, L, G, Kept, kept_refl, kept_trans, number_has, lent_has, own_split, has_number, has_lent, split_own, owned_kept, took_number, took_lent, took_owned, takes}

pub contradiction : ◌≡◌ {A = ℕ} 0 1 → ⊥
contradiction z = omega arith

-- lists
pub set_same : {A : Type 0} (xs : List A) (s : ℕ) (x y : A) → get_elem? xs s ≡ some x → get_elem? (set xs s y) s ≡ some y
set_same [] s x y e = let z : ◌≡◌ {A = ℕ} 0 1 = cc in absurd (contradiction z)
set_same (a ∷ xs) zero x y e = refl
set_same (a ∷ xs) (suc s) x y e = set_same xs s x y e

pub set_other : {A : Type 0} (xs : List A) (s i : ℕ) (y : A) → (i ≡ s → ⊥) → get_elem? (set xs s y) i ≡ get_elem? xs i
set_other [] s i y n = refl
set_other (a ∷ xs) zero zero y n = absurd (n refl)
set_other (a ∷ xs) zero (suc i) y n = refl
set_other (a ∷ xs) (suc s) zero y n = refl
set_other (a ∷ xs) (suc s) (suc i) y n = set_other xs s i y (λ e. n (ap suc e))

pub has_member : {s : ℕ} {l : List ℕ} → Has s l → member s l ≡ true
has_member {s} here = rw (eq-eqb s s refl)
has_member {s} (there {y} h) = rw (has_member h) (or-true (eqb s y))

pub member_has : (s : ℕ) (l : List ℕ) → member s l ≡ true → Has s l
member_has s [] e = let z : ◌≡◌ {A = ℕ} 0 1 = cc in absurd (contradiction z)
member_has s (y ∷ l) e = go (λ f. member_has s l f) (eqb s y) refl e
  where
    go : (member s l ≡ true → Has s l) → (b : Bool) → eqb s y ≡ b → (b || member s l) ≡ true → Has s (y ∷ l)
    go ih true q f = subst (λ x. Has s (x ∷ l)) (eqb-true s y q) here
    go ih false q f = there (ih f)

not_earlier : (s : ℕ) (l : List ℕ) (u : Bool) → (u || member s l) ≡ false → Has s l → ⊥
not_earlier s l true e h = let z : ◌≡◌ {A = ℕ} 0 1 = cc in contradiction z
not_earlier s l false e h = let f = has_member h in let z : ◌≡◌ {A = ℕ} 0 1 = cc in contradiction z

-- slots
pub one_kind : {slots : Slots} {s : ℕ} {j k : Kind} → Stands slots s j → Stands slots s k → j ≡ k
one_kind t u =
    let p = t.stands in
    let q = u.stands in
    let e : t.slot ≡ u.slot = cc in
    sym t.of_kind ∙ ap (λ x. x.kind) e ∙ u.of_kind

pub elsewhere : {slots : Slots} {s i : ℕ} {k : Kind} (x : Slot) → (i ≡ s → ⊥) → Stands slots i k → Stands (set slots s x) i k
elsewhere {slots} {s} {i} x n t =
    record { slot = t.slot; stands = set_other slots s i x n ∙ t.stands; live = t.live; of_kind = t.of_kind }

-- a taken slot does not stand
pub spent : {slots : Slots} {s : ℕ} {j k : Kind} (t : Stands slots s j) → Stands (set slots s (used_up t.slot)) s k → ⊥
spent {slots} {s} t u =
    let p = set_same slots s t.slot (used_up t.slot) t.stands in
    let q = u.stands in
    let e : used_up t.slot ≡ u.slot = cc in
    let f : true ≡ false = ap (λ x. x.used) e ∙ u.live in
    let z : ◌≡◌ {A = ℕ} 0 1 = cc in
    contradiction z

-- Γ holds the variable s
abbrev pub Owns : List Item → ℕ → Type 0
Owns Γ s = (Γ' : List Item) × Split Γ (own s ∷ []) Γ'

pub owns_whole : {Γ Γ₁ Γ₂ : List Item} {s : ℕ} → Split Γ Γ₁ Γ₂ → Owns Γ₁ s → Owns Γ s
owns_whole h o = let r = first h o.1 in (r.0, r.1)

pub owned_once : (slots : Slots) {s : ℕ} {Γ : List Item} → Split (G slots) (own s ∷ []) Γ → Owns Γ s → ⊥
owned_once slots {s} h o =
    let r = split_own slots h in
    let u = split_own (set slots s (used_up r.0.slot)) (subst (λ Γ. Split Γ (own s ∷ []) o.0) r.1 o.1) in
    spent r.0 u.0

-- the variables of Γ, which a call may borrow
abbrev pub variables : List Item → List ℕ
variables [] = []
variables (own s ∷ Γ) = s ∷ variables Γ
variables (credit s k ∷ Γ) = variables Γ

pub owns_variable : {Γ : List Item} {s : ℕ} {Γ' : List Item} → Split Γ (own s ∷ []) Γ' → Has s (variables Γ)
owns_variable (left h) = here
owns_variable (right {x = own r} h) = there (owns_variable h)
owns_variable (right {x = credit r k} h) = owns_variable h

-- passing, as it is tracked: what it took is a part of Γ, and a slot that stood earlier in the list is still owned
pub record Passed (ms : List Mode) (ss earlier : List ℕ) (slots slots' : Slots) : Type 0 where
  pub part : List Item
  pub split : Split (G slots) part (G slots')
  pub tuple : Tuple (N slots) (L slots ++ variables (G slots')) part ms ss
  pub kept : Kept slots slots'
  pub spared : (e : ℕ) → Has e earlier → Stands slots e Kind.owned → Stands slots' e Kind.owned

pub pass_sound : (ms : List Mode) (ss earlier : List ℕ) (p : ℕ) (slots slots' : Slots) → pass earlier ms ss p slots ≡ ok slots' → Passed ms ss earlier slots slots'
unfolding pass
pass_sound [] [] earlier p slots slots' e =
    let q : slots ≡ slots' = cc in
    subst (λ x. Passed [] [] earlier slots x) q
    (record { part = []; split = all_right (G slots); tuple = Tuple.none; kept = kept_refl slots; spared = λ e h t. t })
pass_sound [] (s ∷ ss) earlier p slots slots' e = absurd (refused e)
pass_sound (m ∷ ms) [] earlier p slots slots' e = absurd (refused e)
pass_sound (Mode.number ∷ ms) (s ∷ ss) earlier p slots slots' e =
    let a = steps_ok (take false Want.number s p slots) (λ x. pass (s ∷ earlier) ms ss (suc p) x) e in
    let t = took_number (take_inv false Want.number s p slots a.0 a.1) in
    let r = pass_sound ms ss (s ∷ earlier) (suc p) slots slots' (rw t.1 a.2) in
    record {
      part = r.part;
      split = r.split;
      kept = r.kept;
      tuple = Tuple.number (number_has t.0) r.tuple;
      spared = λ e h u. r.spared e (there h) u;
    }
pass_sound (Mode.lent ∷ ms) (s ∷ ss) earlier p slots slots' e =
    let a = steps_ok (take false Want.lent s p slots) (λ x. pass (s ∷ earlier) ms ss (suc p) x) e in
    let t = took_lent (take_inv false Want.lent s p slots a.0 a.1) in
    let r = pass_sound ms ss (s ∷ earlier) (suc p) slots slots' (rw t.1 a.2) in
    let borrowed : Stands slots s Kind.lent ⊎ Stands slots s Kind.owned → Has s (L slots ++ variables (G slots')) =
    elim [
      | inl u ↦ has_left (variables (G slots')) (lent_has u)
      | inr u ↦ has_right (L slots) (owns_variable (own_split (r.spared s here u)))
    ] in
    record {
      part = r.part;
      split = r.split;
      kept = r.kept;
      tuple = Tuple.lent (borrowed t.0) r.tuple;
      spared = λ e h u. r.spared e (there h) u;
    }
pass_sound (Mode.owned ∷ ms) (s ∷ ss) earlier p slots slots' e =
    let a = steps_ok (take (member s earlier) Want.owned s p slots) (λ x. pass (s ∷ earlier) ms ss (suc p) x) e in
    let k = take_inv (member s earlier) Want.owned s p slots a.0 a.1 in
    let t = took_owned k in
    let slots₁ : Slots = set slots s (used_up t.0.slot) in
    let r = pass_sound ms ss (s ∷ earlier) (suc p) slots₁ slots' (rw t.1 a.2) in
    let j = join (own_split t.0) r.split in
    let kept = owned_kept t.0 in
    record {
      part = j.0;
      split = j.1;
      kept = kept_trans kept r.kept;
      tuple = Tuple.owned j.2 (subst (λ n. Tuple n (L slots ++ variables (G slots')) r.part ms ss) kept.numbers
          (subst (λ l. Tuple (N slots₁) (l ++ variables (G slots')) r.part ms ss) kept.lents r.tuple));
      spared = λ e h u. r.spared e (there h) (elsewhere (used_up t.0.slot) (λ q. not_earlier s earlier k.slot.used k.live (subst (λ x. Has x earlier) q h)) u);
    }

-- and back: what the rules split off can be passed one by one
pub record Passes (ms : List Mode) (ss earlier : List ℕ) (p : ℕ) (slots : Slots) (Γ : List Item) : Type 0 where
  pub after : Slots
  pub passes : pass earlier ms ss p slots ≡ ok after
  pub left_over : G after ≡ Γ
  pub kept : Kept slots after

-- what `D` lends is lent, or owned in the part Γ that is left
abbrev pub Lendable : List ℕ → Slots → List Item → Type 0
Lendable D slots Γ = (s : ℕ) → Has s D → Has s (L slots) ⊎ Owns Γ s

-- no slot that stood earlier in the list is in the part Γ₁ that is still to be passed
abbrev pub Apart : List ℕ → List Item → Type 0
Apart earlier Γ₁ = (e : ℕ) → Has e earlier → Owns Γ₁ e → ⊥

-- one more slot that stood earlier
apart_cons : {earlier : List ℕ} {Γ₁ : List Item} {s : ℕ} → (Owns Γ₁ s → ⊥) → Apart earlier Γ₁ → Apart (s ∷ earlier) Γ₁
apart_cons n a e here o = n o
apart_cons n a e (there h) o = a e h o

-- a slot of another kind is in no part of Γ
absent : (slots : Slots) {s : ℕ} {k : Kind} {Γ₁ Γ : List Item} → Stands slots s k → (k ≡ Kind.owned → ⊥) → Split (G slots) Γ₁ Γ → Owns Γ₁ s → ⊥
absent slots u n h o = n (one_kind u (split_own slots (owns_whole h o).1).0)

-- and one of Γ₁ is not in Γ
absent_too : (slots : Slots) {s : ℕ} {Γ₁ Γ : List Item} → Split (G slots) Γ₁ Γ → Owns Γ s → Owns Γ₁ s → ⊥
absent_too slots h v o = let r = first h o.1 in owned_once slots r.1 (owns_whole (swap r.2) v)

number≢owned : Kind.number ≡ Kind.owned → ⊥
number≢owned e = let z : ◌≡◌ {A = ℕ} 0 1 = cc in contradiction z

lent≢owned : Kind.lent ≡ Kind.owned → ⊥
lent≢owned e = let z : ◌≡◌ {A = ℕ} 0 1 = cc in contradiction z

lends : (slots : Slots) {s : ℕ} {Γ₁ Γ : List Item} → Split (G slots) Γ₁ Γ → Has s (L slots) ⊎ Owns Γ s
    → Takes false Want.lent s slots slots × (Owns Γ₁ s → ⊥)
lends slots h (inl l) = let u = has_lent slots l in (takes Want.lent u refl refl, λ o. absent slots u lent≢owned h o)
lends slots h (inr v) =
    let u = (split_own slots (owns_whole (swap h) v).1).0 in
    (takes Want.lent u refl refl, λ o. absent_too slots h v o)

not_true : (b : Bool) → (b ≡ true → ⊥) → false ≡ b
not_true true n = absurd (n refl)
not_true false n = refl

pub pass_complete : {nums D : List ℕ} {Γ₁ : List Item} {ms : List Mode} {ss : List ℕ} (earlier : List ℕ) (p : ℕ) (slots : Slots) (Γ : List Item)
    → Tuple nums D Γ₁ ms ss → nums ≡ N slots → Split (G slots) Γ₁ Γ → Lendable D slots Γ → Apart earlier Γ₁
    → Passes ms ss earlier p slots Γ
unfolding pass
pass_complete earlier p slots Γ Tuple.none q h d a =
    record { after = slots; passes = refl; left_over = nothing_left h; kept = kept_refl slots }
pass_complete earlier p slots Γ (Tuple.number {ms} {s} {ss} n t) q h d a =
    let u = has_number slots (subst (λ l. Has s l) q n) in
    let r = pass_complete (s ∷ earlier) (suc p) slots Γ t q h d (apart_cons (λ o. absent slots u number≢owned h o) a) in
    record {
      after = r.after;
      left_over = r.left_over;
      kept = r.kept;
      passes = rw (take_ok false Want.number s p slots slots (takes Want.number u refl refl)) r.passes;
    }
pass_complete earlier p slots Γ (Tuple.lent {ms} {s} {ss} n t) q h d a =
    let u = lends slots h (d s n) in
    let r = pass_complete (s ∷ earlier) (suc p) slots Γ t q h d (apart_cons u.1 a) in
    record {
      after = r.after;
      left_over = r.left_over;
      kept = r.kept;
      passes = rw (take_ok false Want.lent s p slots slots u.0) r.passes;
    }
pass_complete earlier p slots Γ (Tuple.owned {Γ'} {ms} {s} {ss} o t) q h d a =
    let f = first h o in
    let u = split_own slots f.1 in
    let slots₁ : Slots = set slots s (used_up u.0.slot) in
    let kept = owned_kept u.0 in
    let free : false ≡ member s earlier = not_true (member s earlier) (λ m. a s (member_has s earlier m) (Γ', o)) in
    let r = pass_complete (s ∷ earlier) (suc p) slots₁ Γ t (q ∙ sym kept.numbers)
    (subst (λ x. Split x Γ' Γ) u.1 f.2)
    (λ x m. subst (λ l. Has x l ⊎ Owns Γ x) (sym kept.lents) (d x m))
    (apart_cons (λ v. owned_once slots f.1 (owns_whole f.2 v)) (λ e m v. a e m (owns_whole (swap o) v))) in
    record {
      after = r.after;
      left_over = r.left_over;
      kept = kept_trans kept r.kept;
      passes = rw (take_ok (member s earlier) Want.owned s p slots slots₁ (subst (λ b. Takes b Want.owned s slots slots₁) free (takes Want.owned u.0 refl refl))) r.passes;
    }
