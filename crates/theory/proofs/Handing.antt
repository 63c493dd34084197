-- An argument list handed over: the called function's slots, and the caller's after it. Assumes nothing.
use Prim.Native.Nat.{ℕ, zero, suc}
use mathlib.Core.Bool.{false}
use mathlib.Core.List.{List, [], ◌∷◌, ◌++◌, map}
use mathlib.Core.Path.{◌≡◌, refl, ap, ◌∙◌, subst}
use mathlib.Core.Logic.{◌⊎◌, inl, inr}
use lib.ListN.{get_or, set}
use Rattle.meaning.specs.Syntax.{Mode, Constructor}
use Rattle.meaning.specs.Outcome.{ok}
use Rattle.meaning.specs.Ownership.{Kind, Slots, fresh, Want, take, pass, member, kind_of}
use Rattle.meaning.specs.Derivation.{Split, Has, here}
use Rattle.meaning.specs.Plain.{Value}
use Rattle.meaning.specs.Plain as P
use Rattle.meaning.specs.Machine.{Held, Store, word, held, give_up, taken, argued, without}
use Rattle.theory.proofs.Splits.{all_right, join, swap, has_left, has_right}
use Rattle.theory.proofs.Gather.{used_up, Stands}
use Rattle.theory.proofs.Taking.{take_inv, steps_ok, refused}
use Rattle.theory.proofs.Wants.{G, own_split, split_own, took_number, took_lent, took_owned}
use Rattle.theory.proofs.Passing.{spent, owns_whole, pass_sound}
use Rattle.theory.proofs.Rep.{Holds, Match, next, live, has_part, Out, take_out}

abbrev pub value_at : List Value → ℕ → Value
value_at env s = get_or env s P.credit

module _ (cs : List Constructor) (store : Store) where
  pub number_again : {A B : List ℕ} {h : Held} {v : Value} {F : List ℕ} → Holds cs store A Kind.number h v F → Holds cs store B Kind.number (Held.number (word h)) v []
  number_again Holds.number = Holds.number

  pub owned_again : {A B : List ℕ} {h : Held} {v : Value} {F : List ℕ} → Holds cs store A Kind.owned h v F → Holds cs store B Kind.owned (Held.owned (word h)) v F
  owned_again (Holds.owned t) = Holds.owned t

  -- what is taken is spent
  pub owned_taken : {A : List ℕ} {h : Held} {v : Value} {F : List ℕ} → Holds cs store A Kind.owned h v F → taken h ≡ Held.spent
  owned_taken (Holds.owned t) = refl

  pub credit_taken : {A : List ℕ} {m : ℕ} {h : Held} {v : Value} {F : List ℕ} → Holds cs store A (Kind.credit m) h v F → taken h ≡ Held.spent
  credit_taken (Holds.credit r) = refl

  pub lent_again : {A : List ℕ} (R : List ℕ) {h : Held} {v : Value} {F : List ℕ} → Holds cs store A Kind.lent h v F → Holds cs store (A ++ R) Kind.lent (Held.lent (word h)) v []
  lent_again R (Holds.lent t q) = Holds.lent t (λ c h. has_left R (q c h))

  pub lend_owned : (A : List ℕ) {R : List ℕ} {h : Held} {v : Value} {F : List ℕ} → Holds cs store A Kind.owned h v F → ((c : ℕ) → Has c F → Has c R)
      → Holds cs store (A ++ R) Kind.lent (Held.lent (word h)) v []
  lend_owned A (Holds.owned t) q = Holds.lent t (λ c h. has_right A (q c h))

  -- a slot that stands is held as its kind
  pub at_kind : {A : List ℕ} {xs : Slots} {hs : List Held} {vs : List Value} {F : List ℕ} {s : ℕ} {k : Kind} (t : Stands xs s k) → Match cs store A xs hs vs F
      → Out cs store A xs hs vs F s k t.slot
  at_kind {A} {xs} {hs} {vs} {F} {s} t m = subst (λ j. Out cs store A xs hs vs F s j t.slot) t.of_kind (take_out cs store A s t.slot t.stands t.live m)

held_other : (hs : List Held) (s i : ℕ) (h : Held) → (i ≡ s → ⊥) → held (set hs s h) i ≡ held hs i
held_other [] s i h n = refl
held_other (x ∷ hs) zero zero h n = absurd (n refl)
held_other (x ∷ hs) zero (suc i) h n = refl
held_other (x ∷ hs) (suc s) zero h n = refl
held_other (x ∷ hs) (suc s) (suc i) h n = held_other hs s i h (λ e. n (ap suc e))

-- a slot that is owned after the list is held as before it
unmoved : (ms : List Mode) (ss earlier : List ℕ) (p : ℕ) (slots slots' : Slots) (hs : List Held) (i : ℕ)
    → pass earlier ms ss p slots ≡ ok slots' → Stands slots' i Kind.owned → held (without ms hs ss) i ≡ held hs i
unfolding pass
unmoved [] [] earlier p slots slots' hs i e t = refl
unmoved [] (s ∷ ss) earlier p slots slots' hs i e t = refl
unmoved (m ∷ ms) [] earlier p slots slots' hs i e t = refl
unmoved (Mode.number ∷ ms) (s ∷ ss) earlier p slots slots' hs i e t =
    let a = steps_ok (take false Want.number s p slots) (λ x. pass (s ∷ earlier) ms ss (suc p) x) e in
    unmoved ms ss (s ∷ earlier) (suc p) a.0 slots' hs i a.2 t
unmoved (Mode.lent ∷ ms) (s ∷ ss) earlier p slots slots' hs i e t =
    let a = steps_ok (take false Want.lent s p slots) (λ x. pass (s ∷ earlier) ms ss (suc p) x) e in
    unmoved ms ss (s ∷ earlier) (suc p) a.0 slots' hs i a.2 t
unmoved (Mode.owned ∷ ms) (s ∷ ss) earlier p slots slots' hs i e t =
    let a = steps_ok (take (member s earlier) Want.owned s p slots) (λ x. pass (s ∷ earlier) ms ss (suc p) x) e in
    let u = took_owned (take_inv (member s earlier) Want.owned s p slots a.0 a.1) in
    let slots₁ : Slots = set slots s (used_up u.0.slot) in
    let f : pass (s ∷ earlier) ms ss (suc p) slots₁ ≡ ok slots' = rw u.1 a.2 in
    let r = pass_sound ms ss (s ∷ earlier) (suc p) slots₁ slots' f in
    let v = split_own slots₁ (owns_whole (swap r.split) (G (set slots' i (used_up t.slot)), own_split t)).1 in
    let n : i ≡ s → ⊥ = λ q. spent u.0 (subst (λ x. Stands slots₁ x Kind.owned) q v.0) in
    unmoved ms ss (s ∷ earlier) (suc p) slots₁ slots' (give_up hs s) i f t ∙ held_other hs s i (taken (held hs s)) n

-- what is handed over, and what is kept
pub record Handed (cs : List Constructor) (store : Store) (A : List ℕ) (ms : List Mode) (ss : List ℕ) (slots' : Slots) (hs : List Held) (env : List Value) (F : List ℕ) : Type 0 where
  pub part : List ℕ
  pub rest : List ℕ
  pub split : Split F part rest
  pub called : Match cs store (A ++ rest) (map fresh (map kind_of ms)) (argued ms hs ss) (map (λ s. value_at env s) ss) part
  pub caller : Match cs store A slots' (without ms hs ss) env rest

module _ (cs : List Constructor) (store : Store) (A : List ℕ) (env : List Value) where
  pub hand : (ms : List Mode) (ss earlier : List ℕ) (p : ℕ) (slots slots' : Slots) (hs : List Held) (F : List ℕ)
      → pass earlier ms ss p slots ≡ ok slots' → Match cs store A slots hs env F → Handed cs store A ms ss slots' hs env F
  unfolding pass
  hand [] [] earlier p slots slots' hs F e m =
      let q : slots ≡ slots' = cc in
      record { part = []; rest = F; split = all_right F; called = Match.last; caller = subst (λ x. Match cs store A x hs env F) q m }
  hand [] (s ∷ ss) earlier p slots slots' hs F e m = absurd (refused e)
  hand (m ∷ ms) [] earlier p slots slots' hs F e k = absurd (refused e)
  hand (Mode.number ∷ ms) (s ∷ ss) earlier p slots slots' hs F e m =
      let a = steps_ok (take false Want.number s p slots) (λ x. pass (s ∷ earlier) ms ss (suc p) x) e in
      let t = took_number (take_inv false Want.number s p slots a.0 a.1) in
      let r = hand ms ss (s ∷ earlier) (suc p) slots slots' hs F (rw t.1 a.2) m in
      let o = at_kind cs store t.0 m in
      record {
        part = r.part;
        rest = r.rest;
        split = r.split;
        caller = r.caller;
        called = next (all_right r.part) (live refl (number_again cs store o.holds)) r.called;
      }
  hand (Mode.lent ∷ ms) (s ∷ ss) earlier p slots slots' hs F e m =
      let a = steps_ok (take false Want.lent s p slots) (λ x. pass (s ∷ earlier) ms ss (suc p) x) e in
      let t = took_lent (take_inv false Want.lent s p slots a.0 a.1) in
      let f : pass (s ∷ earlier) ms ss (suc p) slots ≡ ok slots' = rw t.1 a.2 in
      let r = hand ms ss (s ∷ earlier) (suc p) slots slots' hs F f m in
      let spared = (pass_sound ms ss (s ∷ earlier) (suc p) slots slots' f).spared s here in
      let lends : Stands slots s Kind.lent ⊎ Stands slots s Kind.owned
      → Holds cs store (A ++ r.rest) Kind.lent (Held.lent (word (held hs s))) (value_at env s) [] =
      elim [
        | inl u ↦ lent_again cs store r.rest (at_kind cs store u m).holds
        | inr u ↦
            let v = spared u in
            let o = at_kind cs store v r.caller in
            rw (← (unmoved ms ss (s ∷ earlier) (suc p) slots slots' hs s f v)) (lend_owned cs store A o.holds (λ c h. has_part o.split h))
      ] in
      record {
        part = r.part;
        rest = r.rest;
        split = r.split;
        caller = r.caller;
        called = next (all_right r.part) (live refl (lends t.0)) r.called;
      }
  hand (Mode.owned ∷ ms) (s ∷ ss) earlier p slots slots' hs F e m =
      let a = steps_ok (take (member s earlier) Want.owned s p slots) (λ x. pass (s ∷ earlier) ms ss (suc p) x) e in
      let u = took_owned (take_inv (member s earlier) Want.owned s p slots a.0 a.1) in
      let o = at_kind cs store u.0 m in
      let r = hand ms ss (s ∷ earlier) (suc p) (set slots s (used_up u.0.slot)) slots' (give_up hs s) o.rest (rw u.1 a.2) (o.others (taken (held hs s)) (owned_taken cs store o.holds)) in
      let j = join o.split r.split in
      record {
        part = j.0;
        rest = r.rest;
        split = j.1;
        caller = r.caller;
        called = next j.2 (live refl (owned_again cs store o.holds)) r.called;
      }
