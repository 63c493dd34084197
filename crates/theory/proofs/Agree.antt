-- The slot-tracking check accepts a body exactly when the rules derive it. Assumes nothing.
use Prim.Native.Nat.{ℕ, suc, ◌+◌}
use mathlib.Core.Bool.{Bool, true, false, not, ◌&&◌, ◌||◌}
use mathlib.Core.List.{List, [], ◌∷◌, ◌++◌, map, append-nil}
use mathlib.Core.Path.{◌≡◌, refl, sym, ap, ◌∙◌, subst}
use mathlib.Core.Logic.{◌⊎◌, inl, inr, ◌↔◌}
use lib.ListN.{length, get_or, set}
use borrow.Author.Tests.{eq-eqb}
use Rattle.meaning.specs.Syntax.{Sort, Mode, Signature, Term, Branches, Constructor, File}
use Rattle.meaning.specs.Syntax.{GV, AT, MK, CL, TL, OP, LK, NU, AR, IF, BR, end}
use Rattle.meaning.specs.Outcome.{ok, require}
use Rattle.meaning.specs.Ownership.{Kind, Slots, Want, fits, take, pass, member, leftover, done, bind, check, check_branches, check_bodies, check_file, mode_owned, kind_owned, kind_of, bound_by_OP, bound_by_LK, same_sort, no_function}
use Rattle.meaning.specs.Derivation.{Item, own, credit, Split, left, right, Has, here, there, Tuple, Lends, Context, extend, keeping, as_owned, heads, Derives, Each, Bodies, Derivable}
use Rattle.meaning.specs.Derivation.{var, atom, reuse, call, tail, match!, match, arith, test, branch}
use Rattle.theory.proofs.Splits.{all_right, nothing_right, first, join, swap, has_cases}
use Rattle.theory.proofs.Gather.{used_up, from, gather, context, context_bind}
use Rattle.theory.proofs.Taking.{take_ok, take_inv, steps_ok, require_then, refused}
use Rattle.theory.proofs.Wants.{N, L, G, Kept, kept_trans, kept_context, number_has, lent_has, own_split, credit_split, has_number, has_lent, split_own, split_credit, owned_kept, credit_kept, took_number, took_looked, took_owned, took_credit, takes}
use Rattle.theory.proofs.Passing.{contradiction, has_member, member_has, Owns, owns_whole, variables, Passed, pass_sound, pass_complete}

-- nothing is left over where Γ is empty
left_step : (n : ℕ) (k : Kind) (u b : Bool) (Γ : List Item)
    → ((not u && (fits Want.owned k || fits (Want.credit 0) k)) || b) ≡ false → (b ≡ false → Γ ≡ []) → from as_owned n k u ++ Γ ≡ []
left_step n k true b Γ e ih = ih e
left_step n Kind.number false b Γ e ih = ih e
left_step n Kind.lent false b Γ e ih = ih e
left_step n Kind.owned false b Γ e ih = let z : ◌≡◌ {A = ℕ} 0 1 = cc in absurd (contradiction z)
left_step n (Kind.credit m) false b Γ e ih = let z : ◌≡◌ {A = ℕ} 0 1 = cc in absurd (contradiction z)

nothing_left_over : (n : ℕ) (xs : Slots) → leftover xs ≡ false → gather as_owned n xs ≡ []
nothing_left_over n [] e = refl
nothing_left_over n (x ∷ xs) e =
    left_step n x.kind x.used (leftover xs) (gather as_owned (suc n) xs) e (λ f. nothing_left_over (suc n) xs f)

empty_step : (n : ℕ) (k : Kind) (u b : Bool) (Γ : List Item)
    → from as_owned n k u ++ Γ ≡ [] → (Γ ≡ [] → b ≡ false) → ((not u && (fits Want.owned k || fits (Want.credit 0) k)) || b) ≡ false
empty_step n k true b Γ e ih = ih e
empty_step n Kind.number false b Γ e ih = ih e
empty_step n Kind.lent false b Γ e ih = ih e
empty_step n Kind.owned false b Γ e ih = let z : ◌≡◌ {A = ℕ} 0 1 = cc in absurd (contradiction z)
empty_step n (Kind.credit m) false b Γ e ih = let z : ◌≡◌ {A = ℕ} 0 1 = cc in absurd (contradiction z)

empty_left_over : (n : ℕ) (xs : Slots) → gather as_owned n xs ≡ [] → leftover xs ≡ false
empty_left_over n [] e = refl
empty_left_over n (x ∷ xs) e =
    empty_step n x.kind x.used (leftover xs) (gather as_owned (suc n) xs) e (λ f. empty_left_over (suc n) xs f)

not_flips : (b : Bool) → not b ≡ true → b ≡ false
not_flips true e = sym e
not_flips false e = refl

done_sound : (p : ℕ) (slots : Slots) → done p slots ≡ ok tt → G slots ≡ []
done_sound p slots e = go (leftover slots) refl e
  where
    go : (b : Bool) → leftover slots ≡ b → require 11 p (not b) ≡ ok tt → G slots ≡ []
    go true q f = absurd (refused f)
    go false q f = nothing_left_over 0 slots q

done_complete : (p : ℕ) (slots : Slots) → G slots ≡ [] → done p slots ≡ ok tt
done_complete p slots e = rw (empty_left_over 0 slots e)

-- all of Γ is passed
passed_all : {ms : List Mode} {ss earlier : List ℕ} {slots slots' : Slots} → Passed ms ss earlier slots slots' → G slots' ≡ []
    → Tuple (N slots) (L slots) (G slots) ms ss
passed_all {ms} {ss} {slots} {slots'} r e =
    let q : r.part ≡ G slots = sym (nothing_right (subst (λ Γ. Split (G slots) r.part Γ) e r.split)) in
    let l : L slots ++ variables (G slots') ≡ L slots = ap (λ Γ. L slots ++ variables Γ) e ∙ append-nil (L slots) in
    subst (λ Γ. Tuple (N slots) (L slots) Γ ms ss) q (subst (λ D. Tuple (N slots) D r.part ms ss) l r.tuple)

-- fields are never lent, so Δ does not matter
fields_only : {nums D E : List ℕ} (fs : List Sort) {Γ : List Item} {ss : List ℕ} → Tuple nums D Γ (map mode_owned fs) ss → Tuple nums E Γ (map mode_owned fs) ss
fields_only [] Tuple.none = Tuple.none
fields_only (Sort.number ∷ fs) (Tuple.number n t) = Tuple.number n (fields_only fs t)
fields_only (Sort.tree ∷ fs) (Tuple.owned o t) = Tuple.owned o (fields_only fs t)

-- the variables of Γ can be lent
lend_all : (Γ : List Item) → (Γ₂ Γ₃ : List Item) × Split Γ Γ₂ Γ₃ × Lends Γ₂ (variables Γ)
lend_all [] = ([], [], Split.none, Lends.none)
lend_all (own s ∷ Γ) = let r = lend_all Γ in (own s ∷ r.0, r.1, left r.2, Lends.lend r.3)
lend_all (credit s k ∷ Γ) = let r = lend_all Γ in (r.0, credit s k ∷ r.1, right r.2, r.3)

lent_owns : {Γ : List Item} {ss : List ℕ} {s : ℕ} → Lends Γ ss → Has s ss → Owns Γ s
lent_owns (Lends.lend {Γ} l) here = (Γ, left (all_right Γ))
lent_owns (Lends.lend {s} l) (there h) = let r = lent_owns l h in (own s ∷ r.0, right r.1)
lent_owns {s = s} Lends.none h = elim h [ ]

pub sort_same : (a b : Sort) → same_sort a b ≡ true → a ≡ b
sort_same Sort.number Sort.number e = refl
sort_same Sort.number Sort.tree e = cc
sort_same Sort.tree Sort.number e = cc
sort_same Sort.tree Sort.tree e = refl

same_sort_refl : (a : Sort) → same_sort a a ≡ true
same_sort_refl Sort.number = refl
same_sort_refl Sort.tree = refl

-- no constructor of the branches is seen
abbrev Unseen : List ℕ → List ℕ → Type 0
Unseen cs seen = (c : ℕ) → Has c cs → Has c seen → ⊥

unseen : (c : ℕ) (cs seen : List ℕ) → member c seen ≡ false → Unseen cs (c ∷ seen) → Unseen (c ∷ cs) seen
unseen c cs seen m u d here s = let f = has_member s in let z : ◌≡◌ {A = ℕ} 0 1 = cc in contradiction z
unseen c cs seen m u d (there h) s = u d h (there s)

not_member : (c : ℕ) (seen : List ℕ) → (Has c seen → ⊥) → member c seen ≡ false
not_member c seen n = go (member c seen) refl
  where
    go : (b : Bool) → member c seen ≡ b → b ≡ false
    go true e = absurd (n (member_has c seen e))
    go false e = refl

still_unseen : (c : ℕ) (cs seen : List ℕ) → (Has c cs → ⊥) → Unseen (c ∷ cs) seen → Unseen cs (c ∷ seen)
still_unseen c cs seen n u d h here = n h
still_unseen c cs seen n u d h (there s) = u d (there h) s

-- what a call borrows is lent, or is owned after it
borrowing : (slots : Slots) {Γ₂₃ Γ₂ Γ₃ : List Item} {borrowed : List ℕ} → Lends Γ₂ borrowed → Split Γ₂₃ Γ₂ Γ₃
    → (s : ℕ) → Has s (L slots ++ borrowed) → Has s (L slots) ⊎ Owns Γ₂₃ s
borrowing slots l i s h = elim (has_cases (L slots) h) [ inl m ↦ inl m | inr m ↦ inr (owns_whole i (lent_owns l m)) ]

module _ (constructors : List Constructor) (functions : List Signature) (result : Sort) where
  abbrev D : Context → Term → Type 0
  D C t = Derives constructors functions result C t

  abbrev E : (Constructor → List Kind) → Context → Branches → Type 0
  E bound C bs = Each constructors functions result bound C bs

  -- a context that slots stand for after a change to Γ, with what is bound
  moved : {slots slots' : Slots} (ks : List Kind) → Kept slots slots' → context (bind slots' ks) ≡ extend (keeping (context slots) (G slots')) ks
  moved {slots'} ks k = context_bind slots' ks ∙ ap (λ C. extend C ks) (kept_context k)

  back : {slots slots' : Slots} {Γ : List Item} {t : Term} (ks : List Kind) → Kept slots slots' → G slots' ≡ Γ
      → D (extend (keeping (context slots) Γ) ks) t → D (context (bind slots' ks)) t
  back {slots} {slots'} {t} ks k e d =
      subst (λ C. D C t) (sym (moved ks k)) (subst (λ Γ. D (extend (keeping (context slots) Γ) ks) t) (sym e) d)

  mutual
    unfolding check

    pub sound : (t : Term) (slots : Slots) → check constructors functions result t slots ≡ ok tt → D (context slots) t
    sound (GV p s) slots e =
        let a = steps_ok (pass [] (mode_owned result ∷ []) (s ∷ []) (p + 2) slots) (λ x. done p x) e in
        var (passed_all (pass_sound (mode_owned result ∷ []) (s ∷ []) [] (p + 2) slots a.0 a.1) (done_sound p a.0 a.2))
    sound (AT p c t) slots e =
        atom (subst (λ C. D C t) (context_bind slots (Kind.owned ∷ [])) (sound t (bind slots (Kind.owned ∷ [])) e))
    sound (MK p c k ss t) slots e =
        let fs : Constructor = get_or constructors c [] in
        let a = steps_ok (take false (Want.credit (length fs)) k (p + 3) slots) _ e in
        let b = steps_ok (pass [] (map mode_owned fs) ss (p + 4) a.0) _ a.2 in
        let u = took_credit (take_inv false (Want.credit (length fs)) k (p + 3) slots a.0 a.1) in
        let slots₁ : Slots = set slots k (used_up u.0.slot) in
        let r = pass_sound (map mode_owned fs) ss [] (p + 4) slots₁ b.0 (rw u.1 b.1) in
        let kept = credit_kept u.0 in
        let j = join (credit_split u.0) r.split in
        reuse j.1 j.2 (subst (λ n. Tuple n (L slots) r.part (map mode_owned fs) ss) kept.numbers (fields_only fs r.tuple))
        (subst (λ C. D C t) (moved (Kind.owned ∷ []) (kept_trans kept r.kept)) (sound t (bind b.0 (Kind.owned ∷ [])) b.2))
    sound (CL p f ss t) slots e =
        let g : Signature = get_or functions f no_function in
        let a = steps_ok (pass [] g.parameters ss (p + 3) slots) _ e in
        let r = pass_sound g.parameters ss [] (p + 3) slots a.0 a.1 in
        let l = lend_all (G a.0) in
        let ks : List Kind = kind_owned g.result ∷ [] in
        call r.split l.2 l.3 r.tuple (subst (λ C. D C t) (moved ks r.kept) (sound t (bind a.0 ks) a.2))
    sound (TL p f ss) slots e =
        let g : Signature = get_or functions f no_function in
        let a = require_then 8 (p + 2) (same_sort g.result result) _ e in
        let b = steps_ok (pass [] g.parameters ss (p + 3) slots) (λ x. done p x) a.1 in
        tail (sort_same g.result result a.0)
        (passed_all (pass_sound g.parameters ss [] (p + 3) slots b.0 b.1) (done_sound p b.0 b.2))
    sound (OP p s bs) slots e =
        let a = steps_ok (take false Want.owned s (p + 2) slots) _ e in
        let u = took_owned (take_inv false Want.owned s (p + 2) slots a.0 a.1) in
        let slots₁ : Slots = set slots s (used_up u.0.slot) in
        let r = sound_branches bs bound_by_OP [] slots₁ (rw u.1 a.2) in
        match! (own_split u.0) (subst (λ C. E bound_by_OP C bs) (kept_context (owned_kept u.0)) r.0)
    sound (LK p s bs) slots e =
        let a = steps_ok (take false Want.looked s (p + 2) slots) _ e in
        let u = took_looked (take_inv false Want.looked s (p + 2) slots a.0 a.1) in
        match (lent_has u.0) (sound_branches bs bound_by_LK [] slots (rw u.1 a.2)).0
    sound (NU p n t) slots e =
        Derives.number (subst (λ C. D C t) (context_bind slots (Kind.number ∷ [])) (sound t (bind slots (Kind.number ∷ [])) e))
    sound (AR p o x y t) slots e =
        let a = steps_ok (take false Want.number x (p + 3) slots) _ e in
        let b = steps_ok (take false Want.number y (p + 4) a.0) _ a.2 in
        let u = took_number (take_inv false Want.number x (p + 3) slots a.0 a.1) in
        let v = took_number (take_inv false Want.number y (p + 4) a.0 b.0 b.1) in
        let q : slots ≡ b.0 = u.1 ∙ v.1 in
        arith (number_has u.0) (subst (λ z. Has y (N z)) (sym u.1) (number_has v.0))
        (subst (λ C. D C t) (context_bind slots (Kind.number ∷ [])) (sound t (bind slots (Kind.number ∷ [])) (rw q b.2)))
    sound (IF p s t u) slots e =
        let a = steps_ok (take false Want.number s (p + 2) slots) _ e in
        let v = took_number (take_inv false Want.number s (p + 2) slots a.0 a.1) in
        let b = steps_ok (check constructors functions result t a.0) _ a.2 in
        test (number_has v.0) (sound t slots (rw v.1 b.1)) (sound u slots (rw v.1 b.2))

    pub sound_branches : (bs : Branches) (bound : Constructor → List Kind) (seen : List ℕ) (slots : Slots)
        → check_branches constructors functions result bs bound seen slots ≡ ok tt
        → E bound (context slots) bs × ((c : ℕ) → Has c (heads bs) → Has c seen → ⊥)
    sound_branches end bound seen slots e = (Each.none, λ c. elim [ ])
    sound_branches (BR p c t bs) bound seen slots e =
        let ks : List Kind = bound (get_or constructors c []) in
        let a = require_then 12 (p + 2) (not (member c seen)) _ e in
        let b = steps_ok (check constructors functions result t (bind slots ks)) _ a.1 in
        let r = sound_branches bs bound (c ∷ seen) slots b.2 in (
          branch (λ h. r.1 c h here) (subst (λ C. D C t) (context_bind slots ks) (sound t (bind slots ks) b.1)) r.0,
          unseen c (heads bs) seen (not_flips (member c seen) a.0) r.1,
        )

  mutual
    unfolding check

    pub complete : (t : Term) (slots : Slots) → D (context slots) t → check constructors functions result t slots ≡ ok tt
    complete (GV p s) slots (var h) =
        let r = pass_complete [] (p + 2) slots [] h refl (swap (all_right (G slots))) (λ x m. inl m) (λ e. elim [ ]) in
        rw r.passes (done_complete p r.after r.left_over)
    complete (AT p c t) slots (atom d) =
        complete t (bind slots (Kind.owned ∷ [])) (subst (λ C. D C t) (sym (context_bind slots (Kind.owned ∷ []))) d)
    complete (MK p c k ss t) slots (reuse {Γ₁'} {Γ₃} h i u d) =
        let fs : Constructor = get_or constructors c [] in
        let f = first h i in
        let v = split_credit slots f.1 in
        let slots₁ : Slots = set slots k (used_up v.0.slot) in
        let kept = credit_kept v.0 in
        let r = pass_complete [] (p + 4) slots₁ Γ₃ u (sym kept.numbers) (subst (λ Γ. Split Γ Γ₁' Γ₃) v.1 f.2)
        (λ x m. inl (subst (λ l. Has x l) (sym kept.lents) m)) (λ e. elim [ ]) in
        rw (take_ok false (Want.credit (length fs)) k (p + 3) slots slots₁ (takes (Want.credit (length fs)) v.0 refl (eq-eqb (length fs) (length fs) refl)), r.passes)
        (complete t (bind r.after (Kind.owned ∷ [])) (back (Kind.owned ∷ []) (kept_trans kept r.kept) r.left_over d))
    complete (CL p f ss t) slots (call {Γ₂₃} h i l u d) =
        let g : Signature = get_or functions f no_function in
        let r = pass_complete [] (p + 3) slots Γ₂₃ u refl h (borrowing slots l i) (λ e. elim [ ]) in
        let ks : List Kind = kind_owned g.result ∷ [] in
        rw r.passes (complete t (bind r.after ks) (back ks r.kept r.left_over d))
    complete (TL p f ss) slots (tail q h) =
        let r = pass_complete [] (p + 3) slots [] h refl (swap (all_right (G slots))) (λ x m. inl m) (λ e. elim [ ]) in
        rw (q, same_sort_refl result, r.passes) (done_complete p r.after r.left_over)
    complete (OP p s bs) slots (match! {Γ} h i) =
        let v = split_own slots h in
        let slots₁ : Slots = set slots s (used_up v.0.slot) in
        rw (take_ok false Want.owned s (p + 2) slots slots₁ (takes Want.owned v.0 refl refl))
        (complete_branches bs bound_by_OP [] slots₁
        (subst (λ C. E bound_by_OP C bs) (ap (λ Γ. keeping (context slots) Γ) v.1 ∙ sym (kept_context (owned_kept v.0))) i) (λ c h. elim [ ]))
    complete (LK p s bs) slots (match h i) =
        rw (take_ok false Want.looked s (p + 2) slots slots (takes Want.looked (has_lent slots h) refl refl))
        (complete_branches bs bound_by_LK [] slots i (λ c h. elim [ ]))
    complete (NU p n t) slots (Derives.number d) =
        complete t (bind slots (Kind.number ∷ [])) (subst (λ C. D C t) (sym (context_bind slots (Kind.number ∷ []))) d)
    complete (AR p o x y t) slots (arith h i d) =
        rw (
          take_ok false Want.number x (p + 3) slots slots (takes Want.number (has_number slots h) refl refl),
          take_ok false Want.number y (p + 4) slots slots (takes Want.number (has_number slots i) refl refl),
        )
        (complete t (bind slots (Kind.number ∷ [])) (subst (λ C. D C t) (sym (context_bind slots (Kind.number ∷ []))) d))
    complete (IF p s t u) slots (test h d e) =
        rw (take_ok false Want.number s (p + 2) slots slots (takes Want.number (has_number slots h) refl refl), complete t slots d)
        (complete u slots e)

    pub complete_branches : (bs : Branches) (bound : Constructor → List Kind) (seen : List ℕ) (slots : Slots)
        → E bound (context slots) bs → Unseen (heads bs) seen
        → check_branches constructors functions result bs bound seen slots ≡ ok tt
    complete_branches end bound seen slots Each.none u = refl
    complete_branches (BR p c t bs) bound seen slots (branch n d b) u =
        let ks : List Kind = bound (get_or constructors c []) in
        rw (not_member c seen (λ h. u c here h), complete t (bind slots ks) (subst (λ C. D C t) (sym (context_bind slots ks)) d))
        (complete_branches bs bound (c ∷ seen) slots b (still_unseen c (heads bs) seen n u))

sound_bodies : (cs : List Constructor) (fs gs : List Signature) (ts : List Term) → check_bodies cs fs gs ts ≡ ok tt → Bodies cs fs gs ts
unfolding check_bodies
sound_bodies cs fs [] [] e = Bodies.none
sound_bodies cs fs [] (t ∷ ts) e = absurd (refused e)
sound_bodies cs fs (g ∷ gs) [] e = absurd (refused e)
sound_bodies cs fs (g ∷ gs) (t ∷ ts) e =
    let ks : List Kind = map kind_of g.parameters in
    let a = steps_ok (check cs fs g.result t (bind [] ks)) _ e in
    Bodies.body (subst (λ C. Derives cs fs g.result C t) (context_bind [] ks) (sound cs fs g.result t (bind [] ks) a.1))
    (sound_bodies cs fs gs ts a.2)

complete_bodies : (cs : List Constructor) (fs gs : List Signature) (ts : List Term) → Bodies cs fs gs ts → check_bodies cs fs gs ts ≡ ok tt
unfolding check_bodies
complete_bodies cs fs [] [] Bodies.none = refl
complete_bodies cs fs (g ∷ gs) (t ∷ ts) (Bodies.body d b) =
    let ks : List Kind = map kind_of g.parameters in
    rw (complete cs fs g.result t (bind [] ks) (subst (λ C. Derives cs fs g.result C t) (sym (context_bind [] ks)) d))
    (complete_bodies cs fs gs ts b)
complete_bodies cs fs [] (t ∷ ts) h = elim h [ ]
complete_bodies cs fs (g ∷ gs) [] h = elim h [ ]

-- a file that was read is accepted exactly when it is derivable
pub agreement : (file : File) → (check_file file ≡ ok tt) ↔ Derivable file
unfolding check_file
agreement file = (
  (λ e. record { all = sound_bodies file.constructors file.functions file.functions file.bodies e }),
  (λ d. complete_bodies file.constructors file.functions file.functions file.bodies d.all),
)
