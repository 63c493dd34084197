-- What the work area keeps of the terms that were passed over. Assumes nothing.
use Rattle.std.proofs.Common.{◌≡◌, ℕ, ◌+◌, ◌-◌, ◌*◌, ◌/◌, ◌%◌, ◌<◌, ◌≤◌, Bool, true, false, eqb, List, length, get_or, drop, set, sym, refl, ap, ◌∙◌, subst, arith, length-set, get_or-drop, get_or-set_other, get_or-set_same, drop-set-lt, eqb-true, Option, Some, None, not, ne_eqb, is_some}
use borrow.Author.Tests.{eqb-false}
use Rattle.meaning.specs.Choice.{pick}
use Rattle.machine.specs.Skips.{Skips, Known, EndNeeds, Keeps, kept_at, EndFound}
use Rattle.machine.proofs.frame.Laid.{not_so}
use Rattle.machine.proofs.step.Skipping.{skips_safe}

-- a const parameter of the code as a number
pub is_off : {n : ℕ} → n ≡ 0 → not (eqb n 0) ≡ false
is_off e = ap (λ n. not (eqb n 0)) e

pub not_off : {n : ℕ} → (n ≡ 0 → ⊥) → not (eqb n 0) ≡ false → ⊥
not_off {n} z e = not_so (sym e ∙ ap not (ne_eqb n 0 z))

pub some_not_none : {o : Option ℕ} → o ≡ None → is_some o ≡ true → ⊥
some_not_none e z = not_so (ap is_some (sym e) ∙ z)

module _ (bytes decl : List ℕ) where
  pub keeps_same : {work : List ℕ} → Known bytes decl work → Keeps bytes decl work work
  keeps_same k = record { long = refl; low = λ q l. refl; behind = refl; known = k }

  pub keeps_on : {work work' work'' : List ℕ} → Keeps bytes decl work work' → Keeps bytes decl work' work'' → Keeps bytes decl work work''
  keeps_on a b =
      record { long = b.long ∙ a.long; low = λ q l. b.low q l ∙ a.low q l; behind = b.behind ∙ a.behind; known = b.known }

  -- the words from 1088 on are the same
  pub known_behind : (work work' : List ℕ) → drop 1088 work' ≡ drop 1088 work → Known bytes decl work → Known bytes decl work'
  known_behind work work' e k q a b =
      let z : 1088 + (q - 1088) ≡ q = omega arith in
      let y : get_or work' q 0 ≡ get_or work q 0 =
      ap (λ i. get_or work' i 0) (sym z) ∙ sym (get_or-drop 1088 work' (q - 1088) 0) ∙ ap (λ l. get_or l (q - 1088) 0) e ∙ get_or-drop 1088 work (q - 1088) 0 ∙ ap (λ i. get_or work i 0) z in
      subst (λ w. 0 < w → Skips bytes decl (w / 8192) (w % 8192)) (sym y) (k q a b)

  -- an end that is kept
  pub end_kept : (work : List ℕ) (at : ℕ) {next : ℕ} → EndNeeds bytes decl work → 0 < at → at + 3 ≤ length bytes → Some next ≡ kept_at work at → Skips bytes decl at next
  unfolding kept_at pick
  end_kept work at {next} n h l e = go (eqb (w / 8192) at) refl e
    where
      w : ℕ
      w = get_or work (1088 + at / 2) 0

      go : (x : Bool) → eqb (w / 8192) at ≡ x → Some next ≡ pick x (Some (w % 8192)) None → Skips bytes decl at next
      go true t f =
          let z : w / 8192 ≡ at = eqb-true (w / 8192) at t in
          let q : w % 8192 ≡ next = cc in
          let s = n.0 (1088 + at / 2) (omega arith) (let z = n.1 in omega arith) (omega (arith, z)) in
          subst (λ x. Skips bytes decl at x) q (subst (λ a. Skips bytes decl a (w % 8192)) z s)
      go false t f = cc

  pub end_known : (out : Bool) (work : List ℕ) (at : ℕ) (known : Option ℕ) → EndNeeds bytes decl work → 0 < at → at + 3 ≤ length bytes → known ≡ kept_at work at → (known ≡ None → out ≡ false)
      → EndFound out bytes decl at work known work
  end_known out work at (Some next) n h l e z = (end_kept work at n h l e, keeps_same n.0, λ _. refl)
  end_known out work at None n h l e z = (z refl, refl)

  -- and one that is laid there
  pub end_laid : {work : List ℕ} {at next : ℕ} → EndNeeds bytes decl work → Skips bytes decl at next → next ≤ 4096
      → Keeps bytes decl work (set work (1088 + at / 2) (at * 8192 + next))
  end_laid {work} {at} {next} n s l =
      record {
        long = length-set work q v;
        low = λ i h. get_or-set_other work q i v 0 (λ e. omega arith);
        behind = drop-set-lt 4096 work q v (omega (arith, safe));
        known = λ i a b h. go i a b h (eqb i q) refl;
      }
    where
      q : ℕ
      q = 1088 + at / 2

      v : ℕ
      v = at * 8192 + next

      safe : at + 3 ≤ 4096
      safe = omega (arith, (skips_safe bytes decl s).0, n.1)

      go : (i : ℕ) → 1088 ≤ i → i < 1088 + (length bytes / 2 + 1) → 0 < get_or (set work q v) i 0 → (x : Bool) → eqb i q ≡ x
          → Skips bytes decl (get_or (set work q v) i 0 / 8192) (get_or (set work q v) i 0 % 8192)
      go i a b h true e =
          let y : get_or (set work q v) i 0 ≡ v = ap (λ j. get_or (set work q v) j 0) (eqb-true i q e) ∙ get_or-set_same work q v 0 (let r = n.2 in let z = safe in omega arith) in
          let f : v / 8192 ≡ at = omega arith in
          let g : v % 8192 ≡ next = omega arith in
          subst (λ w. Skips bytes decl (w / 8192) (w % 8192)) (sym y) (subst (λ w. Skips bytes decl w (v % 8192)) (sym f) (subst (λ w. Skips bytes decl at w) (sym g) s))
      go i a b h false e =
          let y = get_or-set_other work q i v 0 (eqb-false i q e) in
          subst (λ w. 0 < w → Skips bytes decl (w / 8192) (w % 8192)) (sym y) (n.0 i a b) h
