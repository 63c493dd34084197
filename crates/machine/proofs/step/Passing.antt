-- Terms that stand one after the other are passed over a record at a time: each closes one term and opens those that follow it. Assumes nothing.
use Rattle.std.proofs.Common.{◌≡◌, ℕ, suc, ◌+◌, ◌-◌, ◌<◌, ◌≤◌, ◌⊎◌, List, length, sym, refl, ap, ◌∙◌, subst, inl, inr, arith}
use Rattle.machine.specs.Skips.{One}
use Rattle.machine.specs.Skips.{then_of, then_at, next_of, opens_of, SafeAt, Skips, SkipsAll, SkipsMany}
use Rattle.meaning.specs.declared.Mark.{Mark}
use Rattle.meaning.specs.Marks.{row_at, number_of, mark_of}
use Rattle.standing.specs.Bytes.{mark_at}
use Rattle.machine.proofs.step.Marked.{past_is}
use Rattle.machine.proofs.step.Skipping.{skips_safe, skips_past}

module _ (bytes decl : List ℕ) where
  -- a branch's BR closes nothing and opens nothing: its term follows
  branch_then : (at : ℕ) → mark_of (mark_at bytes at) ≡ Mark.BR → then_of bytes decl at ≡ One (at + 3)
  unfolding then_of row_at number_of
  branch_then at e = ap (λ k. then_at k bytes decl at) e ∙ ap (λ x. One x) (past_is Mark.BR refl at)

  branch_skips : {at m : ℕ} → mark_of (mark_at bytes at) ≡ Mark.BR → Skips bytes decl (at + 3) m → Skips bytes decl at m
  branch_skips {at} e s =
      let room : at + 3 ≤ length bytes = omega (arith, (skips_safe _ _ s).0) in
      let onward : at < at + 3 = omega arith in
      Skips.one (room, subst (λ k. SafeAt k bytes at) (sym e) tt) (branch_then at e) onward s

  and_more : {at n m k next : ℕ} → SkipsAll bytes decl at n m → SkipsMany bytes decl m k next → SkipsMany bytes decl at (k + n) next
  and_more {at} {n} {m} {k} {next} (SkipsAll.none e f) r =
      let q : k ≡ k + n = omega arith in
      subst (λ x. SkipsMany bytes decl at x next) q (subst (λ x. SkipsMany bytes decl x k next) f r)
  and_more {n = n} {k = k} (SkipsAll.more {k = j} e b s t) r =
      let q : k + n ≡ suc (k + j) = omega arith in
      SkipsMany.more q (branch_skips b s) (and_more t r)

  pub first_of : {at n next : ℕ} → SkipsMany bytes decl at n next → 0 < n → (m : ℕ) × Skips bytes decl at m × SkipsMany bytes decl m (n - 1) next
  first_of (SkipsMany.none e f) l = absurd (omega arith)
  first_of {n = n} {next = next} (SkipsMany.more {k = k} {m = m} e s r) l =
      let q : k ≡ n - 1 = omega arith in
      (m, s, subst (λ x. SkipsMany bytes decl m x next) q r)

  pub moves_on : {at m : ℕ} → Skips bytes decl at m → at < next_of (then_of bytes decl at)
  moves_on {at} (Skips.leaf s e l) = subst (λ f. at < next_of f) (sym e) l
  moves_on {at} (Skips.one s e l j) = subst (λ f. at < next_of f) (sym e) l
  moves_on {at} (Skips.two s e l i j) = subst (λ f. at < next_of f) (sym e) l
  moves_on {at} (Skips.many s e l j) = subst (λ f. at < next_of f) (sym e) l

  pub pass_over : {at m k next : ℕ} → Skips bytes decl at m → SkipsMany bytes decl m k next → SkipsMany bytes decl (next_of (then_of bytes decl at)) (k + opens_of (then_of bytes decl at)) next
  pass_over {at} {m} {k} {next} (Skips.leaf s e l) r =
      let q : k ≡ k + 0 = omega arith in
      subst (λ f. SkipsMany bytes decl (next_of f) (k + opens_of f) next) (sym e) (subst (λ x. SkipsMany bytes decl m x next) q r)
  pass_over {at} {m} {k} {next} (Skips.one s e l j) r =
      let q : k + 1 ≡ suc k = omega arith in
      subst (λ f. SkipsMany bytes decl (next_of f) (k + opens_of f) next) (sym e) (SkipsMany.more q j r)
  pass_over {at} {m} {k} {next} (Skips.two s e l i j) r =
      let q : k + 2 ≡ suc (suc k) = omega arith in
      subst (λ f. SkipsMany bytes decl (next_of f) (k + opens_of f) next) (sym e) (SkipsMany.more q i (SkipsMany.more refl j r))
  pass_over {at} {m} {k} {next} (Skips.many s e l j) r =
      subst (λ f. SkipsMany bytes decl (next_of f) (k + opens_of f) next) (sym e) (and_more j r)

  -- there are no more open terms than bytes
  pub terms_fit : {at n next : ℕ} → SkipsMany bytes decl at n next → (n ≡ 0) ⊎ (at + n ≤ length bytes)
  terms_fit (SkipsMany.none e f) = inl e
  terms_fit (SkipsMany.more e s r) =
      inr (elim (terms_fit r) [
        | inl z ↦ omega (arith, (skips_safe _ _ s).0)
        | inr z ↦ omega (arith, skips_past _ _ s)
      ])

  pub terms_small : {at n next : ℕ} → SkipsMany bytes decl at n next → n ≤ length bytes
  terms_small r = elim (terms_fit r) [ inl z ↦ omega arith | inr z ↦ omega arith ]

  pub none_open : {at n next : ℕ} → SkipsMany bytes decl at n next → n ≡ 0 → next ≡ at
  none_open (SkipsMany.none e f) z = f
  none_open (SkipsMany.more e s r) z = absurd (omega arith)
