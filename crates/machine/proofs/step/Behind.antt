-- A step leaves the work area behind its first 4,096 words as it is, and keeps what is known of the ends of terms. Assumes nothing.
use Rattle.std.proofs.Common.{◌≡◌, ℕ, ◌+◌, ◌-◌, ◌*◌, ◌<◌, ◌≤◌, max, Bool, true, false, eqb, ltb, leb, List, drop, set, sym, refl, ap, ◌∙◌, arith, drop-drop, drop-set-lt, ltb-false, leb-false}
use mathlib.Core.Option.{Option, none, some}
use borrow.Author.Tests.{eqb-false}
use Rattle.meaning.specs.Choice.{pick}
use Rattle.meaning.specs.declared.Mark.{Mark}
use Rattle.meaning.specs.Marks.{mark_of}
use Rattle.meaning.specs.Plain.{arithmetic}
use Rattle.standing.specs.Bytes.{byte_at, mark_at, arity_in, params_in, body_in}
use Rattle.machine.specs.Layout.{Top, top, going, moved, ended, below, bound, laid, gathered, words, slot_in, nu_of, at_of, ar_of, gv_of, tl_of, cl_of, mk_of, con_of, opened_of, op_of}
use Rattle.machine.specs.Needs.{NeedsAt, OpenNeeds, CallNeeds}
use Rattle.machine.specs.Represents.{Fit}
use Rattle.machine.specs.Steps.{Steps, StepsAt, Opened, named}
use Rattle.machine.proofs.frame.Laid.{laid_behind, gathered_length, words_length}
use Rattle.machine.specs.Skips.{Known}
use Rattle.machine.proofs.step.Ends.{known_behind}
use Rattle.machine.proofs.step.Needed.{fit_needs}

abbrev behind : Top → List ℕ
behind c = drop 1088 c.work

module _ (bytes decl store store' : List ℕ) where
  bound_behind : (c : Top) (v : ℕ) → c.state.frame.depth ≤ 31 → c.state.frame.bound < 32
      → drop 1088 (set c.work (c.state.frame.depth * 32 + c.state.frame.bound) v) ≡ behind c
  bound_behind c v d b = drop-set-lt 1088 c.work (c.state.frame.depth * 32 + c.state.frame.bound) v (omega arith)

  gives : (c : Top) → NeedsAt Mark.GV bytes decl store c → behind (gv_of bytes c) ≡ behind c
  unfolding gv_of pick
  gives c n = go (eqb c.state.frame.depth 0) refl
    where
      v : ℕ
      v = slot_in bytes c.work (c.state.frame.depth * 32) (c.state.frame.at + 2)

      go : (x : Bool) → eqb c.state.frame.depth 0 ≡ x → behind (pick x (top (ended c.state 0 v) c.work) (bound (below c) v (below c).state.frame.at)) ≡ behind c
      go true e = refl
      go false e =
          let z = eqb-false c.state.frame.depth 0 e in
          let l : 0 < c.state.frame.depth = omega arith in
          bound_behind (below c) v (let d = n.0.1 in omega arith) (n.1 l)

  ariths : (c : Top) → NeedsAt Mark.AR bytes decl store c → behind (ar_of bytes c) ≡ behind c
  unfolding ar_of
  ariths c n =
      go (arithmetic (byte_at bytes (c.state.frame.at + 2)) (slot_in bytes c.work (c.state.frame.depth * 32) (c.state.frame.at + 3))
      (slot_in bytes c.work (c.state.frame.depth * 32) (c.state.frame.at + 4)))
    where
      go : (m : Option ℕ) → behind (elim m as (λ _. Top) [ none ↦ top (ended c.state 34 0) c.work | some v ↦ bound c v (c.state.frame.at + 5) ]) ≡ behind c
      go none = refl
      go (some v) = bound_behind c v n.0.1 n.1

  tails : (c : Top) → CallNeeds bytes decl c → behind (tl_of bytes decl c) ≡ behind c
  unfolding tl_of
  tails c n =
      let g = gathered_length bytes c.work (c.state.frame.depth * 32) (c.state.frame.at + 3) (params_in decl (byte_at bytes (c.state.frame.at + 2))) in
      laid_behind 1088 c.work (c.state.frame.depth * 32) _ (omega (arith, g, n.0.1, n.4))

  calls : (c : Top) → CallNeeds bytes decl c → behind (cl_of bytes decl c) ≡ behind c
  unfolding cl_of pick
  calls c n = go (leb 31 c.state.frame.depth) refl
    where
      d : ℕ
      d = c.state.frame.depth

      k : ℕ
      k = params_in decl (byte_at bytes (c.state.frame.at + 2))

      ws : List ℕ
      ws = gathered bytes c.work (d * 32) (c.state.frame.at + 3) k

      go : (x : Bool) → leb 31 d ≡ x
          → behind (pick x (top (ended c.state 33 0) c.work) (top (going (body_in decl (byte_at bytes (c.state.frame.at + 2))) (d + 1) k (max c.state.most (d + 2))) (laid (set (set c.work (1024 + d * 2) (c.state.frame.at + 3 + k)) (1024 + d * 2 + 1) c.state.frame.bound) (d * 32 + 32) ws))) ≡ behind c
      go true e = refl
      go false e =
          let l = leb-false 31 d e in
          let g = gathered_length bytes c.work (d * 32) (c.state.frame.at + 3) k in
          laid_behind 1088 (set (set c.work (1024 + d * 2) (c.state.frame.at + 3 + k)) (1024 + d * 2 + 1) c.state.frame.bound) (d * 32 + 32) ws (omega (arith, g, n.4))
          ∙ drop-set-lt 1088 (set c.work (1024 + d * 2) (c.state.frame.at + 3 + k)) (1024 + d * 2 + 1) c.state.frame.bound (omega arith)
          ∙ drop-set-lt 1088 c.work (1024 + d * 2) (c.state.frame.at + 3 + k) (omega arith)

  opens : (c c' : Top) (credit : ℕ) → credit ≤ 1 → OpenNeeds bytes decl store c credit → (s : Opened bytes decl store credit c c') → behind c' ≡ drop 1088 s.work
  unfolding op_of opened_of pick
  opens c c' credit one n s = ap behind s.is ∙ go (eqb b 0) refl
    where
      b : ℕ
      b = s.at

      w : ℕ
      w = named bytes c

      to : ℕ
      to = c.state.frame.depth * 32 + c.state.frame.bound

      k : ℕ
      k = arity_in decl (con_of store w)

      ws : List ℕ
      ws = words store ((w - 65536) * 5 + 1) k

      filled : to + k + credit ≤ 1056 → (x : Bool) → eqb credit 1 ≡ x → drop 1088 (pick x (set (laid s.work to ws) (to + k) w) (laid s.work to ws)) ≡ drop 1088 s.work
      filled l x e =
          let g = words_length store ((w - 65536) * 5 + 1) k in
          let r = laid_behind 1088 s.work to ws (omega (arith, g)) in
          elim x as (λ y. drop 1088 (pick y (set (laid s.work to ws) (to + k) w) (laid s.work to ws)) ≡ drop 1088 s.work)
          [ true ↦ drop-set-lt 1088 (laid s.work to ws) (to + k) w (omega arith) ∙ r | false ↦ r ]

      large : 0 < b → (x : Bool) → ltb w 65536 ≡ x
          → behind (pick x (top (moved c.state b) s.work)
          (top (going b c.state.frame.depth (c.state.frame.bound + k + credit) c.state.most) (pick (eqb credit 1) (set (laid s.work to ws) (to + k) w) (laid s.work to ws)))) ≡ drop 1088 s.work
      large l true e = refl
      large l false e =
          let q = (n.opens b s.found l).2 (ltb-false w 65536 e) in
          let d = n.room.1 in
          filled (omega arith) (eqb credit 1) refl

      go : (x : Bool) → eqb b 0 ≡ x → behind (pick x (top (ended c.state 31 0) s.work) (opened_of decl store (top c.state s.work) w (con_of store w) b credit)) ≡ drop 1088 s.work
      go true e = refl
      go false e = let z = eqb-false b 0 e in large (omega arith) (ltb w 65536) refl

  abbrev Kept : Top → Top → Type 0
  Kept c c' = (Known bytes decl c.work → Known bytes decl c'.work) × (drop 4096 c'.work ≡ drop 4096 c.work)

  kept : (c c' : Top) → behind c' ≡ behind c → Kept c c'
  kept c c' e = (known_behind bytes decl c.work c'.work e, sym (drop-drop 3008 1088 c'.work) ∙ ap (drop 3008) e ∙ drop-drop 3008 1088 c.work)

  kept_open : (c c' : Top) (credit : ℕ) → credit ≤ 1 → OpenNeeds bytes decl store c credit → Opened bytes decl store credit c c' → Kept c c'
  kept_open c c' credit one n s =
      let k = kept (top c.state s.work) c' (opens c c' credit one n s) in
      (λ _. k.0 s.keeps.known, k.1 ∙ s.keeps.behind)

  node_kept : (k : Mark) (c c' : Top) → NeedsAt k bytes decl store c → StepsAt k bytes decl store c store' c' → Kept c c'
  unfolding nu_of at_of mk_of
  node_kept Mark.GV c c' n s = kept c c' (ap behind s.1 ∙ gives c n)
  node_kept Mark.AT c c' n s = kept c c' (ap behind s.1 ∙ bound_behind c _ n.0.1 n.1)
  node_kept Mark.MK c c' n s = kept c c' (ap behind s.1 ∙ bound_behind c _ n.0.1 n.1)
  node_kept Mark.CL c c' n s = kept c c' (ap behind s.1 ∙ calls c n)
  node_kept Mark.TL c c' n s = kept c c' (ap behind s.1 ∙ tails c n)
  node_kept Mark.OP c c' n s = kept_open c c' 1 (omega arith) n s.1
  node_kept Mark.LK c c' n s = kept_open c c' 0 (omega arith) n s.1
  node_kept Mark.NU c c' n s = kept c c' (ap behind s.1 ∙ bound_behind c _ n.0.1 n.1)
  node_kept Mark.AR c c' n s = kept c c' (ap behind s.1 ∙ ariths c n)
  node_kept Mark.IF c c' n s =
      let o = s.1 in
      let k = kept (top c.state o.work) c' (ap behind o.is) in
      (λ _. k.0 o.keeps.known, k.1 ∙ o.keeps.behind)
  node_kept Mark.CN c c' n s = kept c c' (ap behind s.1)
  node_kept Mark.FN c c' n s = kept c c' (ap behind s.1)
  node_kept Mark.BD c c' n s = kept c c' (ap behind s.1)
  node_kept Mark.ND c c' n s = kept c c' (ap behind s.1)
  node_kept Mark.BR c c' n s = kept c c' (ap behind s.1)
  node_kept Mark.Other c c' n s = kept c c' (ap behind s.1)

module _ {bytes decl store store' : List ℕ} {c c' : Top} (f : Fit bytes decl store c) (s : Steps bytes decl store c store' c') where
  step_kept : Kept bytes decl store store' c c'
  step_kept = node_kept bytes decl store store' (mark_of (mark_at bytes c.state.frame.at)) c c' (fit_needs f (mark_of (mark_at bytes c.state.frame.at)) refl) s.does

  pub step_known : Known bytes decl c'.work
  step_known = step_kept.0 f.known

  pub step_behind : drop 4096 c'.work ≡ drop 4096 c.work
  step_behind = step_kept.1
