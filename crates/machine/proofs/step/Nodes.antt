-- Each node's words stand for the defined step. Assumes nothing.
use Rattle.std.proofs.Common.{◌≡◌, ℕ, zero, suc, ◌+◌, ◌-◌, ◌*◌, ◌<◌, ◌≤◌, max, false, List, [], ◌∷◌, ◌++◌, length, sym, refl, ap, ◌∙◌, subst, arith, eq-eqb, ne_eqb}
use mathlib.Core.Option.{Option, none, some}
use Rattle.machine.specs.Layout.{below, Top, top, going, moved, ended, bound, slot_in, nu_of, at_of, ar_of, gv_of}
use Rattle.machine.specs.Represents.{Agrees, Represents, After}
use Rattle.machine.specs.Steps.{StepsAt}
use Rattle.machine.specs.Skips.{Skips}
use Rattle.machine.proofs.step.Skipping.{stands_skips, skips_one}
use Rattle.machine.proofs.step.Words.{bound_represents, keeps_represents}
use Rattle.meaning.specs.Syntax.{Sort, Term, File}
use Rattle.meaning.specs.Syntax as S
use Rattle.meaning.specs.Outcome.{ok}
use Rattle.meaning.specs.Ownership.{kind_owned, Kind, Slots, Want, take, check}
use Rattle.meaning.specs.Plain.{Value, place_of, arithmetic}
use Rattle.meaning.specs.Machine.{Held, Frame, Store, Step, held, word, state, step}
use Rattle.meaning.specs.Machine as M
use Rattle.theory.proofs.Rep.{Holds, Match}
use Rattle.theory.proofs.Handing.{at_kind}
use Rattle.theory.proofs.Taking.{take_inv, steps_ok}
use Rattle.theory.proofs.Wants.{took_number}
use Rattle.theory.proofs.Sim.{Ready, give}
use Rattle.standing.specs.Bytes.{byte_at}
use Rattle.meaning.specs.Choice.{pick}
use Rattle.meaning.specs.declared.Mark.{Mark}
use Rattle.standing.specs.Stands.{Stands}
use Rattle.standing.specs.Table.{Declared}

module _ (file : File) (budget : ℕ) (bytes decl : List ℕ) where
  -- a number slot's word is its number
  pub number_word : {store : Store} {A F : List ℕ} {h : Held} {v : Value} {w : ℕ} → Holds file.constructors store A Kind.number h v F → Agrees h w → w ≡ word h
  number_word Holds.number a = a

  pub owned_word : {store : Store} {A F : List ℕ} {h : Held} {v : Value} {w : ℕ} → Holds file.constructors store A Kind.owned h v F → Agrees h w → w ≡ word h
  owned_word (Holds.owned t) a = a

  number_slot : (s p : ℕ) (slots slots' : Slots) {hs : List Held} {env : List Value} {store : Store} {F A : List ℕ} {w : ℕ} → take false Want.number s p slots ≡ ok slots'
      → Match file.constructors store A slots hs env F → Agrees (held hs s) w → (slots ≡ slots') × (w ≡ word (held hs s))
  number_slot s p slots slots' {store} e m a =
      let t = took_number (take_inv false Want.number s p slots slots' e) in
      (t.1, number_word (at_kind file.constructors store t.0 m).holds a)

  abbrev pub Rep : Store → Top → Term → List Held → List Frame → Type 0
  Rep store c t hs under = Represents file bytes store c (state store t hs under)

  -- a word bound to the next slot, from a state that is represented
  binds : {t t' : Term} {hs : List Held} {store : Store} {under : List Frame} {c : Top} {nx : ℕ} (r : Rep store c t hs under) (h : Held) (v next : ℕ)
      → length hs < 32 → Agrees h v → next ≡ place_of t' → Stands file bytes (suc (length hs)) t' nx
      → suc (length under) ≤ c.state.most
      → After file bytes c.state.most store store (bound c v next) (M.next (state store t' (hs ++ (h ∷ [])) under))
  binds {t' = t'} {hs} {store} {under} {c} {nx} r h v next l a p x m = (
    bound_represents file bytes c hs under store t' h v next nx r.depth r.deep r.bound l r.words r.saved r.room a p x,
    refl,
    let e : c.state.most ≡ max c.state.most (suc (length under)) = omega arith in e,
  )

  abbrev pub Goal : Term → List Held → Store → List Frame → Top → Store → Top → Type 0
  Goal t hs store under c store' c' = After file bytes c.state.most store store' c' (step file (state store t hs under))

  pub nu_sim : {p n nx : ℕ} {t : Term} {hs : List Held} {store : Store} {under : List Frame} {c : Top} (r : Rep store c (S.NU p n t) hs under) → suc (length under) ≤ c.state.most
      → byte_at bytes (p + 2) * 256 + byte_at bytes (p + 3) ≡ n → length hs < 32 → place_of t ≡ p + 4 → Stands file bytes (suc (length hs)) t nx
      → Goal (S.NU p n t) hs store under c store (nu_of bytes c)
  unfolding step nu_of
  nu_sim {p} {n} {t = t} {c = c} r m e l q x =
      binds r (Held.number n) _ (c.state.frame.at + 4) l (rw r.here e) (rw r.here (sym q)) x m

  pub at_sim : {p k nx : ℕ} {t : Term} {hs : List Held} {store : Store} {under : List Frame} {c : Top} (r : Rep store c (S.AT p k t) hs under) → suc (length under) ≤ c.state.most
      → byte_at bytes (p + 2) ≡ k → length hs < 32 → place_of t ≡ p + 3 → Stands file bytes (suc (length hs)) t nx
      → Goal (S.AT p k t) hs store under c store (at_of bytes c)
  unfolding step at_of
  at_sim {p} {k} {c = c} r m e l q x =
      binds r (Held.owned k) _ (c.state.frame.at + 3) l (rw r.here e) (rw r.here (sym q)) x m

  pub ar_sim : {p o x y nx : ℕ} {t : Term} {hs : List Held} {store : Store} {under : List Frame} {c : Top} (r : Rep store c (S.AR p o x y t) hs under) → suc (length under) ≤ c.state.most
      → {result : Sort} {slots : Slots} {env : List Value} {F A : List ℕ} → Ready file budget (S.AR p o x y t) result slots hs env store F A
      → byte_at bytes (p + 2) ≡ o → byte_at bytes (p + 3) ≡ x → byte_at bytes (p + 4) ≡ y → length hs < 32 → place_of t ≡ p + 5 → Stands file bytes (suc (length hs)) t nx
      → Goal (S.AR p o x y t) hs store under c store (ar_of bytes c)
  unfolding step ar_of check
  ar_sim {p} {o} {x} {y} {t = t} {hs} {store} {under} {c} r m {result} {slots} {env} ready eo ex ey l q z =
      let a = steps_ok (take false Want.number x (p + 3) slots) _ ready.checked in
      let b = steps_ok (take false Want.number y (p + 4) a.0) _ a.2 in
      let u = number_slot x (p + 3) slots a.0 a.1 ready.match (r.words x) in
      let v = number_slot y (p + 4) a.0 b.0 b.1 (rw u.0 at ready.match) (r.words y) in
      let same : arithmetic (byte_at bytes (c.state.frame.at + 2)) (slot_in bytes c.work (c.state.frame.depth * 32) (c.state.frame.at + 3))
      (slot_in bytes c.work (c.state.frame.depth * 32) (c.state.frame.at + 4)) ≡ arithmetic o (word (held hs x)) (word (held hs y)) =
      rw (r.here, r.depth, eo, ex, ey, u.1, v.1) in
      subst (λ k. After file bytes c.state.most store store (told k) (step file (state store (S.AR p o x y t) hs under))) (sym same)
      (go (arithmetic o (word (held hs x)) (word (held hs y))))
    where
      told : Option ℕ → Top
      told k = elim k as (λ _. Top) [ none ↦ top (ended c.state 34 0) c.work | some v ↦ bound c v (c.state.frame.at + 5) ]

      go : (k : Option ℕ) → After file bytes c.state.most store store (told k) (elim k as (λ _. Step) [ none ↦ M.stuck 34 p | some n ↦ M.next (state store t (hs ++ (Held.number n ∷ [])) under) ])
      go none = (refl, refl, refl, r.here, refl)
      go (some n) = binds r (Held.number n) n (c.state.frame.at + 5) l refl (rw r.here (sym q)) z m

  value_word : (result : Sort) {store : Store} {A F : List ℕ} {h : Held} {v : Value} {w : ℕ} → Holds file.constructors store A (kind_owned result) h v F → Agrees h w → w ≡ word h
  value_word Sort.number g a = number_word g a
  value_word Sort.tree g a = owned_word g a

  pub gv_sim : {p s : ℕ} {hs : List Held} {store : Store} (under : List Frame) {c : Top} (r : Rep store c (S.GV p s) hs under) → suc (length under) ≤ c.state.most
      → {result : Sort} {slots : Slots} {env : List Value} {F A : List ℕ} → Ready file budget (S.GV p s) result slots hs env store F A
      → byte_at bytes (p + 2) ≡ s → Goal (S.GV p s) hs store under c store (gv_of bytes c)
  unfolding step gv_of pick
  gv_sim {p} {s} {hs} {store} [] {c} r m {result} ready e =
      let w = value_word result (give file budget result ready) (r.words s) in
      rw (eq-eqb c.state.frame.depth 0 r.depth, r.here, r.depth, e) (refl, refl, w, refl)
  gv_sim {p} {s} {hs} {store} (f ∷ rest) {c} r m {result} ready e =
      let w = r.saved.0 in
      let d = r.depth in
      let z : c.state.frame.depth - 1 ≡ length rest = omega arith in
      rw (ne_eqb c.state.frame.depth 0 (λ q. omega arith)) (
        bound_represents file bytes (below c) f.slots rest store f.todo (held hs s) _ _ w.next z (let b = r.deep in omega arith) (rw z w.many) w.few w.words r.saved.1
            r.room (rw (r.here, d, e) (r.words s)) (rw z w.here) w.stands,
        refl,
        let q : c.state.most ≡ max c.state.most (suc (length rest)) = omega arith in q,
      )

  -- another term, from the same slots
  pub moves : {t t' : Term} {hs : List Held} {store : Store} {under : List Frame} {c : Top} {nx : ℕ} (r : Rep store c t hs under) (b : ℕ) → b ≡ place_of t' → Stands file bytes (length hs) t' nx
      → suc (length under) ≤ c.state.most
      → After file bytes c.state.most store store (top (going b c.state.frame.depth c.state.frame.bound c.state.most) c.work) (M.next (state store t' hs under))
  moves {under = under} {c} {nx} r b p x m = (
    record {
      same = refl;
      here = p;
      next = nx;
      stands = x;
      depth = r.depth;
      deep = r.deep;
      bound = r.bound;
      few = r.few;
      words = r.words;
      saved = r.saved;
      room = r.room;
    },
    refl,
    let e : c.state.most ≡ max c.state.most (suc (length under)) = omega arith in e,
  )

  pub if_sim : {p s second nx : ℕ} {t u : Term} {hs : List Held} {store : Store} {under : List Frame} {c : Top} (d : Declared file bytes decl) (r : Rep store c (S.IF p s t u) hs under)
      → suc (length under) ≤ c.state.most → {result : Sort} {slots : Slots} {env : List Value} {F A : List ℕ} → Ready file budget (S.IF p s t u) result slots hs env store F A
      → byte_at bytes (p + 2) ≡ s → place_of t ≡ p + 3 → Stands file bytes (length hs) t second → place_of u ≡ second → Stands file bytes (length hs) u nx
      → {store' : Store} {c' : Top} → StepsAt Mark.IF bytes decl store c store' c' → Goal (S.IF p s t u) hs store under c store' c'
  unfolding step check
  if_sim {p} {s} {second} {t = t} {u} {hs} {store} {under} {c} d r m {slots = slots} ready e pt xt pu xu {store'} {c'} k =
      subst (λ x. Goal (S.IF p s t u) hs store under c x c') (sym k.0) (subst (λ x. Goal (S.IF p s t u) hs store under c store x) (sym k.1.is) (go (word (held hs s)) refl))
    where
      w : slot_in bytes c.work (c.state.frame.depth * 32) (c.state.frame.at + 2) ≡ word (held hs s)
      w =
          let a = steps_ok (take false Want.number s (p + 2) slots) _ ready.checked in
          rw (r.here, r.depth, e) (number_slot s (p + 2) slots a.0 a.1 ready.match (r.words s)).1

      r₂ : Rep store (top c.state k.1.work) (S.IF p s t u) hs under
      r₂ = keeps_represents file bytes r k.1.keeps.long k.1.keeps.low

      go : (n : ℕ) → word (held hs s) ≡ n
          → After file bytes c.state.most store store (top (moved c.state k.1.at) k.1.work)
          (elim n as (λ _. Step) [ zero ↦ M.next (state store u hs under) | suc _ ↦ M.next (state store t hs under) ])
      go zero z =
          moves r₂ k.1.at
          (skips_one bytes decl (k.1.second (w ∙ z)) (subst (λ x. Skips bytes decl x second) (pt ∙ ap (λ x. x + 3) (sym r.here)) (stands_skips file bytes decl d xt)) ∙ sym pu) xu m
      go (suc n) z = moves r₂ k.1.at (k.1.first (λ y. omega (arith, w, z, y)) ∙ ap (λ x. x + 3) r.here ∙ sym pt) xt m
