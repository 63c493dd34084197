-- A run of the words is the defined run. Assumes nothing.
use Rattle.std.proofs.Common.{◌≡◌, ℕ, zero, suc, ◌+◌, ◌-◌, ◌<◌, ◌≤◌, max, Bool, true, false, ltb, List, [], ◌∷◌, length, sym, refl, ap, ◌∙◌, subst, arith, eq-eqb, ne_eqb}
use mathlib.Core.Option.{Option, none, some}
use Rattle.machine.specs.Layout.{Numbers, Top, top}
use Rattle.machine.specs.Represents.{After, Fit, Reached}
use Rattle.machine.specs.Steps.{Steps, place_of as place_of_state}
use Rattle.machine.proofs.step.Whole.{fit_sim, fit_next}
use Rattle.machine.proofs.step.Needed.{fit_mark}
use Rattle.meaning.specs.Syntax.{Term, File}
use Rattle.meaning.specs.Syntax as S
use Rattle.meaning.specs.Machine.{Held, Frame, Store, State, Step, state, step, run, Answer, answers, word, held, constructor_of}
use Rattle.meaning.specs.Machine as M
use Rattle.meaning.specs.Plain.{place_of, branch, arithmetic}
use Rattle.theory.proofs.Answered.{stuck_within}
use Rattle.meaning.specs.Choice.{pick}

-- a step that ends without a value ends at its node's place
abbrev EndsAt : ℕ → Step → Type 0
EndsAt p (M.next st) = Unit {0}
EndsAt p (M.finished v) = Unit {0}
EndsAt p (M.stuck a q) = q ≡ p

module _ (file : File) where
  if_at : (p n : ℕ) (a b : State) → EndsAt p (elim n as (λ _. Step) [ zero ↦ M.next a | suc _ ↦ M.next b ])
  if_at p zero a b = tt
  if_at p (suc n) a b = tt

  call_at : (b : Bool) (p : ℕ) (st : State) → EndsAt p (elim b as (λ _. Step) [ false ↦ M.stuck 33 p | true ↦ M.next st ])
  call_at true p st = tt
  call_at false p st = refl

  branch_at : (o : Option Term) (p : ℕ) (f : Term → State) → EndsAt p (elim o as (λ _. Step) [ none ↦ M.stuck 31 p | some t ↦ M.next (f t) ])
  branch_at none p f = refl
  branch_at (some t) p f = tt

  arith_at : (o : Option ℕ) (p : ℕ) (f : ℕ → State) → EndsAt p (elim o as (λ _. Step) [ none ↦ M.stuck 34 p | some n ↦ M.next (f n) ])
  arith_at none p f = refl
  arith_at (some n) p f = tt

  ends_at : (t : Term) (hs : List Held) (store : Store) (under : List Frame) → EndsAt (place_of t) (step file (state store t hs under))
  unfolding step
  ends_at (S.GV p s) hs store [] = tt
  ends_at (S.GV p s) hs store (f ∷ rest) = tt
  ends_at (S.AT p c t) hs store under = tt
  ends_at (S.MK p c k ss t) hs store under = tt
  ends_at (S.CL p f ss t) hs store under = call_at (ltb (length under) 31) p _
  ends_at (S.TL p f ss) hs store under = tt
  ends_at (S.OP p s bs) hs store under = branch_at (branch bs (constructor_of store (word (held hs s)))) p _
  ends_at (S.LK p s bs) hs store under = branch_at (branch bs (constructor_of store (word (held hs s)))) p _
  ends_at (S.NU p n t) hs store under = tt
  ends_at (S.AR p o x y t) hs store under = arith_at (arithmetic o (word (held hs x)) (word (held hs y))) p _
  ends_at (S.IF p s t u) hs store under = if_at p (word (held hs s)) _ _

pub reached_start : (bytes decl store : List ℕ) (c : Top) (limit : ℕ) → Reached bytes decl store c limit limit store c
reached_start bytes decl store c limit f = (f, λ n. let e : n ≡ n + (limit - limit) = omega arith in ap (λ k. run f.file limit f.st k c.state.most) e)

module _ {bytes decl store store' : List ℕ} {c c' : Top} (g : Fit bytes decl store c) (s : Steps bytes decl store c store' c') where
  goes : (k : ℕ) (r : Step) → step g.file g.st ≡ r → After g.file bytes c.state.most g.st.store store' c' r → c'.state.number ≡ 99
      → (h : Fit bytes decl store' c') × ((n : ℕ) → run g.file (suc k) g.st n c.state.most ≡ run h.file k h.st (n + 1) c'.state.most)
  unfolding run fit_next
  goes k (M.next st) e a z =
      (fit_next g s e, λ n. let q : suc n ≡ n + 1 = omega arith in ap (λ r. elim r as (λ _. Answer) [ M.next st' ↦ run g.file k st' (suc n) (max c.state.most (suc (length st'.under))) | M.finished v ↦ answers 0 v (suc n) 0 c.state.most g.st.store | M.stuck a p ↦ answers a 0 (suc n) p c.state.most g.st.store ]) e ∙ (λ i. run g.file k st (q i) (sym a.2 i)))
  goes k (M.finished v) e a z = let q = a.1 in absurd (omega arith)
  goes k (M.stuck x p) e a z = let q = a.1 in absurd (omega (arith, (stuck_within g.file g.st x p e).1))

  stops : (k n : ℕ) (r : Step) → step g.file g.st ≡ r → After g.file bytes c.state.most g.st.store store' c' r → (c'.state.number ≡ 99 → ⊥)
      → run g.file (suc k) g.st n c.state.most ≡ answers c'.state.number c'.state.value (n + 1) (place_of_state c'.state) c'.state.most store'
  unfolding run place_of_state pick
  stops k n (M.next st) e a z = absurd (z a.1)
  stops k n (M.finished v) e a z =
      let q : suc n ≡ n + 1 = omega arith in
      let w : place_of_state c'.state ≡ 0 = rw (eq-eqb c'.state.number 0 a.1) in
      ap (λ r. elim r as (λ _. Answer) [ M.next st' ↦ run g.file k st' (suc n) (max c.state.most (suc (length st'.under))) | M.finished v ↦ answers 0 v (suc n) 0 c.state.most g.st.store | M.stuck a p ↦ answers a 0 (suc n) p c.state.most g.st.store ]) e ∙ (λ i. answers (sym a.1 i) (sym a.2 i) (q i) (sym w i) (sym a.3 i) (sym a.0 i))
  stops k n (M.stuck x p) e a z =
      let q : suc n ≡ n + 1 = omega arith in
      let y : c'.state.number ≡ 0 → ⊥ = λ w. omega (arith, a.1, w, (stuck_within g.file g.st x p e).0) in
      let w : place_of_state c'.state ≡ p = rw (ne_eqb c'.state.number 0 y) a.3 in
      ap (λ r. elim r as (λ _. Answer) [ M.next st' ↦ run g.file k st' (suc n) (max c.state.most (suc (length st'.under))) | M.finished v ↦ answers 0 v (suc n) 0 c.state.most g.st.store | M.stuck a p ↦ answers a 0 (suc n) p c.state.most g.st.store ]) e ∙ (λ i. answers (sym a.1 i) (sym a.2 i) (q i) (sym w i) (sym a.4 i) (sym a.0 i))

  small : (r : Step) → step g.file g.st ≡ r → After g.file bytes c.state.most g.st.store store' c' r → (c'.state.number ≡ 99 → ⊥)
      → (place_of_state c'.state ≤ 4096) × (c'.state.most ≤ 32)
  unfolding place_of_state pick
  small (M.next st) e a z = absurd (z a.1)
  small (M.finished v) e a z =
      let w : place_of_state c'.state ≡ 0 = rw (eq-eqb c'.state.number 0 a.1) in
      (omega (arith, w), omega (arith, a.3, g.high))
  small (M.stuck x p) e a z =
      let y : c'.state.number ≡ 0 → ⊥ = λ w. omega (arith, a.1, w, (stuck_within g.file g.st x p e).0) in
      let w : place_of_state c'.state ≡ c'.state.frame.at = rw (ne_eqb c'.state.number 0 y) in
      let q : p ≡ place_of g.st.top.todo = subst (λ r. EndsAt (place_of g.st.top.todo) r) e (ends_at g.file g.st.top.todo g.st.top.slots g.st.store g.st.under) in
      (omega (arith, w, a.3, q, g.represents.here, fit_mark g, g.declared.size), omega (arith, a.4, g.high))

  pub stop_small : (c'.state.number ≡ 99 → ⊥) → (place_of_state c'.state ≤ 4096) × (c'.state.most ≤ 32)
  stop_small z = small (step g.file g.st) refl (fit_sim g s) z

-- one step of those left
one_less : {left : ℕ} → 0 < left → left ≡ suc (left - 1)
one_less l = omega arith

one_more : (n : ℕ) {left limit : ℕ} → 0 < left → left ≤ limit → (n + (limit - left)) + 1 ≡ n + (limit - (left - 1))
one_more n l m = omega arith

module _ {bytes decl store₀ store store' : List ℕ} {c₀ c c' : Top} {limit left : ℕ} (l : 0 < left) (m : left ≤ limit) where
  pub reached_next : Reached bytes decl store₀ c₀ limit left store c → Steps bytes decl store c store' c' → c'.state.number ≡ 99 → Reached bytes decl store₀ c₀ limit (left - 1) store' c'
  reached_next r s z f =
      let g = r f in
      let h = goes g.0 s (left - 1) (step g.0.file g.0.st) refl (fit_sim g.0 s) z in
      (h.0, λ n. g.1 n ∙ ap (λ k. run g.0.file k g.0.st (n + (limit - left)) c.state.most) (one_less l) ∙ h.1 (n + (limit - left)) ∙ ap (λ k. run h.0.file (left - 1) h.0.st k c'.state.most) (one_more n l m))

  pub reached_stop : Reached bytes decl store₀ c₀ limit left store c → Steps bytes decl store c store' c' → (c'.state.number ≡ 99 → ⊥) → (f : Fit bytes decl store₀ c₀)
      → answers c'.state.number c'.state.value (limit - (left - 1)) (place_of_state c'.state) c'.state.most store' ≡ run f.file limit f.st 0 c₀.state.most
  reached_stop r s z f =
      let g = r f in
      let e = stops g.0 s (left - 1) (0 + (limit - left)) (step g.0.file g.0.st) refl (fit_sim g.0 s) z in
      let o : limit - (left - 1) ≡ (0 + (limit - left)) + 1 = omega arith in
      ap (λ n. answers c'.state.number c'.state.value n (place_of_state c'.state) c'.state.most store') o ∙ sym (g.1 0 ∙ ap (λ k. run g.0.file k g.0.st (0 + (limit - left)) c.state.most) (one_less l) ∙ e)

module _ {bytes decl store₀ store : List ℕ} {c₀ c : Top} {limit : ℕ} where
  pub reached_end : (left : ℕ) → Reached bytes decl store₀ c₀ limit left store c → left ≡ 0 → (f : Fit bytes decl store₀ c₀)
      → answers 32 0 limit c.state.frame.at c.state.most store ≡ run f.file limit f.st 0 c₀.state.most
  unfolding run
  reached_end left r e f =
      let g = r f in
      let n : limit ≡ 0 + (limit - left) = omega arith in
      let p = g.0.represents.here in
      let q = g.0.represents.same in
      (λ i. answers 32 0 (n i) (p i) c.state.most (q i)) ∙ sym (g.1 0 ∙ ap (λ k. run g.0.file k g.0.st (0 + (limit - left)) c.state.most) e)

  -- a run that goes on from where another stopped
  pub reached_on : {left left' : ℕ} {store' : List ℕ} {c' : Top} → left ≤ limit → left' ≤ left → Reached bytes decl store₀ c₀ limit left store c → Reached bytes decl store c left left' store' c'
      → Reached bytes decl store₀ c₀ limit left' store' c'
  reached_on {left} {left'} {store'} {c'} a b r q f =
      let g = r f in
      let h = q g.0 in
      (h.0, λ n. let o : (n + (limit - left)) + (left - left') ≡ n + (limit - left') = omega arith in g.1 n ∙ h.1 (n + (limit - left)) ∙ ap (λ k. run h.0.file left' h.0.st k c'.state.most) o)

-- the same words by another name
pub reached_same : {bytes decl store₀ store store' work work' : List ℕ} {c₀ : Top} {s : Numbers} (limit left : ℕ) → store' ≡ store → work' ≡ work
    → Reached bytes decl store₀ c₀ limit left store (top s work) → Reached bytes decl store₀ c₀ limit left store' (top s work')
reached_same {bytes} {decl} {store₀} {store} {work' = work'} {c₀ = c₀} {s} limit left a b r =
    subst (λ x. Reached bytes decl store₀ c₀ limit left x (top s work')) (sym a) (subst (λ x. Reached bytes decl store₀ c₀ limit left store (top s x)) (sym b) r)
