-- A run is its steps, one after the other. Assumes nothing.
use Prim.Native.Nat.{ℕ, zero, suc, ◌+◌, ◌≤◌, max}
use mathlib.Core.Path.{◌≡◌, refl, sym, ap, ◌∙◌, subst}
use native.Mathlib.Omega.{arith}
use Rattle.meaning.specs.Syntax.{File}
use Rattle.meaning.specs.Plain.{place_of}
use Rattle.meaning.specs.Machine.{State, Step, next, finished, stuck, step, run, Answer, answers}
use Rattle.meaning.specs.InPlace.{after, height, greatest, Goes_on, Ended}

module _ (file : File) where
  -- one step at the front
  after_next : (n : ℕ) (st st' : State) → step file st ≡ next st' → after file (suc n) st ≡ after file n st'
  unfolding after
  after_next n st st' e = rw (e, after)

  after_finished : (n : ℕ) (st : State) (v : ℕ) → step file st ≡ finished v → after file n st ≡ st
  unfolding after
  after_finished zero st v e = refl
  after_finished (suc n) st v e = rw (e, after)

  after_stuck : (n : ℕ) (st : State) (a p : ℕ) → step file st ≡ stuck a p → after file n st ≡ st
  unfolding after
  after_stuck zero st a p e = refl
  after_stuck (suc n) st a p e = rw (e, after)

  run_next : (n : ℕ) (st st' : State) (k g : ℕ) → step file st ≡ next st' → run file (suc n) st k g ≡ run file n st' (suc k) (max g (height st'))
  unfolding run
  run_next n st st' k g e = rw (e, run)

  run_finished : (n : ℕ) (st : State) (k g v : ℕ) → step file st ≡ finished v → run file (suc n) st k g ≡ answers 0 v (suc k) 0 g st.store
  unfolding run
  run_finished n st k g v e = rw (e, run)

  run_stuck : (n : ℕ) (st : State) (k g a p : ℕ) → step file st ≡ stuck a p → run file (suc n) st k g ≡ answers a 0 (suc k) p g st.store
  unfolding run
  run_stuck n st k g a p e = rw (e, run)

  -- the greatest number of frames
  greatest_next : (n : ℕ) (st st' : State) → step file st ≡ next st' → greatest file (suc n) st ≡ max (height st) (greatest file n st')
  unfolding greatest after
  greatest_next zero st st' e = ap (λ x. max (height st) (height x)) (after_next 0 st st' e)
  greatest_next (suc n) st st' e =
      let q : height (after file (suc (suc n)) st) ≡ height (after file (suc n) st') = ap height (after_next (suc n) st st' e) in
      omega (arith, greatest_next n st st' e)

  greatest_same : (n : ℕ) (st : State) → ((i : ℕ) → after file i st ≡ st) → greatest file n st ≡ height st
  unfolding greatest
  greatest_same zero st e = refl
  greatest_same (suc n) st e =
      let q : height (after file (suc n) st) ≡ height st = ap height (e (suc n)) in
      omega (arith, greatest_same n st e)

  pub greatest_first : (n : ℕ) (st : State) → height st ≤ greatest file n st
  unfolding greatest
  greatest_first zero st = omega arith
  greatest_first (suc n) st = omega (arith, greatest_first n st)

  -- the store, and the greatest number of frames, after a run of any budget
  pub run_store : (n : ℕ) (st : State) (k g : ℕ) → (run file n st k g).after ≡ (after file n st).store
  unfolding run after
  run_store zero st k g = refl
  run_store (suc n) st k g = go (step file st) refl (λ st' k g. run_store n st' k g)
    where
      go : (r : Step) → step file st ≡ r → ((st' : State) (k g : ℕ) → (run file n st' k g).after ≡ (after file n st').store)
          → (run file (suc n) st k g).after ≡ (after file (suc n) st).store
      go (next st') e ih =
          ap (λ x. x.after) (run_next n st st' k g e) ∙ ih st' (suc k) (max g (height st')) ∙ ap (λ x. x.store) (sym (after_next n st st' e))
      go (finished v) e ih = ap (λ x. x.after) (run_finished n st k g v e) ∙ ap (λ x. x.store) (sym (after_finished (suc n) st v e))
      go (stuck a p) e ih = ap (λ x. x.after) (run_stuck n st k g a p e) ∙ ap (λ x. x.store) (sym (after_stuck (suc n) st a p e))

  pub run_frames : (n : ℕ) (st : State) (k g : ℕ) → height st ≤ g → (run file n st k g).frames ≡ max g (greatest file n st)
  unfolding run greatest
  run_frames zero st k g l = omega arith
  run_frames (suc n) st k g l = go (step file st) refl (λ st' k g m. run_frames n st' k g m)
    where
      go : (r : Step) → step file st ≡ r → ((st' : State) (k g : ℕ) → height st' ≤ g → (run file n st' k g).frames ≡ max g (greatest file n st'))
          → (run file (suc n) st k g).frames ≡ max g (greatest file (suc n) st)
      go (next st') e ih =
          let q = ap (λ x. x.frames) (run_next n st st' k g e) in
          let h = ih st' (suc k) (max g (height st')) (omega arith) in
          omega (arith, greatest_next n st st' e, greatest_first n st')
      go (finished v) e ih =
          let q = ap (λ x. x.frames) (run_finished n st k g v e) in
          omega (arith, greatest_same (suc n) st (λ i. after_finished i st v e))
      go (stuck a p) e ih =
          let q = ap (λ x. x.frames) (run_stuck n st k g a p e) in
          omega (arith, greatest_same (suc n) st (λ i. after_stuck i st a p e))

  -- the whole answer: the first m steps do not end the run
  goes_on : (m : ℕ) (st st' : State) → step file st ≡ next st' → Goes_on file (suc m) st → Goes_on file m st'
  goes_on m st st' e o i l =
      let r = o (suc i) (omega arith) in
      (r.0, ap (λ x. step file x) (sym (after_next i st st' e)) ∙ r.1)

  pub run_split : (m n : ℕ) (st : State) (k g : ℕ) → height st ≤ g → Goes_on file m st
      → run file (m + n) st k g ≡ run file n (after file m st) (m + k) (max g (greatest file m st))
  unfolding after greatest
  run_split zero n st k g l o = let p : max g (height st) ≡ g = omega arith in let q : 0 + n ≡ n = omega arith in let r : 0 + k ≡ k = omega arith in rw (p, q, r)
  run_split (suc m) n st k g l o =
      let f = o 0 (omega arith) in
      let st' : State = f.0 in
      let e : step file st ≡ next st' = f.1 in
      let h = run_split m n st' (suc k) (max g (height st')) (omega arith) (goes_on m st st' e o) in
      let p : suc m + n ≡ suc (m + n) = omega arith in
      let q : m + suc k ≡ suc m + k = omega arith in
      let w : max (max g (height st')) (greatest file m st') ≡ max g (greatest file (suc m) st) = omega (arith, greatest_next m st st' e, greatest_first m st') in
      ap (λ x. run file x st k g) p
      ∙ run_next (m + n) st st' k g e
      ∙ h
      ∙ ap (λ x. run file n x (m + suc k) (max (max g (height st')) (greatest file m st'))) (sym (after_next m st st' e))
      ∙ ap (λ x. run file n (after file (suc m) st) x (max (max g (height st')) (greatest file m st'))) q
      ∙ ap (λ x. run file n (after file (suc m) st) (suc m + k) x) w

  -- every run ends in one of the three ways
  goes_more : (m : ℕ) (st st' : State) → step file st ≡ next st' → Goes_on file m st' → Goes_on file (suc m) st
  unfolding after
  goes_more m st st' e o zero l = (st', e)
  goes_more m st st' e o (suc i) l =
      let r = o i (omega arith) in
      (r.0, ap (λ x. step file x) (after_next i st st' e) ∙ r.1)

  greatest_more : (m : ℕ) (st st' : State) (g : ℕ) → step file st ≡ next st' → height st ≤ g → max g (greatest file (suc m) st) ≡ max (max g (height st')) (greatest file m st')
  greatest_more m st st' g e l = omega (arith, greatest_next m st st' e, greatest_first m st')

  ended_later : {n : ℕ} {st st' : State} {k g : ℕ} {r : Answer} → step file st ≡ next st' → height st ≤ g
      → Ended file n st' (suc k) (max g (height st')) r → Ended file (suc n) st k g r
  ended_later {n} {st} {st'} {k} {g} e l (Ended.budget o) =
      let a = after_next n st st' e in
      let q : suc n + k ≡ n + suc k = omega arith in
      let w = greatest_more n st st' g e l in
      subst (λ r. Ended file (suc n) st k g r) (λ j. answers 32 0 (q j) (place_of (a j).top.todo) (w j) (a j).store) (Ended.budget (goes_more n st st' e o))
  ended_later {n} {st} {st'} {k} {g} e l (Ended.value {v} m i o f) =
      let a = after_next m st st' e in
      let q : suc (suc m) + k ≡ suc m + suc k = omega arith in
      let w = greatest_more m st st' g e l in
      subst (λ r. Ended file (suc n) st k g r) (λ j. answers 0 v (q j) 0 (w j) (a j).store)
      (Ended.value (suc m) (omega arith) (goes_more m st st' e o) (ap (λ x. step file x) a ∙ f))
  ended_later {n} {st} {st'} {k} {g} e l (Ended.stop {a = b} {p} m i o f) =
      let a = after_next m st st' e in
      let q : suc (suc m) + k ≡ suc m + suc k = omega arith in
      let w = greatest_more m st st' g e l in
      subst (λ r. Ended file (suc n) st k g r) (λ j. answers b 0 (q j) p (w j) (a j).store)
      (Ended.stop (suc m) (omega arith) (goes_more m st st' e o) (ap (λ x. step file x) a ∙ f))

  pub run_ends : (n : ℕ) (st : State) (k g : ℕ) → height st ≤ g → Ended file n st k g (run file n st k g)
  unfolding run after greatest
  run_ends zero st k g l =
      let q : 0 + k ≡ k = omega arith in
      let w : max g (height st) ≡ g = omega arith in
      subst (λ r. Ended file 0 st k g r) (λ j. answers 32 0 (q j) (place_of st.top.todo) (w j) st.store) (Ended.budget (λ i m. absurd (omega arith)))
  run_ends (suc n) st k g l = go (step file st) refl (λ st' k g m. run_ends n st' k g m)
    where
      q : suc 0 + k ≡ suc k
      q = omega arith

      w : max g (height st) ≡ g
      w = omega arith

      go : (r : Step) → step file st ≡ r → ((st' : State) (k g : ℕ) → height st' ≤ g → Ended file n st' k g (run file n st' k g)) → Ended file (suc n) st k g (run file (suc n) st k g)
      go (next st') e ih =
          subst (λ r. Ended file (suc n) st k g r) (sym (run_next n st st' k g e)) (ended_later e l (ih st' (suc k) (max g (height st')) (omega arith)))
      go (finished v) e ih =
          subst (λ r. Ended file (suc n) st k g r) ((λ j. answers 0 v (q j) 0 (w j) st.store) ∙ sym (run_finished n st k g v e))
          (Ended.value 0 (omega arith) (λ i m. absurd (omega arith)) e)
      go (stuck a p) e ih =
          subst (λ r. Ended file (suc n) st k g r) ((λ j. answers a 0 (q j) p (w j) st.store) ∙ sym (run_stuck n st k g a p e))
          (Ended.stop 0 (omega arith) (λ i m. absurd (omega arith)) e)
