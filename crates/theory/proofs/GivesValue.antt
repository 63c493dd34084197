-- A run gives a value, or stops, exactly when the plain evaluation does, and within the budget; a flat file never stands deeper than its depth.
-- Assumes nothing.
use Prim.Native.Nat.{ℕ, zero, suc, ◌≤◌}
use mathlib.Core.List.{List}
use mathlib.Core.Path.{◌≡◌, refl, sym, ap, ◌∙◌}
use mathlib.Core.Logic.{◌↔◌}
use native.Mathlib.Omega.{arith}
use Rattle.meaning.specs.Syntax.{File}
use Rattle.meaning.specs.Outcome.{ok}
use Rattle.meaning.specs.Calls.{flat, shape}
use Rattle.meaning.specs.Verdict.{accepted}
use Rattle.meaning.specs.Plain.{Value, Run, value, stop, credit}
use Rattle.meaning.specs.Machine.{Store, State, Answer, function_of}
use Rattle.meaning.specs.Decode.{plain, mode_of, as_plain}
use Rattle.meaning.specs.Start.{start}
use Rattle.meaning.specs.InPlace.{after, height, greatest, begins, Ended}
use Rattle.theory.proofs.Answered.{answer_frames}
use Rattle.theory.proofs.Flat.{flat_answer}

-- the parts of a plain run
abbrev value_of : Run → Value
value_of (value v k g) = v
value_of (stop n p k g) = credit

abbrev steps_of : Run → ℕ
steps_of (value v k g) = k
steps_of (stop n p k g) = k

abbrev depth_of : Run → ℕ
depth_of (value v k g) = g
depth_of (stop n p k g) = g

abbrev number_of : Run → ℕ
number_of (value v k g) = 0
number_of (stop n p k g) = n

abbrev place_of : Run → ℕ
place_of (value v k g) = 0
place_of (stop n p k g) = p

abbrev has_value : Run → ℕ
has_value (value v k g) = 1
has_value (stop n p k g) = 0

module _ (file : File) (a : Answer) where
  abbrev pub tree_of : Value
  tree_of = plain file.constructors a.after (mode_of (function_of file 0).result) a.value

  abbrev Gives : Value → (steps frames : ℕ) → Type 0
  Gives v k g = (a.answer ≡ 0) × (tree_of ≡ v) × (a.steps ≡ k) × (a.frames ≡ g)

  gives : (n : ℕ) → a.answer ≡ n → (v : Value) (k g : ℕ)
      → ◌≡◌ {A = Run} (elim n [ zero ↦ value tree_of a.steps a.frames | suc m ↦ stop (suc m) a.place a.steps a.frames ]) (value v k g) → Gives v k g
  gives zero e v k g q = (e, ap value_of q, ap steps_of q, ap depth_of q)
  gives (suc n) e v k g q = absurd (omega (arith, ap has_value q))

  pub value_exactly : (r : Run) → as_plain file a ≡ r → (v : Value) (k g : ℕ) → (r ≡ value v k g) ↔ Gives v k g
  value_exactly r e v k g = (λ q. gives a.answer refl v k g (e ∙ q), λ h. sym e ∙ given h)
    where
      given : Gives v k g → as_plain file a ≡ value v k g
      given h = zeroed a.answer h.0 ∙ (λ i. value (h.1 i) (h.2 i) (h.3 i))
        where
          zeroed : (n : ℕ) → n ≡ 0
              → ◌≡◌ {A = Run} (elim n [ zero ↦ value tree_of a.steps a.frames | suc m ↦ stop (suc m) a.place a.steps a.frames ]) (value tree_of a.steps a.frames)
          zeroed n q = rw q

  abbrev Stops : (number place steps frames : ℕ) → Type 0
  Stops n p k g = (a.answer ≡ n) × (a.place ≡ p) × (a.steps ≡ k) × (a.frames ≡ g)

  stops : (m : ℕ) → a.answer ≡ m → (n p k g : ℕ)
      → ◌≡◌ {A = Run} (elim m [ zero ↦ value tree_of a.steps a.frames | suc m ↦ stop (suc m) a.place a.steps a.frames ]) (stop n p k g) → Stops n p k g
  stops zero e n p k g q = absurd (omega (arith, ap has_value q))
  stops (suc m) e n p k g q = (e ∙ ap number_of q, ap place_of q, ap steps_of q, ap depth_of q)

  pub stop_exactly : (r : Run) → as_plain file a ≡ r → (n p k g : ℕ) → 1 ≤ n → (r ≡ stop n p k g) ↔ Stops n p k g
  stop_exactly r e n p k g l = (λ q. stops a.answer refl n p k g (e ∙ q), λ h. sym e ∙ given h)
    where
      stopped : (m n : ℕ) → m ≡ n → 1 ≤ n
          → ◌≡◌ {A = Run} (elim m [ zero ↦ value tree_of a.steps a.frames | suc m ↦ stop (suc m) a.place a.steps a.frames ]) (stop n a.place a.steps a.frames)
      stopped zero n q l = absurd (omega arith)
      stopped (suc m) n q l = ap (λ x. stop x a.place a.steps a.frames) q

      given : Stops n p k g → as_plain file a ≡ stop n p k g
      given h = stopped a.answer n h.0 l ∙ (λ i. stop n (h.1 i) (h.2 i) (h.3 i))

-- never more steps than the budget
pub ended_steps : {file : File} {n : ℕ} {st : State} {g : ℕ} {a : Answer} → Ended file n st 0 g a → a.steps ≤ n
ended_steps (Ended.budget o) = omega arith
ended_steps (Ended.value m l o f) = omega arith
ended_steps (Ended.stop m l o f) = omega arith

-- a state's frames are among the greatest
height_greatest : (file : File) (n : ℕ) (st : State) → height (after file n st) ≤ greatest file n st
unfolding greatest after
height_greatest file zero st = omega arith
height_greatest file (suc n) st = omega arith

greatest_later : (file : File) (n : ℕ) (st : State) → greatest file n st ≤ greatest file (suc n) st
unfolding greatest
greatest_later file n st = omega arith

pub never_deeper : (bytes : List ℕ) (file : File) (D R : ℕ) → accepted bytes ≡ ok file → shape file ≡ flat D R
    → (work : ℕ) (args : List ℕ) (store : Store) → start file work args store ≡ ok tt → (n : ℕ) → height (after file n (begins file args store)) ≤ D
never_deeper bytes file D R a e work args store s n =
    let f = flat_answer bytes file D R a e work args store (suc n) s in
    omega (arith, f.0, answer_frames bytes file work args store (suc n) a s, height_greatest file n (begins file args store), greatest_later file n (begins file args store))
