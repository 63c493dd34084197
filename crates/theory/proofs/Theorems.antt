-- The seven theorems about the definitions, each with its sentence. The demands stand in Demands. Assumes nothing.
use Prim.Native.Nat.{ℕ, ◌≤◌}
use mathlib.Core.List.{List}
use mathlib.Core.Path.{◌≡◌}
use mathlib.Core.Logic.{◌↔◌}
use Rattle.meaning.specs.Syntax.{File}
use Rattle.meaning.specs.Outcome.{ok, refuse}
use Rattle.meaning.specs.Calls.{square, Flat, IsDepth, IsReached, flat, stacked, shape}
use Rattle.meaning.specs.Verdict.{accepted}
use Rattle.meaning.specs.Plain.{evaluate}
use Rattle.meaning.specs.Machine.{Store, function_of}
use Rattle.meaning.specs.Decode.{as_plain, plain_args}
use Rattle.meaning.specs.Start.{Malformed, Shared, Looped, start, answer_to}
use Rattle.meaning.specs.InPlace.{after, begins, height, Ended, RunsInPlace}
use Rattle.theory.proofs.Shapes.{shape_flat, shape_stacked, shape_bounds}
use Rattle.theory.proofs.Flat.{flat_answer}
use Rattle.theory.proofs.Answered.{answer_ended}
use Rattle.theory.proofs.StartExact.{numbers_at, owned_at, trees_at, Unfit, Miscounted, start_20, start_21, start_22, start_23, start_24, start_ok}
use Rattle.theory.proofs.GivesValue as gives
use Rattle.theory.proofs.InPlaceRun as run
use Rattle.theory.proofs.RunsAsPlain as plain
-- 1. A file that reading accepts is accepted by the ownership check exactly when every one of its functions has a derivation.
pub use Rattle.theory.proofs.Agree.{agreement}

-- 2. The shape says flat D R exactly when no closed walk of calls reachable from function 0 uses a CL, D is one more than the largest number of CL
-- on any walk from function 0, and R functions are reached; stacked R exactly when some such closed walk uses one; D ≤ R ≤ 32.
pub record ShapeExact (file : File) : Type 0 where
  pub is_flat : (D R : ℕ) → (shape file ≡ flat D R) ↔ (Flat (square file) × IsDepth (square file) D × IsReached (square file) R)
  pub is_stacked : (R : ℕ) → (shape file ≡ stacked R) ↔ ((Flat (square file) → ⊥) × IsReached (square file) R)
  pub bounds : (D R : ℕ) → shape file ≡ flat D R → (D ≤ R) × (R ≤ 32)

pub shape_exact : (file : File) → ShapeExact file
shape_exact file = record { is_flat = shape_flat file; is_stacked = shape_stacked file; bounds = shape_bounds file }

-- 3. 20 to 24 and "not refused" are answered exactly when their statements hold, in that order.
module _ (file : File) (work : ℕ) (args : List ℕ) (store : Store) where
  abbrev MalformedHere : Type 0
  MalformedHere = Malformed file.constructors store (numbers_at file work args store) (trees_at file work args store)

  abbrev SharedHere : Type 0
  SharedHere = Shared file.constructors store (owned_at file work args store) (trees_at file work args store)

  abbrev LoopedHere : Type 0
  LoopedHere = Looped file.constructors store (trees_at file work args store)

  abbrev Sized : Type 0
  Sized = (Unfit file work args store → ⊥) × (Miscounted file work args store → ⊥)

  pub record StartExact : Type 0 where
    pub is_20 : (start file work args store ≡ refuse 20 0) ↔ Unfit file work args store
    pub is_21 : (start file work args store ≡ refuse 21 0) ↔ ((Unfit file work args store → ⊥) × Miscounted file work args store)
    pub is_22 : (start file work args store ≡ refuse 22 0) ↔ (Sized × MalformedHere)
    pub is_23 : (start file work args store ≡ refuse 23 0) ↔ (Sized × ((MalformedHere → ⊥) × SharedHere))
    pub is_24 : (start file work args store ≡ refuse 24 0) ↔ (Sized × ((MalformedHere → ⊥) × ((SharedHere → ⊥) × LoopedHere)))
    pub is_fine : (start file work args store ≡ ok tt) ↔ (Sized × ((MalformedHere → ⊥) × ((SharedHere → ⊥) × (LoopedHere → ⊥))))

  pub start_exact : StartExact
  start_exact =
      let a = start_22 file work args store in
      let b = start_23 file work args store in
      let c = start_24 file work args store in
      let d = start_ok file work args store in
      record {
        is_20 = start_20 file work args store;
        is_21 = start_21 file work args store;
        is_22 = (λ e. let h = a.0 e in ((h.0, h.1.0), h.1.1), λ h. a.1 (h.0.0, (h.0.1, h.1)));
        is_23 = (λ e. let h = b.0 e in ((h.0, h.1.0), h.1.1), λ h. b.1 (h.0.0, (h.0.1, h.1)));
        is_24 = (λ e. let h = c.0 e in ((h.0, h.1.0), h.1.1), λ h. c.1 (h.0.0, (h.0.1, h.1)));
        is_fine = (λ e. let h = d.0 e in ((h.0, h.1.0), h.1.1), λ h. d.1 (h.0.0, (h.0.1, h.1)));
      }

module _ (bytes : List ℕ) (file : File) (work : ℕ) (args : List ℕ) (store : Store) (a : accepted bytes ≡ ok file) (s : start file work args store ≡ ok tt) where
  -- 4. For an accepted file, a start that was not refused and every budget, the run's answer number, value read as a tree, steps, place and greatest
  -- frames are those of the plain-tree evaluation on the arguments read as trees.
  pub runs_as_plain : (budget : ℕ) → as_plain file (answer_to bytes work args store budget)
      ≡ evaluate file budget (plain_args file.constructors store (function_of file 0).parameters args)
  runs_as_plain budget = plain.runs_as_plain bytes file work args store budget a s

  -- 5. After every step of the defined states, the cells reached from the owned slots of all frames together with those held as credits are exactly
  -- those reached from the owned arguments at the start, each once, and no other cell has changed in any of its five words; at the end, the same
  -- from the value.
  pub in_place : RunsInPlace file args store
  in_place = run.starts_in_place bytes file a work args store s

  -- 6. A flat file of depth D never has more than D frames at any state, and no run of it answers 33.
  pub never_deeper : (D R : ℕ) → shape file ≡ flat D R
      → ((n : ℕ) → height (after file n (begins file args store)) ≤ D) × ((budget : ℕ) → (answer_to bytes work args store budget).answer ≡ 33 → ⊥)
  never_deeper D R f = (gives.never_deeper bytes file D R a f work args store s, λ budget. (flat_answer bytes file D R a f work args store budget s).1)

  -- 7. A run with a smaller budget ends in the store of the defined state after so many steps; steps and frames in the answer are those of the states.
  pub each_budget : (budget : ℕ) → ((answer_to bytes work args store budget).after ≡ (after file budget (begins file args store)).store)
      × Ended file budget (begins file args store) 0 1 (answer_to bytes work args store budget)
  each_budget budget = (run.each_budget bytes file a work args store s budget, answer_ended bytes file work args store budget a s)
