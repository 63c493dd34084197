-- Demand 3's flat case, for accepted bytes: at most D frames, and never 33. Assumes nothing.
use Prim.Native.Nat.{ℕ, suc, ◌≤◌}
use mathlib.Core.List.{List}
use mathlib.Core.Path.{◌≡◌, subst}
use lib.ListN.{length}
use Rattle.meaning.specs.Syntax.{File}
use Rattle.meaning.specs.Outcome.{Outcome, ok, refuse}
use Rattle.meaning.specs.Calls.{Shape, flat, shape}
use Rattle.meaning.specs.Verdict.{accepted, verdict}
use Rattle.meaning.specs.Machine.{Held, Store, State, Answer, answers, run, function_of}
use Rattle.meaning.specs.Start.{start, begin, answer_to}
use Rattle.theory.proofs.Taking.{steps_ok, refused}
use Rattle.theory.proofs.Wellread.{accepted_read}
use Rattle.theory.proofs.Filling.{Callable}
use Rattle.theory.proofs.Frames.{callable, Later, first_state, frames_at_most, run_at_most}

pub accepted_callable : (bytes : List ℕ) (file : File) → accepted bytes ≡ ok file → Callable file
accepted_callable bytes file e = let w = accepted_read bytes file e in callable file w.formed w.few

-- the verdict on bytes is the shape of the file accepted
pub verdict_shape : (bytes : List ℕ) (s : Shape) → verdict bytes ≡ ok s → (file : File) × (accepted bytes ≡ ok file) × (shape file ≡ s)
unfolding verdict
verdict_shape bytes s e = let a = steps_ok (accepted bytes) (λ file. ok (shape file)) e in (a.0, a.1, let q = a.2 in cc)

-- every state from function 0's start, whatever the store and the arguments
pub flat_frames : (bytes : List ℕ) (file : File) (D R : ℕ) → accepted bytes ≡ ok file → shape file ≡ flat D R
    → (store : Store) (slots : List Held) (st : State) → Later file (first_state file store slots) st → suc (length st.under) ≤ D
flat_frames bytes file D R a e store slots st l = frames_at_most file (accepted_callable bytes file a) D R e store slots l

-- every run, whatever the budget
pub flat_run : (bytes : List ℕ) (file : File) (D R : ℕ) → accepted bytes ≡ ok file → shape file ≡ flat D R
    → (store : Store) (slots : List Held) (budget : ℕ)
    → ((run file budget (first_state file store slots) 0 1).frames ≤ D) × ((run file budget (first_state file store slots) 0 1).answer ≡ 33 → ⊥)
flat_run bytes file D R a e store slots budget = run_at_most file (accepted_callable bytes file a) D R e store slots budget

-- the running program
abbrev pub Shallow : ℕ → Answer → Type 0
Shallow D x = (x.frames ≤ D) × (x.answer ≡ 33 → ⊥)

pub flat_answer : (bytes : List ℕ) (file : File) (D R : ℕ) → accepted bytes ≡ ok file → shape file ≡ flat D R
    → (work : ℕ) (args : List ℕ) (store : Store) (budget : ℕ) → start file work args store ≡ ok tt
    → Shallow D (answer_to bytes work args store budget)
unfolding answer_to
flat_answer bytes file D R a e work args store budget s = go (accepted bytes) a
  where
    ready : (o : Outcome (Unit {0})) → o ≡ ok tt
        → Shallow D (elim o as (λ _. Answer) [
          | refuse a p ↦ answers a 0 0 p 0 store
          | ok _ ↦ run file budget (first_state file store (begin (function_of file 0).parameters args)) 0 1
        ])
    ready (refuse n p) q = absurd (refused q)
    ready (ok u) q = flat_run bytes file D R a e store (begin (function_of file 0).parameters args) budget

    go : (o : Outcome File) → o ≡ ok file
        → Shallow D (elim o as (λ _. Answer) [
          | refuse a p ↦ answers a 0 0 p 0 store
          | ok file ↦ elim (start file work args store) as (λ _. Answer) [
            | refuse a p ↦ answers a 0 0 p 0 store
            | ok _ ↦ run file budget (first_state file store (begin (function_of file 0).parameters args)) 0 1
          ]
        ])
    go (refuse n p) q = absurd (refused q)
    go (ok x) q =
        let f : file ≡ x = cc in
        subst (λ file. Shallow D (elim (start file work args store) as (λ _. Answer) [
          | refuse a p ↦ answers a 0 0 p 0 store
          | ok _ ↦ run file budget (first_state file store (begin (function_of file 0).parameters args)) 0 1
        ])) f (ready (start file work args store) s)

-- the same from the verdict: a run that is begun at all has at most D frames and never ends in 33
pub flat_verdict : (bytes : List ℕ) (D R : ℕ) → verdict bytes ≡ ok (flat D R)
    → (file : File) × (accepted bytes ≡ ok file) × ((work : ℕ) (args : List ℕ) (store : Store) (budget : ℕ) → start file work args store ≡ ok tt → Shallow D (answer_to bytes work args store budget))
flat_verdict bytes D R e =
    let v = verdict_shape bytes (flat D R) e in
    (v.0, v.1, λ work args store budget s. flat_answer bytes v.0 D R v.1 v.2 work args store budget s)
