-- The three demands, each held against the customer's sentence, over what `check` and `run` promise (`verdict_of`, `run_of`). Assumes nothing.
use Prim.Native.Nat.{ℕ, ◌≤◌}
use mathlib.Core.List.{List, []}
use mathlib.Core.Path.{◌≡◌, refl, sym, ap, ◌∙◌, subst}
use mathlib.Core.Logic.{◌⊎◌, ◌↔◌}
use native.Mathlib.Omega.{arith}
use lib.ListN.{length}
use Rattle.meaning.specs.Syntax.{File}
use Rattle.meaning.specs.Outcome.{Outcome, ok, refuse}
use Rattle.meaning.specs.Reading.{read}
use Rattle.meaning.specs.Verdict.{accepted}
use Rattle.meaning.specs.Plain.{Value, value, stop, evaluate}
use Rattle.meaning.specs.Machine.{Store, Answer, function_of}
use Rattle.meaning.specs.Decode.{plain, plain_args, mode_of}
use Rattle.meaning.specs.Start.{In, Reached, chosen, is_owned, start, answer_to}
use Rattle.meaning.specs.InPlace.{after, height, InPlace, value_word, begins, RunsInPlace}
use Rattle.meaning.specs.Answers.{said, verdict_of, number, wiped, answered, run_of, Ended, Verdict}
use Rattle.theory.proofs.Answered.{answer_ended, answer_store, answer_few}
use Rattle.theory.proofs.Flat.{flat_answer}
use Rattle.theory.proofs.EveryCall.{every_call}
use Rattle.theory.proofs.Judged.{unread, Judged, judged, verdict_few, flat_shape}
use Rattle.theory.proofs.GivesValue.{value_exactly, stop_exactly, ended_steps, never_deeper}
use Rattle.theory.proofs.StartCellsReached.{start_cells}
use Rattle.theory.proofs.RunsAsPlain.{runs_as_plain}
use Rattle.theory.proofs.InPlaceRun.{starts_in_place, value_in_place}
use Rattle.theory.proofs.Ends.{number_end, plainly, plainly_is, left_kept, left_wiped}
use Rattle.theory.proofs.SoundAnswers.{InTable, Refusal, SoundAnswer, sound_answer, begun, ran}

-- 1. "Each call is answered from document 01's table, for every file, argument list, store, work area and budget. A refusal leaves the store
-- untouched and the work area as the document says."
pub record AnswersAsTold (store : Store) (work : List ℕ) (r : Ended) : Type 0 where
  pub in_table : InTable (number r.answer.end)
  -- "1 to 24 leave the store as lent", "steps and frames are 0 in a refusal"
  pub store_kept : Refusal (number r.answer.end) → r.store ≡ store
  pub blank : Refusal (number r.answer.end) → (r.answer.value ≡ 0) × (r.answer.steps ≡ 0) × (r.answer.frames ≡ 0)
  -- "1 to 21 leave the work area as lent; every other end leaves its first 4,096 words zero and the rest untouched"
  pub work_kept : 1 ≤ number r.answer.end → number r.answer.end ≤ 21 → r.work ≡ work
  pub work_wiped : (number r.answer.end ≡ 0) ⊎ (22 ≤ number r.answer.end) → (4096 ≤ length work) × (r.work ≡ wiped 4096 work)
  -- "Fields with no meaning are 0"
  pub no_value : 1 ≤ number r.answer.end → r.answer.value ≡ 0
  pub no_place : (number r.answer.end ≡ 0) ⊎ ((20 ≤ number r.answer.end) × (number r.answer.end ≤ 24)) → r.answer.place ≡ 0

module _ (bytes args : List ℕ) (store : Store) (work : List ℕ) (budget : ℕ) where
  as_told : (a : Answer) → SoundAnswer bytes args store work budget a → AnswersAsTold store work (answered a work)
  as_told a s =
      let e = number_end a.answer in
      record {
        in_table = subst InTable (sym e) s.tabled;
        store_kept = λ h. (s.kept (subst Refusal e h)).0;
        blank = λ h. let k = s.kept (subst Refusal e h) in (k.1, k.2, k.3);
        work_kept = λ l m. left_kept a.answer work (subst (λ n. 1 ≤ n) e l) (subst (λ n. n ≤ 21) e m);
        work_wiped = λ h. let g = subst (λ n. (n ≡ 0) ⊎ (22 ≤ n)) e h in (s.room g, left_wiped a.answer work g);
        no_value = λ h. s.valueless (subst (λ n. 1 ≤ n) e h);
        no_place = λ h. s.placeless (subst (λ n. (n ≡ 0) ⊎ ((20 ≤ n) × (n ≤ 24))) e h);
      }

  pub demand_1 : AnswersAsTold store work (run_of bytes args store work budget)
  unfolding run_of
  demand_1 = as_told (answer_to bytes (length work) args store budget) (sound_answer bytes args store work budget)

-- every verdict is from the table too
pub demand_1_check : (bytes : List ℕ) → (said (verdict_of bytes)).number ≤ 12
demand_1_check bytes = go (read bytes) refl
  where
    go : (o : Outcome File) → read bytes ≡ o → (said (verdict_of bytes)).number ≤ 12
    go (ok file) e = verdict_few bytes file e
    go (refuse n p) e = let u = unread bytes n p e in omega (arith, ap (λ v. (said v).number) u.0, u.2)

-- 2. "A file of document 01's layout is accepted exactly when each of its functions can be derived by the FIP rules; otherwise the first fault
-- is named. A run gives a value exactly when working the functions out on plain trees gives it, with the same steps, within the budget and 32
-- frames." It ends in 31, 32, 33 or 34 exactly when they do, with the same steps, place and frames.
pub record RunsPlainly (file : File) (args : List ℕ) (store : Store) (budget : ℕ) (r : Ended) : Type 0 where
  -- the whole answer: number, value as a tree, steps, place and frames
  pub same : plainly file r ≡ evaluate file budget (plain_args file.constructors store (function_of file 0).parameters args)
  pub gives : (v : Value) (k g : ℕ) → (evaluate file budget (plain_args file.constructors store (function_of file 0).parameters args) ≡ value v k g)
      ↔ ((number r.answer.end ≡ 0) × (plain file.constructors r.store (mode_of (function_of file 0).result) r.answer.value ≡ v)
      × (r.answer.steps ≡ k) × (r.answer.frames ≡ g))
  pub stops : (n p k g : ℕ) → 1 ≤ n → (evaluate file budget (plain_args file.constructors store (function_of file 0).parameters args) ≡ stop n p k g)
      ↔ ((number r.answer.end ≡ n) × (r.answer.place ≡ p) × (r.answer.steps ≡ k) × (r.answer.frames ≡ g))
  pub within : (r.answer.steps ≤ budget) × (r.answer.frames ≤ 32)

pub record JudgesAndRuns (bytes : List ℕ) : Type 0 where
  pub other_layout : (n p : ℕ) → read bytes ≡ refuse n p → (verdict_of bytes ≡ Verdict.Refused n p) × (1 ≤ n) × (n ≤ 6)
  pub judges : (file : File) → read bytes ≡ ok file → Judged bytes file
  pub runs : (file : File) → accepted bytes ≡ ok file → (args : List ℕ) (store : Store) (work : List ℕ) (budget : ℕ) → start file (length work) args store ≡ ok tt
      → RunsPlainly file args store budget (run_of bytes args store work budget)

runs_plainly : (bytes : List ℕ) (file : File) → accepted bytes ≡ ok file → (args : List ℕ) (store : Store) (work : List ℕ) (budget : ℕ) → start file (length work) args store ≡ ok tt
    → RunsPlainly file args store budget (run_of bytes args store work budget)
unfolding run_of
runs_plainly bytes file e args store work budget s =
    let a : Answer = answer_to bytes (length work) args store budget in
    let p = runs_as_plain bytes file (length work) args store budget e s in
    let x = value_exactly file a (evaluate file budget (plain_args file.constructors store (function_of file 0).parameters args)) p in
    let y = stop_exactly file a (evaluate file budget (plain_args file.constructors store (function_of file 0).parameters args)) p in
    let q = number_end a.answer in
    record {
      same = plainly_is file a work ∙ p;
      gives = λ v k g. (λ h. let y = (x v k g).0 h in (q ∙ y.0, y.1, y.2, y.3), λ y. (x v k g).1 (sym q ∙ y.0, y.1, y.2, y.3));
      stops = λ n p k g l. (λ h. let z = (y n p k g l).0 h in (q ∙ z.0, z.1, z.2, z.3), λ z. (y n p k g l).1 (sym q ∙ z.0, z.1, z.2, z.3));
      within = (ended_steps (answer_ended bytes file (length work) args store budget e s), answer_few bytes file (length work) args store budget e s);
    }

pub demand_2 : (bytes : List ℕ) → JudgesAndRuns bytes
demand_2 bytes =
    record {
      other_layout = unread bytes;
      judges = judged bytes;
      runs = runs_plainly bytes;
    }

-- 3. "For an accepted file and a start that was not refused: after every step the cells reached from the owned slots of all frames (at the end,
-- from the value) together with the credits are exactly the cells reached from the owned arguments at the start, each once, and no other cell has
-- changed. A flat file of depth D never has more than D frames, so it never stops for want of one."
pub record StaysInPlace (bytes : List ℕ) (file : File) (args : List ℕ) (store : Store) (work : List ℕ) : Type 0 where
  pub in_place : RunsInPlace file args store
  -- "the cells reached from the owned arguments at the start"
  pub begins_with : (c : ℕ) → In c in_place.start ↔ Reached file.constructors store (chosen is_owned (function_of file 0).parameters args) c
  -- each budget leaves the store of the state after so many steps
  pub leaves : (budget : ℕ) → (run_of bytes args store work budget).store ≡ (after file budget (begins file args store)).store
  pub at_end : (budget : ℕ) → number (run_of bytes args store work budget).answer.end ≡ 0
      → InPlace file.constructors in_place.start store (run_of bytes args store work budget).store
      (value_word (function_of file 0).result (run_of bytes args store work budget).answer.value) []
  pub shallow : (D R : ℕ) → verdict_of bytes ≡ Verdict.Flat D R
      → ((n : ℕ) → height (after file n (begins file args store)) ≤ D)
      × ((budget : ℕ) → ((run_of bytes args store work budget).answer.frames ≤ D) × (number (run_of bytes args store work budget).answer.end ≡ 33 → ⊥))

pub demand_3 : (bytes : List ℕ) (file : File) → accepted bytes ≡ ok file → (args : List ℕ) (store : Store) (work : List ℕ) → start file (length work) args store ≡ ok tt
    → StaysInPlace bytes file args store work
unfolding run_of
demand_3 bytes file e args store work s =
    record {
      in_place = starts_in_place bytes file e (length work) args store s;
      begins_with = start_cells file (length work) args store s (starts_in_place bytes file e (length work) args store s);
      leaves = λ budget. answer_store bytes file (length work) args store budget e s;
      at_end = λ budget q. value_in_place bytes file e (length work) args store s budget (sym (number_end (answer_to bytes (length work) args store budget).answer) ∙ q);
      shallow = λ D R v.
          let f = flat_shape bytes file D R e v in (
            never_deeper bytes file D R e f (length work) args store s,
            λ budget.
                let g = flat_answer bytes file D R e f (length work) args store budget s in
                (g.0, λ q. g.1 (sym (number_end (answer_to bytes (length work) args store budget).answer) ∙ q)),
          );
    }

-- a call whose answer is no refusal has an accepted file and a start that was not refused, whatever the budget
pub not_refused : (bytes args : List ℕ) (store : Store) (work : List ℕ) (budget : ℕ)
    → (Refusal (number (run_of bytes args store work budget).answer.end) → ⊥) ↔ ((file : File) × (accepted bytes ≡ ok file) × (start file (length work) args store ≡ ok tt))
unfolding run_of
not_refused bytes args store work budget =
    let a : Answer = answer_to bytes (length work) args store budget in
    let q = number_end a.answer in (
      λ n. begun bytes args store work budget (every_call bytes (length work) args store budget) (λ r. n (subst Refusal (sym q) r)),
      λ f r. ran bytes args store work budget f.0 f.1 f.2 (subst Refusal q r),
    )
