-- What the pieces of `run` come to together: what was judged, the sizes, the start and the steps give `run_of`. Assumes nothing.
use Rattle.std.proofs.Common.{◌≡◌, ℕ, ◌+◌, ◌-◌, ◌/◌, ◌%◌, ◌<◌, ◌≤◌, Bool, true, false, eqb, ltb, ◌⊎◌, List, ◌++◌, length, get_or, drop, replicate, sym, refl, ap, ◌∙◌, subst, inl, inr, ⊎_elim, arith, ltb-false, ltb-true, eqb-true, Result, Ok, Err}
use borrow.Author.Tests.{eqb-false}
use Rattle.meaning.specs.Choice.{pick}
use Rattle.meaning.specs.Syntax.{File}
use Rattle.meaning.specs.Outcome.{Outcome, ok, refuse}
use Rattle.meaning.specs.Machine.{function_of, run}
use Rattle.meaning.specs.InPlace.{begins}
use Rattle.meaning.specs.Start.{start}
use Rattle.meaning.specs.declared.Fault.{Fault}
use Rattle.meaning.specs.declared.Refusal.{Refusal}
use Rattle.meaning.specs.Answers.{number, end_of, as_end, value_of, as_answer, fault_number, wiped, ended, run_of}
use Rattle.theory.proofs.Taking.{refused}
use Rattle.theory.proofs.Started.{accepted_started}
use Rattle.theory.proofs.StartExact.{Unfit, start_20, start_21, start_answers}
use Rattle.theory.proofs.Running.{refusal, stepped, refused_file, refused_size, refused_start, executed}
use Rattle.standing.specs.Bytes.{params_in}
use Rattle.standing.specs.Table.{Declared}
use Rattle.meaning.specs.declared.RunEnd.{RunEnd}
use Rattle.meaning.specs.declared.Ran.{Ran}
use Rattle.machine.specs.StartArea.{outcome, cleared}
use Rattle.machine.specs.Represents.{Begun}
use Rattle.machine.specs.Steps.{answer_of}
use Rattle.standing.specs.declared.Table.{Table}
use Rattle.checker.specs.Judging.{as_judged, judged_of}
use Rattle.checker.proofs.Joining.{Accepts, judged_refuses, judged_accepts, accepts_declared}
use Rattle.meaning.proofs.Told.{fault_some}
use Rattle.machine.specs.Running.{unfit_of, Opened}
use Rattle.machine.proofs.start.Cleared.{cleared_length, cleared_zero, wiped_cleared}

-- lists that are alike behind
wiped_alike : (n : ℕ) (a b : List ℕ) → drop n a ≡ drop n b → wiped n a ≡ wiped n b
unfolding wiped
wiped_alike n a b e = ap (λ d. replicate n 0 ++ d) e

same_number : {n m p q : ℕ} → ◌≡◌ {A = Outcome (Unit {0})} (refuse n p) (refuse m q) → n ≡ m
same_number e = cc

-- the end of a run, by its number
end_back : (e : RunEnd) → as_end e ≡ end_of (number (as_end e))
unfolding end_of pick
end_back (RunEnd.Done v) = refl
end_back RunEnd.NoBranch = refl
end_back RunEnd.BudgetSpent = refl
end_back RunEnd.NoFrame = refl
end_back RunEnd.OutOfRange = refl

made_stepped : (r : Ran) (store : List ℕ) → as_answer (Ok r) ≡ stepped (answer_of r store)
made_stepped r store = λ i. record { end = end_back r.end i; value = value_of r.end; steps = r.steps; place = r.place; frames = r.frames }

module _ {bytes decl args store work : List ℕ} (o : Opened bytes decl args store work) where
  abbrev Meant : Result (Unit {0}) Fault → Type 0
  Meant r = (tree : File) → Declared tree bytes decl → outcome r ≡ start tree (length work) args store

  counted : length args ≡ length (function_of o.file 0).parameters
  counted = o.many ∙ o.declared.parameters 0 o.declared.first

  fits : Unfit o.file (length work) args store → ⊥
  fits (inl h) = h o.whole
  fits (inr (inl h)) = omega (arith, o.few)
  fits (inr (inr h)) = omega (arith, o.room)

  -- the start's answer is 22 to 24 where it refuses
  late : (n : ℕ) → start o.file (length work) args store ≡ refuse n 0 → (22 ≤ n) × (n ≤ 24)
  late n s =
      ⊎_elim
      (λ (h : start o.file (length work) args store ≡ ok tt). absurd (refused (sym s ∙ h)))
      (λ (h : (m : ℕ) × (20 ≤ m) × (m ≤ 24) × (start o.file (length work) args store ≡ refuse m 0)).
      let e = same_number (sym s ∙ h.3) in (later e h.1, omega (arith, e, h.2)))
      (start_answers o.file (length work) args store)
    where
      later : {m : ℕ} → n ≡ m → 20 ≤ m → 22 ≤ n
      later {m} e l =
          let a : n ≡ 20 → ⊥ = λ z. fits ((start_20 o.file (length work) args store).0 (subst (λ k. start o.file (length work) args store ≡ refuse k 0) z s)) in
          let b : n ≡ 21 → ⊥ = λ z. ((start_21 o.file (length work) args store).0 (subst (λ k. start o.file (length work) args store ≡ refuse k 0) z s)).1 counted in
          omega (arith, a, b)

  pub begin_refused : (budget : ℕ) (w₁ : List ℕ) (f : Fault) {w : List ℕ} → Meant (Err f) → wiped 4096 w₁ ≡ wiped 4096 work → w ≡ wiped 4096 w₁
      → ended (refusal (fault_number f) 0) store w ≡ run_of bytes args store work budget
  begin_refused budget w₁ f m k p =
      let n = fault_number f in
      let q = p ∙ k in
      let s : start o.file (length work) args store ≡ refuse n 0 = sym (m o.file o.declared) in
      let b = late n s in
      (λ i. ended (refusal n 0) store (q i)) ∙ refused_start bytes args store work budget o.file n b.0 b.1 o.accepts s

  starts : Meant (Ok tt) → start o.file (length work) args store ≡ ok tt
  starts m = sym (m o.file o.declared)

  -- the words that keep the ends of terms
  abbrev ends : ℕ
  ends = length bytes / 2 + 1

  pub ends_fit : 1088 + (length bytes / 2 + 1) ≤ 4096
  ends_fit = omega (arith, o.declared.size)

  pub begin_begun : (w₁ : List ℕ) {w : List ℕ} → Meant (Ok tt) → length w₁ ≡ length work → w ≡ cleared 1088 (length bytes / 2 + 1) w₁ → Begun bytes decl args store w
  begin_begun w₁ m l q =
      record {
        file = o.file;
        declared = o.declared;
        accepts = o.accepts;
        many = counted;
        started = accepted_started bytes o.file o.accepts (length work) args store (starts m);
        room = subst (λ x. 4096 ≤ length x) (sym q) (omega (arith, o.room, l, cleared_length 1088 ends w₁));
        clear = λ i a b.
            (let e : 1088 + (i - 1088) ≡ i = omega arith in
            ap (λ x. get_or x i 0) q ∙ ap (λ j. get_or (cleared 1088 ends w₁) j 0) (sym e) ∙ cleared_zero 1088 ends w₁ (i - 1088) (omega (arith, o.room, l, ends_fit)) (omega arith));
      }

  pub begin_ran : (budget : ℕ) (w₁ w₂ : List ℕ) (r : Ran) {w w₃ store' : List ℕ} → Meant (Ok tt)
      → length w₁ ≡ length work → wiped 4096 w₁ ≡ wiped 4096 work → w ≡ cleared 1088 (length bytes / 2 + 1) w₁
      → ((b : Begun bytes decl args store w) → answer_of r store' ≡ run b.file budget (begins b.file args store) 0 1)
      → drop 4096 w₂ ≡ drop 4096 w → w₃ ≡ wiped 4096 w₂ → ended (as_answer (Ok r)) store' w₃ ≡ run_of bytes args store work budget
  unfolding begin_begun
  begin_ran budget w₁ w₂ r {w = w} {w₃ = w₃} {store' = store'} m k v q runs d e =
      let same : w₃ ≡ wiped 4096 work = e ∙ wiped_alike 4096 w₂ w d ∙ ap (wiped 4096) q ∙ wiped_cleared 1088 ends w₁ ends_fit ∙ v in
      let ran : answer_of r store' ≡ run o.file budget (begins o.file args store) 0 1 = runs (begin_begun w₁ m k q) in
      (λ i. ended (made_stepped r store' i) store' (same i)) ∙ executed bytes args store work budget o.file o.accepts (starts m) (answer_of r store') ran

-- the sizes, by the test
fitting : (s w : ℕ) → unfit_of s w ≡ false → (s % 5 ≡ 0) × (s ≤ 5120) × (4096 ≤ w)
unfolding unfit_of pick
fitting s w e = first (eqb (s % 5) 0) refl e
  where
    second : s % 5 ≡ 0 → (b : Bool) → ltb 5120 s ≡ b → pick b true (ltb w 4096) ≡ false → (s % 5 ≡ 0) × (s ≤ 5120) × (4096 ≤ w)
    second z true q h = let y : ◌≡◌ {A = ℕ} 0 1 = cc in absurd (omega arith)
    second z false q h = (z, ltb-false 5120 s q, ltb-false w 4096 h)

    first : (b : Bool) → eqb (s % 5) 0 ≡ b → pick b (pick (ltb 5120 s) true (ltb w 4096)) true ≡ false → (s % 5 ≡ 0) × (s ≤ 5120) × (4096 ≤ w)
    first true q h = second (eqb-true (s % 5) 0 q) (ltb 5120 s) refl h
    first false q h = let y : ◌≡◌ {A = ℕ} 0 1 = cc in absurd (omega arith)

unfitting : (s w : ℕ) → unfit_of s w ≡ true → (s % 5 ≡ 0 → ⊥) ⊎ ((5120 < s) ⊎ (w < 4096))
unfolding unfit_of pick
unfitting s w e = first (eqb (s % 5) 0) refl e
  where
    second : (b : Bool) → ltb 5120 s ≡ b → pick b true (ltb w 4096) ≡ true → (s % 5 ≡ 0 → ⊥) ⊎ ((5120 < s) ⊎ (w < 4096))
    second true q h = inr (inl (ltb-true 5120 s q))
    second false q h = inr (inr (ltb-true w 4096 h))

    first : (b : Bool) → eqb (s % 5) 0 ≡ b → pick b (pick (ltb 5120 s) true (ltb w 4096)) true ≡ true → (s % 5 ≡ 0 → ⊥) ⊎ ((5120 < s) ⊎ (w < 4096))
    first true q h = second (ltb 5120 s) refl h
    first false q h = inl (eqb-false (s % 5) 0 q)

-- the whole call, by what was judged
module _ (bytes args store work : List ℕ) (budget : ℕ) where
  pub run_refused : (f : Refusal) → as_judged (Err f) ≡ judged_of bytes → ended (refusal (fault_number f.fault) f.place) store work ≡ run_of bytes args store work budget
  run_refused f e = refused_file bytes args store work budget (fault_number f.fault) f.place (judged_refuses bytes e (fault_some f.fault))

  module _ (table : Table) (e : as_judged (Ok table) ≡ judged_of bytes) where
    -- the accepted file
    tree : Accepts bytes e
    tree = judged_accepts bytes e refl

    declares : Declared tree.file bytes table.words
    declares = accepts_declared bytes e tree

    pub run_unfit : unfit_of (length store) (length work) ≡ true → ended (refusal 20 0) store work ≡ run_of bytes args store work budget
    run_unfit s =
        refused_size bytes args store work budget tree.file 20 (omega arith) (omega arith) tree.fine
        ((start_20 tree.file (length work) args store).1 (unfitting (length store) (length work) s))

    pub run_miscounted : unfit_of (length store) (length work) ≡ false → (length args ≡ params_in table.words 0 → ⊥) → ended (refusal 21 0) store work ≡ run_of bytes args store work budget
    run_miscounted s n =
        let f = fitting (length store) (length work) s in
        refused_size bytes args store work budget tree.file 21 (omega arith) (omega arith) tree.fine
        ((start_21 tree.file (length work) args store).1 (fit f, λ m. n (m ∙ sym (declares.parameters 0 declares.first))))
      where
        fit : (length store % 5 ≡ 0) × (length store ≤ 5120) × (4096 ≤ length work) → Unfit tree.file (length work) args store → ⊥
        fit f (inl h) = h f.0
        fit f (inr (inl h)) = omega (arith, f.1)
        fit f (inr (inr h)) = omega (arith, f.2)

    pub run_opened : unfit_of (length store) (length work) ≡ false → length args ≡ params_in table.words 0 → Opened bytes table.words args store work
    run_opened s m =
        let f = fitting (length store) (length work) s in
        record { file = tree.file; accepts = tree.fine; declared = declares; whole = f.0; few = f.1; room = f.2; many = m }
