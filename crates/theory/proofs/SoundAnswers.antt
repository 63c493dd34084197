-- The machine's answer to a call, field by field: its number is in the table, and the fields with no meaning are 0. Assumes nothing.
use Prim.Native.Nat.{ℕ, ◌≤◌}
use mathlib.Core.List.{List}
use mathlib.Core.Path.{◌≡◌, refl, ap, ◌∙◌}
use mathlib.Core.Logic.{◌⊎◌, inl, inr, ⊎_elim}
use native.Mathlib.Omega.{arith}
use lib.ListN.{length}
use Rattle.meaning.specs.Syntax.{File}
use Rattle.meaning.specs.Outcome.{ok, refuse}
use Rattle.meaning.specs.Machine.{Store, Answer}
use Rattle.meaning.specs.Start.{start, answer_to}
use Rattle.meaning.specs.Verdict.{accepted}
use Rattle.meaning.specs.InPlace.{after, begins, Ended}
use Rattle.theory.proofs.Answered.{stuck_within, answer_ended}
use Rattle.theory.proofs.StartCounting.{same?}
use Rattle.theory.proofs.StartExact.{Unfit, fit, start_ok, start_22, start_23, start_24}
use Rattle.theory.proofs.EveryCall.{Call, every_call}

-- the numbers of document 01's table with 34, and those of the refusals
abbrev pub InTable : ℕ → Type 0
InTable n = (n ≤ 12) ⊎ (((20 ≤ n) × (n ≤ 24)) ⊎ ((31 ≤ n) × (n ≤ 34)))

abbrev pub Refusal : ℕ → Type 0
Refusal n = (1 ≤ n) × (n ≤ 24)

module _ (bytes args : List ℕ) (store : Store) (work : List ℕ) (budget : ℕ) where
  pub record SoundAnswer (a : Answer) : Type 0 where
    pub tabled : InTable a.answer
    pub kept : Refusal a.answer → (a.after ≡ store) × (a.value ≡ 0) × (a.steps ≡ 0) × (a.frames ≡ 0)
    pub room : (a.answer ≡ 0) ⊎ (22 ≤ a.answer) → 4096 ≤ length work
    pub valueless : 1 ≤ a.answer → a.value ≡ 0
    pub placeless : (a.answer ≡ 0) ⊎ ((20 ≤ a.answer) × (a.answer ≤ 24)) → a.place ≡ 0

  fits : (file : File) → (Unfit file (length work) args store → ⊥) → 4096 ≤ length work
  fits file n = (fit file (length work) args store n).room

  refused_room : (file : File) (n : ℕ) → start file (length work) args store ≡ refuse n 0 → 22 ≤ n → n ≤ 24 → 4096 ≤ length work
  refused_room file n s l m =
      ⊎_elim
      (λ (e : n ≡ 22). fits file ((start_22 file (length work) args store).0 (s ∙ ap (λ k. refuse k 0) e)).0)
      (λ (e : n ≡ 22 → ⊥).
      ⊎_elim
      (λ (f : n ≡ 23). fits file ((start_23 file (length work) args store).0 (s ∙ ap (λ k. refuse k 0) f)).0)
      (λ (f : n ≡ 23 → ⊥). let g : n ≡ 24 = omega (arith, e, f) in fits file ((start_24 file (length work) args store).0 (s ∙ ap (λ k. refuse k 0) g)).0)
      (same? n 23))
      (same? n 22)

  ended_sound : (file : File) {a : Answer} → start file (length work) args store ≡ ok tt → Ended file budget (begins file args store) 0 1 a → SoundAnswer a
  ended_sound file s (Ended.budget o) =
      record {
        tabled = inr (inr (omega arith, omega arith));
        kept = λ h. absurd (omega (arith, h.1));
        room = λ h. fits file ((start_ok file (length work) args store).0 s).0;
        valueless = λ h. refl;
        placeless = λ h. elim h [ inl e ↦ absurd (omega arith) | inr e ↦ absurd (omega (arith, e.1)) ];
      }
  ended_sound file s (Ended.value m l o f) =
      record {
        tabled = inl (omega arith);
        kept = λ h. absurd (omega (arith, h.0));
        room = λ h. fits file ((start_ok file (length work) args store).0 s).0;
        valueless = λ h. absurd (omega arith);
        placeless = λ h. refl;
      }
  ended_sound file s (Ended.stop {a = n} {p} m l o f) =
      let q = stuck_within file (after file m (begins file args store)) n p f in
      record {
        tabled = inr (inr q);
        kept = λ h. absurd (omega (arith, h.1, q.0));
        room = λ h. fits file ((start_ok file (length work) args store).0 s).0;
        valueless = λ h. refl;
        placeless = λ h. elim h [ inl e ↦ absurd (omega (arith, q.0)) | inr e ↦ absurd (omega (arith, e.1, q.0)) ];
      }

  call_sound : {a : Answer} → Call bytes (length work) args store budget a → SoundAnswer a
  call_sound (Call.refused_file {n} e l m) =
      record {
        tabled = inl m;
        kept = λ h. (refl, refl, refl, refl);
        room = λ h. elim h [ inl q ↦ absurd (omega arith) | inr q ↦ absurd (omega arith) ];
        valueless = λ h. refl;
        placeless = λ h. elim h [ inl q ↦ absurd (omega arith) | inr q ↦ absurd (omega (arith, q.0)) ];
      }
  call_sound (Call.refused_start {n} file e s l m) =
      record {
        tabled = inr (inl (l, m));
        kept = λ h. (refl, refl, refl, refl);
        room = λ h. elim h [ inl q ↦ absurd (omega arith) | inr q ↦ refused_room file n s q m ];
        valueless = λ h. refl;
        placeless = λ h. refl;
      }
  call_sound (Call.runs file e s d) = ended_sound file s d

  pub sound_answer : SoundAnswer (answer_to bytes (length work) args store budget)
  sound_answer = call_sound (every_call bytes (length work) args store budget)

  -- an answer that is no refusal
  pub begun : {a : Answer} → Call bytes (length work) args store budget a → (Refusal a.answer → ⊥)
      → (file : File) × (accepted bytes ≡ ok file) × (start file (length work) args store ≡ ok tt)
  begun (Call.refused_file e l m) n = absurd (n (l, omega arith))
  begun (Call.refused_start file e s l m) n = absurd (n (omega arith, m))
  begun (Call.runs file e s d) n = (file, e, s)

  ended_unrefused : {file : File} {a : Answer} → Ended file budget (begins file args store) 0 1 a → Refusal a.answer → ⊥
  ended_unrefused (Ended.budget o) r = omega (arith, r.1)
  ended_unrefused (Ended.value m l o f) r = omega (arith, r.0)
  ended_unrefused {file} (Ended.stop {a = n} {p} m l o f) r =
      omega (arith, r.1, (stuck_within file (after file m (begins file args store)) n p f).0)

  pub ran : (file : File) → accepted bytes ≡ ok file → start file (length work) args store ≡ ok tt → Refusal (answer_to bytes (length work) args store budget).answer → ⊥
  ran file e s r = ended_unrefused (answer_ended bytes file (length work) args store budget e s) r
