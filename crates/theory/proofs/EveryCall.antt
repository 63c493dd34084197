-- The four ways in which a call of the running program is answered: the file is not read, its ownership is refused, its start is refused, or it
-- runs. Assumes nothing.
use Prim.Native.Nat.{ℕ, ◌≤◌}
use mathlib.Core.List.{List}
use mathlib.Core.Path.{◌≡◌, refl, sym, subst}
use mathlib.Core.Logic.{◌⊎◌, inl, inr}
use native.Mathlib.Omega.{arith}
use Rattle.meaning.specs.Syntax.{File}
use Rattle.meaning.specs.Outcome.{Outcome, ok, refuse, ◌>>=◌}
use Rattle.meaning.specs.Reading.{read}
use Rattle.meaning.specs.Ownership.{check_file}
use Rattle.meaning.specs.Verdict.{accepted}
use Rattle.meaning.specs.Machine.{Store, Answer, answers}
use Rattle.meaning.specs.Start.{start, answer_to}
use Rattle.meaning.specs.InPlace.{begins, Ended}
use Rattle.theory.proofs.Answered.{answer_ended}
use Rattle.theory.proofs.CheckRefusals.{read_refuses, check_refuses}
use Rattle.theory.proofs.StartExact.{start_answers}

-- a file is read and its ownership checked, or one of the two refuses
pub data Checked (bytes : List ℕ) : Outcome File → Type 0 where
  unread : {n p : ℕ} → read bytes ≡ refuse n p → 1 ≤ n → n ≤ 6 → Checked bytes (refuse n p)
  faulty : {n p : ℕ} (file : File) → read bytes ≡ ok file → check_file file ≡ refuse n p → 7 ≤ n → n ≤ 12 → Checked bytes (refuse n p)
  fine : {file : File} → read bytes ≡ ok file → check_file file ≡ ok tt → Checked bytes (ok file)

pub checked : (bytes : List ℕ) → Checked bytes (accepted bytes)
unfolding accepted
checked bytes = outer (read bytes) refl
  where
    inner : (file : File) (o : Outcome (Unit {0})) → read bytes ≡ ok file → check_file file ≡ o → Checked bytes (◌>>=◌ o (λ _. ok file))
    inner file (ok u) r e = Checked.fine r e
    inner file (refuse n p) r e = let b = check_refuses bytes file n p r e in Checked.faulty file r e b.0 b.1

    outer : (o : Outcome File) → read bytes ≡ o → Checked bytes (◌>>=◌ o (λ file. ◌>>=◌ (check_file file) (λ _. ok file)))
    outer (ok file) e = inner file (check_file file) e refl
    outer (refuse n p) e = let b = read_refuses bytes n p e in Checked.unread e b.0 b.1

module _ (bytes : List ℕ) (work : ℕ) (args : List ℕ) (store : Store) (budget : ℕ) where
  pub data Call : Answer → Type 0 where
    refused_file : {n p : ℕ} → accepted bytes ≡ refuse n p → 1 ≤ n → n ≤ 12 → Call (answers n 0 0 p 0 store)
    refused_start : {n : ℕ} (file : File) → accepted bytes ≡ ok file → start file work args store ≡ refuse n 0 → 20 ≤ n → n ≤ 24 → Call (answers n 0 0 0 0 store)
    runs : {a : Answer} (file : File) → accepted bytes ≡ ok file → start file work args store ≡ ok tt → Ended file budget (begins file args store) 0 1 a → Call a

  file_answer : (n p : ℕ) → accepted bytes ≡ refuse n p → answer_to bytes work args store budget ≡ answers n 0 0 p 0 store
  unfolding answer_to
  file_answer n p e = rw (e, answer_to)

  start_answer : (file : File) (n p : ℕ) → accepted bytes ≡ ok file → start file work args store ≡ refuse n p → answer_to bytes work args store budget ≡ answers n 0 0 p 0 store
  unfolding answer_to
  start_answer file n p e s = rw (e, s, answer_to)

  pub every_call : Call (answer_to bytes work args store budget)
  every_call = outer (accepted bytes) refl (checked bytes)
    where
      begun : (file : File) → accepted bytes ≡ ok file → (start file work args store ≡ ok tt) ⊎ ((n : ℕ) × (20 ≤ n) × (n ≤ 24) × (start file work args store ≡ refuse n 0))
          → Call (answer_to bytes work args store budget)
      begun file e (inl s) = Call.runs file e s (answer_ended bytes file work args store budget e s)
      begun file e (inr s) = subst Call (sym (start_answer file s.0 0 e s.3)) (Call.refused_start file e s.3 s.1 s.2)

      outer : (o : Outcome File) → accepted bytes ≡ o → Checked bytes o → Call (answer_to bytes work args store budget)
      outer (ok file) e c = begun file e (start_answers file work args store)
      outer (refuse n p) e (Checked.unread r l m) = subst Call (sym (file_answer n p e)) (Call.refused_file e l (omega arith))
      outer (refuse n p) e (Checked.faulty file r c l m) = subst Call (sym (file_answer n p e)) (Call.refused_file e (omega arith) m)
