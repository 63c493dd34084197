-- What the pass over the bodies and the calls come to: `judged_of` and `verdict_of`. Assumes nothing.
use Prim.Native.Nat.{ℕ}
use mathlib.Core.List.{List}
use mathlib.Core.Path.{◌≡◌, refl, sym, ap, ◌∙◌, subst}
use native.Mathlib.Omega.{arith}
use Rattle.standing.specs.declared.Table as code
use Rattle.checker.specs.Judging.{as_judged}
use mathlib.Core.Bool.{true, false}
use lib.Dec.{eqb}
use borrow.Author.Tests.{ne_eqb}
use Rattle.meaning.proofs.Told.{fault_at, by_number, fault_some}
use Rattle.meaning.specs.Syntax.{File}
use Rattle.meaning.specs.Outcome.{Outcome, ok, refuse}
use Rattle.meaning.specs.Reading.{read}
use Rattle.meaning.specs.Ownership.{check_file}
use Rattle.meaning.specs.Calls.{shape, judge}
use Rattle.meaning.specs.Verdict.{accepted}
use Rattle.meaning.specs.Verdict as checking
use Rattle.meaning.specs.Answers.{fault_number, told, verdict_of, Verdict}
use Rattle.theory.proofs.Taking.{refused}
use Rattle.theory.proofs.Refusals.{accepted_numbers}
use Rattle.standing.specs.Table.{Declared, table_of}
use Rattle.standing.proofs.Declaring.{read_declared}
use Rattle.std.specs.Prelude.{Result, Ok, Err}
use Rattle.meaning.specs.declared.Refusal.{Refusal}
use Rattle.checker.specs.Bodies.{Finished}
use Rattle.checker.specs.Square.{square_of}
use Rattle.checker.specs.Judging.{Judged, refusal, judged, judged_of, as_judged}
use Rattle.checker.proofs.bodies.Filing.{accepted_unread, accepted_read, accepted_fine}
use Rattle.checker.proofs.calls.Squares.{words_square}

judged_is : (f : List ℕ) (o : Outcome File) → accepted f ≡ o → judged o ≡ judged_of f
unfolding judged_of
judged_is f o e = sym (ap judged e)

told_refused : (f : List ℕ) (n p : ℕ) → accepted f ≡ refuse n p → Verdict.Refused n p ≡ verdict_of f
unfolding verdict_of checking.verdict
told_refused f n p e = rw (e, checking.verdict)

told_accepted : (f : List ℕ) (file : File) → accepted f ≡ ok file → told (ok (shape file)) ≡ verdict_of f
unfolding verdict_of checking.verdict
told_accepted f file e = rw (e, checking.verdict)

read_of : (f : List ℕ) (file : File) → accepted f ≡ ok file → read f ≡ ok file
unfolding accepted
read_of f file q = go (read f) refl
  where
    checked_of : (g : File) (o : Outcome (Unit {0})) → check_file g ≡ o → read f ≡ ok g → read f ≡ ok file
    checked_of g (ok u) c r = r ∙ sym (accepted_fine f g r c) ∙ q
    checked_of g (refuse m p) c r = absurd (refused (sym (accepted_read f g m p r c) ∙ q))

    go : (o : Outcome File) → read f ≡ o → read f ≡ ok file
    go (ok g) r = checked_of g (check_file g) refl r
    go (refuse m p) r = absurd (refused (sym (accepted_unread f m p r) ∙ q))

-- by what the pass over the bodies says
module _ (f d c : List ℕ) where
  pub refused_judged : (r : Refusal) → Finished f d c (Err r) → refusal (fault_number r.fault) r.place ≡ judged_of f
  refused_judged r F = judged_is f (refuse (fault_number r.fault) r.place) F.0

  pub fine_judged : Finished f d c (Ok tt) → record { number = 0; place = 0; table = d } ≡ judged_of f
  fine_judged F = ap (λ t. record { number = 0; place = 0; table = t }) F.2 ∙ judged_is f (ok F.0) F.1

  pub refused_told : (r : Refusal) → Finished f d c (Err r) → Verdict.Refused (fault_number r.fault) r.place ≡ verdict_of f
  refused_told r F = told_refused f (fault_number r.fault) r.place F.0

  pub words_told : Finished f d c (Ok tt) → {v : Verdict} → v ≡ told (ok (judge (square_of c))) → v ≡ verdict_of f
  unfolding shape
  words_told F e =
      e
      ∙ ap (λ s. told (ok (judge s))) (ap square_of F.3 ∙ words_square f F.0 (read_of f F.0 F.1))
      ∙ told_accepted f F.0 F.1

-- what an answer of `judged_of` says of the file
module _ (f : List ℕ) {j : Judged} (e : j ≡ judged_of f) where
  pub judged_refuses : (j.number ≡ 0 → ⊥) → accepted f ≡ refuse j.number j.place
  unfolding judged_of
  judged_refuses n = go (accepted f) refl
    where
      go : (o : Outcome File) → accepted f ≡ o → accepted f ≡ refuse j.number j.place
      go (ok file) q = absurd (n (ap (λ x. x.number) (e ∙ ap judged q)))
      go (refuse m p) q = let a : refusal m p ≡ j = sym (e ∙ ap judged q) in q ∙ (λ i. refuse (a i).number (a i).place)

  -- the tree of an accepted file
  pub record Accepts : Type 0 where
    pub file : File
    pub fine : accepted f ≡ ok file
    pub table : j.table ≡ table_of file

  pub judged_accepts : j.number ≡ 0 → Accepts
  unfolding judged_of
  judged_accepts z = go (accepted f) refl
    where
      go : (o : Outcome File) → accepted f ≡ o → Accepts
      go (ok file) q = record { file = file; fine = q; table = ap (λ x. x.table) (e ∙ ap judged q) }
      go (refuse m p) q =
          let a : j.number ≡ m = ap (λ x. x.number) (e ∙ ap judged q) in
          absurd (omega (arith, accepted_numbers f q))

  pub accepts_declared : (a : Accepts) → Declared a.file f j.table
  accepts_declared a = subst (λ t. Declared a.file f t) (sym a.table) (read_declared f a.file (read_of f a.file a.fine))

-- what was answered, by what is judged: so no two answers are judged alike
abbrev from_judged : Judged → Result code.Table Refusal
from_judged j = elim (eqb j.number 0) [ true ↦ Ok (record { words = j.table }) | false ↦ Err (record { fault = fault_at j.number; place = j.place }) ]

judged_back : (r : Result code.Table Refusal) → from_judged (as_judged r) ≡ r
judged_back (Ok t) = refl
judged_back (Err f) = rw (from_judged, ne_eqb (fault_number f.fault) 0 (fault_some f.fault)) (ap (λ x. Err (record { fault = x; place = f.place })) (by_number f.fault))

pub one_judged : (r s : Result code.Table Refusal) → as_judged r ≡ as_judged s → r ≡ s
one_judged r s e = sym (judged_back r) ∙ ap from_judged e ∙ judged_back s
