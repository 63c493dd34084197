-- The verdict on a file that was read: flat, stacked or refused exactly as the derivation rules and the walks of calls say. Assumes nothing.
use Prim.Native.Nat.{ℕ, ◌≤◌}
use mathlib.Core.List.{List}
use mathlib.Core.Path.{◌≡◌, refl, sym, ap, ◌∙◌}
use mathlib.Core.Logic.{◌↔◌}
use native.Mathlib.Omega.{arith}
use Rattle.meaning.specs.Syntax.{File}
use Rattle.meaning.specs.Outcome.{Outcome, ok, refuse}
use Rattle.meaning.specs.Reading.{read}
use Rattle.meaning.specs.Ownership.{check_file}
use Rattle.meaning.specs.Derivation.{Derivable}
use Rattle.meaning.specs.Calls.{square, Flat, IsDepth, IsReached, Shape, flat, stacked, shape}
use Rattle.meaning.specs.Verdict.{accepted}
use Rattle.meaning.specs.Verdict as checking
use Rattle.meaning.specs.Answers.{said, told, verdict_of, Verdict}
use Rattle.theory.proofs.Taking.{refused}
use Rattle.theory.proofs.Agree.{agreement}
use Rattle.theory.proofs.Shapes.{shape_flat, shape_stacked}
use Rattle.theory.proofs.CheckRefusals.{read_refuses, check_refuses}

-- the verdict by the two steps
verdict_read : (bytes : List ℕ) (file : File) → read bytes ≡ ok file → check_file file ≡ ok tt → verdict_of bytes ≡ told (ok (shape file))
unfolding verdict_of checking.verdict accepted
verdict_read bytes file r c = rw (r, c, accepted, checking.verdict)

verdict_faulty : (bytes : List ℕ) (file : File) (n p : ℕ) → read bytes ≡ ok file → check_file file ≡ refuse n p → verdict_of bytes ≡ Verdict.Refused n p
unfolding verdict_of checking.verdict accepted
verdict_faulty bytes file n p r c = rw (r, c, accepted, checking.verdict)

verdict_unread : (bytes : List ℕ) (n p : ℕ) → read bytes ≡ refuse n p → verdict_of bytes ≡ Verdict.Refused n p
unfolding verdict_of checking.verdict accepted
verdict_unread bytes n p r = rw (r, accepted, checking.verdict)

-- what a file of another layout is answered
pub unread : (bytes : List ℕ) (n p : ℕ) → read bytes ≡ refuse n p → (verdict_of bytes ≡ Verdict.Refused n p) × (1 ≤ n) × (n ≤ 6)
unread bytes n p e = let b = read_refuses bytes n p e in (verdict_unread bytes n p e, b.0, b.1)

pub record Judged (bytes : List ℕ) (file : File) : Type 0 where
  pub accepts : ((said (verdict_of bytes)).number ≡ 0) ↔ Derivable file
  pub is_flat : (D R : ℕ) → (verdict_of bytes ≡ Verdict.Flat D R) ↔ (Derivable file × (Flat (square file) × IsDepth (square file) D × IsReached (square file) R))
  pub is_stacked : (R : ℕ) → (verdict_of bytes ≡ Verdict.Stacked R) ↔ (Derivable file × ((Flat (square file) → ⊥) × IsReached (square file) R))
  pub names : (Derivable file → ⊥) → (n p : ℕ) × (7 ≤ n) × (n ≤ 12) × (check_file file ≡ refuse n p) × (verdict_of bytes ≡ Verdict.Refused n p)

-- verdicts are different
abbrev sort_of : Verdict → ℕ
sort_of (Verdict.Flat d r) = 0
sort_of (Verdict.Stacked r) = 1
sort_of (Verdict.Refused n p) = 2

told_number : (s : Shape) → (said (told (ok s))).number ≡ 0
told_number (flat d r) = refl
told_number (stacked r) = refl

told_flat : (s : Shape) (D R : ℕ) → told (ok s) ≡ Verdict.Flat D R → s ≡ flat D R
told_flat (flat d r) D R e = let p : d ≡ D = ap (λ v. (said v).depth) e in let q : r ≡ R = ap (λ v. (said v).reached) e in λ i. flat (p i) (q i)
told_flat (stacked r) D R e = absurd (omega (arith, ap sort_of e))

told_stacked : (s : Shape) (R : ℕ) → told (ok s) ≡ Verdict.Stacked R → s ≡ stacked R
told_stacked (flat d r) R e = absurd (omega (arith, ap sort_of e))
told_stacked (stacked r) R e = ap stacked (ap (λ v. (said v).reached) e)

accepted_judged : (bytes : List ℕ) (file : File) → read bytes ≡ ok file → check_file file ≡ ok tt → Judged bytes file
accepted_judged bytes file r c =
    let d : Derivable file = (agreement file).0 c in
    let v = verdict_read bytes file r c in
    record {
      accepts = (λ _. d, λ _. ap (λ x. (said x).number) v ∙ told_number (shape file));
      is_flat = λ D R. (λ e. (d, (shape_flat file D R).0 (told_flat (shape file) D R (sym v ∙ e))), λ p. v ∙ ap (λ s. told (ok s)) ((shape_flat file D R).1 p.1));
      is_stacked = λ R. (λ e. (d, (shape_stacked file R).0 (told_stacked (shape file) R (sym v ∙ e))), λ p. v ∙ ap (λ s. told (ok s)) ((shape_stacked file R).1 p.1));
      names = λ n. absurd (n d);
    }

refused_judged : (bytes : List ℕ) (file : File) (n p : ℕ) → read bytes ≡ ok file → check_file file ≡ refuse n p → Judged bytes file
refused_judged bytes file n p r c =
    let b = check_refuses bytes file n p r c in
    let v = verdict_faulty bytes file n p r c in
    let no : Derivable file → ⊥ = λ d. refused (sym c ∙ (agreement file).1 d) in
    record {
      accepts = (λ e. absurd (omega (arith, b.0, ap (λ x. (said x).number) v)), λ d. absurd (no d));
      is_flat = λ D R. (λ e. absurd (omega (arith, ap sort_of (sym v ∙ e))), λ q. absurd (no q.0));
      is_stacked = λ R. (λ e. absurd (omega (arith, ap sort_of (sym v ∙ e))), λ q. absurd (no q.0));
      names = λ _. (n, p, b.0, b.1, c, v);
    }

pub judged : (bytes : List ℕ) (file : File) → read bytes ≡ ok file → Judged bytes file
judged bytes file r = go (check_file file) refl
  where
    go : (o : Outcome (Unit {0})) → check_file file ≡ o → Judged bytes file
    go (ok u) c = accepted_judged bytes file r c
    go (refuse n p) c = refused_judged bytes file n p r c

-- the shape of a flat file
verdict_accepted : (bytes : List ℕ) (file : File) → accepted bytes ≡ ok file → verdict_of bytes ≡ told (ok (shape file))
unfolding verdict_of checking.verdict
verdict_accepted bytes file e = rw (e, checking.verdict)

pub flat_shape : (bytes : List ℕ) (file : File) (D R : ℕ) → accepted bytes ≡ ok file → verdict_of bytes ≡ Verdict.Flat D R → shape file ≡ flat D R
flat_shape bytes file D R a v = told_flat (shape file) D R (sym (verdict_accepted bytes file a) ∙ v)

-- a verdict on a file that was read
pub verdict_few : (bytes : List ℕ) (file : File) → read bytes ≡ ok file → (said (verdict_of bytes)).number ≤ 12
verdict_few bytes file r = go (check_file file) refl
  where
    go : (o : Outcome (Unit {0})) → check_file file ≡ o → (said (verdict_of bytes)).number ≤ 12
    go (ok u) c = omega (arith, ap (λ v. (said v).number) (verdict_read bytes file r c), told_number (shape file))
    go (refuse n p) c = omega (arith, ap (λ v. (said v).number) (verdict_faulty bytes file n p r c), (check_refuses bytes file n p r c).1)
