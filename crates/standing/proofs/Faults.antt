-- Where the ownership check refuses a file that stands in its bytes: within the file. Assumes nothing.
use Prim.Native.Nat.{ℕ, suc, ◌+◌, ◌≤◌, ◌<◌}
use mathlib.Core.Bool.{Bool, true, false, not, ◌&&◌, ◌||◌}
use mathlib.Core.List.{List, [], ◌∷◌, map}
use mathlib.Core.Option.{Option, none, some}
use mathlib.Core.Path.{◌≡◌}
use native.Mathlib.Omega.{arith}
use lib.ListN.{length, get_elem?, get_or}
use Rattle.meaning.specs.Syntax.{Sort, Mode, Signature, Term, Branches, Constructor, File}
use Rattle.meaning.specs.Outcome.{Outcome, ok, refuse, then, require, present}
use Rattle.meaning.specs.Machine.{function_of}
use Rattle.meaning.specs.Plain.{no_body}
use Rattle.meaning.specs.Ownership.{Kind, Slots, Want, fits, sized, spends, take, pass, member, done, want, bind, leftover, check, check_branches, check_bodies, check_file, same_sort, mode_owned, kind_owned, kind_of, bound_by_OP, bound_by_LK}
use Rattle.standing.specs.Stands.{Stands, Each}
use Rattle.standing.specs.Stands as Standing
use Rattle.standing.specs.Table.{Declared}

-- what was asked for, or a refusal at a place up to a limit
pub data Placed {A : Type 0} (limit : ℕ) : Outcome A → Type 0 where
  fine : {a : A} → Placed limit (ok a)
  off : {n p : ℕ} → p ≤ limit → Placed limit (refuse n p)

module _ (limit : ℕ) where
  on : {A B : Type 0} (o : Outcome A) (k : A → Outcome B) → Placed limit o → ((a : A) → Placed limit (k a)) → Placed limit (then o k)
  on (ok a) k h c = c a
  on (refuse n p) k (off l) c = off l

  require_placed : (n p : ℕ) (t : Bool) → p ≤ limit → Placed limit (require n p t)
  require_placed n p true l = fine
  require_placed n p false l = off l

  present_placed : {A : Type 0} (n p : ℕ) (o : Option A) → p ≤ limit → Placed limit (present n p o)
  present_placed n p none l = off l
  present_placed n p (some a) l = fine

  take_placed : (barred : Bool) (w : Want) (s p : ℕ) (slots : Slots) → p ≤ limit → Placed limit (take barred w s p slots)
  unfolding take
  take_placed barred w s p slots l =
      on (present 7 p (get_elem? slots s)) _ (present_placed 7 p (get_elem? slots s) l)
      (λ x. on (require 8 p (fits w x.kind)) _ (require_placed 8 p (fits w x.kind) l)
      (λ _. on (require 9 p (not (x.used || barred))) _ (require_placed 9 p (not (x.used || barred)) l)
      (λ _. on (require 10 p (sized w x.kind)) _ (require_placed 10 p (sized w x.kind) l) (λ _. fine))))

  pass_placed : (earlier : List ℕ) (ms : List Mode) (ss : List ℕ) (p : ℕ) (slots : Slots) → p + length ss ≤ limit → Placed limit (pass earlier ms ss p slots)
  unfolding pass
  pass_placed earlier [] [] p slots l = fine
  pass_placed earlier [] (s ∷ ss) p slots l = let h : p ≤ limit = omega arith in off h
  pass_placed earlier (m ∷ ms) [] p slots l = let h : p ≤ limit = omega arith in off h
  pass_placed earlier (m ∷ ms) (s ∷ ss) p slots l =
      on (take (spends (want m) && member s earlier) (want m) s p slots) _ (take_placed (spends (want m) && member s earlier) (want m) s p slots (omega arith))
      (λ slots'. pass_placed (s ∷ earlier) ms ss (suc p) slots' (omega arith))

  done_placed : (p : ℕ) (slots : Slots) → p ≤ limit → Placed limit (done p slots)
  done_placed p slots l = require_placed 11 p (not (leftover slots)) l

module _ (file : File) (bytes : List ℕ) (result : Sort) where
  abbrev cs : List Constructor
  cs = file.constructors

  abbrev fs : List Signature
  fs = file.functions

  abbrev Good : {A : Type 0} → Outcome A → Type 0
  Good o = Placed (length bytes) o

  mutual
    unfolding check check_branches

    check_placed : {k next : ℕ} {t : Term} → Stands file bytes k t next → (slots : Slots) → Good (check cs fs result t slots)
    check_placed (Standing.GV {p} {s} m l b e) slots =
        on (length bytes) (pass [] (mode_owned result ∷ []) (s ∷ []) (p + 2) slots) _ (pass_placed (length bytes) [] (mode_owned result ∷ []) (s ∷ []) (p + 2) slots (omega arith))
        (λ s'. done_placed (length bytes) p s' (omega arith))
    check_placed (Standing.AT {p} {t} m l b f e r) slots = check_placed r (bind slots (Kind.owned ∷ []))
    check_placed (Standing.MK {p} {c} {k} {ss} {t} m l b b' ls lt le f e r) slots =
        on (length bytes) (take false (Want.credit (length (get_or cs c []))) k (p + 3) slots) _ (take_placed (length bytes) false (Want.credit (length (get_or cs c []))) k (p + 3) slots (omega arith))
        (λ s₁. on (length bytes) (pass [] (map mode_owned (get_or cs c [])) ss (p + 4) s₁) _ (pass_placed (length bytes) [] (map mode_owned (get_or cs c [])) ss (p + 4) s₁ (omega arith))
        (λ s₂. check_placed r (bind s₂ (Kind.owned ∷ []))))
    check_placed (Standing.CL {p} {f} {ss} {t} m l b ls lt le q e r) slots =
        on (length bytes) (pass [] (function_of file f).parameters ss (p + 3) slots) _ (pass_placed (length bytes) [] (function_of file f).parameters ss (p + 3) slots (omega arith))
        (λ s'. check_placed r (bind s' (kind_owned (function_of file f).result ∷ [])))
    check_placed (Standing.TL {p} {f} {ss} m l b ls lt le e) slots =
        on (length bytes) (require 8 (p + 2) (same_sort (function_of file f).result result)) _
        (require_placed (length bytes) 8 (p + 2) (same_sort (function_of file f).result result) (omega arith))
        (λ _. on (length bytes) (pass [] (function_of file f).parameters ss (p + 3) slots) _ (pass_placed (length bytes) [] (function_of file f).parameters ss (p + 3) slots (omega arith))
        (λ s'. done_placed (length bytes) p s' (omega arith)))
    check_placed (Standing.OP {p} {s} {bs} m l b b' r) slots =
        on (length bytes) (take false Want.owned s (p + 2) slots) _ (take_placed (length bytes) false Want.owned s (p + 2) slots (omega arith)) (λ s'. branches_placed r bound_by_OP [] s')
    check_placed (Standing.LK {p} {s} {bs} m l b b' r) slots =
        on (length bytes) (take false Want.looked s (p + 2) slots) _ (take_placed (length bytes) false Want.looked s (p + 2) slots (omega arith)) (λ s'. branches_placed r bound_by_LK [] s')
    check_placed (Standing.NU {p} m l b f e r) slots = check_placed r (bind slots (Kind.number ∷ []))
    check_placed (Standing.AR {p} {o} {x} {y} m l b b' b'' f e r) slots =
        on (length bytes) (take false Want.number x (p + 3) slots) _ (take_placed (length bytes) false Want.number x (p + 3) slots (omega arith))
        (λ s₁. on (length bytes) (take false Want.number y (p + 4) s₁) _ (take_placed (length bytes) false Want.number y (p + 4) s₁ (omega arith)) (λ s₂. check_placed r (bind s₂ (Kind.number ∷ []))))
    check_placed (Standing.IF {p} {s} {t} {u} m l b e r e' r') slots =
        on (length bytes) (take false Want.number s (p + 2) slots) _ (take_placed (length bytes) false Want.number s (p + 2) slots (omega arith))
        (λ s'. on (length bytes) (check cs fs result t s') _ (check_placed r s') (λ _. check_placed r' s'))

    branches_placed : {k at next : ℕ} {extra : Constructor → ℕ} {bs : Branches} → Each file bytes k extra at bs next
        → (bound : Constructor → List Kind) (seen : List ℕ) (slots : Slots) → Good (check_branches cs fs result bs bound seen slots)
    branches_placed (Standing.end e) bound seen slots = fine
    branches_placed (Standing.BR {p} {c} {t} {bs} q m l b lt f e r rs) bound seen slots =
        on (length bytes) (require 12 (p + 2) (not (member c seen))) _ (require_placed (length bytes) 12 (p + 2) (not (member c seen)) (omega arith))
        (λ _. on (length bytes) (check cs fs result t (bind slots (bound (get_or cs c [])))) _ (check_placed r (bind slots (bound (get_or cs c []))))
        (λ _. branches_placed rs bound (c ∷ seen) slots))

-- every body
module _ (file : File) (bytes table : List ℕ) (D : Declared file bytes table) where
  bodies_placed : (fs : List Signature) (ts : List Term) → ((f : ℕ) → f < length ts → (k next : ℕ) × Stands file bytes k (get_or ts f no_body) next)
      → Placed (length bytes) (check_bodies file.constructors file.functions fs ts)
  unfolding check_bodies
  bodies_placed [] [] h = fine
  bodies_placed [] (t ∷ ts) h = let z : 0 ≤ length bytes = omega arith in off z
  bodies_placed (f ∷ fs) [] h = let z : 0 ≤ length bytes = omega arith in off z
  bodies_placed (f ∷ fs) (t ∷ ts) h =
      on (length bytes) (check file.constructors file.functions f.result t (bind [] (map kind_of f.parameters))) _
      (check_placed file bytes f.result (h 0 (omega arith)).2 (bind [] (map kind_of f.parameters)))
      (λ _. bodies_placed fs ts (λ i l. h (suc i) (omega arith)))

  -- a refusal's place
  refused_at : {n p : ℕ} {o : Outcome (Unit {0})} → Placed (length bytes) o → o ≡ refuse n p → p ≤ length bytes
  refused_at {n} {p} {o} (fine {a}) e = let z : ◌≡◌ {A = ℕ} 0 1 = cc in absurd (omega arith)
  refused_at {n} {p} {o} (off {n = m} {p = q} l) e = let z : q ≡ p = cc in omega arith

  pub check_file_inside : {n p : ℕ} → check_file file ≡ refuse n p → p ≤ length bytes
  unfolding check_file
  check_file_inside e =
      refused_at
      (bodies_placed file.functions file.bodies (λ f l. (length (function_of file f).parameters, D.ends f, D.stands f (omega (arith, D.many)))))
      e
