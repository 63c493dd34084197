-- The answers of the checker by their numbers: reading refuses by 1 to 6, and the ownership check of a file that was read by 7 to 12.
-- Assumes nothing.
use Prim.Native.Nat.{ℕ, suc, ◌+◌, ◌≤◌}
use mathlib.Core.Bool.{Bool, true, false, not, ◌&&◌, ◌||◌}
use mathlib.Core.List.{List, [], ◌∷◌, map}
use mathlib.Core.Option.{Option, none, some}
use mathlib.Core.Path.{◌≡◌, refl, sym, ap, ◌∙◌, subst}
use native.Mathlib.Omega.{arith}
use lib.ListN.{length, get_or, get_elem?}
use Rattle.meaning.specs.Syntax.{Sort, Mode, Signature, Term, Branches, Constructor, File}
use Rattle.meaning.specs.Syntax as S
use Rattle.meaning.specs.Outcome.{ok, refuse, require, present}
use Rattle.meaning.specs.Reading.{read}
use Rattle.meaning.specs.Ownership.{Kind, Slots, bind, Want, want, fits, sized, spends, take, pass, member, leftover, done, check, check_branches, check_bodies, check_file, kind_owned, kind_of, mode_owned, bound_by_OP, bound_by_LK, same_sort, no_function}
use Rattle.theory.proofs.ReadTold.{Told, follow, Always, Fits, AllFit, BodiesFit, Shaped, read_told}

-- the ownership check
require_told : (n p : ℕ) (t : Bool) → 7 ≤ n → n ≤ 12 → Told 7 12 Always (require n p t)
require_told n p true l m = Told.good tt
require_told n p false l m = Told.bad l m

present_told : {A : Type 0} (p : ℕ) (o : Option A) → Told 7 12 Always (present 7 p o)
present_told p none = Told.bad {n = 7} (omega arith) (omega arith)
present_told p (some a) = Told.good tt

take_told : (b : Bool) (w : Want) (s p : ℕ) (slots : Slots) → Told 7 12 Always (take b w s p slots)
unfolding take
take_told b w s p slots =
    follow (present 7 p (get_elem? slots s)) _ (present_told p (get_elem? slots s)) (λ x _.
    follow (require 8 p (fits w x.kind)) _ (require_told 8 p (fits w x.kind) (omega arith) (omega arith)) (λ _ _.
    follow (require 9 p (not (x.used || b))) _ (require_told 9 p (not (x.used || b)) (omega arith) (omega arith)) (λ _ _.
    follow (require 10 p (sized w x.kind)) _ (require_told 10 p (sized w x.kind) (omega arith) (omega arith)) (λ _ _. Told.good tt))))

pass_told : (earlier : List ℕ) (ms : List Mode) (ss : List ℕ) (p : ℕ) (slots : Slots) → length ss ≡ length ms → Told 7 12 Always (pass earlier ms ss p slots)
unfolding pass
pass_told earlier [] [] p slots e = Told.good tt
pass_told earlier [] (s ∷ ss) p slots e = absurd (omega arith)
pass_told earlier (m ∷ ms) [] p slots e = absurd (omega arith)
pass_told earlier (m ∷ ms) (s ∷ ss) p slots e =
    follow (take (spends (want m) && member s earlier) (want m) s p slots) _ (take_told (spends (want m) && member s earlier) (want m) s p slots)
    (λ slots' _. pass_told (s ∷ earlier) ms ss (suc p) slots' (omega arith))

done_told : (p : ℕ) (slots : Slots) → Told 7 12 Always (done p slots)
done_told p slots = require_told 11 p (not (leftover slots)) (omega arith) (omega arith)

length_map : (ss : Constructor) → length (map mode_owned ss) ≡ length ss
length_map [] = refl
length_map (s ∷ ss) = ap suc (length_map ss)

module _ (cs : List Constructor) (fs : List Signature) (result : Sort) where
  abbrev function : ℕ → Signature
  function f = get_or fs f no_function

  mutual
    unfolding check

    check_told : (t : Term) (slots : Slots) → Fits cs fs t → Told 7 12 Always (check cs fs result t slots)
    check_told (S.GV p s) slots h =
        follow (pass [] (mode_owned result ∷ []) (s ∷ []) (p + 2) slots) _ (pass_told [] (mode_owned result ∷ []) (s ∷ []) (p + 2) slots refl) (λ x _. done_told p x)
    check_told (S.AT p c t) slots h = check_told t (bind slots (Kind.owned ∷ [])) h
    check_told (S.MK p c k ss t) slots h =
        follow (take false (Want.credit (length (get_or cs c []))) k (p + 3) slots) _ (take_told false (Want.credit (length (get_or cs c []))) k (p + 3) slots) (λ x _.
        follow (pass [] (map mode_owned (get_or cs c [])) ss (p + 4) x) _ (pass_told [] (map mode_owned (get_or cs c [])) ss (p + 4) x (h.0 ∙ sym (length_map (get_or cs c [])))) (λ y _.
        check_told t (bind y (Kind.owned ∷ [])) h.1))
    check_told (S.CL p f ss t) slots h =
        follow (pass [] (function f).parameters ss (p + 3) slots) _ (pass_told [] (function f).parameters ss (p + 3) slots h.0) (λ x _.
        check_told t (bind x (kind_owned (function f).result ∷ [])) h.1)
    check_told (S.TL p f ss) slots h =
        follow (require 8 (p + 2) (same_sort (function f).result result)) _ (require_told 8 (p + 2) (same_sort (function f).result result) (omega arith) (omega arith)) (λ _ _.
        follow (pass [] (function f).parameters ss (p + 3) slots) _ (pass_told [] (function f).parameters ss (p + 3) slots h) (λ x _. done_told p x))
    check_told (S.OP p s bs) slots h =
        follow (take false Want.owned s (p + 2) slots) _ (take_told false Want.owned s (p + 2) slots) (λ x _. branches_told bs bound_by_OP [] x h)
    check_told (S.LK p s bs) slots h =
        follow (take false Want.looked s (p + 2) slots) _ (take_told false Want.looked s (p + 2) slots) (λ x _. branches_told bs bound_by_LK [] x h)
    check_told (S.NU p n t) slots h = check_told t (bind slots (Kind.number ∷ [])) h
    check_told (S.AR p o x y t) slots h =
        follow (take false Want.number x (p + 3) slots) _ (take_told false Want.number x (p + 3) slots) (λ a _.
        follow (take false Want.number y (p + 4) a) _ (take_told false Want.number y (p + 4) a) (λ b _. check_told t (bind b (Kind.number ∷ [])) h))
    check_told (S.IF p s t u) slots h =
        follow (take false Want.number s (p + 2) slots) _ (take_told false Want.number s (p + 2) slots) (λ a _.
        follow (check cs fs result t a) _ (check_told t a h.0) (λ _ _. check_told u a h.1))

    branches_told : (bs : Branches) (bound : Constructor → List Kind) (seen : List ℕ) (slots : Slots) → AllFit cs fs bs → Told 7 12 Always (check_branches cs fs result bs bound seen slots)
    branches_told S.end bound seen slots h = Told.good tt
    branches_told (S.BR p c t bs) bound seen slots h =
        follow (require 12 (p + 2) (not (member c seen))) _ (require_told 12 (p + 2) (not (member c seen)) (omega arith) (omega arith)) (λ _ _.
        follow (check cs fs result t (bind slots (bound (get_or cs c [])))) _ (check_told t (bind slots (bound (get_or cs c []))) h.0) (λ _ _.
        branches_told bs bound (c ∷ seen) slots h.1))

bodies_told : (cs : List Constructor) (fs gs : List Signature) (ts : List Term) → BodiesFit cs fs gs ts → Told 7 12 Always (check_bodies cs fs gs ts)
unfolding check_bodies
bodies_told cs fs [] [] h = Told.good tt
bodies_told cs fs [] (t ∷ ts) h = absurd h
bodies_told cs fs (g ∷ gs) [] h = absurd h
bodies_told cs fs (g ∷ gs) (t ∷ ts) h =
    follow (check cs fs g.result t (bind [] (map kind_of g.parameters))) _ (check_told cs fs g.result t (bind [] (map kind_of g.parameters)) h.0) (λ _ _. bodies_told cs fs gs ts h.1)

pub check_file_told : (file : File) → Shaped file → Told 7 12 Always (check_file file)
unfolding check_file
check_file_told file h = bodies_told file.constructors file.functions file.functions file.bodies h

-- the two in words
pub read_refuses : (bytes : List ℕ) (n p : ℕ) → read bytes ≡ refuse n p → (1 ≤ n) × (n ≤ 6)
read_refuses bytes n p e = number_of (subst (λ o. Told 1 6 Shaped o) e (read_told bytes))
  where
    number_of : {n p : ℕ} → Told 1 6 Shaped (refuse n p) → (1 ≤ n) × (n ≤ 6)
    number_of (Told.bad l m) = (l, m)

pub read_shaped : (bytes : List ℕ) (file : File) → read bytes ≡ ok file → Shaped file
read_shaped bytes file e = file_of (subst (λ o. Told 1 6 Shaped o) e (read_told bytes))
  where
    file_of : {file : File} → Told 1 6 Shaped (ok file) → Shaped file
    file_of (Told.good h) = h

pub check_refuses : (bytes : List ℕ) (file : File) (n p : ℕ) → read bytes ≡ ok file → check_file file ≡ refuse n p → (7 ≤ n) × (n ≤ 12)
check_refuses bytes file n p r e = number_of (subst (λ o. Told 7 12 Always o) e (check_file_told file (read_shaped bytes file r)))
  where
    number_of : {n p : ℕ} → Told {A = Unit {0}} 7 12 Always (refuse n p) → (7 ≤ n) × (n ≤ 12)
    number_of (Told.bad l m) = (l, m)
