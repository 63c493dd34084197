-- The places that slots keep: where they are spent, where a node binds one, and where the parameters or the fields and the credit of a branch are
-- bound; and the evidence that is handed down with them. Assumes nothing.
use Prim.Native.Nat.{ℕ, zero, suc, ◌+◌, ◌*◌, ◌≤◌, ◌<◌}
use mathlib.Core.Bool.{Bool, true, false}
use mathlib.Core.List.{List, [], ◌∷◌, ◌++◌, append_assoc, append-nil}
use mathlib.Core.Path.{◌≡◌, refl, sym, ap, ◌∙◌}
use native.Mathlib.Omega.{arith}
use lib.ListN.{length, set, get_or, replicate, length-set, length-replicate, replicate-append-replicate}
use lib.Dec.{ltb, eqb}
use borrow.Author.Tests.{lt-ltb, le-ltb}
use Rattle.meaning.specs.declared.Kind.{Kind}
use Rattle.meaning.specs.declared.Kind.TheVariants as kind
use Rattle.meaning.specs.declared.MarkRow.{MarkRow}
use Rattle.meaning.specs.declared.Slot.{Slot}
use Rattle.meaning.specs.Choice.{pick}
use Rattle.meaning.specs.Marks.{rows, row, row_at, find_mark}
use Rattle.standing.specs.Bytes.{byte_at, mark_at, arity_in, fields_in}
use Rattle.checker.specs.Bits.{bits_of}
use Rattle.checker.specs.Slots.{spent_by, unbound, bound_slot, kind_at, kept_of}
use Rattle.checker.specs.Ownership.{laid_of, bound_of, credits_of, branch_of}
use Rattle.checker.specs.Paths.{behind, branch_binds, places_of}

-- ---- slots spent keep their places
spent_places : (n : ℕ) (bs : List Bool) (xs : List Slot) → places_of n (spent_by bs xs) ≡ places_of n xs
unfolding places_of spent_by
spent_places zero bs xs = refl
spent_places (suc n) [] xs = refl
spent_places (suc n) (b ∷ bs) [] = refl
spent_places (suc n) (true ∷ bs) (x ∷ xs) = ap (λ l. x.place ∷ l) (spent_places n bs xs)
spent_places (suc n) (false ∷ bs) (x ∷ xs) = ap (λ l. x.place ∷ l) (spent_places n bs xs)

spent_length : (bs : List Bool) (xs : List Slot) → length (spent_by bs xs) ≡ length xs
unfolding spent_by
spent_length [] xs = refl
spent_length (b ∷ bs) [] = refl
spent_length (true ∷ bs) (x ∷ xs) = ap suc (spent_length bs xs)
spent_length (false ∷ bs) (x ∷ xs) = ap suc (spent_length bs xs)

-- ---- one slot more
set_places : (n : ℕ) (xs : List Slot) (x : Slot) → n < length xs → places_of (n + 1) (set xs n x) ≡ places_of n xs ++ (x.place ∷ [])
unfolding places_of
set_places n [] x h = absurd (omega arith)
set_places zero (y ∷ ys) x h = refl
set_places (suc n) (y ∷ ys) x h = let e : suc n + 1 ≡ suc (n + 1) = omega arith in rw e (ap (λ l. y.place ∷ l) (set_places n ys x (omega arith)))

-- a record binds one slot or none
few : (xs : List MarkRow) → Type 0
few [] = Unit {0}
few (x ∷ xs) = (x.binds ≤ 1) × few xs

few_at : (xs : List MarkRow) (i : ℕ) → few xs → (get_or xs i (row 0 0 0)).binds ≤ 1
unfolding few
few_at [] i h = omega arith
few_at (x ∷ xs) zero h = h.0
few_at (x ∷ xs) (suc i) h = few_at xs i h.1

binds_few : (m : ℕ) → (row_at m).binds ≤ 1
unfolding row_at few
binds_few m = few_at rows m (le, (le, (le, (le, (le, (ge, (ge, (ge, (le, (le, (le, (le, (ge, (ge, (le, tt)))))))))))))))
  where
    le : 0 ≤ 1
    le = omega arith

    ge : 1 ≤ 1
    ge = omega arith

module _ (slots : List Slot) (spent bound more : ℕ) (k : Kind) (at binds : ℕ) (wide : length slots ≡ 32) (few : binds ≤ 1) (is : more ≡ bound + binds) (fits : more ≤ 32) where
  kept_places : places_of more (kept_of slots spent bound more k at) ≡ places_of bound slots ++ replicate binds at
  unfolding kept_of pick
  kept_places = go binds refl
    where
      go : (b : ℕ) → binds ≡ b → places_of more (kept_of slots spent bound more k at) ≡ places_of bound slots ++ replicate b at
      go zero e =
          let gone = spent_by (bits_of 32 spent) slots in
          let q : ltb bound more ≡ false = le-ltb bound more (omega arith) in
          let z : more ≡ bound = omega arith in
          rw q (ap (λ n. places_of n gone) z ∙ spent_places bound (bits_of 32 spent) slots ∙ sym (append-nil (places_of bound slots)))
      go (suc zero) e =
          let gone = spent_by (bits_of 32 spent) slots in
          let q : ltb bound more ≡ true = lt-ltb bound more (omega arith) in
          let z : more ≡ bound + 1 = omega arith in
          let l : bound < length gone = omega (arith, spent_length (bits_of 32 spent) slots) in
          rw q (ap (λ n. places_of n (set gone bound (bound_slot k at))) z ∙ set_places bound gone (bound_slot k at) l
          ∙ ap (λ xs. xs ++ (at ∷ [])) (spent_places bound (bits_of 32 spent) slots))
      go (suc (suc b)) e = absurd (omega arith)

-- what a node leaves and binds
pub node_places : (bytes : List ℕ) (at : ℕ) (slots : List Slot) (spent bound more : ℕ) (k : Kind) {m : ℕ} {inner : List Slot} → length slots ≡ 32 → m ≡ find_mark (mark_at bytes at)
    → more ≡ bound + (row_at m).binds → more ≤ 32 → inner ≡ kept_of slots spent bound more k at → places_of more inner ≡ behind bytes at (places_of bound slots)
unfolding behind
node_places bytes at slots spent bound more k {m} {inner} wide em count fits e =
    ap (places_of more) e ∙ kept_places slots spent bound more k at (row_at m).binds wide (binds_few m) count fits
    ∙ ap (λ i. places_of bound slots ++ replicate (row_at i).binds at) em

-- ---- slots bound one after the other
laid_places : (bytes : List ℕ) (scale at n modes bound : ℕ) (xs : List Slot) → bound + n ≤ length xs
    → places_of (bound + n) (laid_of bytes scale at n modes bound xs) ≡ places_of bound xs ++ replicate n at
unfolding laid_of
laid_places bytes scale at zero modes bound xs h = let e : bound + 0 ≡ bound = omega arith in rw e (sym (append-nil (places_of bound xs)))
laid_places bytes scale at (suc n) modes bound xs h =
    let v = bound_slot (kind_at (byte_at bytes modes * scale)) at in
    let e : bound + suc n ≡ bound + 1 + n = omega arith in
    let l : bound + 1 + n ≤ length (set xs bound v) = simp length-set (omega arith) in
    ap (λ k. places_of k (laid_of bytes scale at n (modes + 1) (bound + 1) (set xs bound v))) e
    ∙ laid_places bytes scale at n (modes + 1) (bound + 1) (set xs bound v) l
    ∙ ap (λ ps. ps ++ replicate n at) (set_places bound xs v (omega arith))
    ∙ append_assoc (places_of bound xs) (at ∷ []) (replicate n at)

laid_length : (bytes : List ℕ) (scale at n modes bound : ℕ) (xs : List Slot) → length (laid_of bytes scale at n modes bound xs) ≡ length xs
unfolding laid_of
laid_length bytes scale at zero modes bound xs = refl
laid_length bytes scale at (suc n) modes bound xs = laid_length bytes scale at n (modes + 1) (bound + 1) (set xs bound (bound_slot (kind_at (byte_at bytes modes * scale)) at)) ∙ simp length-set

pub bound_places : (bytes : List ℕ) (scale at n modes bound : ℕ) (xs : List Slot) (credit : ℕ) → credit ≤ 1 → bound + n + credit ≤ length xs
    → places_of (bound + n + credit) (bound_of bytes scale at n modes bound xs credit) ≡ places_of bound xs ++ replicate (n + credit) at
unfolding bound_of pick
bound_places bytes scale at n modes bound xs zero h l =
    let e : bound + n + 0 ≡ bound + n = omega arith in
    let z : n + 0 ≡ n = omega arith in
    rw (e, z) (laid_places bytes scale at n modes bound xs (omega arith))
bound_places bytes scale at n modes bound xs (suc zero) h l =
    let out = laid_of bytes scale at n modes bound xs in
    let w : bound + n < length out = omega (arith, laid_length bytes scale at n modes bound xs) in
    set_places (bound + n) out (bound_slot (kind.Credit n) at) w
    ∙ ap (λ ps. ps ++ (at ∷ [])) (laid_places bytes scale at n modes bound xs (omega arith))
    ∙ append_assoc (places_of bound xs) (replicate n at) (at ∷ [])
    ∙ ap (λ ps. places_of bound xs ++ ps) (replicate-append-replicate n 1 at)
bound_places bytes scale at n modes bound xs (suc (suc c)) h l = absurd (omega arith)

credits_few : (k credit : ℕ) → credit ≤ 1 → credits_of k credit ≤ 1
unfolding credits_of pick
credits_few k credit h = go (eqb k 0)
  where
    go : (b : Bool) → pick b 0 credit ≤ 1
    go true = omega arith
    go false = h

-- the slots that a branch starts from
pub branch_places : (bytes decl : List ℕ) (at credit : ℕ) (slots : List Slot) (bound : ℕ) {c more : ℕ} {inner : List Slot} → credit ≤ 1 → length slots ≡ 32 → c ≡ byte_at bytes (at + 2)
    → more ≡ bound + arity_in decl c + credits_of (arity_in decl c) credit → more ≤ 32 → inner ≡ branch_of bytes decl c at credit slots bound
    → places_of more inner ≡ places_of bound slots ++ replicate (branch_binds bytes decl at credit) at
unfolding branch_of branch_binds
branch_places bytes decl at credit slots bound {c} {more} {inner} h wide ec em fits ei =
    let k = arity_in decl c in
    let b = credits_few k credit h in
    ap (λ n. places_of n inner) em ∙ ap (places_of (bound + k + credits_of k credit)) ei
    ∙ bound_places bytes (1 + credit) at k (fields_in decl c) bound slots (credits_of k credit) b (omega arith)
    ∙ ap (λ i. places_of bound slots ++ replicate (arity_in decl i + credits_of (arity_in decl i) credit) at) ec

-- the slots that a body starts from
pub start_places : (bytes : List ℕ) (at n modes : ℕ) {fresh slots : List Slot} → n ≤ 32 → fresh ≡ replicate 32 unbound → slots ≡ bound_of bytes 1 at n modes 0 fresh 0
    → places_of n slots ≡ replicate n at
unfolding places_of
start_places bytes at n modes {fresh} {slots} h ef es =
    let z : 0 + n + 0 ≡ n = omega arith in
    let w : n + 0 ≡ n = omega arith in
    let l : 0 + n + 0 ≤ length fresh = omega (arith, ap length ef, length-replicate 32 unbound) in
    ap (places_of n) es ∙ ap (λ i. places_of i (bound_of bytes 1 at n modes 0 fresh 0)) (sym z)
    ∙ bound_places bytes 1 at n modes 0 fresh 0 (omega arith) l ∙ ap (λ i. replicate i at) w
