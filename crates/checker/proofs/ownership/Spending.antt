-- The code's slots, spent and bound, as slots of the definition. Assumes nothing.
use Prim.Native.Nat.{ℕ, zero, suc, ◌+◌, ◌^◌, ◌≤◌, ◌<◌}
use mathlib.Core.Path.{◌≡◌, refl, sym, ap, ap₂, ◌∙◌}
use mathlib.Core.List.{List, [], ◌∷◌, ◌++◌}
use mathlib.Core.Bool.{Bool, true, false}
use mathlib.Core.Option.{none, some}
use native.Mathlib.Omega.{arith}
use native.Mathlib.Numerals.{add-one}
use lib.ListN.{length, set, get_or, get_elem?, replicate}
use lib.Bits.{bit_or}
use Rattle.meaning.specs.declared.Kind.{Kind}
use Rattle.meaning.specs.declared.Kind.TheVariants.{Number, Lent, Owned, Credit, UsedOwned, UsedCredit}
use Rattle.meaning.specs.declared.Slot.{Slot}
use Rattle.meaning.specs.Sets.{first}
use Rattle.meaning.specs.Ownership as tree
use Rattle.checker.specs.declared.slots.Want.{Want}
use Rattle.checker.specs.declared.slots.Want.TheVariants as want
use Rattle.checker.specs.Bits.{bits_of}
use Rattle.checker.specs.Slots.{kind_of, used_in, slot_of, slots_of, used_kind, now_kind, used_slot, spent_by, unbound, want_of, spends_of}
use Rattle.checker.proofs.sets.Digits.{bits_none, bits_length, or_bit}

pub slots_length : (n : ℕ) (xs : List Slot) → length (slots_of n xs) ≡ n
unfolding slots_of
slots_length zero xs = refl
slots_length (suc n) [] = ap suc (slots_length n [])
slots_length (suc n) (x ∷ xs) = ap suc (slots_length n xs)

-- the slot that a number names, if it is bound
pub slot_bound : (n : ℕ) (xs : List Slot) (i : ℕ) → i < n → get_elem? (slots_of n xs) i ≡ some (slot_of (get_or xs i unbound))
unfolding slots_of
slot_bound zero xs i h = absurd (omega arith)
slot_bound (suc n) [] zero h = refl
slot_bound (suc n) [] (suc i) h = slot_bound n [] i (omega arith)
slot_bound (suc n) (x ∷ xs) zero h = refl
slot_bound (suc n) (x ∷ xs) (suc i) h = slot_bound n xs i (omega arith)

pub slot_unbound : (n : ℕ) (xs : List Slot) (i : ℕ) → n ≤ i → get_elem? (slots_of n xs) i ≡ none
unfolding slots_of
slot_unbound zero xs i h = refl
slot_unbound (suc n) xs zero h = absurd (omega arith)
slot_unbound (suc n) [] (suc i) h = slot_unbound n [] i (omega arith)
slot_unbound (suc n) (x ∷ xs) (suc i) h = slot_unbound n xs i (omega arith)

-- a slot changed
slots_set : (n : ℕ) (xs : List Slot) (i : ℕ) (v : Slot) → i < length xs → slots_of n (set xs i v) ≡ set (slots_of n xs) i (slot_of v)
unfolding slots_of
slots_set zero xs i v h = refl
slots_set (suc n) [] i v h = absurd (omega arith)
slots_set (suc n) (x ∷ xs) zero v h = refl
slots_set (suc n) (x ∷ xs) (suc i) v h = ap (λ (l : tree.Slots). slot_of x ∷ l) (slots_set n xs i v (omega arith))

-- one more slot
slots_suc : (n : ℕ) (xs : List Slot) (v : Slot) → n < length xs → slots_of (suc n) (set xs n v) ≡ slots_of n xs ++ (slot_of v ∷ [])
unfolding slots_of
slots_suc n [] v h = absurd (omega arith)
slots_suc zero (x ∷ xs) v h = refl
slots_suc (suc n) (x ∷ xs) v h = ap (λ (l : tree.Slots). slot_of x ∷ l) (slots_suc n xs v (omega arith))

pub slots_more : (n : ℕ) (xs : List Slot) (v : Slot) → n < length xs → slots_of (n + 1) (set xs n v) ≡ slots_of n xs ++ (slot_of v ∷ [])
slots_more n xs v h = rw (add-one n) (slots_suc n xs v h)

-- the slots of a set, spent
pub spent_length : (bs : List Bool) (xs : List Slot) → length (spent_by bs xs) ≡ length xs
unfolding spent_by
spent_length [] xs = refl
spent_length (b ∷ bs) [] = refl
spent_length (true ∷ bs) (x ∷ xs) = ap suc (spent_length bs xs)
spent_length (false ∷ bs) (x ∷ xs) = ap suc (spent_length bs xs)

pub spent_none : (d : ℕ) (xs : List Slot) → spent_by (replicate d false) xs ≡ xs
unfolding spent_by
spent_none zero xs = refl
spent_none (suc d) [] = refl
spent_none (suc d) (x ∷ xs) = ap (λ (l : List Slot). x ∷ l) (spent_none d xs)

pub spent_at : (bs : List Bool) (xs : List Slot) (i : ℕ) → (get_or (spent_by bs xs) i unbound).kind ≡ now_kind (get_or bs i false) (get_or xs i unbound).kind
unfolding spent_by
spent_at [] xs i = refl
spent_at (true ∷ bs) [] zero = refl
spent_at (false ∷ bs) [] zero = refl
spent_at (b ∷ bs) [] (suc i) = go (get_or bs i false)
  where
    go : (x : Bool) → Number ≡ now_kind x Number
    go true = refl
    go false = refl
spent_at (true ∷ bs) (x ∷ xs) zero = refl
spent_at (false ∷ bs) (x ∷ xs) zero = refl
spent_at (true ∷ bs) (x ∷ xs) (suc i) = spent_at bs xs i
spent_at (false ∷ bs) (x ∷ xs) (suc i) = spent_at bs xs i

spent_with : (bs : List Bool) (xs : List Slot) (i : ℕ) → i < length bs → spent_by (set bs i true) xs ≡ set (spent_by bs xs) i (used_slot (get_or xs i unbound))
unfolding spent_by
spent_with [] xs i h = absurd (omega arith)
spent_with (true ∷ bs) [] zero h = refl
spent_with (false ∷ bs) [] zero h = refl
spent_with (true ∷ bs) [] (suc i) h = refl
spent_with (false ∷ bs) [] (suc i) h = refl
spent_with (true ∷ bs) (x ∷ xs) zero h = refl
spent_with (false ∷ bs) (x ∷ xs) zero h = refl
spent_with (true ∷ bs) (x ∷ xs) (suc i) h = ap (λ (l : List Slot). used_slot x ∷ l) (spent_with bs xs i (omega arith))
spent_with (false ∷ bs) (x ∷ xs) (suc i) h = ap (λ (l : List Slot). x ∷ l) (spent_with bs xs i (omega arith))

-- the first of a set spent, and then the rest
pub spent_first : (bs : List Bool) (xs : List Slot) → first bs < length bs
    → spent_by bs xs ≡ spent_by (set bs (first bs) false) (set xs (first bs) (used_slot (get_or xs (first bs) unbound)))
unfolding spent_by first
spent_first [] xs h = absurd (omega arith)
spent_first (true ∷ bs) [] h = refl
spent_first (true ∷ bs) (x ∷ xs) h = refl
spent_first (false ∷ bs) [] h = refl
spent_first (false ∷ bs) (x ∷ xs) h = ap (λ (l : List Slot). x ∷ l) (spent_first bs xs (omega arith))

-- the slots that are left of those bound, once the slots of a set are spent
unfoldable pub left_of : List Slot → (bound spent : ℕ) → tree.Slots
left_of slots bound spent = slots_of bound (spent_by (bits_of 32 spent) slots)

pub left_all : (slots : List Slot) (bound : ℕ) → left_of slots bound 0 ≡ slots_of bound slots
unfolding left_of
left_all slots bound = rw (bits_none 32) (ap (slots_of bound) (spent_none 32 slots))

-- a spent kind keeps its sort, and is used if it was one to be spent
same_kind : (k : Kind) → kind_of (used_kind k) ≡ kind_of k
same_kind Number = refl
same_kind Lent = refl
same_kind Owned = refl
same_kind (Credit n) = refl
same_kind UsedOwned = refl
same_kind (UsedCredit n) = refl

once : (b : Bool) (k : Kind) → used_kind (now_kind b k) ≡ used_kind k
once false k = refl
once true Number = refl
once true Lent = refl
once true Owned = refl
once true (Credit n) = refl
once true UsedOwned = refl
once true (UsedCredit n) = refl

not_both : {A : Type 0} → ◌≡◌ {A = Bool} false true → A
not_both e = let z : ◌≡◌ {A = ℕ} 0 1 = cc in absurd (omega arith)

now_used : (w : Want) (k : Kind) → spends_of w ≡ true → tree.fits (want_of w) (kind_of k) ≡ true → used_in (used_kind k) ≡ true
now_used w Owned s f = refl
now_used w (Credit n) s f = refl
now_used w UsedOwned s f = refl
now_used w (UsedCredit n) s f = refl
now_used want.Number Number s f = not_both s
now_used want.Looked Number s f = not_both s
now_used want.Lent Number s f = not_both s
now_used want.Owned Number s f = not_both f
now_used (want.Credit n) Number s f = not_both f
now_used want.Number Lent s f = not_both s
now_used want.Looked Lent s f = not_both s
now_used want.Lent Lent s f = not_both s
now_used want.Owned Lent s f = not_both f
now_used (want.Credit n) Lent s f = not_both f

used_slot_lem : (w : Want) (b : Bool) (k : Kind) → spends_of w ≡ true → tree.fits (want_of w) (kind_of (now_kind b k)) ≡ true
    → (kind_of (used_kind k) ≡ kind_of (now_kind b k)) × (used_in (used_kind k) ≡ true)
used_slot_lem w b k s f =
    (ap kind_of (sym (once b k)) ∙ same_kind (now_kind b k), ap used_in (sym (once b k)) ∙ now_used w (now_kind b k) s f)

-- a slot of a set that has one more member
pub left_with : (slots : List Slot) (bound spent i : ℕ) (w : Want) → length slots ≡ 32 → i < 32 → spends_of w ≡ true
    → tree.fits (want_of w) (kind_of (now_kind (get_or (bits_of 32 spent) i false) (get_or slots i unbound).kind)) ≡ true
    → left_of slots bound (bit_or spent (2 ^ i))
    ≡ set (left_of slots bound spent) i (record { kind = kind_of (now_kind (get_or (bits_of 32 spent) i false) (get_or slots i unbound).kind); used = true })
unfolding left_of
left_with slots bound spent i w wide h s f =
    let u = used_slot_lem w (get_or (bits_of 32 spent) i false) (get_or slots i unbound).kind s f in
    let l : i < length (bits_of 32 spent) = omega (arith, bits_length 32 spent) in
    let m : i < length (spent_by (bits_of 32 spent) slots) = omega (arith, spent_length (bits_of 32 spent) slots) in
    ap (λ (bs : List Bool). slots_of bound (spent_by bs slots)) (or_bit 32 spent i h)
    ∙ ap (slots_of bound) (spent_with (bits_of 32 spent) slots i l)
    ∙ slots_set bound (spent_by (bits_of 32 spent) slots) i (used_slot (get_or slots i unbound)) m
    ∙ ap₂ (λ (k : tree.Kind) (b : Bool). set (slots_of bound (spent_by (bits_of 32 spent) slots)) i (record { kind = k; used = b })) u.0 u.1
