-- The code's slots as slots of the definition, what a record's test of a slot answers, and slots spent and bound. Assumes nothing.
use Rattle.std.specs.Prelude.{ℕ, zero, suc, Bool, true, false, ◌||◌, List, [], ◌∷◌, set, eqb, ltb, Result, Ok, Err}
use Rattle.meaning.specs.declared.Fault.{Fault}
use Rattle.meaning.specs.declared.Kind.{Kind}
use Rattle.meaning.specs.declared.Kind.TheVariants.{Number, Lent, Owned, Credit, UsedOwned, UsedCredit}
use Rattle.meaning.specs.declared.Slot.{Slot}
use Rattle.meaning.specs.Answers.{fault_number}
use Rattle.meaning.specs.Choice.{pick}
use Rattle.meaning.specs.Ownership as tree
use Rattle.checker.specs.declared.slots.Sort.{Sort}
use Rattle.checker.specs.declared.slots.Sort.TheVariants as sort
use Rattle.checker.specs.declared.slots.Mode.{Mode}
use Rattle.checker.specs.declared.slots.Mode.TheVariants as mode
use Rattle.checker.specs.declared.slots.Want.{Want}
use Rattle.checker.specs.declared.slots.Want.TheVariants as want
use Rattle.checker.specs.Bits.{bits_of}

abbrev pub kind_of : Kind → tree.Kind
kind_of Number = tree.Kind.number
kind_of Lent = tree.Kind.lent
kind_of Owned = tree.Kind.owned
kind_of (Credit n) = tree.Kind.credit n
kind_of UsedOwned = tree.Kind.owned
kind_of (UsedCredit n) = tree.Kind.credit n

abbrev pub used_in : Kind → Bool
used_in Number = false
used_in Lent = false
used_in Owned = false
used_in (Credit n) = false
used_in UsedOwned = true
used_in (UsedCredit n) = true

abbrev pub slot_of : Slot → tree.Slot
slot_of x = record { kind = kind_of x.kind; used = used_in x.kind }

abbrev pub bound_slot : Kind → ℕ → Slot
bound_slot k p = record { kind = k; place = p }

abbrev pub unbound : Slot
unbound = bound_slot Number 0

-- the first slots of an array, as many as are bound
unfoldable pub slots_of : ℕ → List Slot → tree.Slots
slots_of zero xs = []
slots_of (suc n) [] = slot_of unbound ∷ slots_of n []
slots_of (suc n) (x ∷ xs) = slot_of x ∷ slots_of n xs

-- a kind after it was spent, and as it is now
abbrev pub used_kind : Kind → Kind
used_kind Number = Number
used_kind Lent = Lent
used_kind Owned = UsedOwned
used_kind (Credit n) = UsedCredit n
used_kind UsedOwned = UsedOwned
used_kind (UsedCredit n) = UsedCredit n

abbrev pub now_kind : Bool → Kind → Kind
now_kind true k = used_kind k
now_kind false k = k

abbrev pub used_slot : Slot → Slot
used_slot x = bound_slot (used_kind x.kind) x.place

-- the slots with those of a set spent
unfoldable pub spent_by : List Bool → List Slot → List Slot
spent_by [] xs = xs
spent_by (b ∷ bs) [] = []
spent_by (true ∷ bs) (x ∷ xs) = used_slot x ∷ spent_by bs xs
spent_by (false ∷ bs) (x ∷ xs) = x ∷ spent_by bs xs

-- what is asked of a slot
abbrev pub want_of : Want → tree.Want
want_of want.Number = tree.Want.number
want_of want.Looked = tree.Want.looked
want_of want.Lent = tree.Want.lent
want_of want.Owned = tree.Want.owned
want_of (want.Credit n) = tree.Want.credit n

abbrev pub spends_of : Want → Bool
spends_of w = tree.spends (want_of w)

-- 8, 9, 10 in this order, or 0
unfoldable pub test_of : Kind → Want → Bool → ℕ
test_of k w barred =
    pick (tree.fits (want_of w) (kind_of k)) (pick (used_in k || barred) 9 (pick (tree.sized (want_of w) (kind_of k)) 0 10)) 8

-- the number of a test's fault, 0 where it has none
abbrev pub fault_in : Result (Unit {0}) Fault → ℕ
fault_in (Ok u) = 0
fault_in (Err f) = fault_number f

-- the sort that a byte says, and the byte of a sort
unfoldable pub sort_at : ℕ → Sort
sort_at s = pick (eqb s 0) sort.Number sort.Tree

abbrev pub sort_number : Sort → ℕ
sort_number sort.Number = 0
sort_number sort.Tree = 1

-- a flag as a number; by 1 and by it a byte is scaled, whose tree is owned where the flag is set
abbrev pub digit : Bool → ℕ
digit false = 0
digit true = 1

-- the mode that a number says, and what a mode asks for and binds
unfoldable pub mode_of : ℕ → Mode
mode_of m = pick (eqb m 0) mode.Number (pick (eqb m 1) mode.Lent mode.Owned)

abbrev pub mode_want : Mode → Want
mode_want mode.Number = want.Number
mode_want mode.Lent = want.Lent
mode_want mode.Owned = want.Owned

abbrev pub mode_kind : Mode → Kind
mode_kind mode.Number = Number
mode_kind mode.Lent = Lent
mode_kind mode.Owned = Owned

-- how a result of a sort is given back and bound
abbrev pub given : Sort → Mode
given sort.Number = mode.Number
given sort.Tree = mode.Owned

-- what a mode's number asks for, what a result's sort asks for, and what a mode's number binds
abbrev pub want_at : ℕ → Want
want_at m = mode_want (mode_of m)

unfoldable pub want_back : ℕ → Want
want_back s = pick (eqb s 0) want.Number want.Owned

abbrev pub kind_at : ℕ → Kind
kind_at m = mode_kind (mode_of m)

-- the slots with those of a set spent, and the next one bound where there are to be more
unfoldable pub kept_of : List Slot → (spent bound more : ℕ) → Kind → (at : ℕ) → List Slot
kept_of slots spent bound more kind at =
    pick (ltb bound more) (set (spent_by (bits_of 32 spent) slots) bound (bound_slot kind at)) (spent_by (bits_of 32 spent) slots)
