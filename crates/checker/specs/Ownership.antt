-- What the ownership check's records take, bind and are followed by, by the bytes. Assumes nothing.
use Rattle.std.specs.Prelude.{ℕ, zero, suc, ◌+◌, ◌*◌, ◌^◌, Bool, false, ◌&&◌, List, get_or, set, eqb, leb, Result, Ok, Err, Option, None, Some}
use Rattle.std.specs.Int.Bits.{bit_or}
use Rattle.meaning.specs.declared.Kind.{Kind}
use Rattle.meaning.specs.declared.Kind.TheVariants as kind
use Rattle.meaning.specs.declared.Slot.{Slot}
use Rattle.meaning.specs.declared.Fault.{Fault}
use Rattle.meaning.specs.declared.Refusal.{Refusal}
use Rattle.meaning.specs.Answers.{fault_number}
use Rattle.meaning.specs.Choice.{pick}
use Rattle.meaning.specs.Marks.{row_at}
use Rattle.meaning.specs.Ownership.{leftover}
use Rattle.standing.specs.Bytes.{byte_at, arity_in, fields_in, params_in, modes_in, result_in}
use Rattle.checker.specs.declared.slots.Want.{Want}
use Rattle.checker.specs.declared.slots.Want.TheVariants as want
use Rattle.checker.specs.Node.{Then, Leaf, One, Two, Many}
use Rattle.checker.specs.Bits.{bits_of}
use Rattle.checker.specs.Slots.{sort_at, sort_number, now_kind, spends_of, test_of, want_at, want_back, kind_at, slots_of, spent_by, unbound, bound_slot}

-- what a record takes: the slots that it spends, as bits; or, where the number is not 0, a fault and its place
pub record Taken : Type 0 where
  pub number : ℕ
  pub place : ℕ
  pub spent : ℕ

abbrev pub fine : ℕ → Taken
fine spent = record { number = 0; place = 0; spent = spent }

abbrev pub fault : (number place : ℕ) → Taken
fault n p = record { number = n; place = p; spent = 0 }

-- the code's answer, by its cases
abbrev pub as_taken : Result ℕ Refusal → Taken
as_taken (Ok spent) = fine spent
as_taken (Err r) = fault (fault_number r.fault) r.place

abbrev pub unbound_at : ℕ → Refusal
unbound_at p = record { fault = Fault.NotBound; place = p }

-- go on with what was taken; a fault stands
unfoldable pub on_fine : Taken → Taken → Taken
on_fine t u = pick (eqb t.number 0) u t

-- one slot of a kind: its test, and then the slots spent, with it where it is spent
unfoldable pub take_kind : Kind → (slot place : ℕ) → Want → (barred : Bool) → (spent : ℕ) → Taken
take_kind k i p w barred spent =
    pick (eqb (test_of (now_kind (get_or (bits_of 32 spent) i false) k) w barred) 0)
    (pick (spends_of w) (fine (bit_or spent (2 ^ i))) (fine spent))
    (fault (test_of (now_kind (get_or (bits_of 32 spent) i false) k) w barred) p)

-- the slot that a byte names
unfoldable pub take_of : List Slot → (bound slot place : ℕ) → Want → (barred : Bool) → (spent : ℕ) → Taken
take_of slots bound i p w barred spent = pick (leb bound i) (fault 7 p) (take_kind (get_or slots i unbound).kind i p w barred spent)

abbrev pub bars_of : Want → (earlier slot : ℕ) → Bool
bars_of w earlier i = spends_of w && get_or (bits_of 32 earlier) i false

-- a list of slots, its first byte at `at`, for modes whose bytes (times `scale`) stand from `modes` on
unfoldable pub list_of : (bytes : List ℕ) → List Slot → (bound scale count modes at earlier spent : ℕ) → Taken
list_of bytes slots bound scale zero modes at earlier spent = fine spent
list_of bytes slots bound scale (suc n) modes at earlier spent =
    let w = want_at (byte_at bytes modes * scale) in
    let i = byte_at bytes at in
    let t = take_of slots bound i at w (bars_of w earlier i) spent in
    on_fine t (list_of bytes slots bound scale n (modes + 1) (at + 1) (bit_or earlier (2 ^ i)) t.spent)

-- a leaf's record
unfoldable pub close_of : Taken → (at : ℕ) → List Slot → (bound : ℕ) → Taken
close_of t at slots bound = on_fine t (pick (leftover (slots_of bound (spent_by (bits_of 32 t.spent) slots))) (fault 11 at) (fine 0))

module _ (bytes : List ℕ) (at : ℕ) (slots : List Slot) (bound : ℕ) where
  -- the slot whose byte is the k-th of the record
  abbrev pub take_at : (k : ℕ) → Want → Taken
  take_at k w = take_of slots bound (byte_at bytes (at + k)) (at + k) w false 0

  unfoldable pub give_of : (result : ℕ) → Taken
  give_of result = close_of (take_at 2 (want_back result)) at slots bound

  unfoldable pub pair_of : Taken
  pair_of = on_fine (take_at 3 want.Number) (take_at 4 want.Number)

module _ (bytes decl : List ℕ) (at : ℕ) (slots : List Slot) (bound : ℕ) where
  unfoldable pub make_of : Taken
  make_of =
      let t = take_at bytes at slots bound 3 (want.Credit (arity_in decl (byte_at bytes (at + 2)))) in
      on_fine t (list_of bytes slots bound 2 (arity_in decl (byte_at bytes (at + 2))) (fields_in decl (byte_at bytes (at + 2))) (at + 4) 0 t.spent)

  unfoldable pub call_of : Taken
  call_of = list_of bytes slots bound 1 (params_in decl (byte_at bytes (at + 2))) (modes_in decl (byte_at bytes (at + 2))) (at + 3) 0 0

  unfoldable pub tail_of : (result : ℕ) → Taken
  tail_of result = pick (eqb (sort_number (sort_at (result_in bytes decl (byte_at bytes (at + 2))))) result) (close_of call_of at slots bound) (fault 8 (at + 2))

  -- what the record of a mark takes
  unfoldable pub taken_of : (mark result : ℕ) → Taken
  taken_of m result =
      pick (eqb m 4) (give_of bytes at slots bound result)
      (pick (eqb m 6) make_of
      (pick (eqb m 7) call_of
      (pick (eqb m 8) (tail_of result)
      (pick (eqb m 9) (take_at bytes at slots bound 2 want.Owned)
      (pick (eqb m 10) (take_at bytes at slots bound 2 want.Looked)
      (pick (eqb m 13) (pair_of bytes at slots bound)
      (pick (eqb m 14) (take_at bytes at slots bound 2 want.Number) (fine 0))))))))

module _ (bytes decl : List ℕ) (at : ℕ) where
  -- the kind of slot that it binds
  unfoldable pub kind_by : (mark : ℕ) → Kind
  kind_by m =
      pick (eqb m 7) (kind_at (result_in bytes decl (byte_at bytes (at + 2)) * 2))
      (pick (eqb m 12) kind.Number
      (pick (eqb m 13) kind.Number kind.Owned))

  -- how many slots it names behind the fixed fields
  unfoldable pub named_by : (mark : ℕ) → ℕ
  named_by m =
      pick (eqb m 6) (arity_in decl (byte_at bytes (at + 2)))
      (pick (eqb m 7) (params_in decl (byte_at bytes (at + 2)))
      (pick (eqb m 8) (params_in decl (byte_at bytes (at + 2))) 0))

  -- where it ends, and what follows
  unfoldable pub past_of : (mark : ℕ) → ℕ
  past_of m = at + 2 + (row_at m).fields + named_by m

  unfoldable pub then_of : (mark : ℕ) → Then
  then_of m =
      pick (eqb m 4) (Leaf (past_of m))
      (pick (eqb m 8) (Leaf (past_of m))
      (pick (eqb m 9) (Many (past_of m) (byte_at bytes (at + 3)) 1)
      (pick (eqb m 10) (Many (past_of m) (byte_at bytes (at + 3)) 0)
      (pick (eqb m 14) (Two (past_of m)) (One (past_of m))))))

-- slots bound one after the other, for modes whose bytes (times `scale`) stand from `modes` on
unfoldable pub laid_of : (bytes : List ℕ) → (scale at count modes bound : ℕ) → List Slot → List Slot
laid_of bytes scale at zero modes bound xs = xs
laid_of bytes scale at (suc n) modes bound xs =
    laid_of bytes scale at n (modes + 1) (bound + 1) (set xs bound (bound_slot (kind_at (byte_at bytes modes * scale)) at))

-- and behind them, where credit is 1, a credit of as many fields
unfoldable pub bound_of : (bytes : List ℕ) → (scale at count modes bound : ℕ) → List Slot → (credit : ℕ) → List Slot
bound_of bytes scale at count modes bound slots credit =
    let out = laid_of bytes scale at count modes bound slots in
    pick (eqb credit 1) (set out (bound + count) (bound_slot (kind.Credit count) at)) out

-- how many credits a branch binds
unfoldable pub credits_of : (arity credit : ℕ) → ℕ
credits_of k credit = pick (eqb k 0) 0 credit

-- the slots that a branch of a constructor starts from
unfoldable pub branch_of : (bytes decl : List ℕ) → (constructor at credit : ℕ) → List Slot → (bound : ℕ) → List Slot
branch_of bytes decl c at credit slots bound =
    let k = arity_in decl c in
    bound_of bytes (1 + credit) at k (fields_in decl c) bound slots (credits_of k credit)

-- the fault of a constructor that has a second branch
unfoldable pub repeat_of : (seen constructor : ℕ) → ℕ
repeat_of seen c = pick (get_or (bits_of 64 seen) c false) 12 0

-- the same with its place
unfoldable pub repeated : (seen constructor place : ℕ) → Option Refusal
repeated seen c p = pick (get_or (bits_of 64 seen) c false) (Some (record { fault = Fault.ConstructorTwice; place = p })) None
