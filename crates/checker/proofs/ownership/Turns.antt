-- The byte-level definitions, turn by turn as the code goes: the facts that the functions' proofs cite. Assumes nothing.
use Prim.Native.Nat.{ℕ, zero, suc, ◌+◌, ◌-◌, ◌*◌, ◌^◌, ◌≤◌, ◌<◌}
use mathlib.Core.Path.{◌≡◌, refl, sym, ap, ◌∙◌}
use mathlib.Core.List.{List, [], ◌∷◌}
use mathlib.Core.Bool.{Bool, true, false, ◌||◌}
use native.Mathlib.Omega.{arith}
use native.Mathlib.Numerals.{add-one}
use lib.ListN.{length, set, get_or, drop, drop_of_length-le}
use lib.Dec.{leb, ltb, eqb}
use lib.Bits.{bit_or}
use borrow.Author.Tests.{le-leb, lt-leb, lt-ltb, le-ltb, eq-eqb, ne_eqb}
use Rattle.meaning.specs.declared.Kind.{Kind}
use Rattle.meaning.specs.declared.Kind.TheVariants as kind
use Rattle.meaning.specs.declared.Slot.{Slot}
use Rattle.meaning.specs.Choice.{pick}
use Rattle.meaning.specs.Sets.{first}
use Rattle.meaning.specs.Ownership as tree
use Rattle.meaning.specs.Syntax as S
use Rattle.standing.specs.Bytes.{byte_at}
use Rattle.standing.specs.Table.{sort_byte}
use Rattle.checker.specs.declared.slots.Mode.TheVariants as mode
use Rattle.checker.specs.declared.slots.Sort.{Sort}
use Rattle.checker.specs.declared.slots.Sort.TheVariants as sort
use Rattle.checker.specs.declared.slots.Want.{Want}
use Rattle.checker.specs.Bits.{bits_of}
use Rattle.checker.specs.Slots.{kind_of, used_in, slot_of, slots_of, used_kind, now_kind, spent_by, unbound, bound_slot, want_at, kind_at, kept_of, sort_at, sort_number, given, mode_of, mode_want, want_back, digit}
use Rattle.checker.specs.Ownership.{Taken, fine, fault, on_fine, take_kind, take_of, bars_of, list_of, laid_of, bound_of}
use Rattle.checker.proofs.sets.Digits.{bits_none, bits_length}
use Rattle.checker.proofs.ownership.Spending.{slots_length, spent_none, spent_first, spent_at}

-- ---- one thing taken, and then another
on_stops : (t u v : Taken) → t ≡ u → (t.number ≡ 0 → ⊥) → t ≡ on_fine u v
unfolding on_fine pick
on_stops t u v e n = let q : eqb t.number 0 ≡ false = ne_eqb t.number 0 n in rw (← e, q)

on_fine_lem : (t u v x : Taken) → t ≡ u → t.number ≡ 0 → x ≡ v → x ≡ on_fine u v
unfolding on_fine pick
on_fine_lem t u v x e n f = let q : eqb t.number 0 ≡ true = eq-eqb t.number 0 n in rw (← e, q) f

-- ---- a list of slots
module _ (bytes : List ℕ) (slots : List Slot) (bound scale : ℕ) where
  pub list_end : (n modes at earlier spent : ℕ) → n ≡ 0 → list_of bytes slots bound scale n modes at earlier spent ≡ fine spent
  unfolding list_of
  list_end n modes at earlier spent e = rw e

  list_suc : (n modes at earlier spent : ℕ) → 0 < n
      → list_of bytes slots bound scale n modes at earlier spent
      ≡ on_fine (take_of slots bound (byte_at bytes at) at (want_at (byte_at bytes modes * scale)) (bars_of (want_at (byte_at bytes modes * scale)) earlier (byte_at bytes at)) spent)
      (list_of bytes slots bound scale (n - 1) (modes + 1) (at + 1) (bit_or earlier (2 ^ byte_at bytes at))
      (take_of slots bound (byte_at bytes at) at (want_at (byte_at bytes modes * scale)) (bars_of (want_at (byte_at bytes modes * scale)) earlier (byte_at bytes at)) spent).spent)
  unfolding list_of
  list_suc n modes at earlier spent h =
      let e : n ≡ suc (n - 1) = omega arith in
      ap (λ k. list_of bytes slots bound scale k modes at earlier spent) e

  list_unbound : (n modes at earlier spent i : ℕ) → 0 < n → i ≡ byte_at bytes at → bound ≤ i → list_of bytes slots bound scale n modes at earlier spent ≡ fault 7 at
  unfolding take_of on_fine pick
  list_unbound n modes at earlier spent i h e l =
      let q : leb bound (byte_at bytes at) ≡ true = le-leb bound (byte_at bytes at) (omega arith) in
      list_suc n modes at earlier spent h ∙ rw q

  module _ (n modes at earlier spent i b : ℕ) (w : Want) (barred : Bool) (t : Taken) (h : 0 < n) (ei : i ≡ byte_at bytes at) (l : i < bound) (eb : b ≡ byte_at bytes modes)
      (ew : w ≡ want_at (b * scale)) (er : barred ≡ bars_of w earlier i) (et : t ≡ take_kind (get_or slots i unbound).kind i at w barred spent) where
    taken_is : take_of slots bound (byte_at bytes at) at (want_at (byte_at bytes modes * scale)) (bars_of (want_at (byte_at bytes modes * scale)) earlier (byte_at bytes at)) spent ≡ t
    unfolding take_of pick
    taken_is =
        let q : leb bound i ≡ false = lt-leb bound i l in
        rw (← ei, ← eb, ← ew, ← er, q) (sym et)

    list_stops : (t.number ≡ 0 → ⊥) → list_of bytes slots bound scale n modes at earlier spent ≡ t
    list_stops z = list_suc n modes at earlier spent h ∙ sym (on_stops t _ _ (sym taken_is) z)

    list_turn : t.number ≡ 0 → (earlier' : ℕ) → earlier' ≡ bit_or earlier (2 ^ i)
        → list_of bytes slots bound scale n modes at earlier spent ≡ list_of bytes slots bound scale (n - 1) (modes + 1) (at + 1) earlier' t.spent
    list_turn z earlier' ee = list_suc n modes at earlier spent h ∙ sym (on_fine_lem t _ _ _ (sym taken_is) z (rw (taken_is, ← ei, ← ee)))

-- ---- slots bound one after the other
module _ (bytes : List ℕ) (scale at : ℕ) where
  laid_end : (n modes bound : ℕ) (out : List Slot) → n ≡ 0 → laid_of bytes scale at n modes bound out ≡ out
  unfolding laid_of
  laid_end n modes bound out e = rw e

  laid_turn : (n modes bound b : ℕ) (out : List Slot) (k : Kind) → 0 < n → b ≡ byte_at bytes modes → k ≡ kind_at (b * scale)
      → laid_of bytes scale at n modes bound out ≡ laid_of bytes scale at (n - 1) (modes + 1) (bound + 1) (set out bound (bound_slot k at))
  unfolding laid_of
  laid_turn n modes bound b out k h eb ek =
      let e : n ≡ suc (n - 1) = omega arith in
      ap (λ j. laid_of bytes scale at j modes bound out) e ∙ rw (ek, eb)

-- ---- slots spent and bound
pub kept_turn : (out : List Slot) (todo i todo' : ℕ) (k : Kind) → i ≡ first (bits_of 32 todo) → i < 32 → bits_of 32 todo' ≡ set (bits_of 32 todo) (first (bits_of 32 todo)) false
    → k ≡ used_kind (get_or out i unbound).kind → spent_by (bits_of 32 todo) out ≡ spent_by (bits_of 32 todo') (set out i (bound_slot k (get_or out i unbound).place))
kept_turn out todo i todo' k ei l et ek =
    let h : first (bits_of 32 todo) < length (bits_of 32 todo) = omega (arith, bits_length 32 todo) in
    spent_first (bits_of 32 todo) out h ∙ rw (et, ek, ei)

pub kept_none : (out : List Slot) (todo : ℕ) → todo ≡ 0 → spent_by (bits_of 32 todo) out ≡ out
kept_none out todo e = rw (e, bits_none 32) (spent_none 32 out)

pub kept_bound : (slots out : List Slot) (spent bound more : ℕ) (k : Kind) (at : ℕ) → spent_by (bits_of 32 spent) slots ≡ out → bound < more
    → set out bound (bound_slot k at) ≡ kept_of slots spent bound more k at
unfolding kept_of pick
kept_bound slots out spent bound more k at e l = let q : ltb bound more ≡ true = lt-ltb bound more l in rw (q, e)

pub kept_all : (slots out : List Slot) (spent bound more : ℕ) (k : Kind) (at : ℕ) → spent_by (bits_of 32 spent) slots ≡ out → more ≤ bound
    → out ≡ kept_of slots spent bound more k at
unfolding kept_of pick
kept_all slots out spent bound more k at e l = let q : ltb bound more ≡ false = le-ltb bound more l in rw (q, e)

-- ---- what is left over
drop_slots : (n : ℕ) (xs : List Slot) (i : ℕ) → i < n → drop i (slots_of n xs) ≡ slot_of (get_or xs i unbound) ∷ drop (suc i) (slots_of n xs)
unfolding slots_of
drop_slots zero xs i h = absurd (omega arith)
drop_slots (suc n) [] zero h = refl
drop_slots (suc n) [] (suc i) h = drop_slots n [] i (omega arith)
drop_slots (suc n) (x ∷ xs) zero h = refl
drop_slots (suc n) (x ∷ xs) (suc i) h = drop_slots n xs i (omega arith)

module _ (slots : List Slot) (spent bound : ℕ) where
  abbrev rest : ℕ → tree.Slots
  rest i = drop i (slots_of bound (spent_by (bits_of 32 spent) slots))

  pub left_end : (i : ℕ) → bound ≤ i → tree.leftover (rest i) ≡ false
  left_end i h =
      let l : length (slots_of bound (spent_by (bits_of 32 spent) slots)) ≤ i = omega (arith, slots_length bound (spent_by (bits_of 32 spent) slots)) in
      rw (drop_of_length-le (slots_of bound (spent_by (bits_of 32 spent) slots)) l)

  module _ (i : ℕ) (now : Kind) (gone left : Bool) (h : i < bound) (eg : gone ≡ get_or (bits_of 32 spent) i false) (en : now ≡ now_kind gone (get_or slots i unbound).kind)
      (el : left ≡ tree.remains (record { kind = kind_of now; used = used_in now })) where
    left_is : tree.leftover (rest i) ≡ (left || tree.leftover (rest (suc i)))
    left_is =
        let q : (get_or (spent_by (bits_of 32 spent) slots) i unbound).kind ≡ now = spent_at (bits_of 32 spent) slots i ∙ sym (en ∙ ap (λ b. now_kind b (get_or slots i unbound).kind) eg) in
        ap tree.leftover (drop_slots bound (spent_by (bits_of 32 spent) slots) i h)
        ∙ ap (λ k. tree.remains (record { kind = kind_of k; used = used_in k }) || tree.leftover (rest (suc i))) q
        ∙ ap (λ b. b || tree.leftover (rest (suc i))) (sym el)

    pub left_found : left ≡ true → tree.leftover (rest i) ≡ true
    left_found e = left_is ∙ rw e

    pub left_later : left ≡ false → tree.leftover (rest i) ≡ tree.leftover (rest (i + 1))
    left_later e = left_is ∙ rw (e, add-one i)

-- a mode, by its byte
past_one : (m : ℕ) → 2 ≤ m → mode_of m ≡ mode.Owned
unfolding mode_of pick
past_one m h =
    let a : eqb m 0 ≡ false = ne_eqb m 0 (λ e. absurd (omega arith)) in
    let b : eqb m 1 ≡ false = ne_eqb m 1 (λ e. absurd (omega arith)) in
    rw (a, b)

pub mode_owned : (b : ℕ) → (b ≡ 0 → ⊥) → (o : Bool) → (b ≡ 1 → o ≡ true) → mode.Owned ≡ mode_of (b * (1 + digit o))
unfolding mode_of pick
mode_owned zero z o h = absurd (z refl)
mode_owned (suc zero) z o h = rw (h refl)
mode_owned (suc (suc n)) z false h = sym (past_one (suc (suc n) * 1) (omega arith))
mode_owned (suc (suc n)) z true h = sym (past_one (suc (suc n) * 2) (omega arith))

-- a result of a sort
pub given_want : (s : Sort) → mode_want (given s) ≡ want_back (sort_number s)
unfolding want_back pick
given_want sort.Number = refl
given_want sort.Tree = refl

pub given_is : (b : ℕ) → given (sort_at b) ≡ mode_of (b * 2)
unfolding sort_at mode_of pick
given_is zero = refl
given_is (suc zero) = refl
given_is (suc (suc n)) =
    let e : eqb (suc (suc n)) 0 ≡ false = ne_eqb (suc (suc n)) 0 (λ e. absurd (omega arith)) in
    rw e (sym (past_one (suc (suc n) * 2) (omega arith)))

pub sort_is : (s : S.Sort) → sort_number (sort_at (sort_byte s)) ≡ sort_byte s
unfolding sort_at pick
sort_is S.Sort.number = refl
sort_is S.Sort.tree = refl

module _ (bytes : List ℕ) (scale at count modes bound j b : ℕ) (out : List Slot) (k : Kind) where
  pub laid_again : (X : List Slot) → X ≡ laid_of bytes scale at (count - j) (modes + j) (bound + j) out → j < count → b ≡ byte_at bytes (modes + j) → k ≡ kind_at (b * scale)
      → X ≡ laid_of bytes scale at (count - (j + 1)) (modes + (j + 1)) (bound + (j + 1)) (set out (bound + j) (bound_slot k at))
  laid_again X x h eb ek =
      let p : count - (j + 1) ≡ count - j - 1 = omega arith in
      let q : modes + (j + 1) ≡ modes + j + 1 = omega arith in
      let r : bound + (j + 1) ≡ bound + j + 1 = omega arith in
      x ∙ rw (p, q, r) (laid_turn bytes scale at (count - j) (modes + j) (bound + j) b out k (omega arith) eb ek)

module _ (bytes : List ℕ) (slots : List Slot) (bound scale count modes at j earlier spent i : ℕ) (X : Taken) (x : X ≡ list_of bytes slots bound scale (count - j) (modes + j) (at + j) earlier spent) (h : j < count)
    (ei : i ≡ byte_at bytes (at + j)) where
  pub list_out : bound ≤ i → X ≡ fault 7 (at + j)
  list_out l = x ∙ list_unbound bytes slots bound scale (count - j) (modes + j) (at + j) earlier spent i (omega arith) ei l

  module _ (b : ℕ) (w : Want) (barred : Bool) (t : Taken) (l : i < bound) (eb : b ≡ byte_at bytes (modes + j)) (ew : w ≡ want_at (b * scale)) (er : barred ≡ bars_of w earlier i)
      (et : t ≡ take_kind (get_or slots i unbound).kind i (at + j) w barred spent) where
    pub list_fault : (t.number ≡ 0 → ⊥) → X ≡ t
    list_fault z = x ∙ list_stops bytes slots bound scale (count - j) (modes + j) (at + j) earlier spent i b w barred t (omega arith) ei l eb ew er et z

    pub list_again : t.number ≡ 0 → (earlier' : ℕ) → earlier' ≡ bit_or earlier (2 ^ i)
        → X ≡ list_of bytes slots bound scale (count - (j + 1)) (modes + (j + 1)) (at + (j + 1)) earlier' t.spent
    list_again z earlier' ee =
        let p : count - (j + 1) ≡ count - j - 1 = omega arith in
        let q : modes + (j + 1) ≡ modes + j + 1 = omega arith in
        let r : at + (j + 1) ≡ at + j + 1 = omega arith in
        x ∙ rw (p, q, r) (list_turn bytes slots bound scale (count - j) (modes + j) (at + j) earlier spent i b w barred t (omega arith) ei l eb ew er et z earlier' ee)

-- ---- and the credit behind them
module _ (bytes : List ℕ) (scale at count modes bound : ℕ) (credit : Bool) (j : ℕ) (slots out : List Slot)
    (x : laid_of bytes scale at count modes bound slots ≡ laid_of bytes scale at (count - j) (modes + j) (bound + j) out) (h : count ≤ j) where
  laid_all : laid_of bytes scale at count modes bound slots ≡ out
  laid_all = x ∙ laid_end bytes scale at (count - j) (modes + j) (bound + j) out (omega arith)

  pub bound_credit : credit ≡ true → set out (bound + count) (bound_slot (kind.Credit count) at) ≡ bound_of bytes scale at count modes bound slots (digit credit)
  unfolding bound_of pick
  bound_credit e = rw (e, laid_all)

  pub bound_plain : credit ≡ false → out ≡ bound_of bytes scale at count modes bound slots (digit credit)
  unfolding bound_of pick
  bound_plain e = rw (e, laid_all)
