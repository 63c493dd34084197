-- The slots that a branch and a body start from, and a branch list by the bytes, step by step. Assumes nothing.
use Prim.Native.Nat.{ℕ, zero, suc, ◌+◌, ◌-◌, ◌*◌, ◌^◌, ◌≤◌, ◌<◌}
use mathlib.Core.Path.{◌≡◌, refl, sym, ap, ap₂, ◌∙◌, subst}
use mathlib.Core.List.{List, [], ◌∷◌, ◌++◌, map, append_assoc, append-nil, map-append}
use mathlib.Core.Bool.{Bool, true, false, not}
use native.Mathlib.Omega.{arith}
use lib.ListN.{length, set, get_or, length-map, length-set}
use lib.Dec.{eqb}
use lib.Bits.{bit_or}
use borrow.Author.Tests.{ne_eqb}
use Rattle.meaning.specs.declared.Kind.TheVariants as kind
use Rattle.meaning.specs.declared.Slot.{Slot}
use Rattle.meaning.specs.Choice.{pick}
use Rattle.meaning.specs.Syntax.{Sort, Mode, Term, Branches, Constructor, File}
use Rattle.meaning.specs.Syntax as S
use Rattle.meaning.specs.Plain.{place_of}
use Rattle.meaning.specs.Outcome.{Outcome, ok, then, require}
use Rattle.meaning.specs.Ownership.{check, check_branches}
use Rattle.meaning.specs.Ownership as tree
use Rattle.meaning.specs.Calls.{calls, calls_branches}
use Rattle.standing.specs.Bytes.{byte_at, arity_in, fields_in}
use Rattle.standing.specs.Stands.{Stands, Each, count}
use Rattle.standing.specs.Stands as stands
use Rattle.standing.specs.Table.{Sorts, mode_byte}
use Rattle.checker.specs.Read.{Read, Next, Fault}
use Rattle.checker.specs.Bits.{bits_of}
use Rattle.checker.specs.Slots.{slot_of, slots_of, bound_slot, kind_at, mode_of}
use Rattle.checker.specs.Ownership.{laid_of, bound_of, credits_of, branch_of}
use Rattle.checker.specs.Noting.{note_calls}
use Rattle.checker.specs.OwnershipReady.{spanned, Ready, Judged, Noted, extra_by, bound_by, ReadyAll, Seen, JudgedAll, NotedAll}
use Rattle.checker.proofs.ownership.Spending.{slots_more}
use Rattle.checker.proofs.ownership.Taking.{Scaled, sorts_scaled, alike_with}
use Rattle.checker.proofs.ownership.Nodes.{noted_both}
use Rattle.checker.proofs.ownership.Cycle.{spanned_next, spanned_fault}

-- ---- slots bound one after the other

kind_is : (m : Mode) (at : ℕ) → slot_of (bound_slot (kind_at (mode_byte m)) at) ≡ tree.fresh (tree.kind_of m)
unfolding mode_of pick
kind_is Mode.number at = refl
kind_is Mode.lent at = refl
kind_is Mode.owned at = refl

laid_length : (bytes : List ℕ) (scale at n modes bound : ℕ) (xs : List Slot) → length (laid_of bytes scale at n modes bound xs) ≡ length xs
unfolding laid_of
laid_length bytes scale at zero modes bound xs = refl
laid_length bytes scale at (suc n) modes bound xs = laid_length bytes scale at n (modes + 1) (bound + 1) (set xs bound (bound_slot (kind_at (byte_at bytes modes * scale)) at)) ∙ simp length-set

pub laid_tells : (bytes : List ℕ) (scale at : ℕ) (ms : List Mode) (modes bound : ℕ) (xs : List Slot) → Scaled bytes scale modes ms → bound + length ms ≤ length xs
    → slots_of (bound + length ms) (laid_of bytes scale at (length ms) modes bound xs) ≡ tree.bind (slots_of bound xs) (map tree.kind_of ms)
unfolding laid_of
laid_tells bytes scale at [] modes bound xs s h =
    let e : bound + 0 ≡ bound = omega arith in
    rw e (sym (append-nil (slots_of bound xs)))
laid_tells bytes scale at (m ∷ ms) modes bound xs s h =
    let e : bound + suc (length ms) ≡ bound + 1 + length ms = omega arith in
    let v = bound_slot (kind_at (byte_at bytes modes * scale)) at in
    let l : bound + 1 + length ms ≤ length (set xs bound v) = simp length-set (omega arith) in
    ap (λ n. slots_of n (laid_of bytes scale at (length ms) (modes + 1) (bound + 1) (set xs bound v))) e
    ∙ laid_tells bytes scale at ms (modes + 1) (bound + 1) (set xs bound v) s.1 l
    ∙ ap (λ z. z ++ map tree.fresh (map tree.kind_of ms)) (slots_more bound xs v (omega arith) ∙ ap (λ z. slots_of bound xs ++ (z ∷ [])) (ap (λ n. slot_of (bound_slot (kind_at n) at)) s.0 ∙ kind_is m at))
    ∙ append_assoc (slots_of bound xs) (tree.fresh (tree.kind_of m) ∷ []) (map tree.fresh (map tree.kind_of ms))

-- ---- the slots of a branch

mode_lent : Sort → Mode
mode_lent Sort.number = Mode.number
mode_lent Sort.tree = Mode.lent

sorts_lent : (bytes : List ℕ) (p : ℕ) (ss : List Sort) → Sorts bytes p ss → Scaled bytes 1 p (map mode_lent ss)
unfolding mode_lent
sorts_lent bytes p [] h = tt
sorts_lent bytes p (Sort.number ∷ ss) h = (omega (arith, h.0), sorts_lent bytes (p + 1) ss h.2)
sorts_lent bytes p (Sort.tree ∷ ss) h = (omega (arith, h.0), sorts_lent bytes (p + 1) ss h.2)

kinds_lent : (ss : List Sort) → map tree.kind_of (map mode_lent ss) ≡ map tree.kind_lent ss
unfolding mode_lent
kinds_lent [] = refl
kinds_lent (Sort.number ∷ ss) = ap (λ l. tree.Kind.number ∷ l) (kinds_lent ss)
kinds_lent (Sort.tree ∷ ss) = ap (λ l. tree.Kind.lent ∷ l) (kinds_lent ss)

kinds_owned : (ss : List Sort) → map tree.kind_of (map tree.mode_owned ss) ≡ map tree.kind_owned ss
kinds_owned [] = refl
kinds_owned (Sort.number ∷ ss) = ap (λ l. tree.Kind.number ∷ l) (kinds_owned ss)
kinds_owned (Sort.tree ∷ ss) = ap (λ l. tree.Kind.owned ∷ l) (kinds_owned ss)

credits_are : (ss : List Sort) (credit : ℕ) → credit ≤ 1 → credits_of (length ss) credit ≡ extra_by credit ss
unfolding credits_of pick
credits_are [] zero h = refl
credits_are [] (suc n) h = refl
credits_are (x ∷ ss) zero h = go (eqb (suc (length ss)) 0)
  where
    go : (b : Bool) → ◌≡◌ {A = ℕ} (pick b 0 0) 0
    go true = refl
    go false = refl
credits_are (x ∷ ss) (suc n) h =
    let e : eqb (suc (length ss)) 0 ≡ false = ne_eqb (suc (length ss)) 0 (λ z. omega arith) in
    let k : suc n ≡ 1 = omega arith in
    rw (e, k)

module _ (bytes decl : List ℕ) (at : ℕ) (slots : List Slot) (wide : length slots ≡ 32) (bound : ℕ) where
  branch_lent : (c : ℕ) (ss : List Sort) → arity_in decl c ≡ length ss → Sorts bytes (fields_in decl c) ss → bound + length ss ≤ 32
      → slots_of (bound + arity_in decl c + credits_of (arity_in decl c) 0) (branch_of bytes decl c at 0 slots bound) ≡ tree.bind (slots_of bound slots) (tree.bound_by_LK ss)
  unfolding branch_of bound_of pick
  branch_lent c ss a s h =
      let z : credits_of (length ss) 0 ≡ 0 = credits_are ss 0 (omega arith) in
      let n : bound + length ss + 0 ≡ bound + length (map mode_lent ss) = omega (arith, length-map ss mode_lent) in
      let l : bound + length (map mode_lent ss) ≤ length slots = omega (arith, length-map ss mode_lent) in
      rw (a, z) (ap₂ (λ x y. slots_of x (laid_of bytes 1 at y (fields_in decl c) bound slots)) n (sym (length-map ss mode_lent))
      ∙ laid_tells bytes 1 at (map mode_lent ss) (fields_in decl c) bound slots (sorts_lent bytes (fields_in decl c) ss s) l
      ∙ ap (tree.bind (slots_of bound slots)) (kinds_lent ss))

  owned_laid : (p : ℕ) (ss : List Sort) → Sorts bytes p ss → bound + length ss ≤ 32
      → slots_of (bound + length ss) (laid_of bytes 2 at (length ss) p bound slots) ≡ tree.bind (slots_of bound slots) (map tree.kind_owned ss)
  owned_laid p ss s h =
      let l : bound + length (map tree.mode_owned ss) ≤ length slots = omega (arith, length-map ss tree.mode_owned) in
      ap (λ x. slots_of (bound + x) (laid_of bytes 2 at x p bound slots)) (sym (length-map ss tree.mode_owned))
      ∙ laid_tells bytes 2 at (map tree.mode_owned ss) p bound slots (sorts_scaled bytes p ss s) l
      ∙ ap (tree.bind (slots_of bound slots)) (kinds_owned ss)

  bind_append : (xs : tree.Slots) (ks ls : List tree.Kind) → tree.bind xs ks ++ map tree.fresh ls ≡ tree.bind xs (ks ++ ls)
  bind_append xs ks ls = append_assoc xs (map tree.fresh ks) (map tree.fresh ls) ∙ ap (λ z. xs ++ z) (sym (map-append tree.fresh ks ls))

  branch_owned : (c : ℕ) (ss : List Sort) → arity_in decl c ≡ length ss → Sorts bytes (fields_in decl c) ss → bound + (length ss + extra_by 1 ss) ≤ 32
      → slots_of (bound + arity_in decl c + credits_of (arity_in decl c) 1) (branch_of bytes decl c at 1 slots bound) ≡ tree.bind (slots_of bound slots) (tree.bound_by_OP ss)
  unfolding branch_of bound_of pick
  branch_owned c [] a s h =
      let z : credits_of 0 1 ≡ 0 = credits_are [] 1 (omega arith) in
      let n : bound + 0 + 0 ≡ bound + 0 = omega arith in
      rw (a, z) (ap (λ x. slots_of x (laid_of bytes 2 at 0 (fields_in decl c) bound slots)) n ∙ owned_laid (fields_in decl c) [] s (omega arith))
  branch_owned c (x ∷ ss) a s h =
      let z : credits_of (length (x ∷ ss)) 1 ≡ 1 = credits_are (x ∷ ss) 1 (omega arith) in
      let out = laid_of bytes 2 at (length (x ∷ ss)) (fields_in decl c) bound slots in
      let l : bound + length (x ∷ ss) < length out = omega (arith, laid_length bytes 2 at (length (x ∷ ss)) (fields_in decl c) bound slots) in
      rw (a, z) (slots_more (bound + length (x ∷ ss)) out (bound_slot (kind.Credit (length (x ∷ ss))) at) l
      ∙ ap (λ y. y ++ (tree.fresh (tree.Kind.credit (length (x ∷ ss))) ∷ [])) (owned_laid (fields_in decl c) (x ∷ ss) s (omega arith))
      ∙ bind_append (slots_of bound slots) (map tree.kind_owned (x ∷ ss)) (tree.credit_of (x ∷ ss)))

  branch_tells : (c credit : ℕ) (ss : List Sort) → credit ≤ 1 → arity_in decl c ≡ length ss → Sorts bytes (fields_in decl c) ss → bound + (length ss + extra_by credit ss) ≤ 32
      → slots_of (bound + arity_in decl c + credits_of (arity_in decl c) credit) (branch_of bytes decl c at credit slots bound) ≡ tree.bind (slots_of bound slots) (bound_by credit ss)
  branch_tells c zero ss f a s h = branch_lent c ss a s (omega arith)
  branch_tells c (suc zero) ss f a s h = branch_owned c ss a s h
  branch_tells c (suc (suc n)) ss f a s h = absurd (omega arith)

-- ---- a branch of a list

record View (file : File) (bytes : List ℕ) (slots : ℕ) (extra : Constructor → ℕ) (at : ℕ) (bs : Branches) (next : ℕ) : Type 0 where
  con : ℕ
  term : Term
  rest : Branches
  second : ℕ
  is : bs ≡ S.BR at con term rest
  within : at + 3 ≤ length bytes
  byte : byte_at bytes (at + 2) ≡ con
  low : con < length file.constructors
  few : slots + (length (get_or file.constructors con []) + extra (get_or file.constructors con [])) ≤ 32
  here : place_of term ≡ at + 3
  stands : Stands file bytes (slots + (length (get_or file.constructors con []) + extra (get_or file.constructors con []))) term second
  each : Each file bytes slots extra second rest next

moved : {file : File} {bytes : List ℕ} {slots : ℕ} {extra : Constructor → ℕ} {at p : ℕ} {bs : Branches} {next : ℕ} → at ≡ p → View file bytes slots extra p bs next → View file bytes slots extra at bs next
moved {file} {bytes} {slots} {extra} {at} {p} {bs} {next} e v = subst (λ q. View file bytes slots extra q bs next) (sym e) v

view : {file : File} {bytes : List ℕ} {slots : ℕ} {extra : Constructor → ℕ} {at : ℕ} {bs : Branches} {next : ℕ} → Each file bytes slots extra at bs next → (count bs ≡ 0 → ⊥)
    → View file bytes slots extra at bs next
view (stands.end n) h = absurd (h refl)
view (stands.BR {p} {c} {second} {next} {extra} {t} {bs} e m l ec lc f q s each) h = moved e (record {
  con = c;
  term = t;
  rest = bs;
  second = second;
  is = refl;
  within = l;
  byte = ec;
  low = lc;
  few = f;
  here = q;
  stands = s;
  each = each;
})

no_branches : {file : File} {bytes : List ℕ} {slots : ℕ} {extra : Constructor → ℕ} {at : ℕ} {bs : Branches} {next : ℕ} → Each file bytes slots extra at bs next → count bs ≡ 0
    → (bs ≡ S.end) × (next ≡ at)
no_branches (stands.end n) h = (refl, n)
no_branches (stands.BR e m l ec lc f q s each) h = absurd (omega arith)

pub end_judged : {bytes decl : List ℕ} {at left credit seen result : ℕ} {slots : List Slot} {bound : ℕ} → left ≡ 0
    → JudgedAll bytes decl at left credit seen result slots bound (Next at)
unfolding spanned check_branches
end_judged {credit = credit} {slots = slots} {bound = bound} z = record {
  judged = λ g list s.
      let n = no_branches g.each (g.many ∙ z) in
      ap Next (sym n.1) ∙ sym (ap (λ bs. spanned g.next (check_branches g.file.constructors g.file.functions g.sort bs (bound_by credit) list (slots_of bound slots))) n.0);
}

pub end_noted : {bytes decl : List ℕ} {at left credit result bound w : ℕ} → left ≡ 0 → NotedAll bytes decl at left credit result bound w w
unfolding calls note_calls
end_noted {w = w} z = record { noted = λ g f. sym (ap (λ bs. note_calls (calls_branches bs f) w) (no_branches g.each (g.many ∙ z)).0) }

module _ {bytes decl : List ℕ} {at left credit result bound : ℕ} (some : left ≡ 0 → ⊥) (g : ReadyAll bytes decl at left credit result bound) where
  abbrev constructor : ℕ
  constructor = byte_at bytes (at + 2)

  abbrev more : ℕ
  more = bound + arity_in decl constructor + credits_of (arity_in decl constructor) credit

  viewed : View g.file bytes bound (extra_by credit) at g.branches g.next
  viewed = view g.each (λ z. some (sym g.many ∙ z))

  abbrev sorts : List Sort
  sorts = get_or g.file.constructors viewed.con []

  arity_is : arity_in decl constructor ≡ length sorts
  arity_is = ap (arity_in decl) viewed.byte ∙ g.declared.arities viewed.con viewed.low

  more_is : bound + (length sorts + extra_by credit sorts) ≡ more
  more_is =
      let e = arity_is in
      let x : credits_of (arity_in decl constructor) credit ≡ extra_by credit sorts = ap (λ k. credits_of k credit) e ∙ credits_are sorts credit g.flag in
      omega arith

  branch_low : (at + 3 ≤ length bytes) × (at ≤ 4096) × (constructor < 64) × (more ≤ 32) × (credit ≤ 1)
  branch_low =
      let s = g.declared.size in
      let n = g.declared.constructors in
      (viewed.within, omega (arith, viewed.within), omega (arith, viewed.low, viewed.byte), omega (arith, viewed.few, more_is), g.flag)

  branch_ready : Ready bytes decl (at + 3) result more
  branch_ready = record {
    file = g.file;
    declared = g.declared;
    sort = g.sort;
    wanted = g.wanted;
    term = viewed.term;
    next = viewed.second;
    here = viewed.here;
    stands = subst (λ n. Stands g.file bytes n viewed.term viewed.second) more_is viewed.stands;
    few = branch_low.3;
  }

  abbrev checks : tree.Slots → Outcome (Unit {0})
  checks left = check g.file.constructors g.file.functions g.sort viewed.term left

  -- the branch's own check, and then the rest's
  branch_check : (slots : List Slot) → length slots ≡ 32 → (list : List ℕ)
      → check_branches g.file.constructors g.file.functions g.sort g.branches (bound_by credit) list (slots_of bound slots)
      ≡ then (require 12 (at + 2) (not (tree.member constructor list)))
      (λ _. then (checks (slots_of more (branch_of bytes decl constructor at credit slots bound)))
      (λ _. check_branches g.file.constructors g.file.functions g.sort viewed.rest (bound_by credit) (constructor ∷ list) (slots_of bound slots)))
  unfolding check_branches
  branch_check slots wide list =
      let tells : slots_of more (branch_of bytes decl constructor at credit slots bound) ≡ tree.bind (slots_of bound slots) (bound_by credit sorts) =
      branch_tells bytes decl at slots wide bound constructor credit sorts g.flag arity_is
      (subst (λ c. Sorts bytes (fields_in decl c) sorts) (sym viewed.byte) (g.declared.sorts viewed.con viewed.low)) viewed.few in
      ap (λ bs. check_branches g.file.constructors g.file.functions g.sort bs (bound_by credit) list (slots_of bound slots)) viewed.is
      ∙ rw (tells, viewed.byte)

  count_rest : count viewed.rest ≡ left - 1
  count_rest = let e = sym g.many ∙ ap count viewed.is in omega arith

-- what the code has made of a branch
pub record Opened (bytes decl : List ℕ) (at left credit seen : ℕ) (slots : List Slot) (bound c k x : ℕ) (inner : List Slot) : Type 0 where
  pub wide : length slots ≡ 32
  pub some : left ≡ 0 → ⊥
  pub con : c ≡ byte_at bytes (at + 2)
  pub new : get_or (bits_of 64 seen) c false ≡ false
  pub arity : k ≡ arity_in decl c
  pub kept : inner ≡ branch_of bytes decl c at credit slots bound
  pub extra : x ≡ credits_of k credit

-- a constructor that was seen
pub branch_twice : {bytes decl : List ℕ} {at left credit seen result : ℕ} {slots : List Slot} {bound c : ℕ} → length slots ≡ 32 → (left ≡ 0 → ⊥) → c ≡ byte_at bytes (at + 2)
    → get_or (bits_of 64 seen) c false ≡ true → JudgedAll bytes decl at left credit seen result slots bound (Fault 12 (at + 2))
unfolding spanned
branch_twice {bytes} {at = at} {seen = seen} {slots = slots} {c = c} wide some ec b = record {
  judged = λ g list s.
      let m : tree.member (byte_at bytes (at + 2)) list ≡ true = s (byte_at bytes (at + 2)) ∙ ap (λ z. get_or (bits_of 64 seen) z false) (sym ec) ∙ b in
      sym (ap (spanned g.next) (branch_check some g slots wide list) ∙ rw m);
}

more_eq : {bytes decl : List ℕ} {at left credit seen : ℕ} {slots : List Slot} {bound c k x : ℕ} {inner : List Slot} → Opened bytes decl at left credit seen slots bound c k x inner
    → bound + k + x ≡ bound + arity_in decl (byte_at bytes (at + 2)) + credits_of (arity_in decl (byte_at bytes (at + 2))) credit
more_eq o = rw (o.extra, o.arity, o.con)

module _ {bytes decl : List ℕ} {at left credit seen result : ℕ} {slots : List Slot} {bound c k x : ℕ} {inner : List Slot}
    (o : Opened bytes decl at left credit seen slots bound c k x inner) where
  unseen : (g : ReadyAll bytes decl at left credit result bound) (list : List ℕ) → Seen list seen → tree.member (byte_at bytes (at + 2)) list ≡ false
  unseen g list s = s (byte_at bytes (at + 2)) ∙ ap (λ z. get_or (bits_of 64 seen) z false) (sym o.con) ∙ o.new

  module _ {r : Read} (j : Judged bytes decl (at + 3) result inner (bound + k + x) r) where
    abbrev ready_slots : ReadyAll bytes decl at left credit result bound → List Slot
    ready_slots g = branch_of bytes decl (byte_at bytes (at + 2)) at credit slots bound

    told : (g : ReadyAll bytes decl at left credit result bound)
        → r ≡ spanned (viewed o.some g).second (checks o.some g (slots_of (more o.some g) (ready_slots g)))
    unfolding branch_ready
    told g =
        let i : Judged bytes decl (at + 3) result (ready_slots g) (more o.some g) r =
        subst (λ n. Judged bytes decl (at + 3) result (ready_slots g) n r) (more_eq o)
        (subst (λ z. Judged bytes decl (at + 3) result z (bound + k + x) r) (o.kept ∙ ap (λ z. branch_of bytes decl z at credit slots bound) o.con) j) in
        i.judged (branch_ready o.some g)

    pub branch_stops : {a b : ℕ} → r ≡ Fault a b → JudgedAll bytes decl at left credit seen result slots bound (Fault a b)
    unfolding spanned
    branch_stops {a} {b} e = record {
      judged = λ g list s.
          let m = unseen g list s in
          let y = spanned_fault (viewed o.some g).second a b (checks o.some g (slots_of (more o.some g) (ready_slots g))) (sym e ∙ told g) in
          sym (ap (spanned g.next) (branch_check o.some g slots o.wide list) ∙ rw (m, y));
    }

    fine_told : {n : ℕ} → r ≡ Next n → (g : ReadyAll bytes decl at left credit result bound)
        → (checks o.some g (slots_of (more o.some g) (ready_slots g)) ≡ ok tt) × (n ≡ (viewed o.some g).second)
    fine_told {n} e g = spanned_next (viewed o.some g).second n (checks o.some g (slots_of (more o.some g) (ready_slots g))) (sym e ∙ told g)

    rest_ready : {n : ℕ} → r ≡ Next n → ReadyAll bytes decl at left credit result bound → ReadyAll bytes decl n (left - 1) credit result bound
    rest_ready {n} e g = record {
      file = g.file;
      declared = g.declared;
      sort = g.sort;
      wanted = g.wanted;
      branches = (viewed o.some g).rest;
      next = g.next;
      many = count_rest o.some g;
      each = subst (λ p. Each g.file bytes bound (extra_by credit) p (viewed o.some g).rest g.next) (sym (fine_told e g).1) (viewed o.some g).each;
      few = g.few;
      flag = g.flag;
    }

    pub branch_judged : {n seen' : ℕ} {s : Read} → r ≡ Next n → seen' ≡ bit_or seen (2 ^ c) → JudgedAll bytes decl n (left - 1) credit seen' result slots bound s
        → JudgedAll bytes decl at left credit seen result slots bound s
    unfolding rest_ready
    branch_judged {n} {seen'} {s} e es i = record {
      judged = λ g list l.
          let m = unseen g list l in
          let with : Seen (byte_at bytes (at + 2) ∷ list) seen' =
          subst (Seen (byte_at bytes (at + 2) ∷ list)) (sym (es ∙ ap (λ z. bit_or seen (2 ^ z)) o.con)) (alike_with 64 list seen (byte_at bytes (at + 2)) (branch_low o.some g).2 l) in
          i.judged (rest_ready e g) (byte_at bytes (at + 2) ∷ list) with
          ∙ sym (ap (spanned g.next) (branch_check o.some g slots o.wide list) ∙ rw (m, (fine_told e g).0));
    }

    pub branch_noted : {n w v u : ℕ} → r ≡ Next n → Noted bytes decl (at + 3) result (bound + k + x) w v → NotedAll bytes decl n (left - 1) credit result bound v u
        → NotedAll bytes decl at left credit result bound w u
    unfolding calls branch_ready rest_ready
    branch_noted {n} {w} {v} {u} e h i = record {
      noted = λ g f.
          let b : Noted bytes decl (at + 3) result (more o.some g) w v = subst (λ z. Noted bytes decl (at + 3) result z w v) (more_eq o) h in
          let t = (viewed o.some g).term in
          let bs = (viewed o.some g).rest in
          i.noted (rest_ready e g) f
          ∙ sym (ap (λ z. note_calls (calls_branches z f) w) (viewed o.some g).is ∙ noted_both (calls t f) (calls_branches bs f) w
          ∙ ap (note_calls (calls_branches bs f)) (sym (b.noted (branch_ready o.some g) f)));
    }
