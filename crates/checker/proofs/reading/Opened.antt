-- The header: nothing is read yet, one constructor or one function more, and what refuses it. Assumes nothing.
use Prim.Native.Nat.{ℕ, zero, suc, ◌+◌, ◌-◌, ◌*◌, ◌%◌, ◌≤◌, ◌<◌}
use mathlib.Core.List.{List, [], ◌∷◌, ◌++◌}
use mathlib.Core.Bool.{Bool, true, false}
use mathlib.Core.Option.{Option, some}
use mathlib.Core.Path.{◌≡◌, refl, sym, ap, ◌∙◌, subst}
use lib.ListN.{length, get_or, set, get_elem?, replicate, length-replicate, get_or-replicate, length-set, length-append}
use lib.Seq.{get_or-set_same, get_or-set_other}
use lib.Dec.{ltb, eqb}
use native.Mathlib.Omega.{arith}
use borrow.Author.Tests.{leb-false, ltb-true, ltb-false, eqb-true, eqb-false, lt-ltb}
use Rattle.meaning.specs.Choice.{pick}
use Rattle.meaning.specs.Syntax.{Signature, Constructor}
use Rattle.meaning.specs.declared.Mark.TheVariants.{CN, FN}
use Rattle.meaning.specs.Marks.{find_mark, mark_of}
use Rattle.meaning.specs.Reading.{header}
use Rattle.standing.specs.Bytes.{mark_at, number_at}
use Rattle.standing.specs.Table.{con_end, fun_end}
use Rattle.checker.specs.Read.{Read, Next, Fault}
use Rattle.checker.specs.ReadingBytes.{known_arity, known_count, small_bytes, on_next, counted_at, con_at, fun_at}
use Rattle.checker.specs.Reads.{Declares, arity_of, count_of, From, on, off}
use Rattle.checker.specs.Opening.{table_with, Conned, Headed, Refused}
use Rattle.checker.proofs.reading.Named.{named, mark_is}
use Rattle.checker.proofs.reading.Steps.{by_pick, from_le, from_fault, from_pick, from_small, short, wrong}
use Rattle.checker.proofs.reading.Tabled.{con_end_more, fun_end_more, table_con, table_fun, table_blank}
use Rattle.checker.proofs.reading.Heads.{head_more}
use Rattle.checker.proofs.reading.Heading.{con_got, con_fails, con_full, con_more, fun_got, fun_fails, fun_full, fun_more}

-- ---- a list with one entry more
last_is : {A : Type 0} (xs : List A) (x : A) → get_elem? (xs ++ (x ∷ [])) (length xs) ≡ some x
last_is [] x = refl
last_is (y ∷ xs) x = last_is xs x

other_is : {A : Type 0} (xs : List A) (x : A) (b : ℕ) → (b ≡ length xs → ⊥) → get_elem? (xs ++ (x ∷ [])) b ≡ get_elem? xs b
other_is [] x zero h = absurd (h refl)
other_is [] x (suc b) h = refl
other_is (y ∷ xs) x zero h = refl
other_is (y ∷ xs) x (suc b) h = other_is xs x b (λ e. h (ap suc e))

-- what is known of each entry, by its index, is known with one entry more
entries_more : {A : Type 0} (known known' : ℕ → ℕ) (of : Option A → ℕ) (xs : List A) (x : A) → ((b : ℕ) → known b ≡ of (get_elem? xs b)) → known' (length xs) ≡ of (some x)
    → ((b : ℕ) → (b ≡ length xs → ⊥) → known' b ≡ known b) → (b : ℕ) → known' b ≡ of (get_elem? (xs ++ (x ∷ [])) b)
entries_more known known' of xs x each here kept b = go (eqb b (length xs)) refl
  where
    go : (u : Bool) → eqb b (length xs) ≡ u → known' b ≡ of (get_elem? (xs ++ (x ∷ [])) b)
    go true z = subst (λ n. known' n ≡ of (get_elem? (xs ++ (x ∷ [])) n)) (sym (eqb-true b (length xs) z)) (here ∙ ap of (sym (last_is xs x)))
    go false z = let h = eqb-false b (length xs) z in kept b h ∙ each b ∙ ap of (sym (other_is xs x b h))

all_more : {A : Type 0} (P : A → Type 0) (xs : List A) (x : A) → ((b : ℕ) (y : A) → get_elem? xs b ≡ some y → P y) → P x → (b : ℕ) (y : A) → get_elem? (xs ++ (x ∷ [])) b ≡ some y → P y
all_more P xs x each here b y e = go (eqb b (length xs)) refl
  where
    go : (u : Bool) → eqb b (length xs) ≡ u → P y
    go true z =
        let r : some x ≡ some y = sym (last_is xs x) ∙ subst (λ n. get_elem? (xs ++ (x ∷ [])) n ≡ some y) (eqb-true b (length xs) z) e in
        let v : x ≡ y = cc in
        subst P v here
    go false z = each b y (sym (other_is xs x b (eqb-false b (length xs) z)) ∙ e)

-- ---- one constructor more in the table
put_arity : (d : List ℕ) (n w : ℕ) → n < length d → n < 64 → known_arity (set d n w) n ≡ w % 256
unfolding known_arity pick
put_arity d n w h l = rw (lt-ltb n 64 l, get_or-set_same d n w 0 h)

kept_arity : (d : List ℕ) (n w b : ℕ) → (b ≡ n → ⊥) → known_arity (set d n w) b ≡ known_arity d b
unfolding known_arity
kept_arity d n w b h = rw (get_or-set_other d n b w 0 h)

kept_count : (d : List ℕ) (n w b : ℕ) → n < 64 → known_count (set d n w) b ≡ known_count d b
unfolding known_count
kept_count d n w b l = rw (get_or-set_other d n (64 + b) w 0 (λ e. omega arith))

declares_con : (d : List ℕ) (cs : List Constructor) (fs : List Signature) (w : ℕ) (c : Constructor) → Declares d cs fs → length d ≡ 128 → length cs < 64 → w % 256 ≡ length c → length c ≤ 4
    → Declares (set d (length cs) w) (cs ++ (c ∷ [])) fs
unfolding arity_of
declares_con d cs fs w c D e l q s = record {
  arities = entries_more (known_arity d) (known_arity (set d (length cs) w)) arity_of cs c D.arities (put_arity d (length cs) w (omega arith) l ∙ q) (kept_arity d (length cs) w);
  counts = λ b. kept_count d (length cs) w b l ∙ D.counts b;
  few_fields = all_more (λ x. length x ≤ 4) cs c D.few_fields s;
  few_parameters = D.few_parameters;
}

-- ---- nothing is declared yet; n is 128, and stays a variable so that the table is not written out
start_arity : (n b : ℕ) → 64 ≤ n → known_arity (replicate n 255) b ≡ 255
unfolding known_arity pick
start_arity n b h = go (ltb b 64) refl
  where
    go : (u : Bool) → ltb b 64 ≡ u → known_arity (replicate n 255) b ≡ 255
    go true e = let l = ltb-true b 64 e in rw (e, get_or-replicate {A = ℕ} n b 255 0 (omega arith))
    go false e = rw e

start_count : (n b : ℕ) → 128 ≤ n → known_count (replicate n 255) b ≡ 255
unfolding known_count pick
start_count n b h = go (ltb b 32) refl
  where
    go : (u : Bool) → ltb b 32 ≡ u → known_count (replicate n 255) b ≡ 255
    go true e = let l = ltb-true b 32 e in rw (e, get_or-replicate {A = ℕ} n (64 + b) 255 0 (omega arith))
    go false e = rw e

declares_none : (n : ℕ) → n ≡ 128 → Declares (replicate n 255) [] []
unfolding arity_of count_of
declares_none n e =
    record {
      arities = λ b. start_arity n b (omega arith);
      counts = λ b. start_count n b (omega arith);
      few_fields = λ b c q. let z : ◌≡◌ {A = ℕ} 0 1 = cc in absurd (omega arith);
      few_parameters = λ b c q. let z : ◌≡◌ {A = ℕ} 0 1 = cc in absurd (omega arith);
    }

start_by : (f d : List ℕ) (n : ℕ) → n ≡ 128 → d ≡ table_with [] [] [] → d ≡ replicate n 255 → Conned f d 0 0
unfolding con_end
start_by f d n e t q =
    record {
      constructors = [];
      declares = subst (λ x. Declares x [] []) (sym q) (declares_none n e);
      table = t;
      wide = ap length q ∙ length-replicate {A = ℕ} n 255 ∙ e;
      count = refl;
      few = omega arith;
      place = refl;
      reached = omega arith;
      inside = omega arith;
      reads = λ m size. let z : m + 0 ≡ m = omega arith in ap (λ k. header k size [] [] 0 f) z;
    }

pub conned_start : (f d : List ℕ) → d ≡ table_with [] [] [] → Conned f d 0 0
conned_start f d t = start_by f d 128 refl t (t ∙ table_blank 128 refl)

-- ---- where a record of the header ends
data Until (e : ℕ) : Read → Type 0 where
  until : {n : ℕ} → n ≡ e → Until e (Next n)
  never : {x p : ℕ} → Until e (Fault x p)

until_pick : {e : ℕ} (b : Bool) {x y : Read} → Until e x → Until e y → Until e (pick b x y)
until_pick {e} b p q = by_pick (Until e) b p (λ _. q)

until_of : {e m : ℕ} {r : Read} → Until e r → r ≡ Next m → m ≡ e
until_of {m = m} (until {n = n} q) z = let w : n ≡ m = cc in sym w ∙ q
until_of never z = let w : ◌≡◌ {A = ℕ} 0 1 = cc in absurd (omega arith)

until_small : (k : ℕ) (f : List ℕ) (a top : ℕ) → Until (a + k) (small_bytes k f a top)
unfolding small_bytes
until_small zero f a top = let z : a ≡ a + 0 = omega arith in until z
until_small (suc k) f a top =
    let z : suc a + k ≡ a + suc k = omega arith in
    until_pick _ never (until_pick _ never (subst (λ e. Until e (small_bytes k f (suc a) top)) z (until_small k f (suc a) top)))

until_next : (e e' : ℕ) (r : Read) (g : ℕ → Read) → Until e r → Until e' (g e) → Until e' (on_next r g)
unfolding on_next
until_next e e' (Next n) g (until q) h = subst (λ m. Until e' (g m)) (sym q) h
until_next e e' (Fault x p) g never h = never

until_counted : (f : List ℕ) (a most top : ℕ) → Until (a + 1 + get_or f a 0) (counted_at f a most top)
unfolding counted_at
until_counted f a most top = until_pick _ never (until_pick _ never (until_small (get_or f a 0) f (a + 1) top))

con_ends : (f : List ℕ) (a m : ℕ) → con_at f a ≡ Next m → m ≡ a + 1 + get_or f a 0
unfolding con_at
con_ends f a m q = until_of {r = con_at f a} (until_counted f a 4 1) q

fun_ends : (f : List ℕ) (a m : ℕ) → fun_at f a ≡ Next m → m ≡ a + 1 + get_or f a 0 + 1
unfolding fun_at
fun_ends f a m q =
    until_of {r = fun_at f a} (until_next (a + 1 + get_or f a 0) _ (counted_at f a 8 2) _ (until_counted f a 8 2) (until_small 1 f (a + 1 + get_or f a 0) 1)) q

from_then : {f : List ℕ} {lo lo' : ℕ} {r : Read} (g : ℕ → Read) → From f lo r → ((n : ℕ) → lo ≤ n → n ≤ length f → From f lo' (g n)) → From f lo' (on_next r g)
unfolding on_next
from_then g (on {n = n} p q) h = h n p q
from_then g (off x q) h = off x q

from_counted : (f : List ℕ) (a most top : ℕ) → a ≤ length f → From f (a + 1) (counted_at f a most top)
unfolding counted_at
from_counted f a most top h =
    from_pick _ short (λ e. let l = leb-false (length f) a e in from_pick _ (wrong 4 a (omega arith) h) (λ _. from_small (get_or f a 0) f (a + 1) top (omega arith)))

from_con : (f : List ℕ) (a : ℕ) → a ≤ length f → From f (a + 1) (con_at f a)
unfolding con_at
from_con f a h = from_counted f a 4 1 h

from_fun : (f : List ℕ) (a : ℕ) → a ≤ length f → From f (a + 1) (fun_at f a)
unfolding fun_at
from_fun f a h = from_then _ (from_counted f a 8 2 h) (λ n p q. from_le p (from_small 1 f n 1 q))

-- ---- the constructors
pub is_con : (f : List ℕ) (at : ℕ) → number_at f at ≡ 0 → (at + 2 ≤ length f) × (mark_of (mark_at f at) ≡ CN)
unfolding number_at pick named
is_con f at e = go (ltb (length f) (at + 2)) refl
  where
    go : (u : Bool) → ltb (length f) (at + 2) ≡ u → (at + 2 ≤ length f) × (mark_of (mark_at f at) ≡ CN)
    go true q = let z : 16 ≡ number_at f at = rw q in absurd (omega arith)
    go false q = let z : number_at f at ≡ find_mark (mark_at f at) = rw q in (ltb-false (length f) (at + 2) q, mark_is (mark_at f at) 0 (sym z ∙ e))

module _ (f d : List ℕ) (n at : ℕ) (C : Conned f d n at) (e : number_at f at ≡ 0) where
  enough : (k : ℕ) → length f < k → k ≡ suc (k - n - 1) + n
  enough k h = let a = C.reached in let b = C.inside in omega arith

  pub conned_fails : (x p : ℕ) → con_at f (at + 2) ≡ Fault x p → Refused f x p
  unfolding Refused
  conned_fails x p q =
      let i = is_con f at e in
      let z = from_fault q (from_con f (at + 2) i.0) in
      (z.0, z.1, λ k size h. ap (λ m. header m size [] [] 0 f) (enough k h) ∙ C.reads (suc (k - n - 1)) size ∙ con_fails f size C.constructors at i.0 i.1 (k - n - 1) x p q)

  pub conned_full : (m : ℕ) → con_at f (at + 2) ≡ Next m → 64 ≤ n → Refused f 5 at
  unfolding Refused
  conned_full m q l =
      let i = is_con f at e in
      let c = con_got f (at + 2) m i.0 q in
      let w = C.count in (
        omega arith,
        C.inside,
        λ k size h.
            ap (λ j. header j size [] [] 0 f) (enough k h) ∙ C.reads (suc (k - n - 1)) size ∙ con_full f size C.constructors at i.0 i.1 (k - n - 1) m c.0 c.1 (omega arith),
      )

  pub conned_more : (m w : ℕ) → con_at f (at + 2) ≡ Next m → n < 64 → w ≡ get_or f (at + 2) 0 + 256 * (at + 2 + 1) → w % 256 ≡ get_or f (at + 2) 0 → Conned f (set d n w) (n + 1) m
  conned_more m w q l v r =
      let i = is_con f at e in
      let c = con_got f (at + 2) m i.0 q in
      let s = C.count in
      let a = C.reached in
      let p = C.place in
      let u : length C.constructors < 64 = omega arith in
      let word : w ≡ length c.0 + 256 * (con_end 0 C.constructors + 3) = omega (arith, c.2.0) in
      record {
        constructors = C.constructors ++ (c.0 ∷ []);
        declares = subst (λ k. Declares (set d k w) (C.constructors ++ (c.0 ∷ [])) []) s (declares_con d C.constructors [] w c.0 C.declares C.wide u (r ∙ sym c.2.0) c.2.1);
        table = ap (λ x. set x n w) C.table ∙ ap (λ j. set (table_with C.constructors [] []) j w) (sym s) ∙ table_con C.constructors c.0 w u word;
        wide = length-set d n w ∙ C.wide;
        count = length-append C.constructors (c.0 ∷ []) ∙ ap (λ k. k + 1) s;
        few = omega arith;
        place = let y = con_ends f (at + 2) m q in let z = con_end_more 0 C.constructors c.0 in omega (arith, c.2.0);
        reached = omega (arith, c.3);
        inside = c.4;
        reads = λ k size. let z : k + (n + 1) ≡ suc k + n = omega arith in
            ap (λ j. header j size [] [] 0 f) z ∙ C.reads (suc k) size ∙ con_more f size C.constructors at i.0 i.1 k m c.0 c.1 u;
      }

-- ---- one function more in the table
put_count : (d : List ℕ) (k w : ℕ) → 64 + k < length d → k < 32 → known_count (set d (64 + k) w) k ≡ w % 256
unfolding known_count pick
put_count d k w h l = rw (lt-ltb k 32 l, get_or-set_same d (64 + k) w 0 h)

count_other : (d : List ℕ) (k w b : ℕ) → (b ≡ k → ⊥) → known_count (set d (64 + k) w) b ≡ known_count d b
unfolding known_count
count_other d k w b h = rw (get_or-set_other d (64 + k) (64 + b) w 0 (λ e. let z : b ≡ k = omega arith in h z))

arity_kept : (d : List ℕ) (k w b : ℕ) → 64 ≤ k → known_arity (set d k w) b ≡ known_arity d b
unfolding known_arity pick
arity_kept d k w b h = go (ltb b 64) refl
  where
    go : (u : Bool) → ltb b 64 ≡ u → known_arity (set d k w) b ≡ known_arity d b
    go true e = let l = ltb-true b 64 e in rw (e, get_or-set_other d k b w 0 (λ z. omega arith))
    go false e = rw e

declares_fun : (d : List ℕ) (cs : List Constructor) (fs : List Signature) (w : ℕ) (c : Signature) → Declares d cs fs → length d ≡ 128 → length fs < 32 → w % 256 ≡ length c.parameters → length c.parameters ≤ 8
    → Declares (set d (64 + length fs) w) cs (fs ++ (c ∷ []))
unfolding count_of
declares_fun d cs fs w c D e l q s = record {
  arities = λ b. arity_kept d (64 + length fs) w b (omega arith) ∙ D.arities b;
  counts = entries_more (known_count d) (known_count (set d (64 + length fs) w)) count_of fs c D.counts (put_count d (length fs) w (omega arith) l ∙ q) (count_other d (length fs) w);
  few_fields = D.few_fields;
  few_parameters = all_more (λ x. length x.parameters ≤ 8) fs c D.few_parameters s;
}

-- the place of a body changes nothing of what is declared
count_kept : (d : List ℕ) (k w b : ℕ) → 96 ≤ k → known_count (set d k w) b ≡ known_count d b
unfolding known_count pick
count_kept d k w b h = go (ltb b 32) refl
  where
    go : (u : Bool) → ltb b 32 ≡ u → known_count (set d k w) b ≡ known_count d b
    go true e = let l = ltb-true b 32 e in rw (e, get_or-set_other d k (64 + b) w 0 (λ z. omega arith))
    go false e = rw e

pub declares_body : (d : List ℕ) (cs : List Constructor) (fs : List Signature) (k w : ℕ) → Declares d cs fs → 96 ≤ k → Declares (set d k w) cs fs
declares_body d cs fs k w D h =
    record {
      arities = λ b. arity_kept d k w b (omega arith) ∙ D.arities b;
      counts = λ b. count_kept d k w b h ∙ D.counts b;
      few_fields = D.few_fields;
      few_parameters = D.few_parameters;
    }

-- ---- the functions
pub headed_start : (f d : List ℕ) (n at : ℕ) → Conned f d n at → Headed f d 0 at
unfolding fun_end
headed_start f d n at C =
    let a = C.reached in
    let s = C.count in
    let w = C.few in
    record {
      constructors = C.constructors;
      functions = [];
      declares = C.declares;
      table = C.table;
      wide = C.wide;
      count = refl;
      few = omega arith;
      few_functions = omega arith;
      place = C.place;
      heads = λ g l. absurd (omega (arith, l));
      reached = omega arith;
      inside = C.inside;
      reads = λ m size. let z : m + (length C.constructors + 0) ≡ m + n = omega arith in ap (λ j. header j size [] [] 0 f) z ∙ C.reads m size;
    }

pub is_fun : (f : List ℕ) (at : ℕ) → number_at f at ≡ 1 → (at + 2 ≤ length f) × (mark_of (mark_at f at) ≡ FN)
unfolding number_at pick named
is_fun f at e = go (ltb (length f) (at + 2)) refl
  where
    go : (u : Bool) → ltb (length f) (at + 2) ≡ u → (at + 2 ≤ length f) × (mark_of (mark_at f at) ≡ FN)
    go true q = let z : 16 ≡ number_at f at = rw q in absurd (omega arith)
    go false q = let z : number_at f at ≡ find_mark (mark_at f at) = rw q in (ltb-false (length f) (at + 2) q, mark_is (mark_at f at) 1 (sym z ∙ e))

module _ (f d : List ℕ) (k at : ℕ) (C : Headed f d k at) where
  abbrev before : ℕ
  before = length C.constructors + k

  pub plenty : (j : ℕ) → length f < j → j ≡ suc (j - before - 1) + before
  plenty j h = let a = C.reached in let b = C.inside in omega arith

  module _ (e : number_at f at ≡ 1) where
    pub headed_fails : (x p : ℕ) → fun_at f (at + 2) ≡ Fault x p → Refused f x p
    unfolding Refused
    headed_fails x p q =
        let i = is_fun f at e in
        let z = from_fault q (from_fun f (at + 2) i.0) in (
          z.0,
          z.1,
          λ j size h.
              ap (λ m. header m size [] [] 0 f) (plenty j h) ∙ C.reads (suc (j - before - 1)) size ∙ fun_fails f size C.constructors C.functions at i.0 i.1 (j - before - 1) x p q,
        )

    pub headed_full : (m : ℕ) → fun_at f (at + 2) ≡ Next m → 32 ≤ k → Refused f 5 at
    unfolding Refused
    headed_full m q l =
        let i = is_fun f at e in
        let c = fun_got f (at + 2) m i.0 q in
        let w = C.count in (
          omega arith,
          C.inside,
          λ j size h.
              ap (λ m'. header m' size [] [] 0 f) (plenty j h) ∙ C.reads (suc (j - before - 1)) size ∙ fun_full f size C.constructors C.functions at i.0 i.1 (j - before - 1) m c.0 c.1 (omega arith),
        )

    pub headed_more : (m w : ℕ) → fun_at f (at + 2) ≡ Next m → k < 32 → w ≡ get_or f (at + 2) 0 + 256 * (at + 2 + 1) → w % 256 ≡ get_or f (at + 2) 0 → Headed f (set d (64 + k) w) (k + 1) m
    headed_more m w q l v r =
        let i = is_fun f at e in
        let c = fun_got f (at + 2) m i.0 q in
        let s = C.count in
        let a = C.reached in
        let p = C.place in
        let u : length C.functions < 32 = omega arith in
        let word : w ≡ length c.0.parameters + 256 * (fun_end (con_end 0 C.constructors) C.functions + 3) = omega (arith, c.2.0) in
        record {
          constructors = C.constructors;
          functions = C.functions ++ (c.0 ∷ []);
          declares = subst (λ j. Declares (set d (64 + j) w) C.constructors (C.functions ++ (c.0 ∷ []))) s (declares_fun d C.constructors C.functions w c.0 C.declares C.wide u (r ∙ sym c.2.0) c.2.1);
          table = ap (λ x. set x (64 + k) w) C.table ∙ ap (λ j. set (table_with C.constructors C.functions []) (64 + j) w) (sym s) ∙ table_fun C.constructors C.functions c.0 w C.few u word;
          wide = length-set d (64 + k) w ∙ C.wide;
          count = length-append C.functions (c.0 ∷ []) ∙ ap (λ j. j + 1) s;
          few = C.few;
          few_functions = omega arith;
          heads = head_more f d k at w C.wide l e (omega (arith, c.3, c.4)) v r C.heads;
          place = let y = fun_ends f (at + 2) m q in let z = fun_end_more (con_end 0 C.constructors) C.functions c.0 in omega (arith, c.2.0);
          reached = omega (arith, c.3);
          inside = c.4;
          reads = λ j size. let z : j + (length C.constructors + (k + 1)) ≡ suc j + before = omega arith in
              ap (λ m'. header m' size [] [] 0 f) z ∙ C.reads (suc j) size ∙ fun_more f size C.constructors C.functions at i.0 i.1 j m c.0 c.1 u;
        }
