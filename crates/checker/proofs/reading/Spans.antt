-- A reader of trees, run on the bytes from a place on, beside a read of the code: one law for each primitive reader. Assumes nothing.
use Prim.Native.Nat.{ℕ, suc, ◌+◌, ◌≤◌, ◌<◌}
use mathlib.Core.List.{List}
use mathlib.Core.Bool.{Bool, true, false}
use mathlib.Core.Option.{none, some}
use mathlib.Core.Path.{◌≡◌, refl, sym, subst}
use lib.ListN.{length, drop, get_or, get_elem?}
use lib.Dec.{ltb}
use native.Mathlib.Omega.{arith}
use Rattle.meaning.specs.Outcome.{Outcome, ok, refuse, then}
use Rattle.meaning.specs.Reading.{Reader, byte, ensure, times, declared, below}
use Rattle.checker.specs.Read.{Read, Next, Fault}
use Rattle.checker.specs.ReadingBytes.{on_next}
use Rattle.checker.specs.Reads.{span_of}
use Rattle.standing.specs.Bytes.{bytes_at}
use Rattle.standing.proofs.Readers.{byte_gen, bytes_gen, ensure_gen, declared_gen, below_gen, two_gen}

-- the outcome and the read say the same; where they go on, at lo or later and with the bytes from there on
pub data Spans {A : Type 0} (f : List ℕ) (lo : ℕ) : Outcome (A × ℕ × List ℕ) → Read → Type 0 where
  went : {a : A} {n : ℕ} {rest : List ℕ} → rest ≡ drop n f → lo ≤ n → n ≤ length f → Spans f lo (ok (a, n, rest)) (Next n)
  fell : {x p : ℕ} → Spans f lo (refuse x p) (Fault x p)

pub span_is : {A : Type 0} {f : List ℕ} {lo : ℕ} {o : Outcome (A × ℕ × List ℕ)} {r : Read} → Spans f lo o r → span_of o ≡ r
unfolding span_of
span_is (went e l h) = refl
span_is fell = refl

pub span_same : {A : Type 0} {f : List ℕ} {lo : ℕ} {o : Outcome (A × ℕ × List ℕ)} {r : Read} → Spans f lo o r → Spans f lo o (span_of o)
span_same {f = f} {lo = lo} {o = o} s = subst (Spans f lo o) (sym (span_is s)) s

pub bind : {A B : Type 0} {f : List ℕ} {lo lo' : ℕ} {o : Outcome (A × ℕ × List ℕ)} {r : Read} (k : A × ℕ × List ℕ → Outcome (B × ℕ × List ℕ)) (g : ℕ → Read)
    → Spans f lo o r → ((a : A) (n : ℕ) → lo ≤ n → n ≤ length f → Spans f lo' (k (a, n, drop n f)) (g n)) → Spans f lo' (then o k) (on_next r g)
unfolding on_next
bind {f = f} {lo' = lo'} k g (went {a = a} {n = n} e l h) c = subst (λ b. Spans f lo' (k (a, n, b)) (g n)) (sym e) (c a n l h)
bind k g fell c = fell

-- what was read goes into a larger tree
pub within : {A B : Type 0} {f : List ℕ} {lo lo' : ℕ} (o : Outcome (A × ℕ × List ℕ)) {r : Read} (h : A × ℕ × List ℕ → B)
    → lo' ≤ lo → Spans f lo o r → Spans f lo' (then o (λ x. ok (h x, x.1, x.2))) r
within {lo = lo} {lo' = lo'} o h q (went {n = n} e l e') = let w : lo' ≤ n = omega arith in went e w e'
within o h q fell = fell

-- ---- one law for each primitive reader
module _ {B : Type 0} (f : List ℕ) (lo : ℕ) (r : Read) where
  abbrev Goal : Outcome (B × ℕ × List ℕ) → Type 0
  Goal o = Spans f lo o r

  refuses : {x p : ℕ} → r ≡ Fault x p → Goal (refuse x p)
  refuses {x} {p} e = subst (Spans f lo (refuse x p)) (sym e) fell

  pub byte_law : (a : ℕ) (k : ℕ × ℕ × List ℕ → Outcome (B × ℕ × List ℕ)) → a ≤ length f → (length f ≤ a → r ≡ Fault 2 (length f))
      → (a < length f → Goal (k (get_or f a 0, suc a, drop (suc a) f))) → Goal (then (byte a (drop a f)) k)
  byte_law a k h short goes = byte_gen f Goal a k h (λ l. refuses (short l)) goes

  pub ensure_law : (x p a : ℕ) (bytes : List ℕ) (t : Bool) (k : Unit {0} × ℕ × List ℕ → Outcome (B × ℕ × List ℕ)) → (t ≡ false → r ≡ Fault x p)
      → (t ≡ true → Goal (k (tt, a, bytes))) → Goal (then (ensure x p t a bytes) k)
  ensure_law x p a bytes t k short goes = ensure_gen f Goal x p a bytes t k (λ e. refuses (short e)) goes

  pub declared_law : {A : Type 0} (xs : List A) (test : A → Bool) (a : ℕ) (k : (ℕ × A) × ℕ × List ℕ → Outcome (B × ℕ × List ℕ)) → a ≤ length f
      → (length f ≤ a → r ≡ Fault 2 (length f))
      → (a < length f → get_elem? xs (get_or f a 0) ≡ none → r ≡ Fault 4 a)
      → (a < length f → (x : A) → get_elem? xs (get_or f a 0) ≡ some x → test x ≡ false → r ≡ Fault 4 a)
      → (a < length f → (x : A) → get_elem? xs (get_or f a 0) ≡ some x → test x ≡ true → Goal (k ((get_or f a 0, x), suc a, drop (suc a) f)))
      → Goal (then (declared xs test a (drop a f)) k)
  declared_law xs test a k h short none_there fails goes =
      declared_gen f Goal xs test a k h (λ l. refuses (short l)) (λ l e. refuses (none_there l e)) (λ l x e q. refuses (fails l x e q)) goes

  pub below_law : (limit a : ℕ) (k : ℕ × ℕ × List ℕ → Outcome (B × ℕ × List ℕ)) → a ≤ length f → (length f ≤ a → r ≡ Fault 2 (length f))
      → (a < length f → ltb (get_or f a 0) limit ≡ false → r ≡ Fault 4 a)
      → (a < length f → ltb (get_or f a 0) limit ≡ true → Goal (k (get_or f a 0, suc a, drop (suc a) f))) → Goal (then (below limit a (drop a f)) k)
  below_law limit a k h short fails goes = below_gen f Goal limit a k h (λ l. refuses (short l)) (λ l e. refuses (fails l e)) goes

  pub two_law : {A : Type 0} (J : ℕ → ℕ → Reader A) (a : ℕ) (k : A × ℕ × List ℕ → Outcome (B × ℕ × List ℕ)) → a ≤ length f
      → (length f < a + 2 → r ≡ Fault 2 (length f))
      → (a + 2 ≤ length f → Goal (then (J (get_or f a 0) (get_or f (a + 1) 0) (a + 2) (drop (a + 2) f)) k))
      → Goal (then (then (byte a (drop a f)) (λ x. then (byte x.1 x.2) (λ y. J x.0 y.0 y.1 y.2))) k)
  two_law J a k h short goes = two_gen f Goal J a k h (λ l. refuses (short l)) goes

  pub bytes_law : (n a : ℕ) (k : List ℕ × ℕ × List ℕ → Outcome (B × ℕ × List ℕ)) → a ≤ length f
      → (length f < a + n → r ≡ Fault 2 (length f)) → ((ss : List ℕ) (b : ℕ) → b ≡ a + n → b ≤ length f → Goal (k (ss, b, drop b f)))
      → Goal (then (times n byte a (drop a f)) k)
  bytes_law n a k h short goes = bytes_gen f Goal n a k h (λ l. refuses (short l)) (λ b e l. goes (bytes_at f a n) b e l)
