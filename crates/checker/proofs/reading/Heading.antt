-- CN and FN: the readers of trees beside the bytes, and one turn of the header. Assumes nothing.
use Prim.Native.Nat.{ℕ, zero, suc, ◌+◌, ◌*◌, ◌≤◌, ◌<◌}
use mathlib.Core.List.{List, [], ◌∷◌, ◌++◌}
use mathlib.Core.Bool.{Bool, true, false}
use mathlib.Core.Path.{◌≡◌, refl, sym, ap, ◌∙◌, subst}
use lib.ListN.{length, drop, get_or}
use lib.Dec.{leb, ltb}
use native.Mathlib.Omega.{arith}
use borrow.Author.Tests.{ltb-true, ltb-false, le-leb, lt-leb, lt-ltb, le-ltb}
use Rattle.meaning.specs.Syntax.{Sort, Mode, Signature, Constructor, File}
use Rattle.meaning.specs.Outcome.{Outcome, ok, refuse, then}
use Rattle.meaning.specs.Reading.{Reader, ensure, below, times, sort, mode, constructor, signature, mark, entry, header, bodies}
use Rattle.meaning.specs.declared.Mark.{Mark}
use Rattle.meaning.specs.declared.Mark.TheVariants.{CN, FN, BD, ND, GV, AT, MK, CL, TL, OP, LK, BR, NU, AR, IF, Other}
use Rattle.meaning.specs.Marks.{find, marks, mark_of}
use Rattle.checker.specs.Read.{Read, Next, Fault}
use Rattle.meaning.specs.Choice.{pick}
use Rattle.standing.specs.Bytes.{mark_at}
use Rattle.checker.specs.ReadingBytes.{small_bytes, on_next, counted_at, con_at, fun_at}
use Rattle.standing.proofs.Readers.{below_gen, two_gen}

-- as `Spans`, with a fact P of what was read
pub data Tells {A : Type 0} (f : List ℕ) (lo : ℕ) (P : A → Type 0) : Outcome (A × ℕ × List ℕ) → Read → Type 0 where
  tells : {a : A} {n : ℕ} {rest : List ℕ} → rest ≡ drop n f → lo ≤ n → n ≤ length f → P a → Tells f lo P (ok (a, n, rest)) (Next n)
  mum : {x p : ℕ} → Tells f lo P (refuse x p) (Fault x p)

tells_bind : {A B : Type 0} (f : List ℕ) (lo lo' : ℕ) (P : A → Type 0) (Q : B → Type 0) (o : Outcome (A × ℕ × List ℕ)) (r : Read) (k : A × ℕ × List ℕ → Outcome (B × ℕ × List ℕ)) (g : ℕ → Read)
    → Tells f lo P o r → ((a : A) (n : ℕ) → lo ≤ n → n ≤ length f → P a → Tells f lo' Q (k (a, n, drop n f)) (g n)) → Tells f lo' Q (then o k) (on_next r g)
unfolding on_next
tells_bind f lo lo' P Q (ok y) (Next m) k g (tells {a = a} {n = n} e l h x) c = subst (λ b. Tells f lo' Q (k (a, n, b)) (g n)) (sym e) (c a n l h x)
tells_bind f lo lo' P Q (refuse y z) (Fault x p) k g mum c = mum
tells_bind {A = A} {B = B} f lo lo' P Q (ok y) (Fault x p) k g h c = elim h [ ]
tells_bind {A = A} {B = B} f lo lo' P Q (refuse y z) (Next m) k g h c = elim h [ ]

-- what was read goes into a larger thing
tells_within : {A B : Type 0} (f : List ℕ) (lo lo' : ℕ) (P : A → Type 0) (Q : B → Type 0) (o : Outcome (A × ℕ × List ℕ)) (r : Read) (h : A → B)
    → lo' ≤ lo → ((a : A) → P a → Q (h a)) → Tells f lo P o r → Tells f lo' Q (then o (λ x. ok (h x.0, x.1, x.2))) r
tells_within f lo lo' P Q (ok y) (Next m) h q c (tells {n = n} e l l' x) = let w : lo' ≤ n = omega arith in tells e w l' (c _ x)
tells_within f lo lo' P Q (refuse y z) (Fault x p) h q c mum = mum
tells_within {A = A} {B = B} f lo lo' P Q (ok y) (Fault x p) h q c e = elim e [ ]
tells_within {A = A} {B = B} f lo lo' P Q (refuse y z) (Next m) h q c e = elim e [ ]

abbrev Any : {A : Type 0} → A → Type 0
Any a = Unit {0}

module _ (f : List ℕ) where
  small_no : (k a top : ℕ) → length f ≤ a → small_bytes (suc k) f a top ≡ Fault 2 (length f)
  unfolding small_bytes pick
  small_no k a top h = rw (le-leb (length f) a h)

  small_bad : (k a top : ℕ) → a < length f → top < get_or f a 0 → small_bytes (suc k) f a top ≡ Fault 4 a
  unfolding small_bytes pick
  small_bad k a top h b = rw (lt-leb (length f) a h, lt-ltb top (get_or f a 0) b)

  small_one : (k a top : ℕ) → a < length f → get_or f a 0 ≤ top → small_bytes (suc k) f a top ≡ small_bytes k f (suc a) top
  unfolding small_bytes pick
  small_one k a top h b = rw (lt-leb (length f) a h, le-ltb top (get_or f a 0) b)

  small_more : (k a top : ℕ) → small_bytes (suc k) f a top ≡ on_next (small_bytes 1 f a top) (λ b. small_bytes k f b top)
  unfolding small_bytes pick on_next
  small_more k a top = go (leb (length f) a) refl (ltb top (get_or f a 0)) refl
    where
      go : (u : Bool) → leb (length f) a ≡ u → (v : Bool) → ltb top (get_or f a 0) ≡ v → small_bytes (suc k) f a top ≡ on_next (small_bytes 1 f a top) (λ b. small_bytes k f b top)
      go true eu v ev = rw eu
      go false eu true ev = rw (eu, ev)
      go false eu false ev = rw (eu, ev)

  -- a field below top + 1 that is read as something
  field : {A : Type 0} (h : ℕ → A) (top a : ℕ) → a ≤ length f → Tells f (suc a) Any (then (below (suc top) a (drop a f)) (λ x. ok (h x.0, x.1, x.2))) (small_bytes 1 f a top)
  unfolding small_bytes
  field {A} h top a l =
      below_gen f Goal (suc top) a _ l (λ l'. off (small_no 0 a top l'))
      (λ l' q. let w = ltb-false (get_or f a 0) (suc top) q in off (small_bad 0 a top l' (omega arith)))
      (λ l' q. let w = ltb-true (get_or f a 0) (suc top) q in subst (Tells f (suc a) Any _) (sym (small_one 0 a top l' (omega arith))) (let z : suc a ≤ suc a = omega arith in tells refl z l' tt))
    where
      Goal : Outcome (A × ℕ × List ℕ) → Type 0
      Goal o = Tells f (suc a) Any o (small_bytes 1 f a top)

      off : {x p : ℕ} → small_bytes 1 f a top ≡ Fault x p → Goal (refuse x p)
      off {x} {p} e = subst (Tells f (suc a) Any (refuse x p)) (sym e) mum

  sort_tells : (a : ℕ) → a ≤ length f → Tells f (suc a) Any (sort a (drop a f)) (small_bytes 1 f a 1)
  unfolding sort
  sort_tells a l = field (λ b. elim b [ zero ↦ Sort.number | suc _ ↦ Sort.tree ]) 1 a l

  mode_tells : (a : ℕ) → a ≤ length f → Tells f (suc a) Any (mode a (drop a f)) (small_bytes 1 f a 2)
  unfolding mode
  mode_tells a l = field (λ b. elim b [ zero ↦ Mode.number | suc c ↦ elim c [ zero ↦ Mode.lent | suc _ ↦ Mode.owned ] ]) 2 a l

  times_tells : {A : Type 0} (m : Reader A) (top : ℕ) → ((a : ℕ) → a ≤ length f → Tells f (suc a) Any (m a (drop a f)) (small_bytes 1 f a top))
      → (n a : ℕ) → a ≤ length f → Tells f a (λ l. length l ≡ n) (times n m a (drop a f)) (small_bytes n f a top)
  unfolding times small_bytes
  times_tells m top one zero a h = let z : a ≤ a = omega arith in tells refl z h refl
  times_tells m top one (suc n) a h =
      subst (Tells f a (λ l. length l ≡ suc n) (times (suc n) m a (drop a f))) (sym (small_more n a top))
      (tells_bind f (suc a) a Any (λ l. length l ≡ suc n) (m a (drop a f)) (small_bytes 1 f a top) _ _ (one a h)
      (λ x b l l' _. tells_within f b a (λ y. length y ≡ n) (λ y. length y ≡ suc n) (times n m b (drop b f)) (small_bytes n f b top) (λ y. x ∷ y) (omega arith) (λ y e. ap suc e) (times_tells m top one n b l')))

  abbrev Con : ℕ → Constructor → Type 0
  Con a c = (length c ≡ get_or f a 0) × (length c ≤ 4)

  pub con_tells : (a : ℕ) → a ≤ length f → Tells f (suc a) (Con a) (constructor a (drop a f)) (con_at f a)
  unfolding constructor con_at counted_at pick
  con_tells a h =
      below_gen f Goal 5 a _ h (λ l. off (rw (le-leb (length f) a l)))
      (λ l q. let w = ltb-false (get_or f a 0) 5 q in off (rw (lt-leb (length f) a l, lt-ltb 4 (get_or f a 0) (omega arith))))
      (λ l q. let w = ltb-true (get_or f a 0) 5 q in subst (Tells f (suc a) (Con a) _) (sym (on l (omega arith)))
      (weak (λ c e. (e, omega arith)) (times_tells sort 1 sort_tells (get_or f a 0) (suc a) l)))
    where
      Goal : Outcome (Constructor × ℕ × List ℕ) → Type 0
      Goal o = Tells f (suc a) (Con a) o (con_at f a)

      off : {x p : ℕ} → con_at f a ≡ Fault x p → Goal (refuse x p)
      off {x} {p} e = subst (Tells f (suc a) (Con a) (refuse x p)) (sym e) mum

      on : a < length f → get_or f a 0 ≤ 4 → con_at f a ≡ small_bytes (get_or f a 0) f (suc a) 1
      on l w = let z : a + 1 ≡ suc a = omega arith in rw (lt-leb (length f) a l, le-ltb 4 (get_or f a 0) w, z)

      weak : {P Q : Constructor → Type 0} {o : Outcome (Constructor × ℕ × List ℕ)} {r : Read} → ((c : Constructor) → P c → Q c) → Tells f (suc a) P o r → Tells f (suc a) Q o r
      weak g (tells e u v x) = tells e u v (g _ x)
      weak g mum = mum

  abbrev Fun : ℕ → Signature → Type 0
  Fun a g = (length g.parameters ≡ get_or f a 0) × (length g.parameters ≤ 8)

  make : List Mode → Sort → Signature
  make ms r = record { parameters = ms; result = r }

  pub fun_tells : (a : ℕ) → a ≤ length f → Tells f (suc a) (Fun a) (signature a (drop a f)) (fun_at f a)
  unfolding signature fun_at counted_at on_next pick make
  fun_tells a h =
      below_gen f Goal 9 a _ h (λ l. off (rw (le-leb (length f) a l)))
      (λ l q. let w = ltb-false (get_or f a 0) 9 q in off (rw (lt-leb (length f) a l, lt-ltb 8 (get_or f a 0) (omega arith))))
      (λ l q. let w = ltb-true (get_or f a 0) 9 q in subst (Tells f (suc a) (Fun a) _) (sym (on l (omega arith)))
      (tells_bind f (suc a) (suc a) (λ ms. length ms ≡ get_or f a 0) (Fun a) (times (get_or f a 0) mode (suc a) (drop (suc a) f)) (small_bytes (get_or f a 0) f (suc a) 2) _ _ (times_tells mode 2 mode_tells (get_or f a 0) (suc a) l)
      (λ ms n u v e. tells_within f (suc n) (suc a) Any (Fun a) (sort n (drop n f)) (small_bytes 1 f n 1) (make ms) (omega arith) (λ r _. (e, omega arith)) (sort_tells n v))))
    where
      Goal : Outcome (Signature × ℕ × List ℕ) → Type 0
      Goal o = Tells f (suc a) (Fun a) o (fun_at f a)

      off : {x p : ℕ} → fun_at f a ≡ Fault x p → Goal (refuse x p)
      off {x} {p} e = subst (Tells f (suc a) (Fun a) (refuse x p)) (sym e) mum

      on : a < length f → get_or f a 0 ≤ 8 → fun_at f a ≡ on_next (small_bytes (get_or f a 0) f (suc a) 2) (λ n. small_bytes 1 f n 1)
      on l w = let z : a + 1 ≡ suc a = omega arith in rw (lt-leb (length f) a l, le-ltb 8 (get_or f a 0) w, z)

  -- what a read of the code says of the reader
  got : {A : Type 0} {lo m : ℕ} {P : A → Type 0} {o : Outcome (A × ℕ × List ℕ)} {r : Read} → Tells f lo P o r → r ≡ Next m → (a : A) × (o ≡ ok (a, m, drop m f)) × P a × (lo ≤ m) × (m ≤ length f)
  got {m = m} (tells {a = a} {n = n} {rest = rest} e l h x) q =
      let z : n ≡ m = cc in
      (a, ap (λ b. ok (a, n, b)) e ∙ ap (λ k. ok (a, k, drop k f)) z, x, omega arith, omega arith)
  got mum q = let z : ◌≡◌ {A = ℕ} 0 1 = cc in absurd (omega arith)

  lost : {A : Type 0} {lo x p : ℕ} {P : A → Type 0} {o : Outcome (A × ℕ × List ℕ)} {r : Read} → Tells f lo P o r → r ≡ Fault x p → o ≡ refuse x p
  lost (tells e l h y) q = let z : ◌≡◌ {A = ℕ} 0 1 = cc in absurd (omega arith)
  lost (mum {x = y} {p = z}) q = cc

  -- one turn of the header
  pub head_turn : (n size : ℕ) (cs : List Constructor) (fs : List Signature) (at : ℕ) → at + 2 ≤ length f
      → header (suc n) size cs fs at (drop at f) ≡ entry (λ cs' fs'. header n size cs' fs') size cs at (mark_of (mark_at f at)) fs (at + 2) (drop (at + 2) f)
  unfolding header mark mark_of
  head_turn n size cs fs at h =
      two_gen f (λ o. o ≡ entry (λ cs' fs'. header n size cs' fs') size cs at (mark_of (mark_at f at)) fs (at + 2) (drop (at + 2) f)) (λ x y a b. ok (find (x * 256 + y) marks Other, a, b)) at _ (omega arith)
      (λ l. absurd (omega arith)) (λ l. refl)

  pub head_short : (n size : ℕ) (cs : List Constructor) (fs : List Signature) (at : ℕ) → at ≤ length f → length f < at + 2
      → header (suc n) size cs fs at (drop at f) ≡ refuse 2 (length f)
  unfolding header mark
  head_short n size cs fs at h s =
      two_gen f (λ o. o ≡ refuse 2 (length f)) (λ x y a b. ok (find (x * 256 + y) marks Other, a, b)) at _ h (λ l. refl) (λ l. absurd (omega arith))

  module _ (size : ℕ) (cs : List Constructor) (at : ℕ) (h : at + 2 ≤ length f) (e : mark_of (mark_at f at) ≡ CN) where
    abbrev con_then : ℕ → Constructor × ℕ × List ℕ → Outcome (File × ℕ × List ℕ)
    con_then n r = then (ensure 5 at (ltb (length cs) 64) r.1 r.2) (λ u. header n size (cs ++ (r.0 ∷ [])) [] u.1 u.2)

    entry_CN : (n : ℕ) → header (suc n) size cs [] at (drop at f) ≡ then (constructor (at + 2) (drop (at + 2) f)) (con_then n)
    unfolding entry
    entry_CN n = head_turn n size cs [] at h ∙ ap (λ m. entry (λ cs' fs'. header n size cs' fs') size cs at m [] (at + 2) (drop (at + 2) f)) e

    pub con_fails : (n x p : ℕ) → con_at f (at + 2) ≡ Fault x p → header (suc n) size cs [] at (drop at f) ≡ refuse x p
    con_fails n x p q = entry_CN n ∙ ap (λ o. then o (con_then n)) (lost (con_tells (at + 2) h) q)

    pub con_full : (n m : ℕ) (c : Constructor) → constructor (at + 2) (drop (at + 2) f) ≡ ok (c, m, drop m f) → 64 ≤ length cs → header (suc n) size cs [] at (drop at f) ≡ refuse 5 at
    con_full n m c q l = entry_CN n ∙ ap (λ o. then o (con_then n)) q ∙ rw (le-ltb (length cs) 64 l)

    pub con_more : (n m : ℕ) (c : Constructor) → constructor (at + 2) (drop (at + 2) f) ≡ ok (c, m, drop m f) → length cs < 64
        → header (suc n) size cs [] at (drop at f) ≡ header n size (cs ++ (c ∷ [])) [] m (drop m f)
    con_more n m c q l = entry_CN n ∙ ap (λ o. then o (con_then n)) q ∙ rw (lt-ltb (length cs) 64 l)

  pub con_got : (a m : ℕ) → a ≤ length f → con_at f a ≡ Next m → (c : Constructor) × (constructor a (drop a f) ≡ ok (c, m, drop m f)) × Con a c × (suc a ≤ m) × (m ≤ length f)
  con_got a m h q = got (con_tells a h) q

  module _ (size : ℕ) (cs : List Constructor) (fs : List Signature) (at : ℕ) (h : at + 2 ≤ length f) (e : mark_of (mark_at f at) ≡ FN) where
    abbrev fun_then : ℕ → Signature × ℕ × List ℕ → Outcome (File × ℕ × List ℕ)
    fun_then n r = then (ensure 5 at (ltb (length fs) 32) r.1 r.2) (λ u. header n size cs (fs ++ (r.0 ∷ [])) u.1 u.2)

    entry_FN : (n : ℕ) → header (suc n) size cs fs at (drop at f) ≡ then (signature (at + 2) (drop (at + 2) f)) (fun_then n)
    unfolding entry
    entry_FN n = head_turn n size cs fs at h ∙ ap (λ m. entry (λ cs' fs'. header n size cs' fs') size cs at m fs (at + 2) (drop (at + 2) f)) e

    pub fun_fails : (n x p : ℕ) → fun_at f (at + 2) ≡ Fault x p → header (suc n) size cs fs at (drop at f) ≡ refuse x p
    fun_fails n x p q = entry_FN n ∙ ap (λ o. then o (fun_then n)) (lost (fun_tells (at + 2) h) q)

    pub fun_full : (n m : ℕ) (c : Signature) → signature (at + 2) (drop (at + 2) f) ≡ ok (c, m, drop m f) → 32 ≤ length fs → header (suc n) size cs fs at (drop at f) ≡ refuse 5 at
    fun_full n m c q l = entry_FN n ∙ ap (λ o. then o (fun_then n)) q ∙ rw (le-ltb (length fs) 32 l)

    pub fun_more : (n m : ℕ) (c : Signature) → signature (at + 2) (drop (at + 2) f) ≡ ok (c, m, drop m f) → length fs < 32
        → header (suc n) size cs fs at (drop at f) ≡ header n size cs (fs ++ (c ∷ [])) m (drop m f)
    fun_more n m c q l = entry_FN n ∙ ap (λ o. then o (fun_then n)) q ∙ rw (lt-ltb (length fs) 32 l)

  pub fun_got : (a m : ℕ) → a ≤ length f → fun_at f a ≡ Next m → (c : Signature) × (signature a (drop a f) ≡ ok (c, m, drop m f)) × Fun a c × (suc a ≤ m) × (m ≤ length f)
  fun_got a m h q = got (fun_tells a h) q

  -- behind the functions: BD opens the bodies, and any other mark is refused
  pub opens : (n size : ℕ) (cs : List Constructor) (g : Signature) (fs : List Signature) (at : ℕ) → at + 2 ≤ length f → mark_of (mark_at f at) ≡ BD
      → header (suc n) size cs (g ∷ fs) at (drop at f)
      ≡ then (bodies size cs (g ∷ fs) (g ∷ fs) (at + 2) (drop (at + 2) f)) (λ r. ok (record { constructors = cs; functions = g ∷ fs; bodies = r.0 }, r.1, r.2))
  unfolding entry
  opens n size cs g fs at h e = head_turn n size cs (g ∷ fs) at h ∙ ap (λ m. entry (λ cs' fs'. header n size cs' fs') size cs at m (g ∷ fs) (at + 2) (drop (at + 2) f)) e

  entry_no : (H : List Constructor → List Signature → Reader File) (size : ℕ) (cs : List Constructor) (at : ℕ) (m : Mark) (fs : List Signature) (a : ℕ) (bytes : List ℕ)
      → (m ≡ FN → ⊥) → (m ≡ BD → 0 < length fs → ⊥) → (m ≡ CN → length fs ≡ 0 → ⊥) → entry H size cs at m fs a bytes ≡ refuse 3 at
  unfolding entry
  entry_no H size cs at CN [] a bytes x y z = absurd (z refl refl)
  entry_no H size cs at CN (g ∷ fs) a bytes x y z = refl
  entry_no H size cs at FN fs a bytes x y z = absurd (x refl)
  entry_no H size cs at BD [] a bytes x y z = refl
  entry_no H size cs at BD (g ∷ fs) a bytes x y z = absurd (y refl (omega arith))
  entry_no H size cs at ND fs a bytes x y z = refl
  entry_no H size cs at GV fs a bytes x y z = refl
  entry_no H size cs at AT fs a bytes x y z = refl
  entry_no H size cs at MK fs a bytes x y z = refl
  entry_no H size cs at CL fs a bytes x y z = refl
  entry_no H size cs at TL fs a bytes x y z = refl
  entry_no H size cs at OP fs a bytes x y z = refl
  entry_no H size cs at LK fs a bytes x y z = refl
  entry_no H size cs at BR fs a bytes x y z = refl
  entry_no H size cs at NU fs a bytes x y z = refl
  entry_no H size cs at AR fs a bytes x y z = refl
  entry_no H size cs at IF fs a bytes x y z = refl
  entry_no H size cs at Other fs a bytes x y z = refl

  pub not_here : (n size : ℕ) (cs : List Constructor) (fs : List Signature) (at : ℕ) → at + 2 ≤ length f
      → (mark_of (mark_at f at) ≡ FN → ⊥) → (mark_of (mark_at f at) ≡ BD → 0 < length fs → ⊥) → (mark_of (mark_at f at) ≡ CN → length fs ≡ 0 → ⊥) → header (suc n) size cs fs at (drop at f) ≡ refuse 3 at
  not_here n size cs fs at h x y z = head_turn n size cs fs at h ∙ entry_no _ size cs at (mark_of (mark_at f at)) fs (at + 2) (drop (at + 2) f) x y z
