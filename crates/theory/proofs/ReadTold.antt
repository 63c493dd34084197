-- Reading refuses by 1 to 6 only, and what it reads has a slot for each field and each parameter. Assumes nothing.
use Prim.Native.Nat.{ℕ, zero, suc, ◌+◌, ◌*◌, ◌≤◌}
use mathlib.Core.Bool.{Bool, true, false, ◌&&◌}
use mathlib.Core.List.{List, [], ◌∷◌, ◌++◌}
use mathlib.Core.Option.{Option, none, some}
use mathlib.Core.Path.{◌≡◌, refl, sym, ap, ◌∙◌}
use native.Mathlib.Omega.{arith}
use lib.ListN.{length, get_or, get_elem?}
use lib.Dec.{ltb, leb, eqb}
use Rattle.meaning.specs.Syntax.{Signature, Term, Branches, Constructor, File}
use Rattle.meaning.specs.Syntax as S
use Rattle.meaning.specs.declared.Mark.{Mark}
use Rattle.meaning.specs.declared.Mark.TheVariants.{CN, FN, BD, ND, GV, AT, MK, CL, TL, OP, LK, BR, NU, AR, IF, Other}
use Rattle.meaning.specs.Marks.{code}
use Rattle.meaning.specs.Outcome.{Outcome, ok, refuse, then}
use Rattle.meaning.specs.Reading.{Reader, byte, ensure, fail, below, times, mark, expect, sort, mode, declared, any, is_atom, is_node, credits, limits, node, term, branches, constructor, signature, finish, between, bodies, entry, header, read}
use Rattle.meaning.specs.Ownership.{no_function}
use Rattle.theory.proofs.Wellread.{nth}

-- an outcome that has a property, or a refusal by a number from lo to hi
pub data Told {A : Type 0} (lo hi : ℕ) (P : A → Type 0) : Outcome A → Type 0 where
  good : {a : A} → P a → Told lo hi P (ok a)
  bad : {n p : ℕ} → lo ≤ n → n ≤ hi → Told lo hi P (refuse n p)

pub follow : {A B : Type 0} {lo hi : ℕ} {P : A → Type 0} {Q : B → Type 0} (o : Outcome A) (k : A → Outcome B) → Told lo hi P o → ((a : A) → P a → Told lo hi Q (k a)) → Told lo hi Q (then o k)
follow (ok a) k (Told.good h) f = f a h
follow (refuse n p) k (Told.bad l m) f = Told.bad l m

abbrev pub Always : {A : Type 0} → A → Type 0
Always a = Unit {0}

-- a reader that tells, of what it reads, a property
abbrev Reads : {A : Type 0} → (A → Type 0) → Reader A → Type 0
Reads P m = (at : ℕ) (bytes : List ℕ) → Told 2 6 (λ r. P r.0) (m at bytes)

byte_reads : Reads Always byte
byte_reads at [] = Told.bad {n = 2} (omega arith) (omega arith)
byte_reads at (b ∷ bytes) = Told.good tt

ensure_reads : (n p : ℕ) (t : Bool) → 2 ≤ n → n ≤ 6 → Reads Always (ensure n p t)
ensure_reads n p true l m at bytes = Told.good tt
ensure_reads n p false l m at bytes = Told.bad l m

below_reads : (l : ℕ) → Reads Always (below l)
unfolding below
below_reads l at bytes =
    follow (byte at bytes) _ (byte_reads at bytes) (λ b _. follow (ensure 4 at (ltb b.0 l) b.1 b.2) _ (ensure_reads 4 at (ltb b.0 l) (omega arith) (omega arith) b.1 b.2) (λ u _. Told.good tt))

times_reads : {A : Type 0} (k : ℕ) (m : Reader A) → Reads Always m → Reads (λ l. length l ≡ k) (times k m)
unfolding times
times_reads zero m h at bytes = Told.good refl
times_reads (suc k) m h at bytes =
    follow (m at bytes) _ (h at bytes) (λ a _. follow (times k m a.1 a.2) _ (times_reads k m h a.1 a.2) (λ l e. Told.good (ap suc e)))

mark_reads : Reads Always mark
unfolding mark
mark_reads at bytes = follow (byte at bytes) _ (byte_reads at bytes) (λ a _. follow (byte a.1 a.2) _ (byte_reads a.1 a.2) (λ b _. Told.good tt))

expect_reads : (w : ℕ) → Reads Always (expect w)
unfolding expect
expect_reads w at bytes =
    follow (byte at bytes) _ (byte_reads at bytes) (λ a _. follow (byte a.1 a.2) _ (byte_reads a.1 a.2)
    (λ b _. ensure_reads 3 at (eqb (a.0 * 256 + b.0) w) (omega arith) (omega arith) b.1 b.2))

sort_reads : Reads Always sort
unfolding sort
sort_reads at bytes = follow (below 2 at bytes) _ (below_reads 2 at bytes) (λ b _. Told.good tt)

mode_reads : Reads Always mode
unfolding mode
mode_reads at bytes = follow (below 3 at bytes) _ (below_reads 3 at bytes) (λ b _. Told.good tt)

declared_reads : {A : Type 0} (xs : List A) (test : A → Bool) → Reads (λ r. get_elem? xs r.0 ≡ some r.1) (declared xs test)
unfolding declared
declared_reads {A} xs test at bytes = follow (byte at bytes) _ (byte_reads at bytes) (λ b _. go b.0 b.1 b.2 (get_elem? xs b.0) refl)
  where
    go : (b at' : ℕ) (bytes' : List ℕ) (o : Option A) → get_elem? xs b ≡ o
        → Told 2 6 (λ r. get_elem? xs r.0.0 ≡ some r.0.1)
        ((elim o as (λ _. Reader (ℕ × A)) [ none ↦ fail 4 at | some x ↦ λ at' bytes'. then (ensure 4 at (test x) at' bytes') (λ u. ok ((b, x), u.1, u.2)) ]) at' bytes')
    go b at' bytes' none e = Told.bad {n = 4} (omega arith) (omega arith)
    go b at' bytes' (some x) e = follow (ensure 4 at (test x) at' bytes') _ (ensure_reads 4 at (test x) (omega arith) (omega arith) at' bytes') (λ u _. Told.good e)

-- a slot for each field of MK and for each parameter of CL and TL
module _ (cs : List Constructor) (fs : List Signature) where
  abbrev mutual
    pub Fits : Term → Type 0
    Fits (S.GV p s) = Unit {0}
    Fits (S.AT p c t) = Fits t
    Fits (S.MK p c k ss t) = (length ss ≡ length (get_or cs c [])) × Fits t
    Fits (S.CL p f ss t) = (length ss ≡ length (get_or fs f no_function).parameters) × Fits t
    Fits (S.TL p f ss) = length ss ≡ length (get_or fs f no_function).parameters
    Fits (S.OP p s bs) = AllFit bs
    Fits (S.LK p s bs) = AllFit bs
    Fits (S.NU p n t) = Fits t
    Fits (S.AR p o x y t) = Fits t
    Fits (S.IF p s t u) = Fits t × Fits u

    pub AllFit : Branches → Type 0
    AllFit S.end = Unit {0}
    AllFit (S.BR p c t bs) = Fits t × AllFit bs

  limits_reads : (p s n : ℕ) → Reads Always (limits cs fs p s n)
  unfolding limits
  limits_reads p s n = ensure_reads 5 p (leb n 64 && leb s 32) (omega arith) (omega arith)

  node_reads : (t : (slots nodes : ℕ) → Reader Term) (bs : (count : ℕ) → (Constructor → ℕ) → (slots nodes : ℕ) → Reader Branches)
      → ((s k : ℕ) → Reads Fits (t s k)) → ((c : ℕ) (x : Constructor → ℕ) (s k : ℕ) → Reads AllFit (bs c x s k))
      → (slots nodes p : ℕ) (m : Mark) → Reads Fits (node cs fs t bs slots nodes p m)
  unfolding node
  node_reads t bs it ib slots nodes p GV at bytes =
      follow (byte at bytes) _ (byte_reads at bytes) (λ a _.
      follow (limits cs fs p slots (suc nodes) a.1 a.2) _ (limits_reads p slots (suc nodes) a.1 a.2) (λ b _. Told.good tt))
  node_reads t bs it ib slots nodes p AT at bytes =
      follow (declared cs is_atom at bytes) _ (declared_reads cs is_atom at bytes) (λ a _.
      follow (limits cs fs p (suc slots) (suc nodes) a.1 a.2) _ (limits_reads p (suc slots) (suc nodes) a.1 a.2) (λ b _.
      follow (t (suc slots) (suc nodes) b.1 b.2) _ (it (suc slots) (suc nodes) b.1 b.2) (λ c h. Told.good h)))
  node_reads t bs it ib slots nodes p MK at bytes =
      follow (declared cs is_node at bytes) _ (declared_reads cs is_node at bytes) (λ a e.
      follow (byte a.1 a.2) _ (byte_reads a.1 a.2) (λ k _.
      follow (times (length a.0.1) byte k.1 k.2) _ (times_reads (length a.0.1) byte byte_reads k.1 k.2) (λ s l.
      follow (limits cs fs p (suc slots) (suc nodes) s.1 s.2) _ (limits_reads p (suc slots) (suc nodes) s.1 s.2) (λ b _.
      follow (t (suc slots) (suc nodes) b.1 b.2) _ (it (suc slots) (suc nodes) b.1 b.2) (λ c h.
      Told.good (l ∙ ap length (sym (nth cs a.0.0 a.0.1 [] e).0), h))))))
  node_reads t bs it ib slots nodes p CL at bytes =
      follow (declared fs any at bytes) _ (declared_reads fs any at bytes) (λ a e.
      follow (times (length a.0.1.parameters) byte a.1 a.2) _ (times_reads (length a.0.1.parameters) byte byte_reads a.1 a.2) (λ s l.
      follow (limits cs fs p (suc slots) (suc nodes) s.1 s.2) _ (limits_reads p (suc slots) (suc nodes) s.1 s.2) (λ b _.
      follow (t (suc slots) (suc nodes) b.1 b.2) _ (it (suc slots) (suc nodes) b.1 b.2) (λ c h.
      Told.good (l ∙ ap (λ g. length g.parameters) (sym (nth fs a.0.0 a.0.1 no_function e).0), h)))))
  node_reads t bs it ib slots nodes p TL at bytes =
      follow (declared fs any at bytes) _ (declared_reads fs any at bytes) (λ a e.
      follow (times (length a.0.1.parameters) byte a.1 a.2) _ (times_reads (length a.0.1.parameters) byte byte_reads a.1 a.2) (λ s l.
      follow (limits cs fs p slots (suc nodes) s.1 s.2) _ (limits_reads p slots (suc nodes) s.1 s.2) (λ b _.
      Told.good (l ∙ ap (λ g. length g.parameters) (sym (nth fs a.0.0 a.0.1 no_function e).0)))))
  node_reads t bs it ib slots nodes p OP at bytes =
      follow (byte at bytes) _ (byte_reads at bytes) (λ a _.
      follow (byte a.1 a.2) _ (byte_reads a.1 a.2) (λ k _.
      follow (ensure 4 a.1 (ltb 0 k.0 && leb k.0 64) k.1 k.2) _ (ensure_reads 4 a.1 (ltb 0 k.0 && leb k.0 64) (omega arith) (omega arith) k.1 k.2) (λ n _.
      follow (limits cs fs p slots (suc nodes) n.1 n.2) _ (limits_reads p slots (suc nodes) n.1 n.2) (λ b _.
      follow (bs k.0 credits slots (suc nodes) b.1 b.2) _ (ib k.0 credits slots (suc nodes) b.1 b.2) (λ c h. Told.good h)))))
  node_reads t bs it ib slots nodes p LK at bytes =
      follow (byte at bytes) _ (byte_reads at bytes) (λ a _.
      follow (byte a.1 a.2) _ (byte_reads a.1 a.2) (λ k _.
      follow (ensure 4 a.1 (ltb 0 k.0 && leb k.0 64) k.1 k.2) _ (ensure_reads 4 a.1 (ltb 0 k.0 && leb k.0 64) (omega arith) (omega arith) k.1 k.2) (λ n _.
      follow (limits cs fs p slots (suc nodes) n.1 n.2) _ (limits_reads p slots (suc nodes) n.1 n.2) (λ b _.
      follow (bs k.0 (λ c. 0) slots (suc nodes) b.1 b.2) _ (ib k.0 (λ c. 0) slots (suc nodes) b.1 b.2) (λ c h. Told.good h)))))
  node_reads t bs it ib slots nodes p NU at bytes =
      follow (byte at bytes) _ (byte_reads at bytes) (λ h _.
      follow (byte h.1 h.2) _ (byte_reads h.1 h.2) (λ l _.
      follow (limits cs fs p (suc slots) (suc nodes) l.1 l.2) _ (limits_reads p (suc slots) (suc nodes) l.1 l.2) (λ b _.
      follow (t (suc slots) (suc nodes) b.1 b.2) _ (it (suc slots) (suc nodes) b.1 b.2) (λ c h. Told.good h))))
  node_reads t bs it ib slots nodes p AR at bytes =
      follow (below 4 at bytes) _ (below_reads 4 at bytes) (λ o _.
      follow (byte o.1 o.2) _ (byte_reads o.1 o.2) (λ x _.
      follow (byte x.1 x.2) _ (byte_reads x.1 x.2) (λ y _.
      follow (limits cs fs p (suc slots) (suc nodes) y.1 y.2) _ (limits_reads p (suc slots) (suc nodes) y.1 y.2) (λ b _.
      follow (t (suc slots) (suc nodes) b.1 b.2) _ (it (suc slots) (suc nodes) b.1 b.2) (λ c h. Told.good h)))))
  node_reads t bs it ib slots nodes p IF at bytes =
      follow (byte at bytes) _ (byte_reads at bytes) (λ s _.
      follow (limits cs fs p slots (suc nodes) s.1 s.2) _ (limits_reads p slots (suc nodes) s.1 s.2) (λ b _.
      follow (t slots (suc nodes) b.1 b.2) _ (it slots (suc nodes) b.1 b.2) (λ c h.
      follow (t slots (suc nodes) c.1 c.2) _ (it slots (suc nodes) c.1 c.2) (λ d i. Told.good (h, i)))))
  node_reads t bs it ib slots nodes p CN at bytes = Told.bad {n = 3} (omega arith) (omega arith)
  node_reads t bs it ib slots nodes p FN at bytes = Told.bad {n = 3} (omega arith) (omega arith)
  node_reads t bs it ib slots nodes p BD at bytes = Told.bad {n = 3} (omega arith) (omega arith)
  node_reads t bs it ib slots nodes p ND at bytes = Told.bad {n = 3} (omega arith) (omega arith)
  node_reads t bs it ib slots nodes p BR at bytes = Told.bad {n = 3} (omega arith) (omega arith)
  node_reads t bs it ib slots nodes p Other at bytes = Told.bad {n = 3} (omega arith) (omega arith)

  mutual
    unfolding term

    term_reads : (n slots nodes : ℕ) → Reads Fits (term cs fs n slots nodes)
    term_reads zero slots nodes at bytes = Told.bad {n = 2} (omega arith) (omega arith)
    term_reads (suc n) slots nodes at bytes =
        follow (mark at bytes) _ (mark_reads at bytes) (λ m _.
        node_reads (λ s k. term cs fs n s k) (λ c x s k. branches cs fs n c x s k) (λ s k at b. term_reads n s k at b) (λ c x s k at b. branches_reads n c x s k at b)
        slots nodes at m.0 m.1 m.2)

    branches_reads : (n k : ℕ) (extra : Constructor → ℕ) (slots nodes : ℕ) → Reads AllFit (branches cs fs n k extra slots nodes)
    branches_reads zero k extra slots nodes at bytes = Told.bad {n = 2} (omega arith) (omega arith)
    branches_reads (suc n) zero extra slots nodes at bytes = Told.good tt
    branches_reads (suc n) (suc k) extra slots nodes at bytes =
        follow (expect (code BR) at bytes) _ (expect_reads (code BR) at bytes) (λ x _.
        follow (declared cs any x.1 x.2) _ (declared_reads cs any x.1 x.2) (λ c _.
        let s : ℕ = slots + (length c.0.1 + extra c.0.1) in
        follow (limits cs fs at s nodes c.1 c.2) _ (limits_reads at s nodes c.1 c.2) (λ b _.
        follow (term cs fs n s nodes b.1 b.2) _ (term_reads n s nodes b.1 b.2) (λ t h.
        follow (branches cs fs n k extra slots nodes t.1 t.2) _ (branches_reads n k extra slots nodes t.1 t.2) (λ u i. Told.good (h, i))))))

  -- a body for each function
  abbrev pub BodiesFit : List Signature → List Term → Type 0
  BodiesFit [] [] = Unit {0}
  BodiesFit [] (t ∷ ts) = ⊥
  BodiesFit (g ∷ gs) [] = ⊥
  BodiesFit (g ∷ gs) (t ∷ ts) = Fits t × BodiesFit gs ts

  finish_reads : Reads Always finish
  unfolding finish
  finish_reads at [] = Told.good tt
  finish_reads at (b ∷ bytes) = Told.bad {n = 6} (omega arith) (omega arith)

  between_reads : (gs : List Signature) → Reads Always (between gs)
  between_reads [] at bytes = Told.good tt
  between_reads (g ∷ gs) at bytes = expect_reads (code BD) at bytes

  bodies_reads : (fuel : ℕ) (gs : List Signature) → Reads (BodiesFit gs) (bodies fuel cs fs gs)
  unfolding bodies
  bodies_reads fuel [] at bytes =
      follow (expect (code ND) at bytes) _ (expect_reads (code ND) at bytes) (λ x _.
      follow (finish x.1 x.2) _ (finish_reads x.1 x.2) (λ y _. Told.good tt))
  bodies_reads fuel (g ∷ gs) at bytes =
      follow (term cs fs fuel (length g.parameters) 0 at bytes) _ (term_reads fuel (length g.parameters) 0 at bytes) (λ t h.
      follow (between gs t.1 t.2) _ (between_reads gs t.1 t.2) (λ b _.
      follow (bodies fuel cs fs gs b.1 b.2) _ (bodies_reads fuel gs b.1 b.2) (λ u i. Told.good (h, i))))

-- a file that was read: a body that fits for each function
abbrev pub Shaped : File → Type 0
Shaped file = BodiesFit file.constructors file.functions file.functions file.bodies

constructor_reads : Reads Always constructor
unfolding constructor
constructor_reads at bytes = follow (below 5 at bytes) _ (below_reads 5 at bytes) (λ k _. follow_times (times_reads k.0 sort sort_reads k.1 k.2))
  where
    follow_times : {o : Outcome (Constructor × ℕ × List ℕ)} {k : ℕ} → Told 2 6 (λ r. length r.0 ≡ k) o → Told 2 6 Always o
    follow_times (Told.good h) = Told.good tt
    follow_times (Told.bad l m) = Told.bad l m

signature_reads : Reads Always signature
unfolding signature
signature_reads at bytes =
    follow (below 9 at bytes) _ (below_reads 9 at bytes) (λ k _.
    follow (times k.0 mode k.1 k.2) _ (times_reads k.0 mode mode_reads k.1 k.2) (λ ms _.
    follow (sort ms.1 ms.2) _ (sort_reads ms.1 ms.2) (λ r _. Told.good tt)))

module _ (h : List Constructor → List Signature → Reader File) (size : ℕ) (cs : List Constructor) (p : ℕ) (ih : (c : List Constructor) (f : List Signature) → Reads Shaped (h c f)) where
  CN_reads : (fs : List Signature) → Reads Shaped (entry h size cs p CN fs)
  unfolding entry
  CN_reads [] at bytes =
      follow (constructor at bytes) _ (constructor_reads at bytes) (λ c _.
      follow (ensure 5 p (ltb (length cs) 64) c.1 c.2) _ (ensure_reads 5 p (ltb (length cs) 64) (omega arith) (omega arith) c.1 c.2) (λ u _.
      ih (cs ++ (c.0 ∷ [])) [] u.1 u.2))
  CN_reads (f ∷ rest) at bytes = Told.bad {n = 3} (omega arith) (omega arith)

  BD_reads : (fs : List Signature) → Reads Shaped (entry h size cs p BD fs)
  unfolding entry
  BD_reads [] at bytes = Told.bad {n = 3} (omega arith) (omega arith)
  BD_reads (f ∷ rest) at bytes = follow (bodies size cs (f ∷ rest) (f ∷ rest) at bytes) _ (bodies_reads cs (f ∷ rest) size (f ∷ rest) at bytes) (λ ts i. Told.good i)

  entry_reads : (m : Mark) (fs : List Signature) → Reads Shaped (entry h size cs p m fs)
  unfolding entry
  entry_reads CN fs at bytes = CN_reads fs at bytes
  entry_reads FN fs at bytes =
      follow (signature at bytes) _ (signature_reads at bytes) (λ f _.
      follow (ensure 5 p (ltb (length fs) 32) f.1 f.2) _ (ensure_reads 5 p (ltb (length fs) 32) (omega arith) (omega arith) f.1 f.2) (λ u _.
      ih cs (fs ++ (f.0 ∷ [])) u.1 u.2))
  entry_reads BD fs at bytes = BD_reads fs at bytes
  entry_reads ND fs at bytes = Told.bad {n = 3} (omega arith) (omega arith)
  entry_reads GV fs at bytes = Told.bad {n = 3} (omega arith) (omega arith)
  entry_reads AT fs at bytes = Told.bad {n = 3} (omega arith) (omega arith)
  entry_reads MK fs at bytes = Told.bad {n = 3} (omega arith) (omega arith)
  entry_reads CL fs at bytes = Told.bad {n = 3} (omega arith) (omega arith)
  entry_reads TL fs at bytes = Told.bad {n = 3} (omega arith) (omega arith)
  entry_reads OP fs at bytes = Told.bad {n = 3} (omega arith) (omega arith)
  entry_reads LK fs at bytes = Told.bad {n = 3} (omega arith) (omega arith)
  entry_reads BR fs at bytes = Told.bad {n = 3} (omega arith) (omega arith)
  entry_reads NU fs at bytes = Told.bad {n = 3} (omega arith) (omega arith)
  entry_reads AR fs at bytes = Told.bad {n = 3} (omega arith) (omega arith)
  entry_reads IF fs at bytes = Told.bad {n = 3} (omega arith) (omega arith)
  entry_reads Other fs at bytes = Told.bad {n = 3} (omega arith) (omega arith)

header_reads : (n size : ℕ) (cs : List Constructor) (fs : List Signature) → Reads Shaped (header n size cs fs)
unfolding header
header_reads zero size cs fs at bytes = Told.bad {n = 2} (omega arith) (omega arith)
header_reads (suc n) size cs fs at bytes =
    follow (mark at bytes) _ (mark_reads at bytes) (λ m _.
    entry_reads (λ c f. header n size c f) size cs at (λ c f at b. header_reads n size c f at b) m.0 fs m.1 m.2)

wider : {A B : Type 0} {P : A → Type 0} {Q : B → Type 0} (o : Outcome A) (k : A → Outcome B) → Told 2 6 P o → ((a : A) → P a → Told 1 6 Q (k a)) → Told 1 6 Q (then o k)
wider (ok a) k (Told.good h) f = f a h
wider (refuse n p) k (Told.bad l m) f = Told.bad {n = n} (omega arith) m

pub read_told : (bytes : List ℕ) → Told 1 6 Shaped (read bytes)
unfolding read
read_told bytes = go (leb (length bytes) 4096)
  where
    go : (t : Bool) → Told 1 6 Shaped (elim t as (λ _. Outcome File) [ true ↦ then (header (suc (length bytes)) (length bytes) [] [] 0 bytes) (λ r. ok r.0) | false ↦ refuse 1 0 ])
    go true = wider (header (suc (length bytes)) (length bytes) [] [] 0 bytes) _ (header_reads (suc (length bytes)) (length bytes) [] [] 0 bytes) (λ r h. Told.good h)
    go false = Told.bad {n = 1} (omega arith) (omega arith)
