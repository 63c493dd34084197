-- What reading makes sure of: AT names an atom, MK a constructor with fields, and no arity is over 4. Assumes nothing.
use Prim.Native.Nat.{ℕ, zero, suc, ◌+◌, ◌≤◌, ◌<◌}
use mathlib.Core.Bool.{Bool, true, false, ◌&&◌}
use mathlib.Core.List.{List, [], ◌∷◌, ◌++◌}
use mathlib.Core.Option.{Option, none, some, none-ne-some}
use mathlib.Core.Path.{◌≡◌, refl, sym, ap, ◌∙◌, subst}
use native.Mathlib.Omega.{arith}
use lib.ListN.{length, get_or, get_elem?, length-append}
use borrow.Author.Tests.{ltb-true}
use lib.Dec.{ltb, leb}
use Rattle.meaning.specs.Syntax.{Sort, Signature, Term, Branches, Constructor, File}
use Rattle.meaning.specs.Outcome.{Outcome, ok, refuse, ◌>>=◌}
use Rattle.meaning.specs.declared.Mark.{Mark}
use Rattle.meaning.specs.declared.Mark.TheVariants.{CN, FN, BD, ND, GV, AT, MK, CL, TL, OP, LK, BR, NU, AR, IF, Other}
use Rattle.meaning.specs.Marks.{code}
use Rattle.meaning.specs.Reading.{Reader, byte, ensure, below, times, mark, expect, declared, any, is_atom, is_node, credits, limits, node, term, branches, fail, bodies, between, finish, entry, header, read, constructor, signature, sort}
use Rattle.meaning.specs.Plain.{no_body}
use Rattle.meaning.specs.Ownership.{check_file}
use Rattle.meaning.specs.Verdict.{accepted}
use Rattle.theory.proofs.Taking.{steps_ok, refused}
use Rattle.theory.proofs.Passing.{contradiction}
use Rattle.theory.proofs.Sim.{Formed, AllFormed, Accepted, all_accepted}

pub got : {A : Type 0} {a b : A} → ok a ≡ ok b → a ≡ b
got e = cc

pub nth : {A : Type 0} (xs : List A) (i : ℕ) (x d : A) → get_elem? xs i ≡ some x → (get_or xs i d ≡ x) × (i < length xs)
nth [] i x d e = absurd (none-ne-some x e)
nth (y ∷ xs) zero x d e = (cc, omega arith)
nth (y ∷ xs) (suc i) x d e = let r = nth xs i x d e in (r.0, omega arith)

pub declared_ok : {A : Type 0} (xs : List A) (test : A → Bool) (at : ℕ) (bytes : List ℕ) (r : (ℕ × A) × ℕ × List ℕ) → declared xs test at bytes ≡ ok r
    → (get_elem? xs r.0.0 ≡ some r.0.1) × (test r.0.1 ≡ true)
unfolding declared
declared_ok xs test at [] r e = absurd (refused e)
declared_ok {A} xs test at (b ∷ bytes) r e = go (get_elem? xs b) refl e
  where
    tested : (x : A) (t : Bool) → test x ≡ t → get_elem? xs b ≡ some x
        → ◌>>=◌ (ensure 4 at t (suc at) bytes) (λ u. ok ((b, x), u.1, u.2)) ≡ ok r → (get_elem? xs r.0.0 ≡ some r.0.1) × (test r.0.1 ≡ true)
    tested x true q h f =
        let g = got f in
        (subst (λ z. get_elem? xs z.0.0 ≡ some z.0.1) g h, subst (λ z. test z.0.1 ≡ true) g q)
    tested x false q h f = absurd (refused f)

    go : (o : Option A) → get_elem? xs b ≡ o
        → (elim o as (λ _. Reader (ℕ × A)) [ none ↦ fail 4 at | some x ↦ λ at' bytes'. ◌>>=◌ (ensure 4 at (test x) at' bytes') (λ u. ok ((b, x), u.1, u.2)) ]) (suc at) bytes ≡ ok r
        → (get_elem? xs r.0.0 ≡ some r.0.1) × (test r.0.1 ≡ true)
    go none h f = absurd (refused f)
    go (some x) h f = tested x (test x) refl h f

atom_empty : (c : Constructor) → is_atom c ≡ true → c ≡ []
atom_empty [] e = refl
atom_empty (s ∷ c) e = let z : ◌≡◌ {A = ℕ} 0 1 = cc in absurd (contradiction z)

node_cons : (c : Constructor) → is_node c ≡ true → (s : Sort) × (ss : Constructor) × (c ≡ s ∷ ss)
node_cons [] e = let z : ◌≡◌ {A = ℕ} 0 1 = cc in absurd (contradiction z)
node_cons (s ∷ c) e = (s, c, refl)

module _ (cs : List Constructor) (fs : List Signature) (few : length cs ≤ 64) (few_functions : length fs ≤ 32) where
  abbrev Good : Outcome (Term × ℕ × List ℕ) → Type 0
  Good o = (r : Term × ℕ × List ℕ) → o ≡ ok r → Formed r.0 cs

  abbrev GoodAll : Outcome (Branches × ℕ × List ℕ) → Type 0
  GoodAll o = (r : Branches × ℕ × List ℕ) → o ≡ ok r → AllFormed r.0 cs

  node_formed : (t : (slots nodes : ℕ) → Reader Term) (bs : (count : ℕ) → (Constructor → ℕ) → (slots nodes : ℕ) → Reader Branches)
      → ((s k at : ℕ) (bytes : List ℕ) → Good (t s k at bytes)) → ((c : ℕ) (x : Constructor → ℕ) (s k at : ℕ) (bytes : List ℕ) → GoodAll (bs c x s k at bytes))
      → (slots nodes p : ℕ) (m : Mark) (at : ℕ) (bytes : List ℕ) → Good (node cs fs t bs slots nodes p m at bytes)
  unfolding node
  node_formed t bs it ib slots nodes p GV at bytes r e =
      let a = steps_ok (byte at bytes) _ e in
      let b = steps_ok (limits cs fs p slots (suc nodes) a.0.1 a.0.2) _ a.2 in
      subst (λ z. Formed z.0 cs) (got b.2) tt
  node_formed t bs it ib slots nodes p AT at bytes r e =
      let a = steps_ok (declared cs is_atom at bytes) _ e in
      let b = steps_ok (limits cs fs p (suc slots) (suc nodes) a.0.1 a.0.2) _ a.2 in
      let c = steps_ok (t (suc slots) (suc nodes) b.0.1 b.0.2) _ b.2 in
      let d = declared_ok cs is_atom at bytes a.0 a.1 in
      let i = nth cs a.0.0.0 a.0.0.1 [] d.0 in
      subst (λ z. Formed z.0 cs) (got c.2) (i.0 ∙ atom_empty a.0.0.1 d.1, omega (arith, i.1), it _ _ _ _ c.0 c.1)
  node_formed t bs it ib slots nodes p MK at bytes r e =
      let a = steps_ok (declared cs is_node at bytes) _ e in
      let k = steps_ok (byte a.0.1 a.0.2) _ a.2 in
      let s = steps_ok (times (length a.0.0.1) byte k.0.1 k.0.2) _ k.2 in
      let b = steps_ok (limits cs fs p (suc slots) (suc nodes) s.0.1 s.0.2) _ s.2 in
      let c = steps_ok (t (suc slots) (suc nodes) b.0.1 b.0.2) _ b.2 in
      let d = declared_ok cs is_node at bytes a.0 a.1 in
      let i = nth cs a.0.0.0 a.0.0.1 [] d.0 in
      let w = node_cons a.0.0.1 d.1 in
      subst (λ z. Formed z.0 cs) (got c.2) ((w.0, w.1, i.0 ∙ w.2), it _ _ _ _ c.0 c.1)
  node_formed t bs it ib slots nodes p CL at bytes r e =
      let a = steps_ok (declared fs any at bytes) _ e in
      let s = steps_ok (times (length a.0.0.1.parameters) byte a.0.1 a.0.2) _ a.2 in
      let b = steps_ok (limits cs fs p (suc slots) (suc nodes) s.0.1 s.0.2) _ s.2 in
      let c = steps_ok (t (suc slots) (suc nodes) b.0.1 b.0.2) _ b.2 in
      let d = declared_ok fs any at bytes a.0 a.1 in
      let i = nth fs a.0.0.0 a.0.0.1 a.0.0.1 d.0 in
      subst (λ z. Formed z.0 cs) (got c.2) (omega (arith, i.1), it _ _ _ _ c.0 c.1)
  node_formed t bs it ib slots nodes p TL at bytes r e =
      let a = steps_ok (declared fs any at bytes) _ e in
      let s = steps_ok (times (length a.0.0.1.parameters) byte a.0.1 a.0.2) _ a.2 in
      let b = steps_ok (limits cs fs p slots (suc nodes) s.0.1 s.0.2) _ s.2 in
      let d = declared_ok fs any at bytes a.0 a.1 in
      let i = nth fs a.0.0.0 a.0.0.1 a.0.0.1 d.0 in
      subst (λ z. Formed z.0 cs) (got b.2) (omega (arith, i.1))
  node_formed t bs it ib slots nodes p OP at bytes r e =
      let a = steps_ok (byte at bytes) _ e in
      let k = steps_ok (byte a.0.1 a.0.2) _ a.2 in
      let n = steps_ok (ensure 4 a.0.1 (ltb 0 k.0.0 && leb k.0.0 64) k.0.1 k.0.2) _ k.2 in
      let b = steps_ok (limits cs fs p slots (suc nodes) n.0.1 n.0.2) _ n.2 in
      let c = steps_ok (bs k.0.0 credits slots (suc nodes) b.0.1 b.0.2) _ b.2 in
      subst (λ z. Formed z.0 cs) (got c.2) (ib _ _ _ _ _ _ c.0 c.1)
  node_formed t bs it ib slots nodes p LK at bytes r e =
      let a = steps_ok (byte at bytes) _ e in
      let k = steps_ok (byte a.0.1 a.0.2) _ a.2 in
      let n = steps_ok (ensure 4 a.0.1 (ltb 0 k.0.0 && leb k.0.0 64) k.0.1 k.0.2) _ k.2 in
      let b = steps_ok (limits cs fs p slots (suc nodes) n.0.1 n.0.2) _ n.2 in
      let c = steps_ok (bs k.0.0 (λ c. 0) slots (suc nodes) b.0.1 b.0.2) _ b.2 in
      subst (λ z. Formed z.0 cs) (got c.2) (ib _ _ _ _ _ _ c.0 c.1)
  node_formed t bs it ib slots nodes p NU at bytes r e =
      let h = steps_ok (byte at bytes) _ e in
      let l = steps_ok (byte h.0.1 h.0.2) _ h.2 in
      let b = steps_ok (limits cs fs p (suc slots) (suc nodes) l.0.1 l.0.2) _ l.2 in
      let c = steps_ok (t (suc slots) (suc nodes) b.0.1 b.0.2) _ b.2 in
      subst (λ z. Formed z.0 cs) (got c.2) (it _ _ _ _ c.0 c.1)
  node_formed t bs it ib slots nodes p AR at bytes r e =
      let o = steps_ok (below 4 at bytes) _ e in
      let x = steps_ok (byte o.0.1 o.0.2) _ o.2 in
      let y = steps_ok (byte x.0.1 x.0.2) _ x.2 in
      let b = steps_ok (limits cs fs p (suc slots) (suc nodes) y.0.1 y.0.2) _ y.2 in
      let c = steps_ok (t (suc slots) (suc nodes) b.0.1 b.0.2) _ b.2 in
      subst (λ z. Formed z.0 cs) (got c.2) (it _ _ _ _ c.0 c.1)
  node_formed t bs it ib slots nodes p IF at bytes r e =
      let s = steps_ok (byte at bytes) _ e in
      let b = steps_ok (limits cs fs p slots (suc nodes) s.0.1 s.0.2) _ s.2 in
      let c = steps_ok (t slots (suc nodes) b.0.1 b.0.2) _ b.2 in
      let d = steps_ok (t slots (suc nodes) c.0.1 c.0.2) _ c.2 in
      subst (λ z. Formed z.0 cs) (got d.2) (it _ _ _ _ c.0 c.1, it _ _ _ _ d.0 d.1)
  node_formed t bs it ib slots nodes p CN at bytes r e = absurd (refused e)
  node_formed t bs it ib slots nodes p FN at bytes r e = absurd (refused e)
  node_formed t bs it ib slots nodes p BD at bytes r e = absurd (refused e)
  node_formed t bs it ib slots nodes p ND at bytes r e = absurd (refused e)
  node_formed t bs it ib slots nodes p BR at bytes r e = absurd (refused e)
  node_formed t bs it ib slots nodes p Other at bytes r e = absurd (refused e)

  mutual
    unfolding term

    pub term_formed : (n slots nodes at : ℕ) (bytes : List ℕ) → Good (term cs fs n slots nodes at bytes)
    term_formed zero slots nodes at bytes r e = absurd (refused e)
    term_formed (suc n) slots nodes at bytes r e =
        let a = steps_ok (mark at bytes) _ e in
        node_formed (λ s k. term cs fs n s k) (λ c x s k. branches cs fs n c x s k) (λ s k at b r e. term_formed n s k at b r e) (λ c x s k at b r e. branches_formed n c x s k at b r e)
        slots nodes at a.0.0 a.0.1 a.0.2 r a.2

    pub branches_formed : (n k : ℕ) (extra : Constructor → ℕ) (slots nodes at : ℕ) (bytes : List ℕ) → GoodAll (branches cs fs n k extra slots nodes at bytes)
    branches_formed zero k extra slots nodes at bytes r e = absurd (refused e)
    branches_formed (suc n) zero extra slots nodes at bytes r e = subst (λ z. AllFormed z.0 cs) (got e) tt
    branches_formed (suc n) (suc k) extra slots nodes at bytes r e =
        let x = steps_ok (expect (code BR) at bytes) _ e in
        let c = steps_ok (declared cs any x.0.1 x.0.2) _ x.2 in
        let s : ℕ = slots + (length c.0.0.1 + extra c.0.0.1) in
        let b = steps_ok (limits cs fs at s nodes c.0.1 c.0.2) _ c.2 in
        let t = steps_ok (term cs fs n s nodes b.0.1 b.0.2) _ b.2 in
        let u = steps_ok (branches cs fs n k extra slots nodes t.0.1 t.0.2) _ t.2 in
        subst (λ z. AllFormed z.0 cs) (got u.2) (term_formed n s nodes _ _ t.0 t.1, branches_formed n k extra slots nodes _ _ u.0 u.1)

  pub bodies_formed : (fuel : ℕ) (gs : List Signature) (at : ℕ) (bytes : List ℕ) (r : List Term × ℕ × List ℕ) → bodies fuel cs fs gs at bytes ≡ ok r
      → (f : ℕ) → Formed (get_or r.0 f no_body) cs
  unfolding bodies
  bodies_formed fuel [] at bytes r e f =
      let x = steps_ok (expect (code ND) at bytes) _ e in
      let y = steps_ok (finish x.0.1 x.0.2) _ x.2 in
      subst (λ z. Formed (get_or z.0 f no_body) cs) (got y.2) tt
  bodies_formed fuel (g ∷ gs) at bytes r e f =
      let t = steps_ok (term cs fs fuel (length g.parameters) 0 at bytes) _ e in
      let b = steps_ok (between gs t.0.1 t.0.2) _ t.2 in
      let u = steps_ok (bodies fuel cs fs gs b.0.1 b.0.2) _ b.2 in
      subst (λ z. Formed (get_or z.0 f no_body) cs) (got u.2)
      (first_or_later t.0.0 u.0.0 (term_formed fuel _ _ _ _ t.0 t.1) (λ i. bodies_formed fuel gs _ _ u.0 u.1 i) f)
    where
      first_or_later : (t : Term) (ts : List Term) → Formed t cs → ((i : ℕ) → Formed (get_or ts i no_body) cs) → (i : ℕ) → Formed (get_or (t ∷ ts) i no_body) cs
      first_or_later t ts h k zero = h
      first_or_later t ts h k (suc i) = k i

  -- a body for each function
  pub bodies_many : (fuel : ℕ) (gs : List Signature) (at : ℕ) (bytes : List ℕ) (r : List Term × ℕ × List ℕ) → bodies fuel cs fs gs at bytes ≡ ok r
      → length r.0 ≡ length gs
  unfolding bodies
  bodies_many fuel [] at bytes r e =
      let x = steps_ok (expect (code ND) at bytes) _ e in
      let y = steps_ok (finish x.0.1 x.0.2) _ x.2 in
      subst (λ z. length z.0 ≡ 0) (got y.2) refl
  bodies_many fuel (g ∷ gs) at bytes r e =
      let t = steps_ok (term cs fs fuel (length g.parameters) 0 at bytes) _ e in
      let b = steps_ok (between gs t.0.1 t.0.2) _ t.2 in
      let u = steps_ok (bodies fuel cs fs gs b.0.1 b.0.2) _ b.2 in
      subst (λ z. length z.0 ≡ suc (length gs)) (got u.2) (ap suc (bodies_many fuel gs _ _ u.0 u.1))

-- no arity is over 4
below_ok : (l at : ℕ) (bytes : List ℕ) (r : ℕ × ℕ × List ℕ) → below l at bytes ≡ ok r → r.0 < l
unfolding below
below_ok l at [] r e = absurd (refused e)
below_ok l at (b ∷ bytes) r e = go (ltb b l) refl e
  where
    go : (t : Bool) → ltb b l ≡ t → ◌>>=◌ (ensure 4 at t (suc at) bytes) (λ u. ok (b, u.1, u.2)) ≡ ok r → r.0 < l
    go true q f = subst (λ z. z.0 < l) (got f) (ltb-true b l q)
    go false q f = absurd (refused f)

times_length : {A : Type 0} (k : ℕ) (m : Reader A) (at : ℕ) (bytes : List ℕ) (r : List A × ℕ × List ℕ) → times k m at bytes ≡ ok r → length r.0 ≡ k
unfolding times
times_length zero m at bytes r e = subst (λ z. length z.0 ≡ 0) (got e) refl
times_length (suc k) m at bytes r e =
    let a = steps_ok (m at bytes) _ e in
    let b = steps_ok (times k m a.0.1 a.0.2) _ a.2 in
    subst (λ z. length z.0 ≡ suc k) (got b.2) (ap suc (times_length k m _ _ b.0 b.1))

constructor_ok : (at : ℕ) (bytes : List ℕ) (r : Constructor × ℕ × List ℕ) → constructor at bytes ≡ ok r → length r.0 ≤ 4
unfolding constructor
constructor_ok at bytes r e =
    let a = steps_ok (below 5 at bytes) _ e in
    omega (arith, below_ok 5 at bytes a.0 a.1, times_length a.0.0 sort _ _ r a.2)

pub ensured : (n p : ℕ) (t : Bool) (at : ℕ) (bytes : List ℕ) (r : Unit {0} × ℕ × List ℕ) → ensure n p t at bytes ≡ ok r → t ≡ true
ensured n p true at bytes r e = refl
ensured n p false at bytes r e = absurd (refused e)

abbrev pub Small : List Constructor → Type 0
Small cs = (k : ℕ) → length (get_or cs k []) ≤ 4

small_snoc : (cs : List Constructor) (c : Constructor) → Small cs → length c ≤ 4 → Small (cs ++ (c ∷ []))
small_snoc [] c s h zero = h
small_snoc [] c s h (suc k) = omega arith
small_snoc (d ∷ cs) c s h zero = s zero
small_snoc (d ∷ cs) c s h (suc k) = small_snoc cs c (λ i. s (suc i)) h k

pub record Well (file : File) : Type 0 where
  pub small : Small file.constructors
  pub formed : (f : ℕ) → Formed (get_or file.bodies f no_body) file.constructors
  pub few : length file.bodies ≤ 32

abbrev ReadsWell : Outcome (File × ℕ × List ℕ) → Type 0
ReadsWell o = (r : File × ℕ × List ℕ) → o ≡ ok r → Well r.0

abbrev Goes_on : (List Constructor → List Signature → Reader File) → Type 0
Goes_on h = (cs' : List Constructor) (fs' : List Signature) (at : ℕ) (bytes : List ℕ) → length cs' ≤ 64 → length fs' ≤ 32 → Small cs' → ReadsWell (h cs' fs' at bytes)

cn_well : (h : List Constructor → List Signature → Reader File) (size : ℕ) (cs : List Constructor) (p at : ℕ) (bytes : List ℕ) → Small cs → Goes_on h
    → ReadsWell (entry h size cs p CN [] at bytes)
unfolding entry
cn_well h size cs p at bytes small ih r e =
    let a = steps_ok (constructor at bytes) _ e in
    let b = steps_ok (ensure 5 p (ltb (length cs) 64) a.0.1 a.0.2) _ a.2 in
    let l : length cs < 64 = ltb-true (length cs) 64 (ensured 5 p (ltb (length cs) 64) _ _ b.0 b.1) in
    ih (cs ++ (a.0.0 ∷ [])) [] _ _ (omega (arith, length-append cs (a.0.0 ∷ []))) (omega arith) (small_snoc cs a.0.0 small (constructor_ok at bytes a.0 a.1)) r b.2

fn_well : (h : List Constructor → List Signature → Reader File) (size : ℕ) (cs : List Constructor) (p : ℕ) (fs : List Signature) (at : ℕ) (bytes : List ℕ) → length cs ≤ 64 → Small cs → Goes_on h
    → ReadsWell (entry h size cs p FN fs at bytes)
unfolding entry
fn_well h size cs p fs at bytes few small ih r e =
    let a = steps_ok (signature at bytes) _ e in
    let b = steps_ok (ensure 5 p (ltb (length fs) 32) a.0.1 a.0.2) _ a.2 in
    let l : length fs < 32 = ltb-true (length fs) 32 (ensured 5 p (ltb (length fs) 32) _ _ b.0 b.1) in
    ih cs (fs ++ (a.0.0 ∷ [])) _ _ few (omega (arith, length-append fs (a.0.0 ∷ []))) small r b.2

bd_well : (h : List Constructor → List Signature → Reader File) (size : ℕ) (cs : List Constructor) (p : ℕ) (f : Signature) (fs : List Signature) (at : ℕ) (bytes : List ℕ) → length cs ≤ 64 → length (f ∷ fs) ≤ 32 → Small cs
    → ReadsWell (entry h size cs p BD (f ∷ fs) at bytes)
unfolding entry
bd_well h size cs p f fs at bytes few fewer small r e =
    let a = steps_ok (bodies size cs (f ∷ fs) (f ∷ fs) at bytes) _ e in
    subst (λ z. Well z.0) (got a.2) (record {
      small = small;
      formed = bodies_formed cs (f ∷ fs) few fewer size (f ∷ fs) at bytes a.0 a.1;
      few = subst (λ k. k ≤ 32) (sym (bodies_many cs (f ∷ fs) few fewer size (f ∷ fs) at bytes a.0 a.1)) fewer;
    })

cn_any : (h : List Constructor → List Signature → Reader File) (size : ℕ) (cs : List Constructor) (p : ℕ) (fs : List Signature) (at : ℕ) (bytes : List ℕ) → Small cs → Goes_on h
    → ReadsWell (entry h size cs p CN fs at bytes)
unfolding entry
cn_any h size cs p [] at bytes small ih r e = cn_well h size cs p at bytes small ih r e
cn_any h size cs p (f ∷ fs) at bytes small ih r e = absurd (refused e)

bd_any : (h : List Constructor → List Signature → Reader File) (size : ℕ) (cs : List Constructor) (p : ℕ) (fs : List Signature) (at : ℕ) (bytes : List ℕ) → length cs ≤ 64 → length fs ≤ 32 → Small cs
    → ReadsWell (entry h size cs p BD fs at bytes)
unfolding entry
bd_any h size cs p [] at bytes few fewer small r e = absurd (refused e)
bd_any h size cs p (f ∷ fs) at bytes few fewer small r e = bd_well h size cs p f fs at bytes few fewer small r e

entry_well : (h : List Constructor → List Signature → Reader File) (size : ℕ) (cs : List Constructor) (p : ℕ) (m : Mark) (fs : List Signature) (at : ℕ) (bytes : List ℕ)
    → length cs ≤ 64 → length fs ≤ 32 → Small cs → Goes_on h → ReadsWell (entry h size cs p m fs at bytes)
unfolding entry
entry_well h size cs p CN fs at bytes few fewer small ih r e = cn_any h size cs p fs at bytes small ih r e
entry_well h size cs p FN fs at bytes few fewer small ih r e = fn_well h size cs p fs at bytes few small ih r e
entry_well h size cs p BD fs at bytes few fewer small ih r e = bd_any h size cs p fs at bytes few fewer small r e
entry_well h size cs p ND fs at bytes few fewer small ih r e = absurd (refused e)
entry_well h size cs p GV fs at bytes few fewer small ih r e = absurd (refused e)
entry_well h size cs p AT fs at bytes few fewer small ih r e = absurd (refused e)
entry_well h size cs p MK fs at bytes few fewer small ih r e = absurd (refused e)
entry_well h size cs p CL fs at bytes few fewer small ih r e = absurd (refused e)
entry_well h size cs p TL fs at bytes few fewer small ih r e = absurd (refused e)
entry_well h size cs p OP fs at bytes few fewer small ih r e = absurd (refused e)
entry_well h size cs p LK fs at bytes few fewer small ih r e = absurd (refused e)
entry_well h size cs p BR fs at bytes few fewer small ih r e = absurd (refused e)
entry_well h size cs p NU fs at bytes few fewer small ih r e = absurd (refused e)
entry_well h size cs p AR fs at bytes few fewer small ih r e = absurd (refused e)
entry_well h size cs p IF fs at bytes few fewer small ih r e = absurd (refused e)
entry_well h size cs p Other fs at bytes few fewer small ih r e = absurd (refused e)

header_well : (n size : ℕ) (cs : List Constructor) (fs : List Signature) (at : ℕ) (bytes : List ℕ) → length cs ≤ 64 → length fs ≤ 32 → Small cs → ReadsWell (header n size cs fs at bytes)
unfolding header
header_well zero size cs fs at bytes few fewer small r e = absurd (refused e)
header_well (suc n) size cs fs at bytes few fewer small r e =
    let a = steps_ok (mark at bytes) _ e in
    entry_well (λ c f. header n size c f) size cs at a.0.0 fs a.0.1 a.0.2 few fewer small (λ c f at b l k s r e. header_well n size c f at b l k s r e) r a.2

pub read_well : (bytes : List ℕ) (file : File) → read bytes ≡ ok file → Well file
unfolding read
read_well bytes file e = go (leb (length bytes) 4096) refl e
  where
    go : (t : Bool) → leb (length bytes) 4096 ≡ t
        → (elim t as (λ _. Outcome File) [ true ↦ ◌>>=◌ (header (suc (length bytes)) (length bytes) [] [] 0 bytes) (λ r. ok r.0) | false ↦ refuse 1 0 ]) ≡ ok file → Well file
    go true q f =
        let a = steps_ok (header (suc (length bytes)) (length bytes) [] [] 0 bytes) _ f in
        subst Well (got a.2) (header_well (suc (length bytes)) (length bytes) [] [] 0 bytes (omega arith) (omega arith) (λ k. omega arith) a.0 a.1)
    go false q f = absurd (refused f)

-- an accepted file is one that the machine runs as the plain evaluation does
pub accepted_well : (budget : ℕ) (bytes : List ℕ) (file : File) → accepted bytes ≡ ok file → Accepted file budget
unfolding accepted
accepted_well budget bytes file e =
    let a = steps_ok (read bytes) _ e in
    let b = steps_ok (check_file a.0) _ a.2 in
    let q : a.0 ≡ file = got b.2 in
    let w = read_well bytes a.0 a.1 in
    subst (λ f. Accepted f budget) q (all_accepted a.0 budget w.small w.formed b.1)

pub accepted_read : (bytes : List ℕ) (file : File) → accepted bytes ≡ ok file → Well file
unfolding accepted
accepted_read bytes file e =
    let a = steps_ok (read bytes) _ e in
    let b = steps_ok (check_file a.0) _ a.2 in
    subst Well (got b.2) (read_well bytes a.0 a.1)
