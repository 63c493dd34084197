-- The square holds exactly the calls written in the bodies. Assumes nothing.
use Prim.Native.Nat.{ℕ, zero, suc, ◌≤◌, ◌<◌}
use mathlib.Core.List.{List, [], ◌∷◌, ◌++◌}
use mathlib.Core.Path.{◌≡◌, refl, sym, ap, ap₂, ◌∙◌, subst}
use mathlib.Core.Logic.{◌⊎◌, inl, inr, ◌↔◌}
use native.Mathlib.Omega.{arith}
use native.Mathlib.Decide.{ℕ_discrete, dec_lt}
use lib.ListN.{length, get_or, set, replicate, length-set, get_or-replicate}
use lib.Seq.{get_or-set_same, get_or-set_other, set_out}
use Rattle.meaning.specs.declared.Call.{Call}
use Rattle.meaning.specs.declared.How.{How}
use Rattle.meaning.specs.declared.How.TheVariants.{Never, Tail, Waits}
use Rattle.meaning.specs.Syntax.{File}
use Rattle.meaning.specs.Calls.{call, In, here, there, Square, entry, stronger, noted, fill, no_calls, calls_from, square}
use Rattle.theory.proofs.Passing.{contradiction}

abbrev pub rank : How → ℕ
rank Never = 0
rank Tail = 1
rank Waits = 2

pub in_left : {c : Call} {cs : List Call} (ds : List Call) → In c cs → In c (cs ++ ds)
in_left ds here = here
in_left ds (there h) = there (in_left ds h)

pub in_right : {c : Call} (cs : List Call) {ds : List Call} → In c ds → In c (cs ++ ds)
in_right [] h = h
in_right (d ∷ cs) h = there (in_right cs h)

pub in_cases : {c : Call} (cs : List Call) {ds : List Call} → In c (cs ++ ds) → In c cs ⊎ In c ds
in_cases [] h = inr h
in_cases (d ∷ cs) here = inl here
in_cases (d ∷ cs) (there h) = elim (in_cases cs h) [ inl g ↦ inl (there g) | inr g ↦ inr g ]

-- one call noted
noted_cases : (sq : Square) (i j : ℕ) (h : How) (f g : ℕ)
    → (entry (noted sq i j h) f g ≡ entry sq f g) ⊎ ((f ≡ i) × (g ≡ j) × (entry (noted sq i j h) f g ≡ stronger (entry sq f g) h))
noted_cases sq i j h f g = go (ℕ_discrete f i) (dec_lt i (length sq)) (ℕ_discrete g j) (dec_lt j (length (get_or sq i [])))
  where
    s : How
    s = stronger (entry sq i j) h

    new : List How
    new = set (get_or sq i []) j s

    go : Dec (f ≡ i) → Dec (i < length sq) → Dec (g ≡ j) → Dec (j < length (get_or sq i []))
        → (entry (set sq i new) f g ≡ entry sq f g) ⊎ ((f ≡ i) × (g ≡ j) × (entry (set sq i new) f g ≡ stronger (entry sq f g) h))
    go (no a) b c d = inl (ap (λ r. get_or r g Never) (get_or-set_other sq i f new [] a))
    go (yes a) (no b) c d = inl (ap (λ q. entry q f g) (set_out sq i new (omega arith)))
    go (yes a) (yes b) (no c) d =
        inl (ap (λ x. entry (set sq i new) x g) a ∙ ap (λ r. get_or r g Never) (get_or-set_same sq i new [] b) ∙ get_or-set_other (get_or sq i []) j g s Never c ∙ ap (λ x. entry sq x g) (sym a))
    go (yes a) (yes b) (yes c) (no d) =
        inl (ap (λ x. entry (set sq i new) x g) a ∙ ap (λ r. get_or r g Never) (get_or-set_same sq i new [] b) ∙ ap (λ r. get_or r g Never) (set_out (get_or sq i []) j s (omega arith)) ∙ ap (λ x. entry sq x g) (sym a))
    go (yes a) (yes b) (yes c) (yes d) =
        inr (a, c, ap₂ (λ x y. entry (set sq i new) x y) a c ∙ ap (λ r. get_or r j Never) (get_or-set_same sq i new [] b) ∙ get_or-set_same (get_or sq i []) j s Never d ∙ ap₂ (λ x y. stronger (entry sq x y) h) (sym a) (sym c))

noted_at : (sq : Square) (i j : ℕ) (h : How) → i < length sq → j < length (get_or sq i []) → entry (noted sq i j h) i j ≡ stronger (entry sq i j) h
noted_at sq i j h b d =
    ap (λ r. get_or r j Never) (get_or-set_same sq i (set (get_or sq i []) j (stronger (entry sq i j) h)) [] b)
    ∙ get_or-set_same (get_or sq i []) j (stronger (entry sq i j) h) Never d

stronger_left : (a b : How) → rank a ≤ rank (stronger a b)
stronger_left Never b = omega arith
stronger_left Tail Never = omega arith
stronger_left Tail Tail = omega arith
stronger_left Tail Waits = omega arith
stronger_left Waits b = omega arith

stronger_right : (a b : How) → rank b ≤ rank (stronger a b)
stronger_right Never b = omega arith
stronger_right Tail Never = omega arith
stronger_right Tail Tail = omega arith
stronger_right Tail Waits = omega arith
stronger_right Waits Never = omega arith
stronger_right Waits Tail = omega arith
stronger_right Waits Waits = omega arith

stronger_is : (a b : How) → (stronger a b ≡ a) ⊎ (stronger a b ≡ b)
stronger_is Never b = inr refl
stronger_is Tail Never = inl refl
stronger_is Tail Tail = inl refl
stronger_is Tail Waits = inr refl
stronger_is Waits b = inl refl

noted_keeps : (sq : Square) (i j : ℕ) (h : How) (f g : ℕ) → rank (entry sq f g) ≤ rank (entry (noted sq i j h) f g)
noted_keeps sq i j h f g = go (noted_cases sq i j h f g)
  where
    go : (entry (noted sq i j h) f g ≡ entry sq f g) ⊎ ((f ≡ i) × (g ≡ j) × (entry (noted sq i j h) f g ≡ stronger (entry sq f g) h))
        → rank (entry sq f g) ≤ rank (entry (noted sq i j h) f g)
    go (inl e) = omega (arith, ap rank e)
    go (inr r) = omega (arith, ap rank r.2, stronger_left (entry sq f g) h)

fill_keeps : (cs : List Call) (sq : Square) (f g : ℕ) → rank (entry sq f g) ≤ rank (entry (fill cs sq) f g)
unfolding fill
fill_keeps [] sq f g = omega arith
fill_keeps (c ∷ cs) sq f g =
    omega (arith, fill_keeps cs (noted sq c.caller c.callee c.how) f g, noted_keeps sq c.caller c.callee c.how f g)

-- 32 by 32
record Full (sq : Square) : Type 0 where
  rows : length sq ≡ 32
  columns : (f : ℕ) → f < 32 → length (get_or sq f []) ≡ 32

full_noted : (sq : Square) (i j : ℕ) (h : How) → Full sq → Full (noted sq i j h)
full_noted sq i j h w = record { rows = length-set sq i new ∙ w.rows; columns = λ f l. go f l (ℕ_discrete f i) (dec_lt i (length sq)) }
  where
    new : List How
    new = set (get_or sq i []) j (stronger (entry sq i j) h)

    go : (f : ℕ) → f < 32 → Dec (f ≡ i) → Dec (i < length sq) → length (get_or (set sq i new) f []) ≡ 32
    go f l (yes e) (yes b) =
        ap (λ x. length (get_or (set sq i new) x [])) e ∙ ap length (get_or-set_same sq i new [] b) ∙ length-set (get_or sq i []) j (stronger (entry sq i j) h)
        ∙ w.columns i (subst (λ x. x < 32) e l)
    go f l (yes e) (no b) = ap (λ q. length (get_or q f [])) (set_out sq i new (omega arith)) ∙ w.columns f l
    go f l (no e) b = ap length (get_or-set_other sq i f new [] e) ∙ w.columns f l

fill_covers : {c : Call} {cs : List Call} → In c cs → (sq : Square) → Full sq → c.caller < 32 → c.callee < 32
    → rank c.how ≤ rank (entry (fill cs sq) c.caller c.callee)
unfolding fill
fill_covers {c} (here {cs}) sq w a b =
    omega (
      arith,
      fill_keeps cs (noted sq c.caller c.callee c.how) c.caller c.callee,
      ap rank (noted_at sq c.caller c.callee c.how (omega (arith, w.rows)) (omega (arith, w.columns c.caller a))),
      stronger_right (entry sq c.caller c.callee) c.how,
    )
fill_covers (there {d} h) sq w a b = fill_covers h (noted sq d.caller d.callee d.how) (full_noted sq d.caller d.callee d.how w) a b

fill_from : (cs : List Call) (sq : Square) (f g : ℕ) (h : How) → entry (fill cs sq) f g ≡ h → (entry sq f g ≡ h) ⊎ In (call f g h) cs
unfolding fill
fill_from [] sq f g h e = inl e
fill_from (c ∷ cs) sq f g h e =
    go (fill_from cs (noted sq c.caller c.callee c.how) f g h e) (noted_cases sq c.caller c.callee c.how f g) (stronger_is (entry sq f g) c.how)
  where
    go : (entry (noted sq c.caller c.callee c.how) f g ≡ h) ⊎ In (call f g h) cs
        → (entry (noted sq c.caller c.callee c.how) f g ≡ entry sq f g)
        ⊎ ((f ≡ c.caller) × (g ≡ c.callee) × (entry (noted sq c.caller c.callee c.how) f g ≡ stronger (entry sq f g) c.how))
        → (stronger (entry sq f g) c.how ≡ entry sq f g) ⊎ (stronger (entry sq f g) c.how ≡ c.how)
        → (entry sq f g ≡ h) ⊎ In (call f g h) (c ∷ cs)
    go (inr k) n s = inr (there k)
    go (inl q) (inl n) s = inl (sym n ∙ q)
    go (inl q) (inr n) (inl s) = inl (sym s ∙ sym n.2 ∙ q)
    go (inl q) (inr n) (inr s) =
        let p : call c.caller c.callee c.how ≡ call f g h = λ i. call (sym n.0 i) (sym n.1 i) ((sym s ∙ sym n.2 ∙ q) i) in
        inr (subst (λ d. In (call f g h) (d ∷ cs)) (sym p) here)

no_row : (n g : ℕ) → get_or (replicate n Never) g Never ≡ Never
no_row zero g = refl
no_row (suc n) zero = refl
no_row (suc n) (suc g) = no_row n g

no_entry : (n f g : ℕ) → get_or (get_or (replicate n (replicate 32 Never)) f []) g Never ≡ Never
no_entry zero f g = refl
no_entry (suc n) zero g = no_row 32 g
no_entry (suc n) (suc f) g = no_entry n f g

full_none : Full no_calls
unfolding no_calls
full_none = record { rows = refl; columns = λ f l. ap length (get_or-replicate 32 f (replicate 32 Never) [] l) }

-- what reading makes sure of
pub record Callable (file : File) : Type 0 where
  pub callers : (c : Call) → In c (calls_from 0 file.bodies) → c.caller < 32
  pub callees : (c : Call) → In c (calls_from 0 file.bodies) → c.callee < 32

module _ (file : File) (small : Callable file) where
  pub covered : (c : Call) → In c (calls_from 0 file.bodies) → rank c.how ≤ rank (entry (square file) c.caller c.callee)
  unfolding square
  covered c h = fill_covers h no_calls full_none (small.callers c h) (small.callees c h)

  from_call : (f g : ℕ) (h : How) → entry (square file) f g ≡ h → (Never ≡ h) ⊎ In (call f g h) (calls_from 0 file.bodies)
  unfolding square no_calls
  from_call f g h e = elim (fill_from (calls_from 0 file.bodies) no_calls f g h e) [ inl q ↦ inl (sym (no_entry 32 f g) ∙ q) | inr k ↦ inr k ]

  is_waits : (h : How) → 2 ≤ rank h → h ≡ Waits
  is_waits Never l = absurd (omega arith)
  is_waits Tail l = absurd (omega arith)
  is_waits Waits l = refl

  -- an entry waits if and only if a CL is written, and is a tail call if and only if only TLs are
  pub square_waits : (f g : ℕ) → (entry (square file) f g ≡ Waits) ↔ In (call f g Waits) (calls_from 0 file.bodies)
  square_waits f g = (λ e. go (from_call f g Waits e), λ h. is_waits (entry (square file) f g) (covered (call f g Waits) h))
    where
      go : (Never ≡ Waits) ⊎ In (call f g Waits) (calls_from 0 file.bodies) → In (call f g Waits) (calls_from 0 file.bodies)
      go (inl e) = let z : ◌≡◌ {A = ℕ} 0 1 = cc in absurd (contradiction z)
      go (inr h) = h

  pub square_tail : (f g : ℕ)
      → (entry (square file) f g ≡ Tail) ↔ (In (call f g Tail) (calls_from 0 file.bodies) × (In (call f g Waits) (calls_from 0 file.bodies) → ⊥))
  square_tail f g = (λ e. (go (from_call f g Tail e), λ h. none e ((square_waits f g).1 h)), λ p. back (entry (square file) f g) refl p)
    where
      none : entry (square file) f g ≡ Tail → entry (square file) f g ≡ Waits → ⊥
      none a b = let z : ◌≡◌ {A = ℕ} 0 1 = cc in contradiction z

      go : (Never ≡ Tail) ⊎ In (call f g Tail) (calls_from 0 file.bodies) → In (call f g Tail) (calls_from 0 file.bodies)
      go (inl e) = let z : ◌≡◌ {A = ℕ} 0 1 = cc in absurd (contradiction z)
      go (inr h) = h

      back : (h : How) → entry (square file) f g ≡ h → In (call f g Tail) (calls_from 0 file.bodies) × (In (call f g Waits) (calls_from 0 file.bodies) → ⊥)
          → entry (square file) f g ≡ Tail
      back Never e p = absurd (omega (arith, ap rank e, covered (call f g Tail) p.0))
      back Tail e p = e
      back Waits e p = absurd (p.1 ((square_waits f g).0 e))
