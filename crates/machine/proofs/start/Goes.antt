-- How a part of a walk follows on another, and how it ends. Assumes nothing.
use Rattle.std.proofs.Common.{◌≡◌, ℕ, Bool, true, false, List, sym, ap, ◌∙◌, subst, Result, Ok, Err}
use Rattle.std.specs.Result.{IsErrAnd}
use Rattle.std.proofs.lemmas.Result.{err_from_is_err_and}
use denote.Bor.{Bor}
use Rattle.meaning.specs.Choice.{pick}
use Rattle.meaning.specs.declared.Fault.{Fault}
use Rattle.machine.specs.declared.start.Walk.{Walk}
use Rattle.machine.specs.StartArea.{Area}
use Rattle.machine.specs.StartWalk.{area_of, Kept, Ends, Went}

pub kept_after : {a b c : Walk} → Kept a b → Kept b c → Kept a c
kept_after k l = record { codes = l.codes ∙ k.codes; store = l.store ∙ k.store; lent = l.lent ∙ k.lent; behind = l.behind ∙ k.behind }

-- what is said by what a walk keeps
by_kept : {X : Type 0} {a b : Walk} → Kept a b → b.base ≡ a.base → (F : List ℕ → List ℕ → ℕ → X) → F b.codes.now b.store.now b.base ≡ F a.codes.now a.store.now a.base
by_kept k e F = λ i. F (k.codes i).now (k.store i).now (e i)

pub ends_as : (r : Result (Unit {0}) Fault) {f g : Bool} (at : Area) {m n : Area} → g ≡ f → m ≡ n → Ends r f at m → Ends r g at n
ends_as (Ok u) at e q h = (e ∙ h.0, h.1 ∙ q)
ends_as (Err x) at e q h = (e ∙ h.0, h.1)

-- what a walk goes by
pub record At (w : Walk) (cs st : Bor (List ℕ)) (n : ℕ) : Type 0 where
  pub codes : w.codes ≡ cs
  pub store : w.store ≡ st
  pub base : w.base ≡ n

pub at_after : {a b : Walk} {cs st : Bor (List ℕ)} {n : ℕ} → At a cs st n → Kept a b → b.base ≡ a.base → At b cs st n
at_after t k e = record { codes = k.codes ∙ t.codes; store = k.store ∙ t.store; base = e ∙ t.base }

-- a part of a walk, by what the walk is where the part begins
pub at_ends : {b c : Walk} {cs st : Bor (List ℕ)} {n : ℕ} {v : Area} {e : Result (Unit {0}) Fault} (F : List ℕ → List ℕ → ℕ → Area → Bool) (M : List ℕ → List ℕ → ℕ → Area → Area)
    → At b cs st n → area_of b ≡ v → Went b c e (F b.codes.now b.store.now b.base (area_of b)) (M b.codes.now b.store.now b.base (area_of b))
    → Ends e (F cs.now st.now n v) (area_of c) (M cs.now st.now n v)
at_ends {c = c} {e = e} F M t s w =
    ends_as e (area_of c) (sym (λ i. F (t.codes i).now (t.store i).now (t.base i) (s i))) (λ i. M (t.codes i).now (t.store i).now (t.base i) (s i)) w.ends

-- one part after another
pub went_then : {a b c : Walk} {u : Unit {0}} {r : Result (Unit {0}) Fault} {f : Bool} {m : Area} (G : List ℕ → List ℕ → ℕ → Area → Bool) (M : List ℕ → List ℕ → ℕ → Area → Area)
    → Went a b (Ok u) f m → Went b c r (G b.codes.now b.store.now b.base (area_of b)) (M b.codes.now b.store.now b.base (area_of b))
    → Went a c r (pick f (G a.codes.now a.store.now a.base m) false) (M a.codes.now a.store.now a.base m)
unfolding pick
went_then {a} {b} {c} {r = r} {f = f} {m = m} G M v w =
    record {
      kept = kept_after v.kept w.kept;
      base = w.base ∙ v.base;
      ends = ends_as r (area_of c)
          (ap (λ x. pick x (G a.codes.now a.store.now a.base m) false) v.ends.0 ∙ ap (G a.codes.now a.store.now a.base) (sym v.ends.1) ∙ sym (by_kept v.kept v.base (λ c s k. G c s k (area_of b))))
          (by_kept v.kept v.base (λ c s k. M c s k (area_of b)) ∙ ap (M a.codes.now a.store.now a.base) v.ends.1) w.ends;
    }

pub went_stop : {a b : Walk} {e : Fault} {f : Bool} {m n : Area} (g : Bool) → Went a b (Err e) f m → Went a b (Err e) (pick f g false) n
unfolding pick
went_stop g w = record { kept = w.kept; base = w.base; ends = (ap (λ x. pick x g false) w.ends.0, w.ends.1) }

-- in a loop: what is meant from a walk's begin on, and what is still meant
pub record Going (a b : Walk) (f g : Bool) (m n : Area) : Type 0 where
  pub kept : Kept a b
  pub base : b.base ≡ a.base
  pub fine : f ≡ g
  pub meant : m ≡ n

module _ {a b c : Walk} {f g : Bool} {m n : Area} (F : List ℕ → List ℕ → ℕ → Bool) (M : List ℕ → List ℕ → ℕ → Area) (i : Going a b f g m n) where
  pub going_on : {u : Unit {0}} {h : Bool} {o : Area} → Went b c (Ok u) (F b.codes.now b.store.now b.base) (M b.codes.now b.store.now b.base)
      → (F a.codes.now a.store.now a.base ≡ true → area_of c ≡ M a.codes.now a.store.now a.base → g ≡ h) → (area_of c ≡ M a.codes.now a.store.now a.base → n ≡ o) → Going a c f h m o
  going_on w p q =
      record {
        kept = kept_after i.kept w.kept;
        base = w.base ∙ i.base;
        fine = i.fine ∙ p (sym (by_kept i.kept i.base F) ∙ w.ends.0) (w.ends.1 ∙ by_kept i.kept i.base M);
        meant = i.meant ∙ q (w.ends.1 ∙ by_kept i.kept i.base M);
      }

  pub going_stop : {e : Fault} → Went b c (Err e) (F b.codes.now b.store.now b.base) (M b.codes.now b.store.now b.base) → (F a.codes.now a.store.now a.base ≡ false → g ≡ false)
      → Went a c (Err e) f m
  going_stop w p = record { kept = kept_after i.kept w.kept; base = w.base ∙ i.base; ends = (i.fine ∙ p (sym (by_kept i.kept i.base F) ∙ w.ends.0), w.ends.1) }

pub going_done : {a b : Walk} {f g : Bool} {m n : Area} → Going a b f g m n → g ≡ true → n ≡ area_of b → Went a b (Ok tt) f m
going_done i p q = record { kept = i.kept; base = i.base; ends = (i.fine ∙ p, sym (i.meant ∙ q)) }

-- the fault of a part, passed on by `?`
pub went_err : {a b : Walk} {r : Result (Unit {0}) Fault} {e : Fault} {f : Bool} {m : Area} → IsErrAnd r (λ x. x ≡ e) → Went a b (Err e) f m → Went a b r f m
went_err {a} {b} {r} {f = f} {m = m} p w =
    let q = err_from_is_err_and r p in subst (λ x. Went a b x f m) (sym (q.1 ∙ ap Err q.2)) w
