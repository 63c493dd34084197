-- The frames of a state: what each waits for, and that every node keeps it so. Assumes nothing.
use Prim.Native.Nat.{ℕ, zero, suc}
use mathlib.Core.Bool.{Bool, true, false}
use mathlib.Core.List.{List, [], ◌∷◌, ◌++◌}
use mathlib.Core.Option.{Option, none, some}
use mathlib.Core.Path.{◌≡◌, refl, ◌∙◌, subst}
use lib.ListN.{length}
use lib.Dec.{ltb}
use Rattle.meaning.specs.Syntax.{Sort, Term, Constructor, File}
use Rattle.meaning.specs.Syntax.{GV, AT, MK, CL, TL, OP, LK, NU, AR, IF}
use Rattle.meaning.specs.Outcome.{ok}
use Rattle.meaning.specs.Ownership.{Slots, bind, check, kind_owned}
use Rattle.meaning.specs.Derivation.{Split, Has}
use Rattle.meaning.specs.Plain.{Value, arithmetic, branch}
use Rattle.meaning.specs.Machine.{Held, Store, Frame, State, state, Step, finished, stuck, word, held, constructor_of, argued, without, step, body_of, function_of}
use Rattle.meaning.specs.Machine as M
use Rattle.meaning.specs.InPlace.{after}
use Rattle.theory.proofs.Rep.{Holds, Match, Same, has_part}
use Rattle.theory.proofs.Matching.{match_keep}
use Rattle.theory.proofs.Sim.{Formed, Once, once_apart, once_part, Ready, Accepted, give, at_ready, nu_ready, ar_ready, if_ready, op_ready, lk_ready, called_ready, resumed, mk_ready, made_store, opened_slots, looked_slots, tl_ready, cl_ready}

-- `All` are the owned cells of the start, `final` the sort of the first function's result
module _ (file : File) (budget : ℕ) (final : Sort) (All : List ℕ) where
  abbrev cs : List Constructor
  cs = file.constructors

  -- the frames below one that gives a value of a sort and, with those above it, owns the cells P: each waits for that value with cells
  -- of its own (P'), accepted with one more slot; what is lent to it is apart from its cells and from those above
  pub data Below (store : Store) : Sort → List Frame → List ℕ → Type 0 where
    bottom : Below store final [] All
    frame : {sort result : Sort} {f : Frame} {rest : List Frame} {slots : Slots} {env : List Value} {A P P' Q : List ℕ}
        → check cs file.functions result f.todo (bind slots (kind_owned sort ∷ [])) ≡ ok tt → Formed f.todo cs
        → Match cs store A slots f.slots env P' → Split Q P P' → ((c : ℕ) → Has c A → Has c Q → ⊥)
        → Below store result rest Q → Below store sort (f ∷ rest) P

  pub record Whole (before : Store) (st : State) : Type 0 where
    pub result : Sort
    pub slots : Slots
    pub env : List Value
    pub own : List ℕ
    pub lents : List ℕ
    pub ready : Ready file budget st.top.todo result slots st.top.slots env st.store own lents
    pub below : Below st.store result st.under own
    pub size : length st.store ≡ length before
    pub outside : (c : ℕ) → (Has c All → ⊥) → Same before st.store c

  -- the cells above are some of all cells
  pub below_part : {store : Store} {sort : Sort} {under : List Frame} {P : List ℕ} {c : ℕ} → Below store sort under P → Has c P → Has c All
  below_part bottom h = h
  below_part (frame e f m sp a b) h = below_part b (has_part sp h)

  pub below_once : {store : Store} {sort : Sort} {under : List Frame} {P : List ℕ} → Once All → Below store sort under P → Once P
  below_once o bottom = o
  below_once o (frame e f m sp a b) = once_part (below_once o b) sp

  -- a store that is changed in the cells above only
  pub below_keep : (store store' : Store) → length store' ≡ length store → Once All → {sort : Sort} {under : List Frame} {P : List ℕ}
      → ((c : ℕ) → (Has c P → ⊥) → Same store store' c) → Below store sort under P → Below store' sort under P
  below_keep store store' z o s bottom = bottom
  below_keep store store' z o s (frame {A} e f m sp a b) =
      frame e f
      (match_keep cs store store' z A (λ c i. s c (λ j. a c i (has_part sp j))) m (λ c i. s c (λ j. once_apart (below_once o b) sp c j i)))
      sp a (below_keep store store' z o (λ c n. s c (λ j. n (has_part sp j))) b)

  -- the value at the end: of all cells
  pub record Finish (before : Store) (store : Store) (v : ℕ) : Type 0 where
    pub holds : Held
    pub value : Value
    pub is : v ≡ word holds
    pub made : Holds cs store [] (kind_owned final) holds value All
    pub size : length store ≡ length before
    pub outside : (c : ℕ) → (Has c All → ⊥) → Same before store c

  abbrev pub Kept : Store → Store → Step → Type 0
  Kept before store (M.next st) = Whole before st
  Kept before store (finished v) = Finish before store v
  Kept before store (stuck a p) = Unit {0}

  module _ (fine : Accepted file budget) (once : Once All) (before : Store) where
    -- a node that leaves the cells and the frames below
    same_cells : {t t' : Term} {hs hs' : List Held} {store : Store} {under : List Frame} (w : Whole before (state store t hs under)) {slots' : Slots} {env' : List Value} {A : List ℕ}
        → Ready file budget t' w.result slots' hs' env' store w.own A → Whole before (state store t' hs' under)
    same_cells w {slots'} {env'} {A} r =
        record {
          result = w.result;
          slots = slots';
          env = env';
          own = w.own;
          lents = A;
          ready = r;
          below = w.below;
          size = w.size;
          outside = w.outside;
        }

    -- GV
    give_back : {store : Store} {h : Held} {v : Value} (sort : Sort) (under : List Frame) {P : List ℕ} → length store ≡ length before
        → ((c : ℕ) → (Has c All → ⊥) → Same before store c) → Holds cs store [] (kind_owned sort) h v P → Below store sort under P
        → Kept before store (elim under as (λ _. Step) [ [] ↦ finished (word h) | f ∷ rest ↦ M.next (state store f.todo (f.slots ++ (h ∷ [])) rest) ])
    give_back {h} {v} sort [] z o g bottom = record { holds = h; value = v; is = refl; made = g; size = z; outside = o }
    give_back {store} {h} {v} sort (f ∷ rest) z o g (frame {result} {slots} {env} {A} {Q} e q m sp a b) =
        record {
          result = result;
          slots = bind slots (kind_owned sort ∷ []);
          env = env ++ (v ∷ []);
          own = Q;
          lents = A;
          ready = resumed file budget sort store store e q (below_once once b) a sp m refl (λ c n i l. refl) g;
          below = b;
          size = z;
          outside = o;
        }

    pub keep : (t : Term) (hs : List Held) (store : Store) (under : List Frame) → Whole before (state store t hs under) → Kept before store (step file (state store t hs under))
    unfolding step
    keep (NU p n t) hs store under w = same_cells w (nu_ready file budget w.ready)
    keep (AT p c t) hs store under w = same_cells w (at_ready file budget w.ready)
    keep (AR p o x y t) hs store under w = go (arithmetic o (word (held hs x)) (word (held hs y)))
      where
        go : (m : Option ℕ) → Kept before store (elim m as (λ _. Step) [ none ↦ stuck 34 p | some n ↦ M.next (state store t (hs ++ (Held.number n ∷ [])) under) ])
        go none = tt
        go (some n) = same_cells w ((ar_ready file budget w.ready).2 n)
    keep (IF p s t u) hs store under w = go (word (held hs s))
      where
        r : Ready file budget t w.result w.slots hs w.env store w.own w.lents × Ready file budget u w.result w.slots hs w.env store w.own w.lents
        r = let x = if_ready file budget w.ready in (x.1, x.2)

        go : (n : ℕ) → Kept before store (elim n as (λ _. Step) [ zero ↦ M.next (state store u hs under) | suc _ ↦ M.next (state store t hs under) ])
        go zero = same_cells w r.1
        go (suc n) = same_cells w r.0
    keep (GV p s) hs store under w = give_back w.result under w.size w.outside (give file budget w.result w.ready) w.below
    keep (TL p f ss) hs store under w = same_cells w (tl_ready file budget fine p f ss w.ready).ready
    keep (MK p c k ss t) hs store under w =
        let m = mk_ready file budget fine p c k ss t w.ready in
        record {
          result = w.result;
          slots = m.after;
          env = _;
          own = w.own;
          lents = w.lents;
          ready = m.ready;
          below = below_keep store (made_store file budget c k ss hs store) m.size once m.outside w.below;
          size = m.size ∙ w.size;
          outside = λ x n i l. m.outside x (λ h. n (below_part w.below h)) i l ∙ w.outside x n i l;
        }
    keep (CL p f ss t) hs store under w = go (ltb (length under) 31)
      where
        called : State
        called = state store (body_of file f) (argued (function_of file f).parameters hs ss) (record { todo = t; slots = without (function_of file f).parameters hs ss } ∷ under)

        waits : Whole before called
        waits =
            let x = cl_ready file budget p f ss t w.ready in
            let h = x.handed in
            record {
              result = (function_of file f).result;
              slots = _;
              env = _;
              own = h.part;
              lents = w.lents ++ h.rest;
              ready = called_ready file budget fine f w.ready.once w.ready.apart h;
              below = frame x.checked w.ready.formed.1 h.caller h.split w.ready.apart w.below;
              size = w.size;
              outside = w.outside;
            }

        go : (b : Bool) → Kept before store (elim b as (λ _. Step) [ false ↦ stuck 33 p | true ↦ M.next called ])
        go true = waits
        go false = tt
    keep (OP p s bs) hs store under w = go (branch bs c) refl
      where
        c : ℕ
        c = constructor_of store (word (held hs s))

        go : (o : Option Term) → branch bs c ≡ o
            → Kept before store (elim o as (λ _. Step) [ none ↦ stuck 31 p | some t ↦ M.next (state store t (opened_slots file budget store hs s c) under) ])
        go none e = tt
        go (some u) e = same_cells w ((op_ready file budget w.ready).opens u e)
    keep (LK p s bs) hs store under w = go (branch bs c) refl
      where
        c : ℕ
        c = constructor_of store (word (held hs s))

        go : (o : Option Term) → branch bs c ≡ o
            → Kept before store (elim o as (λ _. Step) [ none ↦ stuck 31 p | some t ↦ M.next (state store t (looked_slots file budget store hs s c) under) ])
        go none e = tt
        go (some u) e = same_cells w ((lk_ready file budget w.ready).looks u e)

    -- after every step
    pub keeps_after : (n : ℕ) (st : State) → Whole before st → Whole before (after file n st)
    unfolding after
    keeps_after zero st w = w
    keeps_after (suc n) st w = go (step file st) (λ st' x. keeps_after n st' x) (keep st.top.todo st.top.slots st.store st.under w)
      where
        go : (r : Step) → ((st' : State) → Whole before st' → Whole before (after file n st')) → Kept before st.store r
            → Whole before (elim r as (λ _. State) [ M.next st' ↦ after file n st' | finished v ↦ st | stuck a p ↦ st ])
        go (M.next st') ih k = ih st' k
        go (finished v) ih k = w
        go (stuck a p) ih k = w

    -- at the end
    pub keeps_value : (st : State) (v : ℕ) → Whole before st → step file st ≡ finished v → Finish before st.store v
    keeps_value st v w e = subst (λ r. Kept before st.store r) e (keep st.top.todo st.top.slots st.store st.under w)
