-- An accepted file runs in place, from arguments that are ready. Assumes nothing.
use Prim.Native.Nat.{ℕ, ◌+◌}
use mathlib.Core.List.{List, [], ◌∷◌, map, append-nil}
use mathlib.Core.Path.{◌≡◌, refl, sym, ap, ◌∙◌, subst}
use native.Mathlib.Omega.{arith}
use Rattle.meaning.specs.Syntax.{Sort, Mode, Constructor, File}
use Rattle.meaning.specs.Outcome.{ok}
use Rattle.meaning.specs.Ownership.{Slots, bind, kind_of}
use Rattle.meaning.specs.Derivation.{Has}
use Rattle.meaning.specs.Plain.{Value}
use Rattle.meaning.specs.Machine.{Store, Frame, State, body_of, function_of}
use Rattle.meaning.specs.Start.{chosen, is_owned, begin}
use Rattle.meaning.specs.Walk.{count}
use Rattle.meaning.specs.Verdict.{accepted}
use Rattle.meaning.specs.InPlace.{after, owned_word, credited, of_slots, of_frames, owned_words, credits, Reaches, InPlace, value_word, begins, RunsInPlace}
use Rattle.theory.proofs.Rep.{Match}
use Rattle.theory.proofs.Sim.{Once, Ready, Accepted}
use Rattle.theory.proofs.Wellread.{accepted_well}
use Rattle.theory.proofs.Reached.{count_append, count_split, has_count, once_count, SlotsBefore, slots_reached, value_reached}
use Rattle.theory.proofs.Stack.{Below, bottom, frame, Whole, Finish, keeps_after, keeps_value}

-- the arguments: no credit, and the owned ones
begin_owned : (ms : List Mode) (ws : List ℕ) → of_slots owned_word (begin ms ws) ≡ chosen is_owned ms ws
begin_owned [] ws = refl
begin_owned (m ∷ ms) [] = refl
begin_owned (Mode.number ∷ ms) (w ∷ ws) = begin_owned ms ws
begin_owned (Mode.lent ∷ ms) (w ∷ ws) = begin_owned ms ws
begin_owned (Mode.owned ∷ ms) (w ∷ ws) = ap (λ l. w ∷ l) (begin_owned ms ws)

begin_credits : (ms : List Mode) (ws : List ℕ) → of_slots credited (begin ms ws) ≡ []
begin_credits [] ws = refl
begin_credits (m ∷ ms) [] = refl
begin_credits (Mode.number ∷ ms) (w ∷ ws) = begin_credits ms ws
begin_credits (Mode.lent ∷ ms) (w ∷ ws) = begin_credits ms ws
begin_credits (Mode.owned ∷ ms) (w ∷ ws) = begin_credits ms ws

module _ (file : File) (budget : ℕ) where
  abbrev cs : List Constructor
  cs = file.constructors

  -- the cells of the frames below, with those above
  pub record UnderReached (store : Store) (under : List Frame) (All P : List ℕ) : Type 0 where
    pub cells : List ℕ
    pub reaches : Reaches cs store (of_frames owned_word under) cells
    pub counts : (c : ℕ) → count c cells + count c (of_frames credited under) + count c P ≡ count c All

  below_reached : {final : Sort} {All : List ℕ} {store : Store} {sort : Sort} {P : List ℕ} {under : List Frame} → Below file budget final All store sort under P → UnderReached store under All P
  below_reached bottom = record { cells = []; reaches = Reaches.nothing; counts = λ c. omega arith }
  below_reached {store} (frame {f} {rest} {A} e q m sp a b) =
      let x = below_reached b in
      let y = slots_reached cs store A m (of_frames owned_word rest) x.cells x.reaches in
      record {
        cells = y.cells;
        reaches = y.reaches;
        counts = λ c. omega (arith, x.counts c, y.counts c, count_split c sp, count_append c (of_slots credited f.slots) (of_frames credited rest));
      }

  -- the demand at a state, and at the end; `start` is all cells in another order
  module _ (final : Sort) (All start : List ℕ) (before : Store) (order : (c : ℕ) → count c start ≡ count c All) where
    not_owned : (c : ℕ) → count c start ≡ 0 → Has c All → ⊥
    not_owned c e h = omega (arith, order c, has_count h)

    at_state : (st : State) → Whole file budget final All before st → InPlace cs start before st.store (owned_words st) (credits st)
    at_state st w =
        let x = below_reached w.below in
        let y = slots_reached cs st.store w.lents w.ready.match (of_frames owned_word st.under) x.cells x.reaches in
        record {
          cells = y.cells;
          reached = y.reaches;
          exactly = λ c. omega (arith, order c, x.counts c, y.counts c, count_append c y.cells (credits st), count_append c (of_slots credited st.top.slots) (of_frames credited st.under));
          size = w.size;
          others = λ c e i l. w.outside c (not_owned c e) i l;
        }

    at_end : (store : Store) (v : ℕ) → Finish file budget final All before store v → InPlace cs start before store (value_word final v) []
    at_end store v f =
        let x = value_reached cs store final f.made in
        record {
          cells = x.cells;
          reached = subst (λ n. Reaches cs store (value_word final n) x.cells) (sym f.is) x.reaches;
          exactly = λ c. omega (arith, order c, x.counts c, count_append c x.cells []);
          size = f.size;
          others = λ c e i l. f.outside c (not_owned c e) i l;
        }

  pub in_place : (fine : Accepted file budget) (args : List ℕ) (store : Store) {slots : Slots} {env : List Value} {F A : List ℕ}
      → Ready file budget (body_of file 0) (function_of file 0).result slots (begin (function_of file 0).parameters args) env store F A
      → RunsInPlace file args store
  in_place fine args store {slots} {env} {F} {A} r =
      record {
        start = x.cells;
        reached = subst (λ ws. Reaches cs store ws x.cells) (append-nil (of_slots owned_word (begin ms args)) ∙ begin_owned ms args) x.reaches;
        once = λ c. omega (arith, order c, once_count F r.once c);
        each = λ n. at_state final F x.cells store order (after file n (begins file args store)) (whole n);
        value = λ n v e. at_end final F x.cells store order (after file n (begins file args store)).store v
            (keeps_value file budget final F fine r.once store (after file n (begins file args store)) v (whole n) e);
      }
    where
      ms : List Mode
      ms = (function_of file 0).parameters

      final : Sort
      final = (function_of file 0).result

      x : SlotsBefore cs store (begin ms args) [] F []
      x = slots_reached cs store A r.match [] [] Reaches.nothing

      order : (c : ℕ) → count c x.cells ≡ count c F
      order c = omega (arith, x.counts c, ap (λ l. count c l) (begin_credits ms args))

      first : Whole file budget final F store (begins file args store)
      first =
          record {
            result = final;
            slots = slots;
            env = env;
            own = F;
            lents = A;
            ready = r;
            below = bottom;
            size = refl;
            outside = λ c n i l. refl;
          }

      whole : (n : ℕ) → Whole file budget final F store (after file n (begins file args store))
      whole n = keeps_after file budget final F fine r.once store n (begins file args store) first

-- for an accepted file: what is left to show of a start that is not refused is that the arguments match, each owned cell once, lent cells apart
pub accepted_in_place : (bytes : List ℕ) (file : File) → accepted bytes ≡ ok file → (args : List ℕ) (store : Store) {env : List Value} {F A : List ℕ}
    → Match file.constructors store A (bind [] (map kind_of (function_of file 0).parameters)) (begin (function_of file 0).parameters args) env F
    → Once F → ((c : ℕ) → Has c A → Has c F → ⊥) → RunsInPlace file args store
accepted_in_place bytes file e args store m o a =
    let fine = accepted_well 0 bytes file e in
    in_place file 0 fine args store (record { checked = fine.bodies_checked 0; formed = fine.bodies_formed 0; match = m; once = o; apart = a })
