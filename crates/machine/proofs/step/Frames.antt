-- TL, CL, MK, OP and LK: their words stand for the defined step. Assumes nothing.
use Rattle.std.proofs.Common.{◌≡◌, ℕ, suc, ◌+◌, ◌-◌, ◌*◌, ◌<◌, ◌≤◌, max, Bool, true, false, ltb, ◌⊎◌, List, [], ◌∷◌, ◌++◌, map, length, get_or, set, sym, refl, ap, ◌∙◌, subst, inl, inr, arith, length-set, get_or-set_other, get_or-set_same, ltb-false, ltb-true, ne_eqb, le-leb}
use mathlib.Core.Option.{Option, none, some}
use borrow.Author.Tests.{lt-leb}
use Rattle.machine.specs.Layout.{Top, top, laid, gathered, words, slot_in, tl_of, cl_of, mk_of, mk_store, con_of, op_of, opened_of}
use Rattle.machine.specs.Represents.{Agrees, Waits, Saved, Represents, After}
use Rattle.machine.specs.Steps.{StepsAt, named}
use Rattle.machine.proofs.frame.Laid.{words_length, laid_length, laid_before, laid_after, laid_at}
use Rattle.machine.proofs.step.Words.{words_make, words_keep, words_give_up, words_without, without_length, laid_write, gathered_map, saved_keep, bound_represents, keeps_represents}
use Rattle.machine.proofs.step.Laying.{Pairs, both, pairs_length, pairs_at, pairs_append, opened_pairs, looked_pairs, laid_snoc, held_owned, held_lent, argued_pairs, lays}
use Rattle.machine.proofs.step.Skipping.{Taken, found_branch}
use Rattle.machine.proofs.step.Nodes.{Rep, Goal}
use Rattle.meaning.specs.Syntax.{Sort, Mode, Signature, Term, Branches, Constructor, File}
use Rattle.meaning.specs.Syntax as S
use Rattle.meaning.specs.Ownership.{Kind, Slots, Want, take, check, pass, done, same_sort, mode_owned}
use Rattle.meaning.specs.Plain.{Value, place_of, branch}
use Rattle.meaning.specs.Machine.{Held, Frame, Store, Step, held, word, taken, give_up, argued, without, state, write, step, cell, function_of, body_of, fields_of, credit_cell, constructor_of, fields, opened, looked, credit_for}
use Rattle.meaning.specs.Machine as M
use Rattle.meaning.specs.Reading.{credits}
use Rattle.theory.proofs.Gather.{used_up}
use Rattle.theory.proofs.Rep.{Tree, Holds}
use Rattle.theory.proofs.Handing.{at_kind, credit_taken}
use Rattle.theory.proofs.Taking.{take_inv, steps_ok, require_then}
use Rattle.theory.proofs.Wants.{took_credit, took_owned, took_looked}
use Rattle.theory.proofs.Sim.{Ready}
use Rattle.standing.specs.Bytes.{byte_at, params_in, arity_in, body_in}
use Rattle.meaning.specs.Choice.{pick}
use Rattle.meaning.specs.declared.Mark.{Mark}
use Rattle.standing.specs.Stands.{Listed, Stands, Each, count}
use Rattle.standing.specs.Table.{Declared}

module _ (file : File) (budget : ℕ) (bytes decl : List ℕ) (d : Declared file bytes decl) where
  -- a called function's frame, at its place in a work area
  called : (f : ℕ) (hs : List Held) (ss : List ℕ) {store : Store} {under : List Frame} {c : Top} {ws : List ℕ} → f < length file.functions
      → length ss ≡ length (function_of file f).parameters → Pairs (argued (function_of file f).parameters hs ss) ws → length ws ≡ length ss
      → c.state.frame.at ≡ body_in decl f → c.state.frame.depth ≡ length under → length under ≤ 31 → c.state.frame.bound ≡ params_in decl f
      → ((j : ℕ) → j < length ws → get_or c.work (length under * 32 + j) 0 ≡ get_or ws j 0) → Saved file bytes c.work under → 4096 ≤ length c.work
      → Represents file bytes store c (state store (body_of file f) (argued (function_of file f).parameters hs ss) under)
  called f hs ss {under = under} {c} {ws} h i p n a e b m w s r =
      let z : length (argued (function_of file f).parameters hs ss) ≡ length (function_of file f).parameters = pairs_length p ∙ n ∙ i in
      let few = d.few f in
      record {
        same = refl;
        here = a ∙ d.bodies f h;
        next = d.ends f;
        stands = subst (λ k. Stands file bytes k (body_of file f) (d.ends f)) (sym z) (d.stands f h);
        depth = e;
        deep = b;
        bound = m ∙ d.parameters f h ∙ sym z;
        few = omega (arith, z);
        words = words_make c.work (length under * 32) (argued (function_of file f).parameters hs ss)
            (λ j l. subst (λ x. Agrees (held (argued (function_of file f).parameters hs ss) j) x) (sym (w j (omega (arith, pairs_length p)))) (pairs_at p j l));
        saved = s;
        room = r;
      }

  map_count : (f : ℕ → ℕ) (ss : List ℕ) → length (map f ss) ≡ length ss
  map_count f [] = refl
  map_count f (s ∷ ss) = ap suc (map_count f ss)

  -- the words that an argument list hands over
  abbrev handed : List ℕ → ℕ → List ℕ → List ℕ
  handed work base ss = map (λ s. get_or work (base + s) 0) ss

  gathers : (f : ℕ) (work : List ℕ) (base p : ℕ) (ss : List ℕ) → Listed bytes p ss → f < length file.functions → length ss ≡ length (function_of file f).parameters
      → gathered bytes work base p (params_in decl f) ≡ handed work base ss
  gathers f work base p ss g h i = ap (λ n. gathered bytes work base p n) (d.parameters f h ∙ sym i) ∙ gathered_map bytes work base p ss g

  pub tl_sim : {p f : ℕ} {ss : List ℕ} {hs : List Held} {store : Store} {under : List Frame} {c : Top} (r : Rep file budget bytes decl store c (S.TL p f ss) hs under)
      → suc (length under) ≤ c.state.most → {result : Sort} {slots : Slots} {env : List Value} {F A : List ℕ} → Ready file budget (S.TL p f ss) result slots hs env store F A
      → byte_at bytes (p + 2) ≡ f → Listed bytes (p + 3) ss → f < length file.functions → length ss ≡ length (function_of file f).parameters
      → Goal file budget bytes decl (S.TL p f ss) hs store under c store (tl_of bytes decl c)
  unfolding step tl_of check
  tl_sim {p} {f} {ss} {hs} {store} {under} {c} r m {result} {slots} {env} {F} {A} ready e g h i =
      let sig : Signature = function_of file f in
      let a = require_then 8 (p + 2) (same_sort sig.result result) _ ready.checked in
      let b = steps_ok (pass [] sig.parameters ss (p + 3) slots) (λ x. done p x) a.1 in
      let base : ℕ = length under * 32 in
      let ws : List ℕ = handed c.work base ss in
      let q = argued_pairs file.constructors store A env c.work base sig.parameters ss [] (p + 3) slots b.0 hs F b.1 ready.match r.words in
      let n : length ws ≡ length ss = map_count (λ s. get_or c.work (base + s) 0) ss in
      let few = d.few f in
      let deep = r.deep in
      let room = r.room in
      rw (r.here, r.depth, e, gathers f c.work base (p + 3) ss g h i) (
        called f hs ss h i q.0 n refl refl r.deep refl (λ j l. laid_at c.work base ws j l (omega (arith, n)))
            (saved_keep file bytes c.work (laid c.work base ws) under r.deep (λ x y. laid_before c.work base ws x y) (λ x y z. laid_after c.work base ws x (omega (arith, n)))
            r.saved)
            (rw (laid_length c.work base ws) r.room),
        refl,
        let z : c.state.most ≡ max c.state.most (suc (length under)) = omega arith in z,
      )

  pub cl_sim : {p f nx : ℕ} {ss : List ℕ} {t : Term} {hs : List Held} {store : Store} {under : List Frame} {c : Top} (r : Rep file budget bytes decl store c (S.CL p f ss t) hs under)
      → suc (length under) ≤ c.state.most → {result : Sort} {slots : Slots} {env : List Value} {F A : List ℕ} → Ready file budget (S.CL p f ss t) result slots hs env store F A
      → byte_at bytes (p + 2) ≡ f → Listed bytes (p + 3) ss → f < length file.functions → length ss ≡ length (function_of file f).parameters
      → length hs < 32 → place_of t ≡ p + 3 + length ss → Stands file bytes (suc (length hs)) t nx
      → Goal file budget bytes decl (S.CL p f ss t) hs store under c store (cl_of bytes decl c)
  unfolding step cl_of check pick
  cl_sim {p} {f} {nx} {ss} {t} {hs} {store} {under} {c} r m {result} {slots} {env} {F} {A} ready e g h i l q x = go (ltb (length under) 31) refl
    where
      sig : Signature
      sig = function_of file f

      base : ℕ
      base = length under * 32

      ws : List ℕ
      ws = handed c.work base ss

      n : length ws ≡ length ss
      n = map_count (λ s. get_or c.work (base + s) 0) ss

      pairs : Pairs (argued sig.parameters hs ss) ws
      pairs =
          let b = steps_ok (pass [] sig.parameters ss (p + 3) slots) _ ready.checked in
          (argued_pairs file.constructors store A env c.work base sig.parameters ss [] (p + 3) slots b.0 hs F b.1 ready.match r.words).0

      at : ℕ
      at = 1024 + length under * 2

      w₁ : List ℕ
      w₁ = set c.work at (p + 3 + params_in decl f)

      w₂ : List ℕ
      w₂ = set w₁ (at + 1) c.state.frame.bound

      w₃ : List ℕ
      w₃ = laid w₂ (base + 32) ws

      size : length w₂ ≡ length c.work
      size = length-set w₁ (at + 1) c.state.frame.bound ∙ length-set c.work at (p + 3 + params_in decl f)

      wrote : (k : ℕ) → k < base + 32 → (k ≡ at → ⊥) → (k ≡ at + 1 → ⊥) → get_or w₃ k 0 ≡ get_or c.work k 0
      wrote k a b z =
          laid_before w₂ (base + 32) ws k a ∙ get_or-set_other w₁ (at + 1) k c.state.frame.bound 0 z ∙ get_or-set_other c.work at k (p + 3 + params_in decl f) 0 b

      high : length under < 31 → (k : ℕ) → 1024 ≤ k → get_or w₃ k 0 ≡ get_or w₂ k 0
      high y k z = let few = d.few f in laid_after w₂ (base + 32) ws k (omega (arith, n))

      rest : length under < 31 → (k : ℕ) → 1024 ≤ k → k < at → get_or w₃ k 0 ≡ get_or c.work k 0
      rest y k z b = high y k z ∙ get_or-set_other w₁ (at + 1) k c.state.frame.bound 0 (λ v. omega arith) ∙ get_or-set_other c.work at k (p + 3 + params_in decl f) 0 (λ v. omega arith)

      after : List Held
      after = without sig.parameters hs ss

      long : length after ≡ length hs
      long = without_length sig.parameters hs ss

      waits : length under < 31 → Waits file bytes w₃ (length under) (record { todo = t; slots = after })
      waits y =
          let room = r.room in
          record {
            here = high y at (omega arith) ∙ get_or-set_other w₁ (at + 1) at c.state.frame.bound 0 (λ v. omega arith)
                ∙ get_or-set_same c.work at (p + 3 + params_in decl f) 0 (omega arith) ∙ ap (λ k. p + 3 + k) (d.parameters f h ∙ sym i) ∙ sym q;
            many = high y (at + 1) (omega arith) ∙ get_or-set_same w₁ (at + 1) c.state.frame.bound 0 (omega (arith, length-set c.work at (p + 3 + params_in decl f))) ∙ r.bound ∙ sym long;
            few = omega (arith, long);
            next = nx;
            stands = subst (λ k. Stands file bytes (suc k) t nx) (sym long) x;
            words = words_keep c.work w₃ base after (words_without c.work base sig.parameters hs ss r.words)
                (λ j v. wrote (base + j) (omega (arith, long)) (λ z. omega (arith, long)) (λ z. omega (arith, long)));
          }

      go : (b : Bool) → ltb (length under) 31 ≡ b
          → After file bytes c.state.most store store (cl_of bytes decl c)
          (elim b as (λ _. Step) [
            | false ↦ M.stuck 33 p
            | true ↦ M.next (state store (body_of file f) (argued sig.parameters hs ss) (record { todo = t; slots = after } ∷ under))
          ])
      go false y =
          let z : 31 ≤ length under = ltb-false (length under) 31 y in
          rw (r.depth, le-leb 31 (length under) z) (refl, refl, refl, r.here, refl)
      go true y =
          let z : length under < 31 = ltb-true (length under) 31 y in
          let few = d.few f in
          let room = r.room in
          rw (r.depth, lt-leb 31 (length under) z, r.here, e, gathers f c.work base (p + 3) ss g h i) (
            called f hs ss h i pairs n refl (let v : length under + 1 ≡ suc (length under) = omega arith in v) z refl
                (λ j v. let k : base + 32 + j ≡ suc (length under) * 32 + j = omega arith in rw (← k) (laid_at w₂ (base + 32) ws j v (omega (arith, n, size))))
                (waits z, saved_keep file bytes c.work w₃ under r.deep (λ k v. wrote k (omega arith) (λ u. omega arith) (λ u. omega arith)) (λ k u v. rest z k u v) r.saved)
                (omega (arith, laid_length w₂ (base + 32) ws, size)),
            refl,
            let v : max c.state.most (length under + 2) ≡ max c.state.most (suc (suc (length under))) = omega arith in v,
          )

  pub credit_word : {store : Store} {A F : List ℕ} {m : ℕ} {h : Held} {v : Value} {w : ℕ} → Holds file.constructors store A (Kind.credit m) h v F → Agrees h w → w ≡ 65536 + credit_cell h
  credit_word (Holds.credit b) a = a

  pub mk_sim : {p k x nx : ℕ} {ss : List ℕ} {t : Term} {hs : List Held} {store : Store} {under : List Frame} {c : Top} (r : Rep file budget bytes decl store c (S.MK p k x ss t) hs under)
      → suc (length under) ≤ c.state.most → {result : Sort} {slots : Slots} {env : List Value} {F A : List ℕ} → Ready file budget (S.MK p k x ss t) result slots hs env store F A
      → byte_at bytes (p + 2) ≡ k → byte_at bytes (p + 3) ≡ x → Listed bytes (p + 4) ss → k < length file.constructors → length ss ≡ length (fields_of file k)
      → length hs < 32 → place_of t ≡ p + 4 + length ss → Stands file bytes (suc (length hs)) t nx
      → Goal file budget bytes decl (S.MK p k x ss t) hs store under c (mk_store bytes decl store c) (mk_of bytes decl c)
  unfolding step mk_of mk_store check
  mk_sim {p} {k} {x} {nx} {ss} {t} {hs} {store} {under} {c} r m {result} {slots} {env} {F} {A} ready e e' g h i l q z =
      rw (r.here, r.depth, e, e', w, ar, gathered_map bytes c.work base (p + 4) ss g, ← pairs.1, place, behind, laid_write (set store (5 * cl + 0) k) cl 1 (map word given)) (
        rw r.depth at (bound_represents file bytes c left under (write (set store (5 * cl + 0) k) cl 1 (map word given)) t (Held.owned (65536 + cl)) (65536 + cl) (p + 4 + length ss) nx r.depth r.deep (r.bound ∙ sym long) (omega (arith, long))
            (words_without c.work base modes slots₁ ss (words_give_up c.work base hs x r.words)) r.saved r.room refl (sym q)
            (subst (λ n. Stands file bytes (suc n) t nx) (sym long) z)),
        refl,
        let v : c.state.most ≡ max c.state.most (suc (length under)) = omega arith in v,
      )
    where
      base : ℕ
      base = length under * 32

      cl : ℕ
      cl = credit_cell (held hs x)

      modes : List Mode
      modes = map mode_owned (fields_of file k)

      slots₁ : List Held
      slots₁ = give_up hs x

      given : List Held
      given = argued modes slots₁ ss

      left : List Held
      left = without modes slots₁ ss

      long : length left ≡ length hs
      long = without_length modes slots₁ ss ∙ length-set hs x (taken (held hs x))

      w : get_or c.work (base + x) 0 ≡ 65536 + cl
      w =
          let a = steps_ok (take false (Want.credit (length (fields_of file k))) x (p + 3) slots) _ ready.checked in
          let u = took_credit (take_inv false (Want.credit (length (fields_of file k))) x (p + 3) slots a.0 a.1) in
          credit_word (at_kind file.constructors store u.0 ready.match).holds (r.words x)

      pairs : Pairs given (handed c.work base ss) × (map word given ≡ handed c.work base ss)
      pairs =
          let a = steps_ok (take false (Want.credit (length (fields_of file k))) x (p + 3) slots) _ ready.checked in
          let u = took_credit (take_inv false (Want.credit (length (fields_of file k))) x (p + 3) slots a.0 a.1) in
          let o = at_kind file.constructors store u.0 ready.match in
          let b = steps_ok (pass [] modes ss (p + 4) a.0) _ a.2 in
          argued_pairs file.constructors store A env c.work base modes ss [] (p + 4) (set slots x (used_up u.0.slot)) b.0 slots₁ o.rest (rw u.1 b.1)
          (o.others (taken (held hs x)) (credit_taken file.constructors store o.holds)) (words_give_up c.work base hs x r.words)

      ar : arity_in decl k ≡ length ss
      ar = d.arities k h ∙ sym i

      place : (65536 + cl - 65536) * 5 ≡ 5 * cl + 0
      place = omega arith

      behind : 5 * cl + 0 + 1 ≡ 5 * cl + 1
      behind = omega arith

  -- the constructor of a word, and of the tree that it is
  pub con_same : (store : Store) (w : ℕ) → con_of store w ≡ constructor_of store w
  unfolding con_of pick
  con_same store w = go (ltb w 65536)
    where
      go : (b : Bool) → ◌≡◌ {A = ℕ} (pick b w (get_or store ((w - 65536) * 5) 0)) (elim b as (λ _. ℕ) [ true ↦ w | false ↦ get_or store (5 * (w - 65536) + 0) 0 ])
      go true = refl
      go false = let e : (w - 65536) * 5 ≡ 5 * (w - 65536) + 0 = omega arith in ap (λ q. get_or store q 0) e

  -- a tree is an atom, or a cell with fields
  pub data Shape (store : Store) (w : ℕ) : Type 0 where
    atom : ltb w 65536 ≡ true → fields_of file (constructor_of store w) ≡ [] → Shape store w
    cell_of : {s : Sort} {ss : Constructor} → ltb w 65536 ≡ false → fields_of file (constructor_of store w) ≡ s ∷ ss → 5 * cell w + 5 ≤ length store → Shape store w

  tree_shape : {store : Store} {w : ℕ} {v : Value} {F : List ℕ} → Tree file.constructors store w v F → Shape store w
  tree_shape (Tree.leaf l e) = atom l (rw (l, constructor_of) e)
  tree_shape (Tree.fork {s = s} {ss = ss} l q e b r sp f) = cell_of {s = s} {ss = ss} l (rw (l, constructor_of, q) e) r

  pub owned_shape : {store : Store} {A F : List ℕ} {h : Held} {v : Value} → Holds file.constructors store A Kind.owned h v F → Shape store (word h)
  owned_shape (Holds.owned t) = tree_shape t

  pub lent_shape : {store : Store} {A F : List ℕ} {h : Held} {v : Value} → Holds file.constructors store A Kind.lent h v F → Shape store (word h)
  lent_shape (Holds.lent t i) = tree_shape t

  pub op_sim : {p s nx : ℕ} {bs : Branches} {hs : List Held} {store : Store} {under : List Frame} {c : Top} (r : Rep file budget bytes decl store c (S.OP p s bs) hs under)
      → suc (length under) ≤ c.state.most → {result : Sort} {slots : Slots} {env : List Value} {F A : List ℕ} → Ready file budget (S.OP p s bs) result slots hs env store F A
      → byte_at bytes (p + 2) ≡ s → byte_at bytes (p + 3) ≡ count bs → Each file bytes (length hs) credits (p + 4) bs nx
      → {store' : Store} {c' : Top} → StepsAt Mark.OP bytes decl store c store' c' → Goal file budget bytes decl (S.OP p s bs) hs store under c store' c'
  unfolding step check op_of opened_of pick laid
  op_sim {p} {s} {nx} {bs} {hs} {store} {under} {c} r m {slots = slots} {A = A} ready e e' x {store'} {c'} k = rw (k.0, k.1.is) (go (branch bs con) refl)
    where
      w : ℕ
      w = word (held hs s)

      con : ℕ
      con = constructor_of store w

      b : ℕ
      b = k.1.at

      c₂ : Top
      c₂ = top c.state k.1.work

      r₂ : Rep file budget bytes decl store c₂ (S.OP p s bs) hs under
      r₂ = keeps_represents file bytes r k.1.keeps.long k.1.keeps.low

      slot_word : (get_or c.work (length under * 32 + s) 0 ≡ w) × Shape store w
      slot_word =
          let a = steps_ok (take false Want.owned s (p + 2) slots) _ ready.checked in
          let t = took_owned (take_inv false Want.owned s (p + 2) slots a.0 a.1) in
          let o = at_kind file.constructors store t.0 ready.match in
          (held_owned o.holds (r.words s), owned_shape o.holds)

      same : slot_in bytes c.work (c.state.frame.depth * 32) (c.state.frame.at + 2) ≡ w
      same = rw (r.here, r.depth, e) slot_word.0

      found : ((branch bs con ≡ none) × (b ≡ 0)) ⊎ Taken file bytes decl d (length hs) credits bs con b
      found = found_branch file bytes decl d x refl (rw (same, con_same store w, r.here, e') at k.1.found)

      hs' : List Held
      hs' = give_up hs s

      long : length hs' ≡ length hs
      long = length-set hs s (taken (held hs s))

      gs : List Held
      gs = fields opened store (cell w) 1 (fields_of file con) ++ credit_for (fields_of file con) (cell w)

      most : max c.state.most (suc (length under)) ≡ c.state.most
      most = omega arith

      snoc : (l : List ℕ) → length (l ++ (w ∷ [])) ≡ length l + 1
      snoc [] = refl
      snoc (y ∷ l) = let v : suc (length l + 1) ≡ suc (length l) + 1 = omega arith in ap suc (snoc l) ∙ v

      opens : (u : Taken file bytes decl d (length hs) credits bs con b) → Shape store w
          → After file bytes c.state.most store store (op_of decl store c₂ (named bytes c) b 1) (M.next (state store u.term (hs' ++ gs) under))
      opens u (atom l y) =
          let st : Stands file bytes (length hs + (length (fields_of file con) + credits (fields_of file con))) u.term u.next = u.stands in
          let fit = u.fits in
          let past = u.past in
          rw (same, con_same store w, ne_eqb b 0 (λ v. omega arith), l, y) (
            lays file bytes c₂ hs' [] [] under store u.term b c.state.frame.bound u.next r.depth r.deep (r.bound ∙ sym long) (let few = r.few in omega (arith, long))
                (words_give_up k.1.work (length under * 32) hs s r₂.words) r₂.saved r₂.room Pairs.none u.here (omega (arith, long, r.bound))
                (subst (λ n. Stands file bytes n u.term u.next) (let v : length hs + 0 ≡ length hs' + 0 = omega (arith, long) in v) (rw y at st)),
            refl,
            sym most,
          )
      opens u (cell_of {s = f} {ss = fs} l y _) =
          let st : Stands file bytes (length hs + (length (fields_of file con) + credits (fields_of file con))) u.term u.next = u.stands in
          let fit : length hs + (length (fields_of file con) + credits (fields_of file con)) ≤ 32 = u.fits in
          let fit' = rw y at fit in
          let past = u.past in
          let ar : arity_in decl con ≡ suc (length fs) = d.arities con u.known ∙ ap (λ l. length l) y in
          let ws : List ℕ = words store ((w - 65536) * 5 + 1) (suc (length fs)) in
          let n : length ws ≡ suc (length fs) = words_length store ((w - 65536) * 5 + 1) (suc (length fs)) in
          let big : 65536 ≤ w = ltb-false w 65536 l in
          let ps : Pairs (fields opened store (cell w) 1 (f ∷ fs) ++ (Held.credit (suc (length fs)) (cell w) ∷ [])) (ws ++ (w ∷ [])) =
          pairs_append (opened_pairs store (cell w) 1 ((w - 65536) * 5 + 1) (f ∷ fs) (omega arith)) (both (let v : w ≡ 65536 + (w - 65536) = omega arith in v) Pairs.none) in
          let z : length (ws ++ (w ∷ [])) ≡ suc (length fs) + 1 = snoc ws ∙ ap (λ k. k + 1) n in
          let zz = pairs_length ps in
          let to : ℕ = c.state.frame.depth * 32 + c.state.frame.bound in
          let put : set (laid k.1.work to ws) (to + suc (length fs)) w ≡ laid k.1.work to (ws ++ (w ∷ [])) = ap (λ i. set (laid k.1.work to ws) (to + i) w) (sym n) ∙ laid_snoc k.1.work to ws w in
          rw (same, con_same store w, ne_eqb b 0 (λ v. omega arith), l, y, ar, put) (
            lays file bytes c₂ hs' (fields opened store (cell w) 1 (f ∷ fs) ++ (Held.credit (suc (length fs)) (cell w) ∷ [])) (ws ++ (w ∷ [])) under store u.term b
                (c.state.frame.bound + suc (length fs) + 1) u.next r.depth r.deep (r.bound ∙ sym long) (omega (arith, long, z, zz))
                (words_give_up k.1.work (length under * 32) hs s r₂.words) r₂.saved r₂.room ps u.here (omega (arith, long, r.bound, n, z, zz))
                (subst (λ n. Stands file bytes n u.term u.next) (omega (arith, long, z, zz)) (rw y at st)),
            refl,
            sym most,
          )

      go : (o : Option Term) → branch bs con ≡ o
          → After file bytes c.state.most store store (op_of decl store c₂ (named bytes c) b 1) (elim o as (λ _. Step) [ none ↦ M.stuck 31 p | some t ↦ M.next (state store t (hs' ++ gs) under) ])
      go none y =
          elim found [
            | inl v ↦ rw v.1 (refl, refl, refl, r.here, refl)
            | inr v ↦ let t = v.is in let z : ◌≡◌ {A = ℕ} 0 1 = cc in absurd (omega arith)
          ]
      go (some t) y =
          elim found [
            | inl v ↦ let t = v.0 in let z : ◌≡◌ {A = ℕ} 0 1 = cc in absurd (omega arith)
            | inr v ↦ let i = v.is in let z : v.term ≡ t = cc in
                subst (λ t. After file bytes c.state.most store store (op_of decl store c₂ (named bytes c) b 1) (M.next (state store t (hs' ++ gs) under))) z (opens v slot_word.1)
          ]

  pub lk_sim : {p s nx : ℕ} {bs : Branches} {hs : List Held} {store : Store} {under : List Frame} {c : Top} (r : Rep file budget bytes decl store c (S.LK p s bs) hs under)
      → suc (length under) ≤ c.state.most → {result : Sort} {slots : Slots} {env : List Value} {F A : List ℕ} → Ready file budget (S.LK p s bs) result slots hs env store F A
      → byte_at bytes (p + 2) ≡ s → byte_at bytes (p + 3) ≡ count bs → Each file bytes (length hs) (λ c. 0) (p + 4) bs nx
      → {store' : Store} {c' : Top} → StepsAt Mark.LK bytes decl store c store' c' → Goal file budget bytes decl (S.LK p s bs) hs store under c store' c'
  unfolding step check op_of opened_of pick laid
  lk_sim {p} {s} {nx} {bs} {hs} {store} {under} {c} r m {slots = slots} {A = A} ready e e' x {store'} {c'} k = rw (k.0, k.1.is) (go (branch bs con) refl)
    where
      w : ℕ
      w = word (held hs s)

      con : ℕ
      con = constructor_of store w

      b : ℕ
      b = k.1.at

      c₂ : Top
      c₂ = top c.state k.1.work

      r₂ : Rep file budget bytes decl store c₂ (S.LK p s bs) hs under
      r₂ = keeps_represents file bytes r k.1.keeps.long k.1.keeps.low

      slot_word : (get_or c.work (length under * 32 + s) 0 ≡ w) × Shape store w
      slot_word =
          let a = steps_ok (take false Want.looked s (p + 2) slots) _ ready.checked in
          let t = took_looked (take_inv false Want.looked s (p + 2) slots a.0 a.1) in
          let o = at_kind file.constructors store t.0 ready.match in
          (held_lent o.holds (r.words s), lent_shape o.holds)

      same : slot_in bytes c.work (c.state.frame.depth * 32) (c.state.frame.at + 2) ≡ w
      same = rw (r.here, r.depth, e) slot_word.0

      found : ((branch bs con ≡ none) × (b ≡ 0)) ⊎ Taken file bytes decl d (length hs) (λ c. 0) bs con b
      found = found_branch file bytes decl d x refl (rw (same, con_same store w, r.here, e') at k.1.found)

      hs' : List Held
      hs' = hs

      long : length hs' ≡ length hs
      long = refl

      gs : List Held
      gs = fields looked store (cell w) 1 (fields_of file con)

      most : max c.state.most (suc (length under)) ≡ c.state.most
      most = omega arith

      opens : (u : Taken file bytes decl d (length hs) (λ c. 0) bs con b) → Shape store w
          → After file bytes c.state.most store store (op_of decl store c₂ (named bytes c) b 0) (M.next (state store u.term (hs' ++ gs) under))
      opens u (atom l y) =
          let st : Stands file bytes (length hs + (length (fields_of file con) + 0)) u.term u.next = u.stands in
          let fit = u.fits in
          let past = u.past in
          rw (same, con_same store w, ne_eqb b 0 (λ v. omega arith), l, y) (
            lays file bytes c₂ hs' [] [] under store u.term b c.state.frame.bound u.next r.depth r.deep (r.bound ∙ sym long) (let few = r.few in omega (arith, long))
                r₂.words r₂.saved r₂.room Pairs.none u.here (omega (arith, long, r.bound))
                (subst (λ n. Stands file bytes n u.term u.next) (let v : length hs + 0 ≡ length hs' + 0 = omega (arith, long) in v) (rw y at st)),
            refl,
            sym most,
          )
      opens u (cell_of {s = f} {ss = fs} l y _) =
          let st : Stands file bytes (length hs + (length (fields_of file con) + 0)) u.term u.next = u.stands in
          let fit : length hs + (length (fields_of file con) + 0) ≤ 32 = u.fits in
          let fit' = rw y at fit in
          let past = u.past in
          let ar : arity_in decl con ≡ suc (length fs) = d.arities con u.known ∙ ap (λ l. length l) y in
          let ws : List ℕ = words store ((w - 65536) * 5 + 1) (suc (length fs)) in
          let n : length ws ≡ suc (length fs) = words_length store ((w - 65536) * 5 + 1) (suc (length fs)) in
          let big : 65536 ≤ w = ltb-false w 65536 l in
          let ps : Pairs (fields looked store (cell w) 1 (f ∷ fs)) ws = looked_pairs store (cell w) 1 ((w - 65536) * 5 + 1) (f ∷ fs) (omega arith) in
          let zz = pairs_length ps in
          rw (same, con_same store w, ne_eqb b 0 (λ v. omega arith), l, y, ar) (
            lays file bytes c₂ hs' (fields looked store (cell w) 1 (f ∷ fs)) ws under store u.term b
                (c.state.frame.bound + suc (length fs) + 0) u.next r.depth r.deep (r.bound ∙ sym long) (omega (arith, n, zz))
                r₂.words r₂.saved r₂.room ps u.here (omega (arith, r.bound, n, zz))
                (subst (λ n. Stands file bytes n u.term u.next) (omega (arith, n, zz)) (rw y at st)),
            refl,
            sym most,
          )

      go : (o : Option Term) → branch bs con ≡ o
          → After file bytes c.state.most store store (op_of decl store c₂ (named bytes c) b 0) (elim o as (λ _. Step) [ none ↦ M.stuck 31 p | some t ↦ M.next (state store t (hs' ++ gs) under) ])
      go none y =
          elim found [
            | inl v ↦ rw v.1 (refl, refl, refl, r.here, refl)
            | inr v ↦ let t = v.is in let z : ◌≡◌ {A = ℕ} 0 1 = cc in absurd (omega arith)
          ]
      go (some t) y =
          elim found [
            | inl v ↦ let t = v.0 in let z : ◌≡◌ {A = ℕ} 0 1 = cc in absurd (omega arith)
            | inr v ↦ let i = v.is in let z : v.term ≡ t = cc in
                subst (λ t. After file bytes c.state.most store store (op_of decl store c₂ (named bytes c) b 0) (M.next (state store t (hs' ++ gs) under))) z (opens v slot_word.1)
          ]
