-- Laws of the words of a work area. Assumes nothing.
use Rattle.std.proofs.Common.{◌≡◌, ℕ, zero, suc, ◌+◌, ◌-◌, ◌*◌, ◌<◌, ◌≤◌, Bool, true, false, ltb, ◌⊎◌, List, [], ◌∷◌, ◌++◌, map, length, get_or, set, sym, refl, ap, ◌∙◌, subst, inl, inr, arith, length-set, get_or-set_other, get_or-set_same, get_or-append-add, ltb-false, ltb-true}
use lib.ListN.{get_or-append, get_or-eq_default}
use Rattle.machine.specs.Layout.{Top, top, bound, laid, gathered}
use Rattle.machine.specs.Represents.{Agrees, Words, Saved, Represents}
use Rattle.meaning.specs.Syntax.{Mode, Term, File}
use Rattle.meaning.specs.Plain.{place_of}
use Rattle.meaning.specs.Machine as M
use Rattle.meaning.specs.Machine.{Held, Frame, Store, held, taken, give_up, without, state, write}
use Rattle.standing.specs.Stands.{Listed, Stands}

pub side : (i n : ℕ) → (i < n) ⊎ (n ≤ i)
side i n = go (ltb i n) refl
  where
    go : (b : Bool) → ltb i n ≡ b → (i < n) ⊎ (n ≤ i)
    go true e = inl (ltb-true i n e)
    go false e = inr (ltb-false i n e)

-- slots that are held, from those below their count
pub words_make : (work : List ℕ) (base : ℕ) (hs : List Held) → ((i : ℕ) → i < length hs → Agrees (held hs i) (get_or work (base + i) 0)) → Words work base hs
words_make work base hs f i =
    elim (side i (length hs)) [
      | inl l ↦ f i l
      | inr l ↦ subst (λ h. Agrees h (get_or work (base + i) 0)) (sym (get_or-eq_default hs Held.spent l)) tt
    ]

-- the same slots in another work area
pub words_keep : (work work' : List ℕ) (base : ℕ) (hs : List Held) → Words work base hs
    → ((i : ℕ) → i < length hs → get_or work' (base + i) 0 ≡ get_or work (base + i) 0) → Words work' base hs
words_keep work work' base hs w s = words_make work' base hs (λ i l. subst (λ x. Agrees (held hs i) x) (sym (s i l)) (w i))

-- slots bound after those that are there
pub words_more : (work work' : List ℕ) (base : ℕ) (hs gs : List Held) → Words work base hs
    → ((i : ℕ) → i < length hs → get_or work' (base + i) 0 ≡ get_or work (base + i) 0)
    → ((j : ℕ) → j < length gs → Agrees (held gs j) (get_or work' (base + (length hs + j)) 0)) → Words work' base (hs ++ gs)
words_more work work' base hs gs w s f i =
    elim (side i (length hs)) [
      | inl l ↦ subst (λ h. Agrees h (get_or work' (base + i) 0)) (sym (get_or-append hs gs Held.spent i l)) (subst (λ x. Agrees (held hs i) x) (sym (s i l)) (w i))
      | inr l ↦
          let e : length hs + (i - length hs) ≡ i = omega arith in
          subst (λ k. Agrees (held (hs ++ gs) k) (get_or work' (base + k) 0)) e (later (i - length hs))
    ]
  where
    later : (j : ℕ) → Agrees (held (hs ++ gs) (length hs + j)) (get_or work' (base + (length hs + j)) 0)
    later j =
        subst (λ h. Agrees h (get_or work' (base + (length hs + j)) 0)) (sym (get_or-append-add hs gs j Held.spent))
        (elim (side j (length gs)) [
          | inl l ↦ f j l
          | inr l ↦ subst (λ h. Agrees h (get_or work' (base + (length hs + j)) 0)) (sym (get_or-eq_default gs Held.spent l)) tt
        ])

-- a slot that is taken
agrees_taken : (h : Held) (w : ℕ) → Agrees h w → Agrees (taken h) w
agrees_taken (Held.number n) w a = a
agrees_taken (Held.lent n) w a = a
agrees_taken (Held.owned n) w a = tt
agrees_taken (Held.credit k c) w a = tt
agrees_taken Held.spent w a = tt

set_agrees : (hs : List Held) (s : ℕ) (h : Held) (i w : ℕ) → Agrees (held hs i) w → (i ≡ s → Agrees h w) → Agrees (held (set hs s h) i) w
set_agrees [] s h i w a b = a
set_agrees (x ∷ hs) zero h zero w a b = b refl
set_agrees (x ∷ hs) zero h (suc i) w a b = a
set_agrees (x ∷ hs) (suc s) h zero w a b = a
set_agrees (x ∷ hs) (suc s) h (suc i) w a b = set_agrees hs s h i w a (λ e. b (ap suc e))

pub words_give_up : (work : List ℕ) (base : ℕ) (hs : List Held) (s : ℕ) → Words work base hs → Words work base (give_up hs s)
words_give_up work base hs s w i =
    set_agrees hs s (taken (held hs s)) i (get_or work (base + i) 0) (w i)
    (λ e. agrees_taken (held hs s) (get_or work (base + i) 0) (subst (λ k. Agrees (held hs k) (get_or work (base + i) 0)) e (w i)))

pub words_without : (work : List ℕ) (base : ℕ) (ms : List Mode) (hs : List Held) (ss : List ℕ) → Words work base hs → Words work base (without ms hs ss)
words_without work base [] hs ss w = w
words_without work base (m ∷ ms) hs [] w = w
words_without work base (Mode.number ∷ ms) hs (s ∷ ss) w = words_without work base ms hs ss w
words_without work base (Mode.lent ∷ ms) hs (s ∷ ss) w = words_without work base ms hs ss w
words_without work base (Mode.owned ∷ ms) hs (s ∷ ss) w = words_without work base ms (give_up hs s) ss (words_give_up work base hs s w)

pub without_length : (ms : List Mode) (hs : List Held) (ss : List ℕ) → length (without ms hs ss) ≡ length hs
without_length [] hs ss = refl
without_length (m ∷ ms) hs [] = refl
without_length (Mode.number ∷ ms) hs (s ∷ ss) = without_length ms hs ss
without_length (Mode.lent ∷ ms) hs (s ∷ ss) = without_length ms hs ss
without_length (Mode.owned ∷ ms) hs (s ∷ ss) = without_length ms (give_up hs s) ss ∙ length-set hs s (taken (held hs s))

pub laid_write : (store : Store) (c i : ℕ) (ws : List ℕ) → laid store (5 * c + i) ws ≡ write store c i ws
unfolding laid
laid_write store c i [] = refl
laid_write store c i (w ∷ ws) = let e : 5 * c + i + 1 ≡ 5 * c + suc i = omega arith in rw e (laid_write (set store (5 * c + i) w) c (suc i) ws)

-- the words of slots that are listed
pub gathered_map : (bytes work : List ℕ) (base p : ℕ) (ss : List ℕ) → Listed bytes p ss → gathered bytes work base p (length ss) ≡ map (λ s. get_or work (base + s) 0) ss
unfolding gathered
gathered_map bytes work base p [] l = refl
gathered_map bytes work base p (s ∷ ss) l = rw (l.0, gathered_map bytes work base (p + 1) ss l.1)

module _ (file : File) (bytes : List ℕ) where
  -- the frames below, in another work area
  pub saved_keep : (work work' : List ℕ) (fs : List Frame) → length fs ≤ 31 → ((q : ℕ) → q < length fs * 32 → get_or work' q 0 ≡ get_or work q 0)
      → ((q : ℕ) → 1024 ≤ q → q < 1024 + length fs * 2 → get_or work' q 0 ≡ get_or work q 0) → Saved file bytes work fs → Saved file bytes work' fs
  saved_keep work work' [] d low high s = tt
  saved_keep work work' (f ∷ rest) d low high s =
      let w = s.0 in (
        record {
          here = high (1024 + length rest * 2) (omega arith) (omega arith) ∙ w.here;
          many = high (1024 + length rest * 2 + 1) (omega arith) (omega arith) ∙ w.many;
          few = w.few;
          next = w.next;
          stands = w.stands;
          words = words_keep work work' (length rest * 32) f.slots w.words (λ i l. let b = w.few in low (length rest * 32 + i) (omega arith));
        },
        saved_keep work work' rest (omega arith) (λ q l. low q (omega arith)) (λ q a l. high q a (omega arith)) s.1,
      )

  -- the same state, in a work area with the frames' words
  pub keeps_represents : {store : Store} {c : Top} {st : M.State} {work : List ℕ} → Represents file bytes store c st → length work ≡ length c.work
      → ((q : ℕ) → q < 1088 → get_or work q 0 ≡ get_or c.work q 0) → Represents file bytes store (top c.state work) st
  keeps_represents {store} {c} {st} {work} r l low =
      let few = r.few in
      let deep = r.deep in
      record {
        same = r.same;
        here = r.here;
        next = r.next;
        stands = r.stands;
        depth = r.depth;
        deep = r.deep;
        bound = r.bound;
        few = r.few;
        words = words_keep c.work work (length st.under * 32) st.top.slots r.words (λ i m. low (length st.under * 32 + i) (omega arith));
        saved = saved_keep c.work work st.under r.deep (λ q m. low q (omega arith)) (λ q n m. low q (omega arith)) r.saved;
        room = omega (arith, l, r.room);
      }

  -- a word bound to the next slot
  pub bound_represents : (c : Top) (hs : List Held) (under : List Frame) (store : Store) (t : Term) (h : Held) (v next nx : ℕ)
      → c.state.frame.depth ≡ length under → length under ≤ 31 → c.state.frame.bound ≡ length hs → length hs < 32 → Words c.work (length under * 32) hs
      → Saved file bytes c.work under → 4096 ≤ length c.work → Agrees h v → next ≡ place_of t → Stands file bytes (suc (length hs)) t nx
      → Represents file bytes store (bound c v next) (state store t (hs ++ (h ∷ [])) under)
  bound_represents c hs under store t h v next nx d e b f w s r a p x =
      record {
        same = refl;
        here = p;
        next = nx;
        stands = subst (λ k. Stands file bytes k t nx) (sym many) x;
        depth = d;
        deep = e;
        bound = ap (λ k. k + 1) b ∙ plus ∙ sym many;
        few = omega (arith, many);
        words = rw (d, b) (words_more c.work (set c.work q v) (length under * 32) hs (h ∷ []) w
            (λ i l. get_or-set_other c.work q (length under * 32 + i) v 0 (λ z. omega arith))
            (λ j l. only j (omega arith)));
        saved = rw (d, b) (saved_keep c.work (set c.work q v) under e (λ k l. get_or-set_other c.work q k v 0 (λ z. omega arith))
            (λ k l m. get_or-set_other c.work q k v 0 (λ z. omega arith)) s);
        room = rw (length-set c.work (c.state.frame.depth * 32 + c.state.frame.bound) v) r;
      }
    where
      q : ℕ
      q = length under * 32 + length hs

      plus : length hs + 1 ≡ suc (length hs)
      plus = omega arith

      many : length (hs ++ (h ∷ [])) ≡ suc (length hs)
      many = snoc hs
        where
          snoc : (l : List Held) → length (l ++ (h ∷ [])) ≡ suc (length l)
          snoc [] = refl
          snoc (y ∷ l) = ap suc (snoc l)

      only : (j : ℕ) → j ≡ 0 → Agrees (held (h ∷ []) j) (get_or (set c.work q v) (length under * 32 + (length hs + j)) 0)
      only j z =
          let k : length under * 32 + (length hs + 0) ≡ q = omega arith in
          subst (λ j. Agrees (held (h ∷ []) j) (get_or (set c.work q v) (length under * 32 + (length hs + j)) 0)) (sym z)
          (rw k (subst (λ y. Agrees h y) (sym (get_or-set_same c.work q v 0 (omega arith))) a))
