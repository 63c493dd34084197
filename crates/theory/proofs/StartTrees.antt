-- Where the start is not refused, every tree word stands for a finite tree: its value, and its cells as often as they are met. Assumes nothing.
use Prim.Native.Nat.{ℕ, zero, suc, ◌+◌, ◌%◌, ◌≤◌, ◌<◌}
use mathlib.Core.Path.{◌≡◌, refl, sym, ap, ◌∙◌, subst}
use mathlib.Core.Logic.{inl, inr, ⊎_elim}
use mathlib.Core.List.{List, [], ◌∷◌, ◌++◌}
use mathlib.Core.Bool.{true}
use native.Mathlib.Omega.{arith}
use lib.Dec.{eqb}
use lib.ListN.{length, get_or, take}
use lib.Seq.{take_all, take-take}
use borrow.Author.Tests.{lt-ltb, le-ltb}
use Rattle.meaning.specs.Syntax.{Sort, Constructor}
use Rattle.meaning.specs.Derivation.{Split, left, Has}
use Rattle.meaning.specs.Plain.{Value, Values, node, empty, more}
use Rattle.meaning.specs.Plain as P
use Rattle.meaning.specs.Machine.{Store, cell, word_at}
use Rattle.meaning.specs.Walk.{count}
use Rattle.meaning.specs.Decode.{tree, plain_fields}
use Rattle.meaning.specs.Start.{In, fields_at, word_ok, inside, tree_words, kids, Reached, through}
use Rattle.theory.proofs.Splits.{all_right, has_cases}
use Rattle.theory.proofs.Counting.{has_inv, nowhere}
use Rattle.theory.proofs.Rep.{Tree, Fields}
use Rattle.theory.proofs.Reached.{one_if, count_cons, count_append}
use Rattle.theory.proofs.StartCounting.{same?, le?, one_same, one_other, total, total_nil, total_cons, total_append, count_take}
use Rattle.theory.proofs.StartWords.{fine_cell, atom_fields, count_fine}

-- two lists put together, one beside the other
pub beside : (a b : List ℕ) → Split (a ++ b) a b
beside [] b = all_right b
beside (x ∷ a) b = left (beside a b)

-- the word of a cell
pub word_of : (w : ℕ) → 65536 ≤ w → 65536 + cell w ≡ w
word_of w h = omega arith

pub named_one : (x w : ℕ) → 65536 ≤ w → one_if (eqb (65536 + x) w) ≡ one_if (eqb x (cell w))
named_one x w h =
    ⊎_elim
    (λ (e : x ≡ cell w). one_same (65536 + x) w (omega arith) ∙ sym (one_same x (cell w) e))
    (λ (e : x ≡ cell w → ⊥). one_other (65536 + x) w (λ q. e (omega arith)) ∙ sym (one_other x (cell w) e))
    (same? x (cell w))

module _ (cs : List Constructor) (store : Store) where
  -- how often a cell names another
  abbrev pub part : ℕ → ℕ → ℕ
  part x = λ b. count (65536 + x) (inside cs store b)

  -- the tree of a word, read with fuel n: each cell as often as the word and the tree's own cells name it
  pub record Grown (n w : ℕ) : Type 0 where
    pub value : Value
    pub cells : List ℕ
    pub stands : Tree cs store w value cells
    pub read : (k : ℕ) → n ≤ k → tree cs store k w ≡ value
    pub counts : (x : ℕ) → count x cells ≡ count (65536 + x) (w ∷ []) + total (part x) cells
    pub within : (words : List ℕ) → (65536 ≤ w → Reached cs store words (cell w)) → (x : ℕ) → Has x cells → Reached cs store words x

  pub record GrownFields (n c i : ℕ) (ss : Constructor) : Type 0 where
    pub values : Values
    pub cells : List ℕ
    pub stands : Fields cs store c i ss values cells
    pub read : (k : ℕ) → n ≤ k → plain_fields (λ v. tree cs store k v) store c i ss ≡ values
    pub counts : (x : ℕ) → count x cells ≡ count (65536 + x) (tree_words store c i ss) + total (part x) cells
    pub within : (words : List ℕ) → ((w : ℕ) → In w (tree_words store c i ss) → 65536 ≤ w → Reached cs store words (cell w)) → (x : ℕ) → Has x cells → Reached cs store words x

  grow_fields : (n c i : ℕ) (ss : Constructor) → ((w : ℕ) → In w (tree_words store c i ss) → Grown n w) → GrownFields n c i ss
  grow_fields n c i [] g =
      record {
        values = empty;
        cells = [];
        stands = Fields.last;
        read = λ k l. refl;
        counts = λ x. omega (arith, total_nil (part x));
        within = λ words f x h. absurd (nowhere h);
      }
  grow_fields n c i (Sort.number ∷ ss) g =
      let r = grow_fields n c (suc i) ss g in
      record {
        values = more (P.number (word_at store c i)) r.values;
        cells = r.cells;
        stands = Fields.number refl r.stands;
        read = λ k l. ap (λ v. more (P.number (word_at store c i)) v) (r.read k l);
        counts = r.counts;
        within = r.within;
      }
  grow_fields n c i (Sort.tree ∷ ss) g =
      let w : ℕ = word_at store c i in
      let ws : List ℕ = tree_words store c (suc i) ss in
      let here_in : In w (w ∷ ws) = omega (arith, count_cons w w ws, one_same w w refl) in
      let later : (v : ℕ) → In v ws → In v (w ∷ ws) = λ v h. omega (arith, count_cons v w ws) in
      let t = g w here_in in
      let r = grow_fields n c (suc i) ss (λ v h. g v (later v h)) in
      record {
        values = more t.value r.values;
        cells = t.cells ++ r.cells;
        stands = Fields.tree (beside t.cells r.cells) t.stands r.stands;
        read = λ k l j. more (t.read k l j) (r.read k l j);
        counts = λ x.
            omega (
              arith,
              count_append x t.cells r.cells,
              t.counts x,
              r.counts x,
              count_cons (65536 + x) w [],
              count_cons (65536 + x) w ws,
              total_append (part x) t.cells r.cells,
            );
        within = λ words f x h. elim (has_cases t.cells h) [
          | inl m ↦ t.within words (λ l. f w here_in l) x m
          | inr m ↦ r.within words (λ v i l. f v (later v i) l) x m
        ];
      }

  read_atom : (n w : ℕ) → w < 65536 → (k : ℕ) → suc n ≤ k → tree cs store k w ≡ node w empty
  unfolding tree
  read_atom n w h zero l = absurd (omega arith)
  read_atom n w h (suc k) l = rw (lt-ltb w 65536 h, tree)

  read_cell : (n w : ℕ) → 65536 ≤ w → (vs : Values)
      → ((k : ℕ) → n ≤ k → plain_fields (λ v. tree cs store k v) store (cell w) 1 (fields_at cs store (cell w)) ≡ vs)
      → (k : ℕ) → suc n ≤ k → tree cs store k w ≡ node (word_at store (cell w) 0) vs
  unfolding tree
  read_cell n w h vs r zero l = absurd (omega arith)
  read_cell n w h vs r (suc k) l = rw (le-ltb w 65536 h, tree) (ap (λ v. node (word_at store (cell w) 0) v) (r k (omega arith)))

  -- an atom
  grow_atom : (n w : ℕ) → w < 65536 → word_ok cs store w ≡ true → Grown (suc n) w
  grow_atom n w h f =
      record {
        value = node w empty;
        cells = [];
        stands = Tree.leaf (lt-ltb w 65536 h) (atom_fields cs store w h f);
        read = read_atom n w h;
        counts = λ x. omega (arith, total_nil (part x), count_cons (65536 + x) w [], one_other (65536 + x) w (λ q. omega arith));
        within = λ words g x m. absurd (nowhere m);
      }

  -- a cell, once the words in it have grown
  module _ (whole : length store % 5 ≡ 0) (arity : (k : ℕ) → length (get_or cs k []) ≤ 4) where
    grow_cell : (n w : ℕ) → 65536 ≤ w → word_ok cs store w ≡ true → ((v : ℕ) → In v (inside cs store (cell w)) → word_ok cs store v ≡ true)
        → ((v : ℕ) → In v (inside cs store (cell w)) → Grown n v) → Grown (suc n) w
    grow_cell n w h f fine g =
        let c : ℕ = cell w in
        let q = fine_cell cs store w h f in
        let r = grow_fields n c 1 (fields_at cs store c) g in
        let small : length (q.sort ∷ q.sorts) ≤ 4 = subst (λ d. length d ≤ 4) q.shape (arity (word_at store c 0)) in
        record {
          value = node (word_at store c 0) r.values;
          cells = c ∷ r.cells;
          stands = Tree.fork (le-ltb w 65536 h) refl q.shape (omega arith) (omega (arith, q.stored)) (left (all_right r.cells))
              (subst (λ d. Fields cs store c 1 d r.values r.cells) q.shape r.stands);
          read = read_cell n w h r.values r.read;
          counts = λ x. omega (arith, count_cons x c r.cells, r.counts x, count_cons (65536 + x) w [], named_one x w h, total_cons (part x) c r.cells);
          within = λ words t x m. elim (has_inv m) [
            | inl e ↦ subst (λ y. Reached cs store words y) (sym e) (t h)
            | inr k ↦ r.within words (λ v i l. through (t h) (subst (λ y. In y (inside cs store c)) (sym (word_of v l)) i)
                (ap (word_ok cs store) (word_of v l) ∙ fine v i)) x k
          ];
        }

    -- along an order in which no cell is held back, from the end
    module _ (reached order : List ℕ) (fine : (b v : ℕ) → In b reached → In v (inside cs store b) → word_ok cs store v ≡ true)
        (closed : (d x : ℕ) → In d reached → In x (kids cs store d) → In x reached) (all_out : (d : ℕ) → In d reached → In d order)
        (step_back : (i d x : ℕ) → In d reached → In x (kids cs store d) → In x (take i order) → (j : ℕ) × (j < i) × In d (take j order)) where
      kid : (b v : ℕ) → In b reached → In v (inside cs store b) → 65536 ≤ v → In (cell v) (kids cs store b)
      kid b v i j l =
          let q : 65536 + cell v ≡ v = word_of v l in
          let c : count (cell v) (kids cs store b) ≡ count v (inside cs store b) =
          count_fine cs store (cell v) (inside cs store b) (ap (word_ok cs store) q ∙ fine b v i j) ∙ ap (λ y. count y (inside cs store b)) q in
          omega arith

      pub grow : (n m w : ℕ) → m + n ≡ length order → word_ok cs store w ≡ true
          → (65536 ≤ w → In (cell w) reached × (count (cell w) (take m order) ≡ 0)) → Grown (suc n) w
      grow zero m w e f s =
          ⊎_elim
          (λ (h : 65536 ≤ w).
          let t = s h in
          let a : take m order ≡ order = take_all m order (omega arith) in
          absurd (omega (arith, t.1, ap (λ l. count (cell w) l) a, all_out (cell w) t.0)))
          (λ (h : w < 65536). grow_atom 0 w h f)
          (le? 65536 w)
      grow (suc n) m w e f s =
          ⊎_elim
          (λ (h : 65536 ≤ w).
          let t = s h in
          grow_cell (suc n) w h f (λ v i. fine (cell w) v t.0 i)
          (λ v i. grow n (suc m) v (omega arith) (fine (cell w) v t.0 i)
          (λ l. (closed (cell w) (cell v) t.0 (kid (cell w) v t.0 i l), later (cell w) (cell v) m t.0 (kid (cell w) v t.0 i l) t.1))))
          (λ (h : w < 65536). grow_atom (suc n) w h f)
          (le? 65536 w)
        where
          later : (d x m : ℕ) → In d reached → In x (kids cs store d) → count d (take m order) ≡ 0 → count x (take (suc m) order) ≡ 0
          later d x m i k z =
              ⊎_elim
              (λ (p : 1 ≤ count x (take (suc m) order)).
              let b = step_back (suc m) d x i k p in
              let le : b.0 ≤ m = omega (arith, b.1) in
              absurd (omega (arith, z, b.2, count_take d b.0 (take m order), ap (λ l. count d l) (take-take b.0 m order le))))
              (λ (p : count x (take (suc m) order) < 1). omega arith)
              (le? 1 (count x (take (suc m) order)))
