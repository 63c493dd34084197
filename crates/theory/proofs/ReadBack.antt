-- Reading a word back from a store: with fuel for each cell of its tree it gives the tree's value. Assumes nothing.
use Prim.Native.Nat.{ℕ, zero, suc, ◌+◌, ◌≤◌, ◌<◌}
use mathlib.Core.Bool.{true, false}
use mathlib.Core.List.{List, [], ◌∷◌}
use mathlib.Core.Path.{◌≡◌, refl, ap, ◌∙◌}
use native.Mathlib.Omega.{arith}
use lib.ListN.{length, get_or}
use lib.Dec.{ltb}
use Rattle.meaning.specs.Syntax.{Sort, Constructor}
use Rattle.meaning.specs.Ownership.{kind_owned}
use Rattle.meaning.specs.Derivation.{Split, left, right, Has}
use Rattle.meaning.specs.Plain.{Value, Values, node, empty, more}
use Rattle.meaning.specs.Plain as P
use Rattle.meaning.specs.Machine.{Held, Store, word, cell, word_at}
use Rattle.meaning.specs.Decode.{tree, plain_fields, plain, mode_of}
use Rattle.theory.proofs.Rep.{Tree, Fields, Holds}
use Rattle.theory.proofs.Sim.{Once}
use Rattle.theory.proofs.Reached.{count_has, once_count}
use Rattle.theory.proofs.StartCounting.{few}

split_size : {F F₁ F₂ : List ℕ} → Split F F₁ F₂ → length F ≡ length F₁ + length F₂
split_size Split.none = refl
split_size (left s) = omega (arith, split_size s)
split_size (right s) = omega (arith, split_size s)

module _ (cs : List Constructor) (store : Store) where
  -- one step of reading
  tree_leaf : (k a : ℕ) → ltb a 65536 ≡ true → tree cs store (suc k) a ≡ node a empty
  unfolding tree
  tree_leaf k a e = rw (e, tree)

  tree_fork : (k w : ℕ) → ltb w 65536 ≡ false
      → tree cs store (suc k) w ≡ node (word_at store (cell w) 0) (plain_fields (λ v. tree cs store k v) store (cell w) 1 (get_or cs (word_at store (cell w) 0) []))
  unfolding tree
  tree_fork k w e = rw (e, tree)

  mutual
    pub tree_read : {w : ℕ} {v : Value} {F : List ℕ} → Tree cs store w v F → (k : ℕ) → length F ≤ k → tree cs store (suc k) w ≡ v
    tree_read (Tree.leaf {a} l e) k h = tree_leaf k a l
    tree_read (Tree.fork {w} {k = c} {vs} {s} {ss} {F} {F'} l q e b r sp f) zero h = absurd (omega (arith, split_size sp))
    tree_read (Tree.fork {w} {k = c} {vs} {s} {ss} {F} {F'} l q e b r sp f) (suc k) h =
        let g = fields_read f k (omega (arith, split_size sp)) in
        let shape : get_or cs (word_at store (cell w) 0) [] ≡ s ∷ ss = ap (λ n. get_or cs n []) q ∙ e in
        tree_fork (suc k) w l
        ∙ ap (λ d. node (word_at store (cell w) 0) (plain_fields (λ v. tree cs store (suc k) v) store (cell w) 1 d)) shape
        ∙ (λ j. node (q j) (g j))

    pub fields_read : {c i : ℕ} {ss : Constructor} {vs : Values} {F : List ℕ} → Fields cs store c i ss vs F → (k : ℕ) → length F ≤ k
        → plain_fields (λ v. tree cs store (suc k) v) store c i ss ≡ vs
    fields_read Fields.last k h = refl
    fields_read (Fields.number e f) k h = let g = fields_read f k h in λ j. more (P.number (e j)) (g j)
    fields_read (Fields.tree sp t f) k h =
        let a = tree_read t k (omega (arith, split_size sp)) in
        let b = fields_read f k (omega (arith, split_size sp)) in
        λ j. more (a j) (b j)

  -- a value that a run gives: its cells are some of the store's, each once
  pub value_read : (sort : Sort) {A : List ℕ} {h : Held} {v : Value} {F : List ℕ} → Holds cs store A (kind_owned sort) h v F → Once F
      → ((c : ℕ) → Has c F → c < length store) → plain cs store (mode_of sort) (word h) ≡ v
  value_read Sort.number Holds.number o s = refl
  value_read Sort.tree {F} (Holds.owned t) o s = tree_read t (length store) (few (length store) F (once_count F o) (λ c i. s c (count_has c F i)))
