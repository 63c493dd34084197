-- What the slots of a frame stand for: plain values, with the cells that they are made of. Assumes nothing.
use Prim.Native.Nat.{ℕ, zero, suc, ◌+◌, ◌*◌, ◌≤◌, ◌<◌}
use mathlib.Core.Bool.{true, false}
use mathlib.Core.List.{List, [], ◌∷◌}
use mathlib.Core.Option.{some, none-ne-some}
use mathlib.Core.Path.{◌≡◌, refl, sym, ap, ◌∙◌, subst}
use native.Mathlib.Omega.{arith}
use lib.ListN.{length, get_or, get_elem?, set}
use lib.Dec.{ltb}
use Rattle.meaning.specs.Syntax.{Sort, Constructor}
use Rattle.meaning.specs.Ownership.{Kind, Slot, Slots}
use Rattle.meaning.specs.Derivation.{Split, Has}
use Rattle.meaning.specs.Plain.{Value, Values, node, empty, more}
use Rattle.meaning.specs.Plain as P
use Rattle.meaning.specs.Machine.{Held, Store, cell, word_at, held}
use Rattle.theory.proofs.Splits.{all_right, first, swap, has_split, split_has}
use Rattle.theory.proofs.Gather.{used_up}
use Rattle.theory.proofs.Passing.{contradiction}

-- a tree in a store, and the cells that it is made of: each once
module _ (cs : List Constructor) (store : Store) where
  mutual
    pub data Tree : ℕ → Value → List ℕ → Type 0 where
      leaf : {a : ℕ} → ltb a 65536 ≡ true → get_or cs a [] ≡ [] → Tree a (node a empty) []
      fork : {w k : ℕ} {vs : Values} {s : Sort} {ss : Constructor} {F F' : List ℕ}
          → ltb w 65536 ≡ false → word_at store (cell w) 0 ≡ k → get_or cs k [] ≡ s ∷ ss
          → length ss ≤ 3 → 5 * cell w + 5 ≤ length store
          → Split F (cell w ∷ []) F'
          → Fields (cell w) 1 (s ∷ ss) vs F'
          → Tree w (node k vs) F

    pub data Fields : ℕ → ℕ → Constructor → Values → List ℕ → Type 0 where
      last : {c i : ℕ} → Fields c i [] empty []
      number : {c i n : ℕ} {ss : Constructor} {vs : Values} {F : List ℕ}
          → word_at store c i ≡ n → Fields c (suc i) ss vs F → Fields c i (Sort.number ∷ ss) (more (P.number n) vs) F
      tree : {c i : ℕ} {ss : Constructor} {v : Value} {vs : Values} {F F₁ F₂ : List ℕ}
          → Split F F₁ F₂ → Tree (word_at store c i) v F₁ → Fields c (suc i) ss vs F₂ → Fields c i (Sort.tree ∷ ss) (more v vs) F

-- a cell that two stores have alike
abbrev pub Same : Store → Store → ℕ → Type 0
Same store store' c = (i : ℕ) → i < 5 → word_at store' c i ≡ word_at store c i

abbrev pub Alike : Store → Store → List ℕ → Type 0
Alike store store' F = (c : ℕ) → Has c F → Same store store' c

pub has_part : {c : ℕ} {F F₁ F₂ : List ℕ} → Split F F₁ F₂ → Has c F₁ → Has c F
has_part s h = split_has (first s (has_split h).1).1

module _ (cs : List Constructor) (store store' : Store) (size : length store' ≡ length store) where
  mutual
    pub tree_keep : {w : ℕ} {v : Value} {F : List ℕ} → Tree cs store w v F → Alike store store' F → Tree cs store' w v F
    tree_keep (Tree.leaf l e) a = Tree.leaf l e
    tree_keep (Tree.fork l k e b r s f) a =
        let here_too = a _ (split_has s) in
        Tree.fork l (here_too 0 (omega arith) ∙ k) e b (omega arith) s (fields_keep f (λ c h. a c (has_part (swap s) h)) here_too (omega arith))

    pub fields_keep : {c i : ℕ} {ss : Constructor} {vs : Values} {F : List ℕ} → Fields cs store c i ss vs F
        → Alike store store' F → Same store store' c → i + length ss ≤ 5 → Fields cs store' c i ss vs F
    fields_keep Fields.last a h b = Fields.last
    fields_keep (Fields.number {c} {i} e f) a h b = Fields.number (h i (omega arith) ∙ e) (fields_keep f a h (omega arith))
    fields_keep (Fields.tree {c} {i} {v} {F₁} s t f) a h b =
        Fields.tree s (subst (λ n. Tree cs store' n v F₁) (sym (h i (omega arith))) (tree_keep t (λ c m. a c (has_part s m))))
        (fields_keep f (λ c m. a c (has_part (swap s) m)) h (omega arith))

-- what a slot holds, with the cells that it owns; `A` are the cells that lent trees may be made of
module _ (cs : List Constructor) (store : Store) (A : List ℕ) where
  pub data Holds : Kind → Held → Value → List ℕ → Type 0 where
    number : {n : ℕ} → Holds Kind.number (Held.number n) (P.number n) []
    lent : {w : ℕ} {v : Value} {F : List ℕ} → Tree cs store w v F → ((c : ℕ) → Has c F → Has c A) → Holds Kind.lent (Held.lent w) v []
    owned : {w : ℕ} {v : Value} {F : List ℕ} → Tree cs store w v F → Holds Kind.owned (Held.owned w) v F
    credit : {k c : ℕ} → 5 * c + 5 ≤ length store → Holds (Kind.credit k) (Held.credit k c) P.credit (c ∷ [])

  pub data SlotHolds (x : Slot) (h : Held) (v : Value) : List ℕ → Type 0 where
    live : {F : List ℕ} → x.used ≡ false → Holds x.kind h v F → SlotHolds x h v F
    used : x.used ≡ true → h ≡ Held.spent → SlotHolds x h v []

  pub data Match : Slots → List Held → List Value → List ℕ → Type 0 where
    last : Match [] [] [] []
    next : {x : Slot} {h : Held} {v : Value} {xs : Slots} {hs : List Held} {vs : List Value} {F F₁ F₂ : List ℕ}
        → Split F F₁ F₂ → SlotHolds x h v F₁ → Match xs hs vs F₂ → Match (x ∷ xs) (h ∷ hs) (v ∷ vs) F

  -- a slot that stands, taken out of the rest; in its place nothing is held
  pub record Out (xs : Slots) (hs : List Held) (vs : List Value) (F : List ℕ) (s : ℕ) (k : Kind) (x : Slot) : Type 0 where
    pub part : List ℕ
    pub rest : List ℕ
    pub split : Split F part rest
    pub holds : Holds k (held hs s) (get_or vs s P.credit) part
    pub others : (h : Held) → h ≡ Held.spent → Match (set xs s (used_up x)) (set hs s h) vs rest

  pub take_out : {xs : Slots} {hs : List Held} {vs : List Value} {F : List ℕ} (s : ℕ) (x : Slot) → get_elem? xs s ≡ some x → x.used ≡ false
      → Match xs hs vs F → Out xs hs vs F s x.kind x
  take_out s x e u Match.last = absurd (none-ne-some x e)
  take_out zero x e u (next {x = y} {h} {v} {hs} {vs} {F₁} {F₂} sp (live q g) m) =
      record {
        part = F₁;
        rest = F₂;
        split = sp;
        holds = let p : y ≡ x = cc in subst (λ z. Holds z.kind h v F₁) p g;
        others = λ h' p. next (all_right F₂) (used refl p) m;
      }
  take_out zero x e u (next {x = y} sp (used q i) m) =
      let p : y ≡ x = cc in
      let f : true ≡ false = sym q ∙ ap (λ z. z.used) p ∙ u in
      let z : ◌≡◌ {A = ℕ} 0 1 = cc in
      absurd (contradiction z)
  take_out (suc s) x e u (next sp g m) =
      let r = take_out s x e u m in
      let f = first (swap sp) r.split in
      record {
        part = r.part;
        rest = f.0;
        split = f.1;
        holds = r.holds;
        others = λ h' p. next (swap f.2) g (r.others h' p);
      }
