-- Laws of `Match`: appended, kept by another store, opened, looked at. Assumes nothing.
use Prim.Native.Nat.{ℕ, suc}
use mathlib.Core.Bool.{Bool, true, false, not, ◌&&◌, ◌||◌}
use mathlib.Core.List.{List, [], ◌∷◌, ◌++◌, map}
use mathlib.Core.Path.{◌≡◌, refl, sym, ap, ◌∙◌, subst}
use native.Mathlib.Omega.{arith}
use lib.ListN.{length, get_or}
use Rattle.meaning.specs.Syntax.{Sort, Constructor}
use Rattle.meaning.specs.Ownership.{Kind, Slot, Slots, fresh, Want, fits, leftover, remains, kind_owned, kind_lent, bound_by_OP, bound_by_LK}
use Rattle.meaning.specs.Derivation.{Split, Has}
use Rattle.meaning.specs.Plain.{Value, Values, node, list, with_credit}
use Rattle.meaning.specs.Plain as P
use Rattle.meaning.specs.Machine.{Held, Store, cell, constructor_of, fields, opened, looked, credit_for}
use Rattle.theory.proofs.Splits.{all_right, nothing_left, first, swap}
use Rattle.theory.proofs.Passing.{contradiction}
use Rattle.theory.proofs.Rep.{Tree, Fields, Holds, SlotHolds, Match, next, live, used, Alike, has_part, tree_keep}

or_both : (a b : Bool) → (a || b) ≡ false → (a ≡ false) × (b ≡ false)
or_both true b e = let z : ◌≡◌ {A = ℕ} 0 1 = cc in absurd (contradiction z)
or_both false b e = (refl, e)

map_append : (a b : List Kind) → map fresh (a ++ b) ≡ map fresh a ++ map fresh b
map_append [] b = refl
map_append (k ∷ a) b = ap (λ l. fresh k ∷ l) (map_append a b)

module _ (cs : List Constructor) (store : Store) (A : List ℕ) where
  pub match_append : {xs ys : Slots} {hs gs : List Held} {vs ws : List Value} {F F₁ F₂ : List ℕ} → Match cs store A xs hs vs F₁ → Match cs store A ys gs ws F₂
      → Split F F₁ F₂ → Match cs store A (xs ++ ys) (hs ++ gs) (vs ++ ws) F
  match_append {ys} {gs} {ws} Match.last m s = subst (λ F. Match cs store A ys gs ws F) (sym (nothing_left s)) m
  match_append (next sp g l) m s =
      let f = first s sp in
      next f.1 g (match_append l m f.2)

  pub match_one : {k : Kind} {h : Held} {v : Value} {F : List ℕ} → Holds cs store A k h v F → Match cs store A (fresh k ∷ []) (h ∷ []) (v ∷ []) F
  match_one {F} g = next (swap (all_right F)) (live refl g) Match.last

  -- nothing left over: no cells
  holds_empty : {k : Kind} {h : Held} {v : Value} {F : List ℕ} → Holds cs store A k h v F → (fits Want.owned k || fits (Want.credit 0) k) ≡ false → F ≡ []
  holds_empty Holds.number e = refl
  holds_empty (Holds.lent t a) e = refl
  holds_empty (Holds.owned t) e = let z : ◌≡◌ {A = ℕ} 0 1 = cc in absurd (contradiction z)
  holds_empty (Holds.credit r) e = let z : ◌≡◌ {A = ℕ} 0 1 = cc in absurd (contradiction z)

  slot_empty : {x : Slot} {h : Held} {v : Value} {F : List ℕ} → SlotHolds cs store A x h v F → remains x ≡ false → F ≡ []
  slot_empty {x} (live u g) e = holds_empty g (subst (λ b. (not b && (fits Want.owned x.kind || fits (Want.credit 0) x.kind)) ≡ false) u e)
  slot_empty (used u q) e = refl

  pub match_empty : {xs : Slots} {hs : List Held} {vs : List Value} {F : List ℕ} → Match cs store A xs hs vs F → leftover xs ≡ false → F ≡ []
  match_empty Match.last e = refl
  match_empty (next {x} {xs} {F} {F₁} {F₂} sp g m) e =
      let o = or_both (remains x) (leftover xs) e in
      nothing_left (subst (λ P. Split F P F₂) (slot_empty g o.0) sp) ∙ match_empty m o.1

  -- opening
  pub open_fields : {c i : ℕ} {ss : Constructor} {vs : Values} {F : List ℕ} → Fields cs store c i ss vs F
      → Match cs store A (map fresh (map kind_owned ss)) (fields opened store c i ss) (list vs) F
  open_fields Fields.last = Match.last
  open_fields (Fields.number {F} e f) = rw e (next (all_right F) (live refl Holds.number) (open_fields f))
  open_fields (Fields.tree s t f) = next s (live refl (Holds.owned t)) (open_fields f)

  pub look_fields : {c i : ℕ} {ss : Constructor} {vs : Values} {F : List ℕ} → Fields cs store c i ss vs F → ((c : ℕ) → Has c F → Has c A)
      → Match cs store A (map fresh (map kind_lent ss)) (fields looked store c i ss) (list vs) []
  look_fields Fields.last a = Match.last
  look_fields (Fields.number e f) a = rw e (next Split.none (live refl Holds.number) (look_fields f a))
  look_fields (Fields.tree s t f) a = next Split.none (live refl (Holds.lent t (λ c h. a c (has_part s h)))) (look_fields f (λ c h. a c (has_part (swap s) h)))

  with_credit_fields : {c i : ℕ} {s : Sort} {ss : Constructor} {vs : Values} {F : List ℕ} → Fields cs store c i (s ∷ ss) vs F
      → with_credit (list vs) ≡ list vs ++ (P.credit ∷ [])
  with_credit_fields (Fields.number e f) = refl
  with_credit_fields (Fields.tree s t f) = refl

  -- an owned tree, opened
  pub open_tree : {w k : ℕ} {vs : Values} {F : List ℕ} → Tree cs store w (node k vs) F
      → (constructor_of store w ≡ k)
      × Match cs store A (map fresh (bound_by_OP (get_or cs k []))) (fields opened store (cell w) 1 (get_or cs k []) ++ credit_for (get_or cs k []) (cell w)) (with_credit (list vs)) F
  open_tree (Tree.leaf l e) = (rw (l, constructor_of), rw e Match.last)
  open_tree {w} {k} {vs} {F} (Tree.fork {s} {ss} l q e b r sp f) = (
    rw (l, constructor_of) q,
    rw (e, map_append (map kind_owned (s ∷ ss)) (Kind.credit (suc (length ss)) ∷ []), with_credit_fields f)
        (match_append (open_fields f) (match_one (Holds.credit r)) (swap sp)),
  )

  -- a lent tree, looked at
  pub look_tree : {w k : ℕ} {vs : Values} {F : List ℕ} → Tree cs store w (node k vs) F → ((c : ℕ) → Has c F → Has c A)
      → (constructor_of store w ≡ k)
      × Match cs store A (map fresh (bound_by_LK (get_or cs k []))) (fields looked store (cell w) 1 (get_or cs k [])) (list vs) []
  look_tree (Tree.leaf l e) a = (rw (l, constructor_of), rw e Match.last)
  look_tree (Tree.fork l q e b r sp f) a = (rw (l, constructor_of) q, rw e (look_fields f (λ c h. a c (has_part (swap sp) h))))

module _ (cs : List Constructor) (store store' : Store) (size : length store' ≡ length store) (A : List ℕ) (lents : Alike store store' A) where
  holds_keep : {k : Kind} {h : Held} {v : Value} {F : List ℕ} → Holds cs store A k h v F → Alike store store' F → Holds cs store' A k h v F
  holds_keep Holds.number a = Holds.number
  holds_keep (Holds.lent t q) a = Holds.lent (tree_keep cs store store' size t (λ c h. lents c (q c h))) q
  holds_keep (Holds.owned t) a = Holds.owned (tree_keep cs store store' size t a)
  holds_keep (Holds.credit {c} r) a = Holds.credit {c = c} (omega arith)

  slot_keep : {x : Slot} {h : Held} {v : Value} {F : List ℕ} → SlotHolds cs store A x h v F → Alike store store' F → SlotHolds cs store' A x h v F
  slot_keep (live u g) a = live u (holds_keep g a)
  slot_keep (used u q) a = used u q

  pub match_keep : {xs : Slots} {hs : List Held} {vs : List Value} {F : List ℕ} → Match cs store A xs hs vs F → Alike store store' F → Match cs store' A xs hs vs F
  match_keep Match.last a = Match.last
  match_keep (next sp g m) a = next sp (slot_keep g (λ c h. a c (has_part sp h))) (match_keep m (λ c h. a c (has_part (swap sp) h)))
