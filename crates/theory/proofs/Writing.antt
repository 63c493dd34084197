-- A cell written, and the tree that it then holds. Assumes nothing.
use Prim.Native.Nat.{ℕ, suc, ◌+◌, ◌*◌, ◌≤◌, ◌<◌}
use mathlib.Core.List.{List, [], ◌∷◌, map}
use mathlib.Core.Path.{◌≡◌, refl, sym, ◌∙◌, subst}
use native.Mathlib.Omega.{arith}
use lib.ListN.{length, get_or, set, length-set}
use borrow.Author.Tests.{le-ltb}
use lib.Seq.{get_or-set_same, get_or-set_other}
use Rattle.meaning.specs.Syntax.{Sort, Constructor}
use Rattle.meaning.specs.Ownership.{Kind, fresh, kind_of, mode_owned}
use Rattle.meaning.specs.Derivation.{Split}
use Rattle.meaning.specs.Plain.{Value, Values, node, more, values}
use Rattle.meaning.specs.Plain as P
use Rattle.meaning.specs.Machine.{Held, Store, word, word_at, write, cell}
use Rattle.theory.proofs.Splits.{nothing_left}
use Rattle.theory.proofs.Passing.{contradiction}
use Rattle.theory.proofs.Rep.{Tree, Fields, Holds, SlotHolds, Match, next, live, used, Same}

pub write_size : (store : Store) (c i : ℕ) (ws : List ℕ) → length (write store c i ws) ≡ length store
write_size store c i [] = refl
write_size store c i (w ∷ ws) = write_size (set store (5 * c + i) w) c (suc i) ws ∙ length-set store (5 * c + i) w

-- another cell is as it was
pub write_other : (store : Store) (c i : ℕ) (ws : List ℕ) (d : ℕ) → (d ≡ c → ⊥) → i + length ws ≤ 5 → Same store (write store c i ws) d
write_other store c i [] d n b j l = refl
write_other store c i (w ∷ ws) d n b j l =
    write_other (set store (5 * c + i) w) c (suc i) ws d n (omega arith) j l
    ∙ get_or-set_other store (5 * c + i) (5 * d + j) w 0 (λ e. n (omega arith))

-- so is a word before the first that is written
write_before : (store : Store) (c i : ℕ) (ws : List ℕ) (j : ℕ) → j < i → word_at (write store c i ws) c j ≡ word_at store c j
write_before store c i [] j l = refl
write_before store c i (w ∷ ws) j l =
    write_before (set store (5 * c + i) w) c (suc i) ws j (omega arith) ∙ get_or-set_other store (5 * c + i) (5 * c + j) w 0 (λ e. omega arith)

pub write_at : (store : Store) (c i w : ℕ) (ws : List ℕ) → 5 * c + i < length store → word_at (write store c i (w ∷ ws)) c i ≡ w
write_at store c i w ws l =
    write_before (set store (5 * c + i) w) c (suc i) ws i (omega arith) ∙ get_or-set_same store (5 * c + i) w 0 l

-- the words of a cell are those that are held
abbrev pub Words : Store → (c i : ℕ) → List Held → Type 0
Words store c i [] = Unit {0}
Words store c i (h ∷ hs) = (word_at store c i ≡ word h) × Words store c (suc i) hs

pub written : (store : Store) (c i : ℕ) (hs : List Held) → 5 * c + (i + length hs) ≤ length store → Words (write store c i (map word hs)) c i hs
written store c i [] l = tt
written store c i (h ∷ hs) l =
    let q = length-set store (5 * c + i) (word h) in
    (write_at store c i (word h) (map word hs) (omega arith), written (set store (5 * c + i) (word h)) c (suc i) hs (omega arith))

module _ (cs : List Constructor) (store : Store) (A : List ℕ) where
  pub fresh_holds : {k : Kind} {h : Held} {v : Value} {F : List ℕ} → SlotHolds cs store A (fresh k) h v F → Holds cs store A k h v F
  fresh_holds (live u g) = g
  fresh_holds (used u q) = let z : ◌≡◌ {A = ℕ} 0 1 = cc in absurd (contradiction z)

  number_field : {c i : ℕ} {h : Held} {v : Value} {fs : Constructor} {vs : Values} {F F₁ F₂ : List ℕ} → Holds cs store A Kind.number h v F₁ → Split F F₁ F₂
      → word_at store c i ≡ word h → Fields cs store c (suc i) fs vs F₂ → Fields cs store c i (Sort.number ∷ fs) (more v vs) F
  number_field {c} {i} {fs} {vs} (Holds.number {n}) sp e f =
      subst (λ F. Fields cs store c i (Sort.number ∷ fs) (more (P.number n) vs) F) (sym (nothing_left sp)) (Fields.number e f)

  tree_field : {c i : ℕ} {h : Held} {v : Value} {fs : Constructor} {vs : Values} {F F₁ F₂ : List ℕ} → Holds cs store A Kind.owned h v F₁ → Split F F₁ F₂
      → word_at store c i ≡ word h → Fields cs store c (suc i) fs vs F₂ → Fields cs store c i (Sort.tree ∷ fs) (more v vs) F
  tree_field {v} {F₁} (Holds.owned t) sp e f = Fields.tree sp (subst (λ n. Tree cs store n v F₁) (sym e) t) f

  pub built : (fs : List Sort) {c i : ℕ} {hs : List Held} {vs : List Value} {F : List ℕ}
      → Match cs store A (map fresh (map kind_of (map mode_owned fs))) hs vs F → Words store c i hs → Fields cs store c i fs (values vs) F
  built [] Match.last w = Fields.last
  built (Sort.number ∷ fs) (next sp g m) w = number_field (fresh_holds g) sp w.0 (built fs m w.1)
  built (Sort.tree ∷ fs) (next sp g m) w = tree_field (fresh_holds g) sp w.0 (built fs m w.1)

  pub made : {k r : ℕ} {s : Sort} {ss : Constructor} {vs : Values} {F F' : List ℕ} → get_or cs k [] ≡ s ∷ ss → length ss ≤ 3 → 5 * r + 5 ≤ length store
      → word_at store r 0 ≡ k → Split F (r ∷ []) F' → Fields cs store r 1 (s ∷ ss) vs F' → Tree cs store (65536 + r) (node k vs) F
  made {k} {r} {s} {ss} {vs} {F} {F'} e b l q sp f =
      let p : cell (65536 + r) ≡ r = omega arith in
      Tree.fork {w = 65536 + r} {k = k} {vs = vs} {s = s} {ss = ss} {F = F} {F' = F'} (le-ltb (65536 + r) 65536 (omega arith)) (rw p q) e b (omega arith) (rw p sp) (rw p f)
