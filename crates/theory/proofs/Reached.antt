-- The cells that a frame's slots stand for are those that are reached from its owned slots, with its credits. Assumes nothing.
use Prim.Native.Nat.{ℕ, zero, suc, ◌+◌, ◌≤◌}
use mathlib.Core.Bool.{Bool, true, false}
use mathlib.Core.List.{List, [], ◌∷◌, ◌++◌}
use mathlib.Core.Option.{Option, none, some}
use mathlib.Core.Path.{◌≡◌, refl, sym, ap, ◌∙◌, subst}
use native.Mathlib.Omega.{arith}
use lib.ListN.{get_or}
use lib.Dec.{ltb, eqb}
use borrow.Author.Tests.{eq-eqb, eqb-true, ltb-true, ltb-false, lt-ltb, le-ltb}
use Rattle.meaning.specs.Syntax.{Sort, Constructor}
use Rattle.meaning.specs.Ownership.{Kind, Slots, kind_owned}
use Rattle.meaning.specs.Derivation.{Split, left, right, Has, here, there}
use Rattle.meaning.specs.Plain.{Value, Values}
use Rattle.meaning.specs.Machine.{Held, Store, word, cell}
use Rattle.meaning.specs.Start.{inside, tree_words}
use Rattle.meaning.specs.Walk.{count}
use Rattle.meaning.specs.InPlace.{Reaches, owned_word, credited, of_slots, value_word, walk, with_cell}
use Rattle.theory.proofs.Splits.{has_split}
use Rattle.theory.proofs.Passing.{contradiction}
use Rattle.theory.proofs.Rep.{Tree, Fields, Holds, Match, next, live, used}
use Rattle.theory.proofs.Sim.{Once}

-- counting
abbrev pub one_if : Bool → ℕ
one_if true = 1
one_if false = 0

pub count_cons : (c x : ℕ) (xs : List ℕ) → count c (x ∷ xs) ≡ one_if (eqb c x) + count c xs
count_cons c x xs = go (eqb c x)
  where
    go : (b : Bool) → (elim b as (λ _. ℕ) [ true ↦ suc (count c xs) | false ↦ count c xs ]) ≡ one_if b + count c xs
    go true = omega arith
    go false = omega arith

pub count_append : (c : ℕ) (xs ys : List ℕ) → count c (xs ++ ys) ≡ count c xs + count c ys
count_append c [] ys = omega arith
count_append c (x ∷ xs) ys = omega (arith, count_cons c x (xs ++ ys), count_cons c x xs, count_append c xs ys)

pub count_split : (c : ℕ) {F F₁ F₂ : List ℕ} → Split F F₁ F₂ → count c F ≡ count c F₁ + count c F₂
count_split c Split.none = omega arith
count_split c (left {x} {Γ} {Γ₁} s) = omega (arith, count_cons c x Γ, count_cons c x Γ₁, count_split c s)
count_split c (right {x} {Γ} {Γ₂} s) = omega (arith, count_cons c x Γ, count_cons c x Γ₂, count_split c s)

pub has_count : {c : ℕ} {F : List ℕ} → Has c F → 1 ≤ count c F
has_count {c} (here {xs}) = let q : one_if (eqb c c) ≡ 1 = rw (eq-eqb c c refl) in omega (arith, count_cons c c xs)
has_count {c} (there {y} {xs} h) = omega (arith, count_cons c y xs, has_count h)

pub count_has : (c : ℕ) (F : List ℕ) → 1 ≤ count c F → Has c F
count_has c [] l = absurd (omega arith)
count_has c (x ∷ xs) l = go (λ h. count_has c xs h) (eqb c x) refl (omega (arith, count_cons c x xs))
  where
    go : (1 ≤ count c xs → Has c xs) → (b : Bool) → eqb c x ≡ b → 1 ≤ one_if (eqb c x) + count c xs → Has c (x ∷ xs)
    go ih true q h = subst (λ y. Has c (y ∷ xs)) (eqb-true c x q) here
    go ih false q h = let z : one_if (eqb c x) ≡ 0 = rw q in there (ih (omega arith))

pub once_count : (F : List ℕ) → Once F → (c : ℕ) → count c F ≤ 1
once_count F o c = go (count c F) refl
  where
    go : (n : ℕ) → count c F ≡ n → count c F ≤ 1
    go zero e = omega arith
    go (suc zero) e = omega arith
    go (suc (suc n)) e =
        let s = has_split (count_has c F (omega arith)) in
        absurd (o c s.0 s.1 (count_has c s.0 (omega (arith, count_split c s.1, count_cons c c [], e, one c))))
      where
        one : (x : ℕ) → one_if (eqb x x) ≡ 1
        one x = rw (eq-eqb x x refl)

-- what is reached, before the words that are left
pub record Before (cs : List Constructor) (store : Store) (ws : List ℕ) (F G : List ℕ) : Type 0 where
  pub cells : List ℕ
  pub reaches : Reaches cs store ws cells
  pub counts : (c : ℕ) → count c cells ≡ count c F + count c G

module _ (cs : List Constructor) (store : Store) where
  mutual
    pub tree_reached : {w : ℕ} {v : Value} {F : List ℕ} → Tree cs store w v F → (ws G : List ℕ) → Reaches cs store ws G → Before cs store (w ∷ ws) F G
    tree_reached (Tree.leaf {a} l e) ws G r = record { cells = G; reaches = Reaches.atom (ltb-true a 65536 l) r; counts = λ c. omega arith }
    tree_reached (Tree.fork {w} {k} {vs} {s} {ss} {F} {F'} l q e b i sp f) ws G r =
        let x = fields_reached f ws G r in
        let same : inside cs store (cell w) ≡ tree_words store (cell w) 1 (s ∷ ss) = ap (λ n. tree_words store (cell w) 1 (get_or cs n [])) q ∙ ap (λ d. tree_words store (cell w) 1 d) e in
        record {
          cells = cell w ∷ x.cells;
          reaches = Reaches.met (ltb-false w 65536 l) (subst (λ d. Reaches cs store (d ++ ws) x.cells) (sym same) x.reaches);
          counts = λ c. omega (arith, count_cons c (cell w) x.cells, count_cons c (cell w) [], count_split c sp, x.counts c);
        }

    pub fields_reached : {c i : ℕ} {ss : Constructor} {vs : Values} {F : List ℕ} → Fields cs store c i ss vs F → (ws G : List ℕ) → Reaches cs store ws G
        → Before cs store (tree_words store c i ss ++ ws) F G
    fields_reached Fields.last ws G r = record { cells = G; reaches = r; counts = λ c. omega arith }
    fields_reached (Fields.number e f) ws G r = fields_reached f ws G r
    fields_reached (Fields.tree {c} {i} {ss} sp t f) ws G r =
        let x = fields_reached f ws G r in
        let y = tree_reached t (tree_words store c (suc i) ss ++ ws) x.cells x.reaches in
        record { cells = y.cells; reaches = y.reaches; counts = λ d. omega (arith, count_split d sp, x.counts d, y.counts d) }

  -- the slots of a frame
  pub record SlotsBefore (hs : List Held) (ws F G : List ℕ) : Type 0 where
    pub cells : List ℕ
    pub reaches : Reaches cs store (of_slots owned_word hs ++ ws) cells
    pub counts : (c : ℕ) → count c cells + count c (of_slots credited hs) ≡ count c F + count c G

  module _ (A : List ℕ) where
    slot_reached : {k : Kind} {h : Held} {v : Value} {hs : List Held} {F F₁ F₂ : List ℕ} → Holds cs store A k h v F₁ → Split F F₁ F₂ → (ws G : List ℕ)
        → SlotsBefore hs ws F₂ G → SlotsBefore (h ∷ hs) ws F G
    slot_reached Holds.number sp ws G r = record { cells = r.cells; reaches = r.reaches; counts = λ c. omega (arith, r.counts c, count_split c sp) }
    slot_reached (Holds.lent t a) sp ws G r = record { cells = r.cells; reaches = r.reaches; counts = λ c. omega (arith, r.counts c, count_split c sp) }
    slot_reached {hs} (Holds.owned t) sp ws G r =
        let x = tree_reached t (of_slots owned_word hs ++ ws) r.cells r.reaches in
        record { cells = x.cells; reaches = x.reaches; counts = λ c. omega (arith, r.counts c, x.counts c, count_split c sp) }
    slot_reached {hs} (Holds.credit {c = d} i) sp ws G r =
        record {
          cells = r.cells;
          reaches = r.reaches;
          counts = λ c. omega (arith, r.counts c, count_split c sp, count_cons c d [], count_cons c d (of_slots credited hs));
        }

    pub slots_reached : {xs : Slots} {hs : List Held} {vs : List Value} {F : List ℕ} → Match cs store A xs hs vs F → (ws G : List ℕ) → Reaches cs store ws G
        → SlotsBefore hs ws F G
    slots_reached Match.last ws G r = record { cells = G; reaches = r; counts = λ c. omega arith }
    slots_reached (next sp (live u g) m) ws G r = slot_reached g sp ws G (slots_reached m ws G r)
    slots_reached (next {hs} {F} sp (used u e) m) ws G r =
        let x = slots_reached m ws G r in
        subst (λ h. SlotsBefore (h ∷ hs) ws F G) (sym e) (record { cells = x.cells; reaches = x.reaches; counts = λ c. omega (arith, x.counts c, count_split c sp) })

  -- a value
  pub value_reached : (sort : Sort) {A : List ℕ} {h : Held} {v : Value} {F : List ℕ} → Holds cs store A (kind_owned sort) h v F
      → Before cs store (value_word sort (word h)) F []
  value_reached Sort.number Holds.number = record { cells = []; reaches = Reaches.nothing; counts = λ c. omega arith }
  value_reached Sort.tree (Holds.owned t) = tree_reached t [] [] Reaches.nothing

  -- the list is determined
  pub one_list : {ws F G : List ℕ} → Reaches cs store ws F → Reaches cs store ws G → F ≡ G
  one_list Reaches.nothing Reaches.nothing = refl
  one_list (Reaches.atom l r) (Reaches.atom m s) = one_list r s
  one_list (Reaches.atom l r) (Reaches.met m s) = absurd (omega arith)
  one_list (Reaches.met l r) (Reaches.atom m s) = absurd (omega arith)
  one_list (Reaches.met {w} l r) (Reaches.met m s) = ap (λ x. cell w ∷ x) (one_list r s)

-- the walk finds it, and nothing else
pub walk_sound : (cs : List Constructor) (store : Store) (n : ℕ) (ws F : List ℕ) → walk cs store n ws ≡ some F → Reaches cs store ws F
unfolding walk
walk_sound cs store zero ws F e = let z : ◌≡◌ {A = ℕ} 0 1 = cc in absurd (contradiction z)
walk_sound cs store (suc n) [] F e = let q : [] ≡ F = cc in subst (λ x. Reaches cs store [] x) q Reaches.nothing
walk_sound cs store (suc n) (w ∷ ws) F e =
    go (ltb w 65536) refl (λ ws F e. walk_sound cs store n ws F e) e
  where
    inner : (o : Option (List ℕ)) → ((G : List ℕ) → o ≡ some G → Reaches cs store (inside cs store (cell w) ++ ws) G) → 65536 ≤ w → with_cell (cell w) o ≡ some F → Reaches cs store (w ∷ ws) F
    inner none ih l q = let z : ◌≡◌ {A = ℕ} 0 1 = cc in absurd (contradiction z)
    inner (some G) ih l q = let p : cell w ∷ G ≡ F = cc in subst (λ x. Reaches cs store (w ∷ ws) x) p (Reaches.met l (ih G refl))

    go : (b : Bool) → ltb w 65536 ≡ b → ((ws F : List ℕ) → walk cs store n ws ≡ some F → Reaches cs store ws F)
        → (elim b as (λ _. Option (List ℕ)) [ true ↦ walk cs store n ws | false ↦ with_cell (cell w) (walk cs store n (inside cs store (cell w) ++ ws)) ]) ≡ some F → Reaches cs store (w ∷ ws) F
    go true q ih h = Reaches.atom (ltb-true w 65536 q) (ih ws F h)
    go false q ih h = inner (walk cs store n (inside cs store (cell w) ++ ws)) (λ G p. ih (inside cs store (cell w) ++ ws) G p) (ltb-false w 65536 q) h

pub walk_complete : (cs : List Constructor) (store : Store) {ws F : List ℕ} → Reaches cs store ws F → (n : ℕ) × (walk cs store n ws ≡ some F)
unfolding walk
walk_complete cs store Reaches.nothing = (1, refl)
walk_complete cs store (Reaches.atom {w} {ws} l r) =
    let x = walk_complete cs store r in
    (suc x.0, rw (lt-ltb w 65536 l, walk) x.1)
walk_complete cs store (Reaches.met {w} {ws} {cells} l r) =
    let x = walk_complete cs store r in
    (suc x.0, rw (le-ltb w 65536 l, walk) (ap (λ o. with_cell (cell w) o) x.1))
