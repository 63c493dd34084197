-- A cell is named at least twice exactly where two different places name it. Assumes nothing.
use Prim.Native.Nat.{ℕ, zero, suc, ◌+◌, ◌≤◌, ◌<◌}
use mathlib.Core.Path.{◌≡◌, refl, sym, ap, subst}
use mathlib.Core.Logic.{◌⊎◌, inl, inr, ⊎_elim}
use mathlib.Core.List.{List, [], ◌∷◌}
use mathlib.Core.Option.{some, none-ne-some}
use native.Mathlib.Omega.{arith}
use lib.ListN.{get_elem?}
use Rattle.meaning.specs.Syntax.{Constructor}
use Rattle.meaning.specs.Machine.{Store}
use Rattle.meaning.specs.Walk.{count}
use Rattle.meaning.specs.Start.{In, inside, Reached, Place, PlaceHolds}
use Rattle.theory.proofs.Reached.{count_cons}
use Rattle.theory.proofs.StartCounting.{same?, le?, one_same, one_other, total, total_nil, total_cons, total_ge, total_both}
use Rattle.theory.proofs.StartCells.{namings}

-- a list has a number where it counts
pub some_place : (x : ℕ) (l : List ℕ) → In x l → (i : ℕ) × (get_elem? l i ≡ some x)
some_place x [] h = absurd (omega arith)
some_place x (y ∷ l) h =
    ⊎_elim
    (λ (e : x ≡ y). (0, ap some (sym e)))
    (λ (e : x ≡ y → ⊥). let r = some_place x l (omega (arith, count_cons x y l, one_other x y e)) in (suc r.0, r.1))
    (same? x y)

pub at_some_place : (x : ℕ) (l : List ℕ) (i : ℕ) → get_elem? l i ≡ some x → In x l
at_some_place x [] i e = absurd (none-ne-some x e)
at_some_place x (y ∷ l) zero e = omega (arith, count_cons x y l, one_same x y cc)
at_some_place x (y ∷ l) (suc i) e = omega (arith, count_cons x y l, at_some_place x l i e)

-- two places of a list
abbrev Twice : ℕ → List ℕ → Type 0
Twice x l = (i j : ℕ) × (i ≡ j → ⊥) × (get_elem? l i ≡ some x) × (get_elem? l j ≡ some x)

twice : (x : ℕ) (l : List ℕ) → 2 ≤ count x l → Twice x l
twice x [] h = absurd (omega arith)
twice x (y ∷ l) h =
    ⊎_elim
    (λ (e : x ≡ y). let r = some_place x l (omega (arith, count_cons x y l, one_same x y e)) in (0, suc r.0, (λ q. omega arith), ap some (sym e), r.1))
    (λ (e : x ≡ y → ⊥).
    let r = twice x l (omega (arith, count_cons x y l, one_other x y e)) in
    (suc r.0, suc r.1, (λ q. r.2 (omega arith)), r.3, r.4))
    (same? x y)

count_twice : (x : ℕ) (l : List ℕ) (i j : ℕ) → (i ≡ j → ⊥) → get_elem? l i ≡ some x → get_elem? l j ≡ some x → 2 ≤ count x l
count_twice x [] i j n p q = absurd (none-ne-some x p)
count_twice x (y ∷ l) zero zero n p q = absurd (n refl)
count_twice x (y ∷ l) zero (suc j) n p q = omega (arith, count_cons x y l, one_same x y cc, at_some_place x l j q)
count_twice x (y ∷ l) (suc i) zero n p q = omega (arith, count_cons x y l, one_same x y cc, at_some_place x l i p)
count_twice x (y ∷ l) (suc i) (suc j) n p q = omega (arith, count_cons x y l, count_twice x l i j (λ e. n (ap suc e)) p q)

-- a sum that counts: one member, or two, or one twice
some_one : (f : ℕ → ℕ) (l : List ℕ) → 1 ≤ total f l → (b : ℕ) × In b l × (1 ≤ f b)
some_one f [] h = absurd (omega (arith, total_nil f))
some_one f (a ∷ l) h =
    ⊎_elim
    (λ (p : 1 ≤ f a). (a, omega (arith, count_cons a a l, one_same a a refl), p))
    (λ (p : f a < 1). let r = some_one f l (omega (arith, total_cons f a l)) in (r.0, omega (arith, count_cons r.0 a l, r.1), r.2))
    (le? 1 (f a))

abbrev Two : (ℕ → ℕ) → List ℕ → Type 0
Two f l = ((b : ℕ) × In b l × (2 ≤ f b)) ⊎ ((b d : ℕ) × (b ≡ d → ⊥) × (In b l × (1 ≤ f b)) × (In d l × (1 ≤ f d)))

some_two : (f : ℕ → ℕ) (l : List ℕ) → ((x : ℕ) → count x l ≤ 1) → 2 ≤ total f l → Two f l
some_two f [] o h = absurd (omega (arith, total_nil f))
some_two f (a ∷ l) o h = at (some_two f l (λ x. omega (arith, o x, count_cons x a l)))
  where
    here : (x : ℕ) → In x l → In x (a ∷ l)
    here x i = omega (arith, count_cons x a l)

    first : In a (a ∷ l)
    first = omega (arith, count_cons a a l, one_same a a refl)

    other : (b : ℕ) → In b l → a ≡ b → ⊥
    other b i e = omega (arith, o b, count_cons b a l, one_same b a (sym e))

    later : Two f l → Two f (a ∷ l)
    later (inl r) = inl (r.0, here r.0 r.1, r.2)
    later (inr r) = inr (r.0, r.1, r.2, (here r.0 r.3.0, r.3.1), (here r.1 r.4.0, r.4.1))

    at : (2 ≤ total f l → Two f l) → Two f (a ∷ l)
    at ih =
        ⊎_elim
        (λ (p : 2 ≤ f a). inl (a, first, p))
        (λ (p : f a < 2).
        ⊎_elim
        (λ (q : 1 ≤ f a).
        let r = some_one f l (omega (arith, total_cons f a l)) in
        inr (a, r.0, other r.0 r.1, (first, q), (here r.0 r.1, r.2)))
        (λ (q : f a < 1). later (ih (omega (arith, total_cons f a l))))
        (le? 1 (f a)))
        (le? 2 (f a))

-- the parts of a place
abbrev is_argument : Place → ℕ
is_argument (Place.argument i) = 1
is_argument (Place.field b i) = 0

abbrev cell_of : Place → ℕ
cell_of (Place.argument i) = 0
cell_of (Place.field b i) = b

abbrev index_of : Place → ℕ
index_of (Place.argument i) = i
index_of (Place.field b i) = i

module _ (cs : List Constructor) (store : Store) (trees cells : List ℕ) (once : (x : ℕ) → count x cells ≤ 1)
    (ins : (x : ℕ) → Reached cs store trees x → In x cells) (outs : (x : ℕ) → In x cells → Reached cs store trees x) where
  abbrev pub NamedTwice : ℕ → Type 0
  NamedTwice c = (p q : Place) × (p ≡ q → ⊥) × PlaceHolds cs store trees p (65536 + c) × PlaceHolds cs store trees q (65536 + c)

  abbrev part : ℕ → ℕ → ℕ
  part c = λ b. count (65536 + c) (inside cs store b)

  -- a field that names the cell
  field_at : (c b : ℕ) → In b cells → 1 ≤ part c b → (i : ℕ) × PlaceHolds cs store trees (Place.field b i) (65536 + c)
  field_at c b i h = let r = some_place (65536 + c) (inside cs store b) h in (r.0, PlaceHolds.field (outs b i) r.1)

  fields_twice : (c : ℕ) → Two (part c) cells → NamedTwice c
  fields_twice c (inl r) =
      let t = twice (65536 + c) (inside cs store r.0) r.2 in
      let b = outs r.0 r.1 in
      (Place.field r.0 t.0, Place.field r.0 t.1, (λ e. t.2 (ap index_of e)), PlaceHolds.field b t.3, PlaceHolds.field b t.4)
  fields_twice c (inr r) =
      let x = field_at c r.0 r.3.0 r.3.1 in
      let y = field_at c r.1 r.4.0 r.4.1 in
      (Place.field r.0 x.0, Place.field r.1 y.0, (λ e. r.2 (ap cell_of e)), x.1, y.1)

  pub two_places : (c : ℕ) → 2 ≤ namings cs store trees cells c → NamedTwice c
  two_places c h =
      ⊎_elim
      (λ (p : 2 ≤ count (65536 + c) trees).
      let t = twice (65536 + c) trees p in
      (Place.argument t.0, Place.argument t.1, (λ e. t.2 (ap index_of e)), PlaceHolds.argument t.3, PlaceHolds.argument t.4))
      (λ (p : count (65536 + c) trees < 2).
      ⊎_elim
      (λ (q : 1 ≤ count (65536 + c) trees).
      let a = some_place (65536 + c) trees q in
      let b = some_one (part c) cells (omega arith) in
      let x = field_at c b.0 b.1 b.2 in
      (Place.argument a.0, Place.field b.0 x.0, (λ e. (let z : ◌≡◌ {A = ℕ} 1 0 = ap is_argument e in omega arith)), PlaceHolds.argument a.1, x.1))
      (λ (q : count (65536 + c) trees < 1). fields_twice c (some_two (part c) cells once (omega arith)))
      (le? 1 (count (65536 + c) trees)))
      (le? 2 (count (65536 + c) trees))

  pub two_namings : (c : ℕ) (p q : Place) → (p ≡ q → ⊥) → PlaceHolds cs store trees p (65536 + c) → PlaceHolds cs store trees q (65536 + c)
      → 2 ≤ namings cs store trees cells c
  two_namings c (Place.argument i) (Place.argument j) n (PlaceHolds.argument e) (PlaceHolds.argument f) =
      omega (arith, count_twice (65536 + c) trees i j (λ q. n (ap Place.argument q)) e f)
  two_namings c (Place.argument i) (Place.field b j) n (PlaceHolds.argument e) (PlaceHolds.field r f) =
      omega (arith, at_some_place (65536 + c) trees i e, at_some_place (65536 + c) (inside cs store b) j f, total_ge (part c) b cells (ins b r))
  two_namings c (Place.field b j) (Place.argument i) n (PlaceHolds.field r f) (PlaceHolds.argument e) =
      omega (arith, at_some_place (65536 + c) trees i e, at_some_place (65536 + c) (inside cs store b) j f, total_ge (part c) b cells (ins b r))
  two_namings c (Place.field b i) (Place.field d j) n (PlaceHolds.field r e) (PlaceHolds.field s f) =
      ⊎_elim
      (λ (q : b ≡ d).
      let g : get_elem? (inside cs store b) j ≡ some (65536 + c) = subst (λ x. get_elem? (inside cs store x) j ≡ some (65536 + c)) (sym q) f in
      omega (arith, count_twice (65536 + c) (inside cs store b) i j (λ z. n (λ k. Place.field (q k) (z k))) e g, total_ge (part c) b cells (ins b r)))
      (λ (q : b ≡ d → ⊥).
      omega (arith, at_some_place (65536 + c) (inside cs store b) i e, at_some_place (65536 + c) (inside cs store d) j f, total_both (part c) b d cells q (ins b r) (ins d s)))
      (same? b d)
