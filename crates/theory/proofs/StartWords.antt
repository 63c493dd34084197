-- Words that are well formed: what they name, the cells that a list of them names, and that cells reached are cells found. Assumes nothing.
use Prim.Native.Nat.{ℕ, ◌+◌, ◌*◌, ◌≤◌, ◌<◌}
use mathlib.Core.Path.{◌≡◌, refl, sym, ap, ◌∙◌, subst}
use mathlib.Core.Logic.{◌⊎◌, inl, inr, ⊎_elim}
use mathlib.Core.List.{List, [], ◌∷◌}
use mathlib.Core.Bool.{Bool, true, false, not, ◌&&◌, ◌||◌, true≢false, false≢true}
use mathlib.Core.Option.{Option, none, some}
use native.Mathlib.Omega.{arith}
use lib.Dec.{ltb}
use lib.ListN.{length, get_or, get_elem?}
use borrow.Author.Tests.{ltb-true, lt-ltb, le-ltb, not-true, not-false}
use Rattle.meaning.specs.Syntax.{Sort, Constructor}
use Rattle.meaning.specs.Reading.{is_atom, is_node}
use Rattle.meaning.specs.Machine.{Store, cell, word_at}
use Rattle.meaning.specs.Walk.{count}
use Rattle.meaning.specs.Start.{any, holds, number_words, is_number, In, fields_at, cell_ok, word_ok, inside, named, kids, Reached, from, through}
use Rattle.theory.proofs.Wellread.{nth}
use Rattle.theory.proofs.Reached.{count_cons}
use Rattle.theory.proofs.StartCounting.{same?, le?, bool?, one_same, one_other}
use Rattle.theory.proofs.StartGraph.{Found, root, next, Way, single, more}

-- Booleans
pub and_both : (a b : Bool) → (a && b) ≡ true → (a ≡ true) × (b ≡ true)
and_both true b e = (refl, e)
and_both false b e = absurd (false≢true e)

pub or_cases : (a b : Bool) → (a || b) ≡ true → (a ≡ true) ⊎ (b ≡ true)
or_cases true b e = inl refl
or_cases false b e = inr e

pub or_neither : (a b : Bool) → (a || b) ≡ false → (a ≡ false) × (b ≡ false)
or_neither true b e = absurd (true≢false e)
or_neither false b e = (refl, e)

-- one of a list, or none
pub any_true : (p : ℕ → Bool) (l : List ℕ) → any p l ≡ true → (x : ℕ) × In x l × (p x ≡ true)
any_true p [] e = absurd (false≢true e)
any_true p (a ∷ l) e =
    ⊎_elim
    (λ (t : p a ≡ true). (a, omega (arith, count_cons a a l, one_same a a refl), t))
    (λ (t : any p l ≡ true). let r = any_true p l t in (r.0, omega (arith, count_cons r.0 a l, r.1), r.2))
    (or_cases (p a) (any p l) e)

pub any_false : (p : ℕ → Bool) (l : List ℕ) → any p l ≡ false → (x : ℕ) → In x l → p x ≡ false
any_false p [] e x i = absurd (omega arith)
any_false p (a ∷ l) e x i =
    let t = or_neither (p a) (any p l) e in
    ⊎_elim (λ (q : x ≡ a). ap p q ∙ t.0) (λ (q : x ≡ a → ⊥). any_false p l t.1 x (omega (arith, count_cons x a l, one_other x a q))) (same? x a)

-- a constructor that a test finds
held_atom : (cs : List Constructor) (k : ℕ) (o : Option Constructor) → get_elem? cs k ≡ o → holds o is_atom ≡ true → get_or cs k [] ≡ []
held_atom cs k none e h = absurd (false≢true h)
held_atom cs k (some []) e h = (nth cs k [] [] e).0
held_atom cs k (some (s ∷ ss)) e h = absurd (false≢true h)

held_node : (cs : List Constructor) (k : ℕ) (o : Option Constructor) → get_elem? cs k ≡ o → holds o is_node ≡ true → (s : Sort) × (ss : Constructor) × (get_or cs k [] ≡ s ∷ ss)
held_node cs k none e h = absurd (false≢true h)
held_node cs k (some []) e h = absurd (false≢true h)
held_node cs k (some (s ∷ ss)) e h = (s, ss, (nth cs k (s ∷ ss) [] e).0)

module _ (cs : List Constructor) (store : Store) where
  pub word_atom : (w : ℕ) → w < 65536 → word_ok cs store w ≡ holds (get_elem? cs w) is_atom
  word_atom w h = rw (lt-ltb w 65536 h, word_ok)

  pub word_cell : (w : ℕ) → 65536 ≤ w → word_ok cs store w ≡ cell_ok cs store (cell w)
  word_cell w h = rw (le-ltb w 65536 h, word_ok)

  -- an atom's word
  pub atom_fields : (w : ℕ) → w < 65536 → word_ok cs store w ≡ true → get_or cs w [] ≡ []
  atom_fields w h f = held_atom cs w (get_elem? cs w) refl (sym (word_atom w h) ∙ f)

  -- a cell that a well-formed word names
  pub record FineCell (c : ℕ) : Type 0 where
    pub stored : 5 * c < length store
    pub sort : Sort
    pub sorts : Constructor
    pub shape : fields_at cs store c ≡ sort ∷ sorts
    pub numbers : (n : ℕ) → In n (number_words store c 1 (fields_at cs store c)) → n < 65536

  pub fine_cell : (w : ℕ) → 65536 ≤ w → word_ok cs store w ≡ true → FineCell (cell w)
  fine_cell w h f =
      let c : ℕ = cell w in
      let a = and_both (ltb (5 * c) (length store)) (holds (get_elem? cs (word_at store c 0)) is_node && not (any (λ n. not (is_number n)) (number_words store c 1 (fields_at cs store c)))) (sym (word_cell w h) ∙ f) in
      let b = and_both (holds (get_elem? cs (word_at store c 0)) is_node) (not (any (λ n. not (is_number n)) (number_words store c 1 (fields_at cs store c)))) a.1 in
      let n = held_node cs (word_at store c 0) (get_elem? cs (word_at store c 0)) refl b.0 in
      record {
        stored = ltb-true (5 * c) (length store) a.0;
        sort = n.0;
        sorts = n.1;
        shape = n.2;
        numbers = λ x i. ltb-true x 65536 (not-false (is_number x)
            (any_false (λ n. not (is_number n)) (number_words store c 1 (fields_at cs store c)) (not-true _ b.1) x i));
      }

  cell_of : (x : ℕ) → cell (65536 + x) ≡ x
  cell_of x = omega arith

  pub fine_at : (x : ℕ) → word_ok cs store (65536 + x) ≡ true → FineCell x
  fine_at x f = subst FineCell (cell_of x) (fine_cell (65536 + x) (omega arith) f)

  -- the cells that some words name
  pick_named : (a b : Bool) (x y : List ℕ) → a ≡ false → b ≡ true → (elim (not a && b) as (λ _. List ℕ) [ true ↦ x | false ↦ y ]) ≡ x
  pick_named a b x y p q = rw (p, q)

  pick_bad : (a b : Bool) (x y : List ℕ) → a ≡ false → b ≡ false → (elim (not a && b) as (λ _. List ℕ) [ true ↦ x | false ↦ y ]) ≡ y
  pick_bad a b x y p q = rw (p, q)

  pick_atom : (a b : Bool) (x y : List ℕ) → a ≡ true → (elim (not a && b) as (λ _. List ℕ) [ true ↦ x | false ↦ y ]) ≡ y
  pick_atom a b x y p = rw p

  pub named_cell : (w : ℕ) (ws : List ℕ) → 65536 ≤ w → word_ok cs store w ≡ true → named cs store (w ∷ ws) ≡ cell w ∷ named cs store ws
  named_cell w ws h f = pick_named (ltb w 65536) (word_ok cs store w) _ _ (le-ltb w 65536 h) f

  pub named_bad : (w : ℕ) (ws : List ℕ) → 65536 ≤ w → word_ok cs store w ≡ false → named cs store (w ∷ ws) ≡ named cs store ws
  named_bad w ws h f = pick_bad (ltb w 65536) (word_ok cs store w) _ _ (le-ltb w 65536 h) f

  pub named_atom : (w : ℕ) (ws : List ℕ) → w < 65536 → named cs store (w ∷ ws) ≡ named cs store ws
  named_atom w ws h = pick_atom (ltb w 65536) (word_ok cs store w) _ _ (lt-ltb w 65536 h)

  -- a cell is named as often as its word stands there, where that is well formed
  pub count_fine : (d : ℕ) (ws : List ℕ) → word_ok cs store (65536 + d) ≡ true → count d (named cs store ws) ≡ count (65536 + d) ws
  count_fine d [] f = refl
  count_fine d (w ∷ ws) f =
      let r = count_fine d ws f in
      let o = count_cons (65536 + d) w ws in
      ⊎_elim
      (λ (h : 65536 ≤ w).
      ⊎_elim
      (λ (g : word_ok cs store w ≡ true).
      rw (named_cell w ws h g)
      (⊎_elim
      (λ (e : d ≡ cell w). omega (arith, count_cons d (cell w) (named cs store ws), one_same d (cell w) e, one_same (65536 + d) w (omega arith)))
      (λ (e : d ≡ cell w → ⊥). omega (arith, count_cons d (cell w) (named cs store ws), one_other d (cell w) e, one_other (65536 + d) w (λ q. e (omega arith))))
      (same? d (cell w))))
      (λ (g : word_ok cs store w ≡ false).
      rw (named_bad w ws h g)
      (omega (arith, one_other (65536 + d) w (λ q. true≢false (sym f ∙ ap (word_ok cs store) q ∙ g)))))
      (bool? (word_ok cs store w)))
      (λ (h : w < 65536). rw (named_atom w ws h) (omega (arith, one_other (65536 + d) w (λ q. omega arith))))
      (le? 65536 w)

  pub count_bad : (d : ℕ) (ws : List ℕ) → word_ok cs store (65536 + d) ≡ false → count d (named cs store ws) ≡ 0
  count_bad d [] f = refl
  count_bad d (w ∷ ws) f =
      let r = count_bad d ws f in
      ⊎_elim
      (λ (h : 65536 ≤ w).
      ⊎_elim
      (λ (g : word_ok cs store w ≡ true).
      let n : d ≡ cell w → ⊥ = λ e. (let q : 65536 + d ≡ w = omega arith in true≢false (sym g ∙ ap (word_ok cs store) (sym q) ∙ f)) in
      rw (named_cell w ws h g) (omega (arith, count_cons d (cell w) (named cs store ws), one_other d (cell w) n)))
      (λ (g : word_ok cs store w ≡ false). rw (named_bad w ws h g) r)
      (bool? (word_ok cs store w)))
      (λ (h : w < 65536). rw (named_atom w ws h) r)
      (le? 65536 w)

  is_fine : (x : ℕ) (ws : List ℕ) → 1 ≤ count x (named cs store ws) → (word_ok cs store (65536 + x) ≡ true) × In (65536 + x) ws
  is_fine x ws h =
      ⊎_elim
      (λ (f : word_ok cs store (65536 + x) ≡ true). (f, omega (arith, count_fine x ws f)))
      (λ (f : word_ok cs store (65536 + x) ≡ false). absurd (omega (arith, count_bad x ws f)))
      (bool? (word_ok cs store (65536 + x)))

  -- cells reached are cells found, both ways
  pub to_found : (ws : List ℕ) → {x : ℕ} → Reached cs store ws x → Found (kids cs store) (named cs store ws) x
  to_found ws (from {c = x} i f) = root x (omega (arith, count_fine x ws f))
  to_found ws (through {b} {c = x} r i f) = next b x (to_found ws r) (omega (arith, count_fine x (inside cs store b) f))

  pub to_reached : (ws : List ℕ) → {x : ℕ} → Found (kids cs store) (named cs store ws) x → Reached cs store ws x
  to_reached ws (root x p) = let q = is_fine x ws p in from q.1 q.0
  to_reached ws (next b x r p) = let q = is_fine x (inside cs store b) p in through (to_reached ws r) q.1 q.0

  pub to_way : (c : ℕ) → {x : ℕ} → Reached cs store (inside cs store c) x → Way (kids cs store) c x
  to_way c (from {c = x} i f) = single x (omega (arith, count_fine x (inside cs store c) f))
  to_way c (through {b} {c = x} r i f) = more b x (to_way c r) (omega (arith, count_fine x (inside cs store b) f))

  pub from_way : (c : ℕ) → {x : ℕ} → Way (kids cs store) c x → Reached cs store (inside cs store c) x
  from_way c (single x p) = let q = is_fine x (inside cs store c) p in from q.1 q.0
  from_way c (more b x w p) = let q = is_fine x (inside cs store b) p in through (from_way c w) q.1 q.0

  pub reached_fine : {ws : List ℕ} {x : ℕ} → Reached cs store ws x → word_ok cs store (65536 + x) ≡ true
  reached_fine (from i f) = f
  reached_fine (through r i f) = f

  pub reached_more : {v w : List ℕ} → ((x : ℕ) → In x v → In x w) → {x : ℕ} → Reached cs store v x → Reached cs store w x
  reached_more h (from {c = x} i f) = from (h (65536 + x) i) f
  reached_more h (through r i f) = through (reached_more h r) i f
