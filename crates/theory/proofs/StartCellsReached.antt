-- The cells that a run begins with, as listed in `RunsInPlace`, are those that are reached from the owned arguments, as 22 to 24 mean it.
-- Assumes nothing.
use Prim.Native.Nat.{ℕ, ◌+◌, ◌≤◌, ◌<◌}
use mathlib.Core.Path.{◌≡◌, refl, sym, ap, ◌∙◌, subst}
use mathlib.Core.Logic.{inr, ⊎_elim, ◌↔◌}
use mathlib.Core.List.{List}
use mathlib.Core.Bool.{true, false}
use native.Mathlib.Omega.{arith}
use Rattle.meaning.specs.Syntax.{Constructor, File}
use Rattle.meaning.specs.Outcome.{ok}
use Rattle.meaning.specs.Machine.{Store, cell, function_of}
use Rattle.meaning.specs.Walk.{count}
use Rattle.meaning.specs.Start.{In, word_ok, inside, Reached, from, through, PlaceHolds, Malformed, chosen, is_numeric, is_owned, start}
use Rattle.meaning.specs.InPlace.{Reaches, RunsInPlace}
use Rattle.theory.proofs.Reached.{count_cons, count_append}
use Rattle.theory.proofs.StartCounting.{same?, le?, bool?, one_same, one_other, total, total_nil, total_cons}
use Rattle.theory.proofs.StartWords.{reached_more}
use Rattle.theory.proofs.StartPlaces.{some_place}
use Rattle.theory.proofs.StartTrees.{part, word_of, named_one}
use Rattle.theory.proofs.StartExact.{is_tree, mixed, start_ok}
use Rattle.theory.proofs.Started.{full}

module _ (cs : List Constructor) (store : Store) where
  -- a list of the cells reached has each as often as it is named
  reaches_counts : {ws F : List ℕ} → Reaches cs store ws F → (x : ℕ) → count x F ≡ count (65536 + x) ws + total (part cs store x) F
  reaches_counts Reaches.nothing x = omega (arith, total_nil (part cs store x))
  reaches_counts (Reaches.atom {w} {ws} {cells} l r) x =
      omega (arith, reaches_counts r x, count_cons (65536 + x) w ws, one_other (65536 + x) w (λ e. omega arith))
  reaches_counts (Reaches.met {w} {ws} {cells} l r) x =
      omega (
        arith,
        reaches_counts r x,
        count_append (65536 + x) (inside cs store (cell w)) ws,
        count_cons x (cell w) cells,
        count_cons (65536 + x) w ws,
        named_one x w l,
        total_cons (part cs store x) (cell w) cells,
      )

  -- and where the words are well formed, each is reached
  reaches_reached : (words : List ℕ) → ((b v : ℕ) → Reached cs store words b → In v (inside cs store b) → word_ok cs store v ≡ true)
      → {ws F : List ℕ} → Reaches cs store ws F → ((w : ℕ) → In w ws → 65536 ≤ w → Reached cs store words (cell w)) → (c : ℕ) → In c F → Reached cs store words c
  reaches_reached words fine Reaches.nothing h c i = absurd (omega arith)
  reaches_reached words fine (Reaches.atom {w} {ws} l r) h c i = reaches_reached words fine r (λ v j m. h v (omega (arith, count_cons v w ws)) m) c i
  reaches_reached words fine (Reaches.met {w} {ws} {cells} l r) h c i =
      let top : Reached cs store words (cell w) = h w (omega (arith, count_cons w w ws, one_same w w refl)) l in
      ⊎_elim
      (λ (e : c ≡ cell w). subst (λ y. Reached cs store words y) (sym e) top)
      (λ (e : c ≡ cell w → ⊥).
      reaches_reached words fine r
      (λ v j m.
      ⊎_elim
      (λ (k : 1 ≤ count v (inside cs store (cell w))).
      through top (subst (λ y. In y (inside cs store (cell w))) (sym (word_of v m)) k) (ap (word_ok cs store) (word_of v m) ∙ fine (cell w) v top k))
      (λ (k : count v (inside cs store (cell w)) < 1). h v (omega (arith, count_cons v w ws, count_append v (inside cs store (cell w)) ws)) m)
      (le? 1 (count v (inside cs store (cell w)))))
      c (omega (arith, count_cons c (cell w) cells, one_other c (cell w) e)))
      (same? c (cell w))

pub start_cells : (file : File) (work : ℕ) (args : List ℕ) (store : Store) → start file work args store ≡ ok tt → (r : RunsInPlace file args store)
    → (c : ℕ) → In c r.start ↔ Reached file.constructors store (chosen is_owned (function_of file 0).parameters args) c
start_cells file work args store s r c = (
  reaches_reached cs store owned (λ b v q i. field_fine b v q i) r.reached (λ w i l. from (subst (λ y. In y owned) (sym (word_of w l)) i) (ap (word_ok cs store) (word_of w l) ∙ argument_fine w i)) c,
  λ q. full cs store owned r.start (reaches_counts cs store r.reached) q,
)
  where
    cs : List Constructor
    cs = file.constructors

    owned : List ℕ
    owned = chosen is_owned (function_of file 0).parameters args

    trees : List ℕ
    trees = chosen is_tree (function_of file 0).parameters args

    in_trees : (w : ℕ) → In w owned → In w trees
    in_trees w i = omega (arith, mixed (function_of file 0).parameters args w)

    formed : Malformed cs store (chosen is_numeric (function_of file 0).parameters args) trees → ⊥
    formed = ((start_ok file work args store).0 s).1.1.0

    argument_fine : (w : ℕ) → In w owned → word_ok cs store w ≡ true
    argument_fine w i =
        ⊎_elim (λ (e : word_ok cs store w ≡ true). e)
        (λ (e : word_ok cs store w ≡ false). let p = some_place w trees (in_trees w i) in absurd (formed (inr (_, w, PlaceHolds.argument p.1, e))))
        (bool? (word_ok cs store w))

    field_fine : (b v : ℕ) → Reached cs store owned b → In v (inside cs store b) → word_ok cs store v ≡ true
    field_fine b v q i =
        ⊎_elim (λ (e : word_ok cs store v ≡ true). e)
        (λ (e : word_ok cs store v ≡ false).
        let p = some_place v (inside cs store b) i in
        absurd (formed (inr (_, v, PlaceHolds.field (reached_more cs store in_trees q) p.1, e))))
        (bool? (word_ok cs store v))
