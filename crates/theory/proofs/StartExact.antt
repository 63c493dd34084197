-- The answer at the start, 20 to 24 or none, is the first of them whose statement holds, exactly. Assumes nothing.
use Prim.Native.Nat.{ℕ, ◌+◌, ◌%◌, ◌≤◌, ◌<◌}
use mathlib.Core.Path.{◌≡◌, refl, sym, ap, ◌∙◌}
use mathlib.Core.Logic.{◌⊎◌, inl, inr, ⊎_elim, ◌↔◌}
use mathlib.Core.List.{List, [], ◌∷◌}
use mathlib.Core.Bool.{Bool, true, false, not, ◌||◌, true≢false}
use native.Mathlib.Omega.{arith}
use lib.Dec.{eqb, ltb}
use lib.ListN.{length}
use borrow.Author.Tests.{eqb-true, eqb-false, ltb-true, ltb-false, not-true, not-false}
use Rattle.meaning.specs.Syntax.{Mode, Constructor, File}
use Rattle.meaning.specs.Outcome.{Outcome, ok, refuse}
use Rattle.meaning.specs.Machine.{Store, function_of}
use Rattle.meaning.specs.Walk.{count}
use Rattle.meaning.specs.Start.{any, is_number, In, word_ok, inside, Reached, Place, PlaceHolds, Malformed, Shared, Looped, owned_walk, all_walk, free_walk, chosen, is_numeric, is_owned, is_lent, first, start}
use Rattle.theory.proofs.Reached.{count_cons}
use Rattle.theory.proofs.StartCounting.{same?, le?}
use Rattle.theory.proofs.StartWords.{or_cases, or_neither, any_true, any_false, reached_fine}
use Rattle.theory.proofs.StartCells.{namings, all_done, cells_in, cells_out, owned_in, owned_out, met_all, loop_is, loop_not}
use Rattle.theory.proofs.StartPlaces.{some_place, at_some_place, two_places, two_namings}

-- the tree arguments, in the file's order, are the owned and the lent ones
abbrev pub is_tree : Mode → Bool
is_tree m = not (is_numeric m)

pub mixed : (ms : List Mode) (ws : List ℕ) (w : ℕ) → count w (chosen is_tree ms ws) ≡ count w (chosen is_owned ms ws) + count w (chosen is_lent ms ws)
mixed [] ws w = refl
mixed (m ∷ ms) [] w = refl
mixed (Mode.number ∷ ms) (x ∷ ws) w = mixed ms ws w
mixed (Mode.lent ∷ ms) (x ∷ ws) w = omega (arith, mixed ms ws w, count_cons w x (chosen is_tree ms ws), count_cons w x (chosen is_lent ms ws))
mixed (Mode.owned ∷ ms) (x ∷ ws) w = omega (arith, mixed ms ws w, count_cons w x (chosen is_tree ms ws), count_cons w x (chosen is_owned ms ws))

-- the tests, against what they stand for
module _ (cs : List Constructor) (store : Store) (numbers owned lent trees : List ℕ) (mixture : (w : ℕ) → count w trees ≡ count w owned + count w lent) (fits : length store ≤ 5120) where
  abbrev bad : ℕ → Bool
  bad w = not (word_ok cs store w)

  abbrev cells : List ℕ
  cells = (all_walk cs store owned lent).queue

  abbrev test_22 : Bool
  test_22 = any (λ w. not (is_number w)) numbers || (any bad owned || (any bad lent || any (λ c. any bad (inside cs store c)) cells))

  abbrev test_23 : Bool
  test_23 = any (λ c. ltb 1 (count c (all_walk cs store owned lent).seen)) (owned_walk cs store owned).queue

  abbrev test_24 : Bool
  test_24 = ltb (length (free_walk cs store owned lent).queue) (length cells)

  bad_argument : (w : ℕ) → In w trees → bad w ≡ true → Malformed cs store numbers trees
  bad_argument w i e = let p = some_place w trees i in inr (Place.argument p.0, w, PlaceHolds.argument p.1, not-true (word_ok cs store w) e)

  malformed_there : test_22 ≡ true → Malformed cs store numbers trees
  malformed_there e =
      ⊎_elim
      (λ (h : any (λ w. not (is_number w)) numbers ≡ true).
      let r = any_true (λ w. not (is_number w)) numbers h in
      inl (r.0, r.1, ltb-false r.0 65536 (not-true (is_number r.0) r.2)))
      (λ (h : (any bad owned || (any bad lent || any (λ c. any bad (inside cs store c)) cells)) ≡ true).
      ⊎_elim
      (λ (g : any bad owned ≡ true). let r = any_true bad owned g in bad_argument r.0 (omega (arith, mixture r.0, r.1)) r.2)
      (λ (g : (any bad lent || any (λ c. any bad (inside cs store c)) cells) ≡ true).
      ⊎_elim
      (λ (f : any bad lent ≡ true). let r = any_true bad lent f in bad_argument r.0 (omega (arith, mixture r.0, r.1)) r.2)
      (λ (f : any (λ c. any bad (inside cs store c)) cells ≡ true).
      let r = any_true (λ c. any bad (inside cs store c)) cells f in
      let s = any_true bad (inside cs store r.0) r.2 in
      let p = some_place s.0 (inside cs store r.0) s.1 in
      inr (Place.field r.0 p.0, s.0, PlaceHolds.field (cells_out cs store owned lent trees mixture fits r.0 r.1) p.1, not-true (word_ok cs store s.0) s.2))
      (or_cases (any bad lent) (any (λ c. any bad (inside cs store c)) cells) g))
      (or_cases (any bad owned) (any bad lent || any (λ c. any bad (inside cs store c)) cells) h))
      (or_cases (any (λ w. not (is_number w)) numbers) (any bad owned || (any bad lent || any (λ c. any bad (inside cs store c)) cells)) e)

  fine_word : (w : ℕ) → bad w ≡ false → word_ok cs store w ≡ false → ⊥
  fine_word w e f = true≢false (sym (not-false (word_ok cs store w) e) ∙ f)

  place_fine : (any bad owned ≡ false) × (any bad lent ≡ false) × (any (λ c. any bad (inside cs store c)) cells ≡ false)
      → {p : Place} {w : ℕ} → PlaceHolds cs store trees p w → bad w ≡ false
  place_fine t (PlaceHolds.argument {i} {w} e) =
      ⊎_elim
      (λ (o : 1 ≤ count w owned). any_false bad owned t.0 w o)
      (λ (o : count w owned < 1). any_false bad lent t.1 w (omega (arith, mixture w, at_some_place w trees i e)))
      (le? 1 (count w owned))
  place_fine t (PlaceHolds.field {b} {i} {w} r e) =
      any_false bad (inside cs store b) (any_false (λ c. any bad (inside cs store c)) cells t.2 b (cells_in cs store owned lent trees mixture fits r)) w (at_some_place w (inside cs store b) i e)

  malformed_not : test_22 ≡ false → Malformed cs store numbers trees → ⊥
  malformed_not e m =
      let a = or_neither (any (λ w. not (is_number w)) numbers) (any bad owned || (any bad lent || any (λ c. any bad (inside cs store c)) cells)) e in
      let b = or_neither (any bad owned) (any bad lent || any (λ c. any bad (inside cs store c)) cells) a.1 in
      let c = or_neither (any bad lent) (any (λ c. any bad (inside cs store c)) cells) b.1 in
      elim m [
        | inl n ↦ omega (arith, n.2, ltb-true n.0 65536 (not-false (is_number n.0) (any_false (λ w. not (is_number w)) numbers a.0 n.0 n.1)))
        | inr n ↦ fine_word n.1 (place_fine (b.0, c.0, c.1) n.2) n.3
      ]

  -- at most one naming, and not two places
  pub named_once : {c : ℕ} → (Shared cs store owned trees → ⊥) → Reached cs store owned c → namings cs store trees cells c ≤ 1
  named_once {c} n r =
      ⊎_elim
      (λ (h : namings cs store trees cells c ≤ 1). h)
      (λ (h : 1 < namings cs store trees cells c).
      absurd (n (
        c,
        r,
        two_places cs store trees cells (all_done cs store owned lent trees mixture fits).kept.once
            (λ x i. cells_in cs store owned lent trees mixture fits i) (cells_out cs store owned lent trees mixture fits) c (omega arith),
      )))
      (le? (namings cs store trees cells c) 1)

  shared_there : test_23 ≡ true → Shared cs store owned trees
  shared_there e =
      let r = any_true (λ c. ltb 1 (count c (all_walk cs store owned lent).seen)) (owned_walk cs store owned).queue e in
      let o = owned_out cs store owned lent trees mixture fits r.0 r.1 in
      let many : 2 ≤ namings cs store trees cells r.0 =
      omega (arith, ltb-true 1 (count r.0 (all_walk cs store owned lent).seen) r.2, met_all cs store owned lent trees mixture fits r.0 (reached_fine cs store o)) in (
        r.0,
        o,
        two_places cs store trees cells (all_done cs store owned lent trees mixture fits).kept.once
            (λ x i. cells_in cs store owned lent trees mixture fits i) (cells_out cs store owned lent trees mixture fits) r.0 many,
      )

  shared_not : test_23 ≡ false → Shared cs store owned trees → ⊥
  shared_not e s =
      let c : ℕ = s.0 in
      let i = owned_in cs store owned lent trees mixture fits s.1 in
      let t = any_false (λ c. ltb 1 (count c (all_walk cs store owned lent).seen)) (owned_walk cs store owned).queue e c i in
      omega (
        arith,
        ltb-false 1 (count c (all_walk cs store owned lent).seen) t,
        met_all cs store owned lent trees mixture fits c (reached_fine cs store s.1),
        two_namings cs store trees cells (all_done cs store owned lent trees mixture fits).kept.once
            (λ x i. cells_in cs store owned lent trees mixture fits i) (cells_out cs store owned lent trees mixture fits) c s.2.0 s.2.1 s.2.2 s.2.3 s.2.4,
      )

  pub looped_there : test_24 ≡ true → Looped cs store trees
  looped_there e = loop_is cs store owned lent trees mixture fits (ltb-true (length (free_walk cs store owned lent).queue) (length cells) e)

  pub looped_not : test_24 ≡ false → Looped cs store trees → ⊥
  looped_not e = loop_not cs store owned lent trees mixture fits (ltb-false (length (free_walk cs store owned lent).queue) (length cells) e)

-- the answers are different
abbrev numbered : Outcome (Unit {0}) → ℕ
numbered (ok u) = 0
numbered (refuse a p) = a

apart : (m n : ℕ) → (m ≡ n → ⊥) → ◌≡◌ {A = Outcome (Unit {0})} (refuse m 0) (refuse n 0) → ⊥
apart m n d e = d (ap numbered e)

not_ok : (n : ℕ) → 0 < n → ◌≡◌ {A = Outcome (Unit {0})} (refuse n 0) (ok tt) → ⊥
not_ok n l e = omega (arith, ap numbered e)

ok_not : (n : ℕ) → 0 < n → {r : Outcome (Unit {0})} → r ≡ ok tt → r ≡ refuse n 0 → ⊥
ok_not n l e q = not_ok n l (sym q ∙ e)

-- one cause after the other: the first that holds gives the answer
data Decides (cause : Type 0) (n : ℕ) (later : Outcome (Unit {0}) → Type 0) (r : Outcome (Unit {0})) : Type 0 where
  yes : cause → r ≡ refuse n 0 → Decides cause n later r
  no : (cause → ⊥) → later r → Decides cause n later r

decide : (b : Bool) (n : ℕ) (es : List (Bool × ℕ)) {cause : Type 0} {later : Outcome (Unit {0}) → Type 0}
    → (b ≡ true → cause) → (b ≡ false → cause → ⊥) → (b ≡ false → later (first es)) → Decides cause n later (first ((b, n) ∷ es))
unfolding first
decide true n es t f l = Decides.yes (t refl) refl
decide false n es t f l = Decides.no (f refl) (l refl)

first_none : first [] ≡ ok tt
unfolding first
first_none = refl

module _ {cause : Type 0} {n : ℕ} {later : Outcome (Unit {0}) → Type 0} {r : Outcome (Unit {0})} where
  exactly_here : (later r → r ≡ refuse n 0 → ⊥) → Decides cause n later r → (r ≡ refuse n 0) ↔ cause
  exactly_here o (Decides.yes c e) = (λ _. c, λ _. e)
  exactly_here o (Decides.no f l) = (λ e. absurd (o l e), λ c. absurd (f c))

  exactly_later : {goal : Outcome (Unit {0})} {rest : Type 0} → (refuse n 0 ≡ goal → ⊥) → (later r → (r ≡ goal) ↔ rest) → Decides cause n later r → (r ≡ goal) ↔ ((cause → ⊥) × rest)
  exactly_later o f (Decides.yes c e) = (λ q. absurd (o (sym e ∙ q)), λ p. absurd (p.0 c))
  exactly_later o f (Decides.no g l) = (λ q. (g, (f l).0 q), λ p. (f l).1 p.1)

  never : {goal : Outcome (Unit {0})} → (refuse n 0 ≡ goal → ⊥) → (later r → r ≡ goal → ⊥) → Decides cause n later r → r ≡ goal → ⊥
  never o f (Decides.yes c e) q = o (sym e ∙ q)
  never o f (Decides.no g l) q = f l q

exactly_none : {cause : Type 0} {n : ℕ} {r goal : Outcome (Unit {0})} → (refuse n 0 ≡ goal → ⊥) → Decides cause n (λ x. x ≡ goal) r → (r ≡ goal) ↔ (cause → ⊥)
exactly_none o (Decides.yes c e) = (λ q. absurd (o (sym e ∙ q)), λ p. absurd (p c))
exactly_none o (Decides.no g l) = (λ _. g, λ _. l)

module _ (file : File) (work : ℕ) (args : List ℕ) (store : Store) where
  abbrev cs : List Constructor
  cs = file.constructors

  abbrev modes : List Mode
  modes = (function_of file 0).parameters

  abbrev pub numbers_at : List ℕ
  numbers_at = chosen is_numeric modes args

  abbrev pub owned_at : List ℕ
  owned_at = chosen is_owned modes args

  abbrev pub trees_at : List ℕ
  trees_at = chosen is_tree modes args

  -- "store not a multiple of 5 words or over 5,120, or work area under 4,096 words"
  abbrev pub Unfit : Type 0
  Unfit = (length store % 5 ≡ 0 → ⊥) ⊎ ((5120 < length store) ⊎ (work < 4096))

  -- "wrong number of arguments"
  abbrev pub Miscounted : Type 0
  Miscounted = length args ≡ length modes → ⊥

  abbrev Order : Outcome (Unit {0}) → Type 0
  Order =
      Decides Unfit 20
      (Decides Miscounted 21
      (Decides (Malformed cs store numbers_at trees_at) 22
      (Decides (Shared cs store owned_at trees_at) 23
      (Decides (Looped cs store trees_at) 24 (λ r. r ≡ ok tt)))))

  unfit_there : (not (eqb (length store % 5) 0) || (ltb 5120 (length store) || ltb work 4096)) ≡ true → Unfit
  unfit_there e =
      ⊎_elim
      (λ (h : not (eqb (length store % 5) 0) ≡ true). inl (eqb-false (length store % 5) 0 (not-true _ h)))
      (λ (h : (ltb 5120 (length store) || ltb work 4096) ≡ true).
      ⊎_elim
      (λ (g : ltb 5120 (length store) ≡ true). inr (inl (ltb-true 5120 (length store) g)))
      (λ (g : ltb work 4096 ≡ true). inr (inr (ltb-true work 4096 g)))
      (or_cases (ltb 5120 (length store)) (ltb work 4096) h))
      (or_cases (not (eqb (length store % 5) 0)) (ltb 5120 (length store) || ltb work 4096) e)

  pub record Fit : Type 0 where
    pub whole : length store % 5 ≡ 0
    pub few : length store ≤ 5120
    pub room : 4096 ≤ work

  is_fit : (not (eqb (length store % 5) 0) || (ltb 5120 (length store) || ltb work 4096)) ≡ false → Fit
  is_fit e =
      let a = or_neither (not (eqb (length store % 5) 0)) (ltb 5120 (length store) || ltb work 4096) e in
      let b = or_neither (ltb 5120 (length store)) (ltb work 4096) a.1 in
      record {
        whole = eqb-true (length store % 5) 0 (not-false _ a.0);
        few = ltb-false 5120 (length store) b.0;
        room = ltb-false work 4096 b.1;
      }

  unfit_not : Fit → Unfit → ⊥
  unfit_not f (inl h) = h f.whole
  unfit_not f (inr (inl h)) = omega (arith, f.few)
  unfit_not f (inr (inr h)) = omega (arith, f.room)

  order : Order (start file work args store)
  unfolding start
  order =
      let lent : List ℕ = chosen is_lent modes args in
      let m = mixed modes args in
      decide _ 20 _ unfit_there (λ e. unfit_not (is_fit e)) (λ e.
      decide _ 21 _
      (λ h. eqb-false (length args) (length modes) (not-true _ h))
      (λ h n. n (eqb-true (length args) (length modes) (not-false _ h))) (λ _.
      decide _ 22 _
      (malformed_there cs store numbers_at owned_at lent trees_at m (is_fit e).few)
      (malformed_not cs store numbers_at owned_at lent trees_at m (is_fit e).few) (λ _.
      decide _ 23 _
      (shared_there cs store numbers_at owned_at lent trees_at m (is_fit e).few)
      (shared_not cs store numbers_at owned_at lent trees_at m (is_fit e).few) (λ _.
      decide _ 24 _
      (looped_there cs store numbers_at owned_at lent trees_at m (is_fit e).few)
      (looped_not cs store numbers_at owned_at lent trees_at m (is_fit e).few) (λ _. first_none)))))

  pub start_20 : (start file work args store ≡ refuse 20 0) ↔ Unfit
  start_20 =
      exactly_here
      (never (apart 21 20 (λ e. omega arith))
      (never (apart 22 20 (λ e. omega arith))
      (never (apart 23 20 (λ e. omega arith))
      (never (apart 24 20 (λ e. omega arith)) (ok_not 20 (omega arith))))))
      order

  pub start_21 : (start file work args store ≡ refuse 21 0) ↔ ((Unfit → ⊥) × Miscounted)
  start_21 =
      exactly_later (apart 20 21 (λ e. omega arith))
      (exactly_here
      (never (apart 22 21 (λ e. omega arith))
      (never (apart 23 21 (λ e. omega arith))
      (never (apart 24 21 (λ e. omega arith)) (ok_not 21 (omega arith))))))
      order

  pub start_22 : (start file work args store ≡ refuse 22 0) ↔ ((Unfit → ⊥) × ((Miscounted → ⊥) × Malformed cs store numbers_at trees_at))
  start_22 =
      exactly_later (apart 20 22 (λ e. omega arith))
      (exactly_later (apart 21 22 (λ e. omega arith))
      (exactly_here
      (never (apart 23 22 (λ e. omega arith))
      (never (apart 24 22 (λ e. omega arith)) (ok_not 22 (omega arith))))))
      order

  pub start_23 : (start file work args store ≡ refuse 23 0)
      ↔ ((Unfit → ⊥) × ((Miscounted → ⊥) × ((Malformed cs store numbers_at trees_at → ⊥) × Shared cs store owned_at trees_at)))
  start_23 =
      exactly_later (apart 20 23 (λ e. omega arith))
      (exactly_later (apart 21 23 (λ e. omega arith))
      (exactly_later (apart 22 23 (λ e. omega arith))
      (exactly_here (never (apart 24 23 (λ e. omega arith)) (ok_not 23 (omega arith))))))
      order

  pub start_24 : (start file work args store ≡ refuse 24 0)
      ↔ ((Unfit → ⊥) × ((Miscounted → ⊥) × ((Malformed cs store numbers_at trees_at → ⊥) × ((Shared cs store owned_at trees_at → ⊥) × Looped cs store trees_at))))
  start_24 =
      exactly_later (apart 20 24 (λ e. omega arith))
      (exactly_later (apart 21 24 (λ e. omega arith))
      (exactly_later (apart 22 24 (λ e. omega arith))
      (exactly_later (apart 23 24 (λ e. omega arith)) (exactly_here (ok_not 24 (omega arith))))))
      order

  pub start_ok : (start file work args store ≡ ok tt)
      ↔ ((Unfit → ⊥) × ((Miscounted → ⊥) × ((Malformed cs store numbers_at trees_at → ⊥) × ((Shared cs store owned_at trees_at → ⊥) × (Looped cs store trees_at → ⊥)))))
  start_ok =
      exactly_later (not_ok 20 (omega arith))
      (exactly_later (not_ok 21 (omega arith))
      (exactly_later (not_ok 22 (omega arith))
      (exactly_later (not_ok 23 (omega arith))
      (exactly_none (not_ok 24 (omega arith))))))
      order

  -- and there is no other answer
  pub start_answers : (start file work args store ≡ ok tt) ⊎ ((n : ℕ) × (20 ≤ n) × (n ≤ 24) × (start file work args store ≡ refuse n 0))
  start_answers = answered order
    where
      answered : {r : Outcome (Unit {0})} → Order r → (r ≡ ok tt) ⊎ ((n : ℕ) × (20 ≤ n) × (n ≤ 24) × (r ≡ refuse n 0))
      answered (Decides.yes c e) = inr (20, omega arith, omega arith, e)
      answered (Decides.no f (Decides.yes c e)) = inr (21, omega arith, omega arith, e)
      answered (Decides.no f (Decides.no g (Decides.yes c e))) = inr (22, omega arith, omega arith, e)
      answered (Decides.no f (Decides.no g (Decides.no h (Decides.yes c e)))) = inr (23, omega arith, omega arith, e)
      answered (Decides.no f (Decides.no g (Decides.no h (Decides.no i (Decides.yes c e))))) = inr (24, omega arith, omega arith, e)
      answered (Decides.no f (Decides.no g (Decides.no h (Decides.no i (Decides.no j e))))) = inl e

  -- what a start that is not refused has
  pub fit : (Unfit → ⊥) → Fit
  fit n =
      record {
        whole = ⊎_elim (λ (e : length store % 5 ≡ 0). e) (λ (e : length store % 5 ≡ 0 → ⊥). absurd (n (inl e))) (same? (length store % 5) 0);
        few = ⊎_elim (λ (e : length store ≤ 5120). e) (λ (e : 5120 < length store). absurd (n (inr (inl e)))) (le? (length store) 5120);
        room = ⊎_elim (λ (e : 4096 ≤ work). e) (λ (e : work < 4096). absurd (n (inr (inr e)))) (le? 4096 work);
      }

  pub counted : (Miscounted → ⊥) → length args ≡ length modes
  counted n = ⊎_elim (λ (e : length args ≡ length modes). e) (λ (e : length args ≡ length modes → ⊥). absurd (n e)) (same? (length args) (length modes))
