-- A start that is not refused has its arguments ready: they match the slots of function 0, each owned cell stands once, and the lent cells
-- are apart. Assumes nothing.
use Prim.Native.Nat.{ℕ, suc, ◌+◌, ◌*◌, ◌%◌, ◌≤◌, ◌<◌}
use mathlib.Core.Path.{◌≡◌, refl, sym, ap, ◌∙◌, subst}
use mathlib.Core.Logic.{inl, inr, ⊎_elim, ◌↔◌}
use mathlib.Core.List.{List, [], ◌++◌, map}
use mathlib.Core.Bool.{true, false}
use native.Mathlib.Omega.{arith}
use lib.ListN.{length, get_or}
use Rattle.meaning.specs.Syntax.{Mode, Constructor, File}
use Rattle.meaning.specs.Outcome.{ok}
use Rattle.meaning.specs.Ownership.{bind, kind_of}
use Rattle.meaning.specs.Derivation.{Has}
use Rattle.meaning.specs.Machine.{Store, cell, function_of}
use Rattle.meaning.specs.Walk.{count}
use Rattle.meaning.specs.Decode.{plain_args}
use Rattle.meaning.specs.Start.{In, fields_at, word_ok, inside, number_words, kids, named, Reached, from, through, Place, PlaceHolds, Malformed, Looped, all_walk, free_walk, chosen, is_numeric, is_owned, is_lent, start, begin}
use Rattle.meaning.specs.Verdict.{accepted}
use Rattle.theory.proofs.Splits.{has_cases}
use Rattle.theory.proofs.Rep.{Match}
use Rattle.theory.proofs.Sim.{Once}
use Rattle.theory.proofs.Wellread.{accepted_read}
use Rattle.theory.proofs.Reached.{count_append, has_count, count_has}
use Rattle.theory.proofs.StartCounting.{le?, bool?, total, total_append, total_ge, few}
use Rattle.theory.proofs.StartWords.{fine_at, reached_fine, reached_more}
use Rattle.theory.proofs.StartPeel.{all_out, closed, step_back}
use Rattle.theory.proofs.StartCells.{all_done, free_done, free_ordered, cells_in, cells_out, loop_is}
use Rattle.theory.proofs.StartPlaces.{some_place}
use Rattle.theory.proofs.StartTrees.{part, Grown, grow, word_of}
use Rattle.theory.proofs.StartExact.{is_tree, mixed, named_once, Fit, fit, counted, start_ok}
use Rattle.theory.proofs.StartReady.{once_by, Readied, readied, met_once}

-- what a start that is not refused gives: the cells of the owned arguments and those of the lent ones
pub record Started (file : File) (args : List ℕ) (store : Store) : Type 0 where
  pub owns : List ℕ
  pub lends : List ℕ
  pub match : Match file.constructors store lends (bind [] (map kind_of (function_of file 0).parameters)) (begin (function_of file 0).parameters args)
      (plain_args file.constructors store (function_of file 0).parameters args) owns
  pub once : Once owns
  pub apart : (c : ℕ) → Has c lends → Has c owns → ⊥
  -- they are the cells reached
  pub owns_are : (c : ℕ) → Has c owns ↔ Reached file.constructors store (chosen is_owned (function_of file 0).parameters args) c
  pub lends_are : (c : ℕ) → Has c lends ↔ Reached file.constructors store (chosen is_lent (function_of file 0).parameters args) c
  -- each lies in the store, and has numbers where numbers are due
  pub stored : (c : ℕ) → Reached file.constructors store (chosen is_tree (function_of file 0).parameters args) c → 5 * c + 5 ≤ length store
  pub numbers : (n : ℕ) → In n (chosen is_numeric (function_of file 0).parameters args) → n < 65536
  pub fields : (c n : ℕ) → Reached file.constructors store (chosen is_tree (function_of file 0).parameters args) c
      → In n (number_words store c 1 (fields_at file.constructors store c)) → n < 65536

module _ (cs : List Constructor) (store : Store) (numbers owned lent trees : List ℕ) (mixture : (w : ℕ) → count w trees ≡ count w owned + count w lent)
    (fits : length store ≤ 5120) (whole : length store % 5 ≡ 0) (arity : (k : ℕ) → length (get_or cs k []) ≤ 4)
    (formed : Malformed cs store numbers trees → ⊥) (unlooped : Looped cs store trees → ⊥) where
  abbrev cells : List ℕ
  cells = (all_walk cs store owned lent).queue

  abbrev roots : List ℕ
  roots = named cs store owned ++ named cs store lent

  abbrev order : List ℕ
  order = (free_walk cs store owned lent).queue

  -- no malformed word
  at_place : {p : Place} {w : ℕ} → PlaceHolds cs store trees p w → word_ok cs store w ≡ true
  at_place {p} {w} h =
      ⊎_elim (λ (e : word_ok cs store w ≡ true). e) (λ (e : word_ok cs store w ≡ false). absurd (formed (inr (p, w, h, e)))) (bool? (word_ok cs store w))

  argument_fine : (w : ℕ) → In w trees → word_ok cs store w ≡ true
  argument_fine w i = let p = some_place w trees i in at_place (PlaceHolds.argument p.1)

  field_fine : (b v : ℕ) → In b cells → In v (inside cs store b) → word_ok cs store v ≡ true
  field_fine b v i j = let p = some_place v (inside cs store b) j in at_place (PlaceHolds.field (cells_out cs store owned lent trees mixture fits b i) p.1)

  small_number : (n : ℕ) → In n numbers → n < 65536
  small_number n i = ⊎_elim (λ (h : 65536 ≤ n). absurd (formed (inl (n, i, h)))) (λ (h : n < 65536). h) (le? 65536 n)

  -- nothing is held back
  calm : length cells ≤ length order
  calm =
      ⊎_elim (λ (h : length cells ≤ length order). h) (λ (h : length order < length cells). absurd (unlooped (loop_is cs store owned lent trees mixture fits h)))
      (le? (length cells) (length order))

  in_store : {ws : List ℕ} {c : ℕ} → Reached cs store ws c → 5 * c + 5 ≤ length store
  in_store {ws} {c} r = omega (arith, (fine_at cs store c (reached_fine cs store r)).stored)

  short : length order ≤ length store
  short =
      let d = free_done cs store owned lent trees mixture fits in
      few (length store) order d.kept.once
      (λ x i. omega (
        arith,
        in_store (cells_out cs store owned lent trees mixture fits x
            ((all_done cs store owned lent trees mixture fits).kept.ins x (omega arith) (d.kept.outs x i).0)),
      ))

  grown : (w : ℕ) → In w trees → Grown cs store (suc (length store)) w
  grown w i =
      let a = all_done cs store owned lent trees mixture fits in
      let f = free_done cs store owned lent trees mixture fits in
      let s = all_walk cs store owned lent in
      let t = free_walk cs store owned lent in
      let g = grow cs store whole arity cells order field_fine (closed (kids cs store) roots s t a f) (all_out (kids cs store) roots s t a f calm)
      (step_back (kids cs store) roots s t a f (free_ordered cs store owned lent trees mixture fits)) (length order) 0 w (omega arith) (argument_fine w i)
      (λ l. (cells_in cs store owned lent trees mixture fits (from (subst (λ y. In y trees) (sym (word_of w l)) i) (ap (word_ok cs store) (word_of w l) ∙ argument_fine w i)), refl)) in
      record {
        value = g.value;
        cells = g.cells;
        stands = g.stands;
        read = λ k l. g.read k (omega (arith, short));
        counts = g.counts;
        within = g.within;
      }

-- cells that count as the words and they themselves name them are all that is reached
pub full : (cs : List Constructor) (store : Store) (words found : List ℕ) → ((x : ℕ) → count x found ≡ count (65536 + x) words + total (part cs store x) found)
    → {c : ℕ} → Reached cs store words c → In c found
full cs store words found h (from {c} i f) = omega (arith, h c)
full cs store words found h (through {b} {c} r i f) = omega (arith, h c, total_ge (part cs store c) b found (full cs store words found h r))

pub started : (file : File) (work : ℕ) (args : List ℕ) (store : Store) → ((k : ℕ) → length (get_or file.constructors k []) ≤ 4)
    → start file work args store ≡ ok tt → Started file args store
started file work args store arity e =
    record {
      owns = r.owns;
      lends = r.lends;
      match = r.match r.lends (λ c h. h);
      once = once_by r.owns (λ c. ⊎_elim (λ (h : 1 ≤ count c r.owns). omega (arith, met c h, count_append c r.owns r.lends)) (λ (h : count c r.owns < 1). omega arith) (le? 1 (count c r.owns)));
      apart = λ c h g. omega (arith, met c (has_count g), count_append c r.owns r.lends, has_count h, has_count g);
      owns_are = λ c. (own_in c, λ h. count_has c r.owns (full cs store owned r.owns r.own_counts h));
      lends_are = λ c. (lend_in c, λ h. count_has c r.lends (full cs store lent r.lends r.lend_counts h));
      stored = λ c h. in_store cs store numbers owned lent trees mix f.few f.whole arity formed unlooped h;
      numbers = small_number cs store numbers owned lent trees mix f.few f.whole arity formed unlooped;
      fields = λ c n h i. (fine_at cs store c (reached_fine cs store h)).numbers n i;
    }
  where
    cs : List Constructor
    cs = file.constructors

    ms : List Mode
    ms = (function_of file 0).parameters

    numbers : List ℕ
    numbers = chosen is_numeric ms args

    owned : List ℕ
    owned = chosen is_owned ms args

    lent : List ℕ
    lent = chosen is_lent ms args

    trees : List ℕ
    trees = chosen is_tree ms args

    mix : (w : ℕ) → count w trees ≡ count w owned + count w lent
    mix = mixed ms args

    f : Fit file work args store
    f = fit file work args store ((start_ok file work args store).0 e).0

    formed : Malformed cs store numbers trees → ⊥
    formed = ((start_ok file work args store).0 e).1.1.0

    unlooped : Looped cs store trees → ⊥
    unlooped = ((start_ok file work args store).0 e).1.1.1.1

    fine : (w : ℕ) → In w trees → word_ok cs store w ≡ true
    fine = argument_fine cs store numbers owned lent trees mix f.few f.whole arity formed unlooped

    r : Readied cs store ms args
    r = readied cs store ms args (counted file work args store ((start_ok file work args store).0 e).1.0) (grown cs store numbers owned lent trees mix f.few f.whole arity formed unlooped)

    -- a cell's word among some words
    is_from : (words : List ℕ) → ((v : ℕ) → In v words → In v trees) → (w : ℕ) → In w words → 65536 ≤ w → Reached cs store words (cell w)
    is_from words h w i l = from (subst (λ y. In y words) (sym (word_of w l)) i) (ap (word_ok cs store) (word_of w l) ∙ fine w (h w i))

    own_in : (c : ℕ) → Has c r.owns → Reached cs store owned c
    own_in = r.own_within owned (is_from owned (λ v i. omega (arith, mix v)))

    lend_in : (c : ℕ) → Has c r.lends → Reached cs store lent c
    lend_in = r.lend_within lent (is_from lent (λ v i. omega (arith, mix v)))

    in_all : (words : List ℕ) → ((v : ℕ) → In v words → In v trees) → {c : ℕ} → Reached cs store words c → In c (all_walk cs store owned lent).queue
    in_all words h q = cells_in cs store owned lent trees mix f.few (reached_more cs store h q)

    met_in : (c : ℕ) → In c (r.owns ++ r.lends) → In c (all_walk cs store owned lent).queue
    met_in c h = elim (has_cases r.owns (count_has c (r.owns ++ r.lends) h)) [
      | inl g ↦ in_all owned (λ v i. omega (arith, mix v)) (own_in c g)
      | inr g ↦ in_all lent (λ v i. omega (arith, mix v)) (lend_in c g)
    ]

    met : (c : ℕ) → 1 ≤ count c r.owns → count c (r.owns ++ r.lends) ≤ 1
    met c h =
        met_once cs store owned trees (all_walk cs store owned lent).queue (r.owns ++ r.lends)
        (λ x q. named_once cs store numbers owned lent trees mix f.few ((start_ok file work args store).0 e).1.1.1.0 q)
        (all_done cs store owned lent trees mix f.few).kept.once met_in (λ w. omega (arith, mix w)) (λ x q. in_all owned (λ v i. omega (arith, mix v)) q)
        (λ x. omega (arith, r.own_counts x, r.lend_counts x, mix (65536 + x), count_append x r.owns r.lends, total_append (part cs store x) r.owns r.lends))
        (own_in c (count_has c r.owns h))

-- for an accepted file
pub accepted_started : (bytes : List ℕ) (file : File) → accepted bytes ≡ ok file → (work : ℕ) (args : List ℕ) (store : Store)
    → start file work args store ≡ ok tt → Started file args store
accepted_started bytes file a work args store e = started file work args store (accepted_read bytes file a).small e
