-- Arguments whose trees have grown match the slots of function 0, and a cell that is reached from an owned one is met once in all.
-- Assumes nothing.
use Prim.Native.Nat.{ℕ, suc, ◌+◌, ◌≤◌, ◌<◌}
use mathlib.Core.Path.{◌≡◌, refl, sym, ap, subst}
use mathlib.Core.Logic.{inl, inr, ⊎_elim}
use mathlib.Core.List.{List, [], ◌∷◌, ◌++◌, map}
use native.Mathlib.Omega.{arith}
use lib.ListN.{length}
use Rattle.meaning.specs.Syntax.{Mode, Constructor}
use Rattle.meaning.specs.Ownership.{fresh, kind_of}
use Rattle.meaning.specs.Derivation.{Has}
use Rattle.meaning.specs.Machine.{Store, cell}
use Rattle.meaning.specs.Walk.{count}
use Rattle.meaning.specs.Decode.{plain_args}
use Rattle.meaning.specs.Start.{In, Reached, from, through, chosen, is_owned, is_lent, begin}
use Rattle.theory.proofs.Splits.{all_right, has_left, has_right, has_cases}
use Rattle.theory.proofs.Counting.{nowhere}
use Rattle.theory.proofs.Rep.{Tree, Holds, Match, next, live}
use Rattle.theory.proofs.Sim.{Once}
use Rattle.theory.proofs.Reached.{count_cons, count_append, count_split, has_count}
use Rattle.theory.proofs.StartCounting.{same?, le?, one_same, total, total_nil, total_append, total_le, total_ge, total_both}
use Rattle.theory.proofs.StartCells.{namings}
use Rattle.theory.proofs.StartTrees.{part, Grown, beside}
use Rattle.theory.proofs.StartExact.{is_tree}

pub once_by : (F : List ℕ) → ((c : ℕ) → count c F ≤ 1) → Once F
once_by F h c F' sp m = omega (arith, h c, count_split c sp, count_cons c c [], one_same c c refl, has_count m)

module _ (cs : List Constructor) (store : Store) where
  -- the arguments from some place on: the cells of the owned trees and those of the lent trees, as often as they are met
  pub record Readied (ms : List Mode) (ws : List ℕ) : Type 0 where
    pub owns : List ℕ
    pub lends : List ℕ
    pub match : (A : List ℕ) → ((c : ℕ) → Has c lends → Has c A) → Match cs store A (map fresh (map kind_of ms)) (begin ms ws) (plain_args cs store ms ws) owns
    pub own_counts : (x : ℕ) → count x owns ≡ count (65536 + x) (chosen is_owned ms ws) + total (part cs store x) owns
    pub lend_counts : (x : ℕ) → count x lends ≡ count (65536 + x) (chosen is_lent ms ws) + total (part cs store x) lends
    pub own_within : (words : List ℕ) → ((w : ℕ) → In w (chosen is_owned ms ws) → 65536 ≤ w → Reached cs store words (cell w)) → (x : ℕ) → Has x owns → Reached cs store words x
    pub lend_within : (words : List ℕ) → ((w : ℕ) → In w (chosen is_lent ms ws) → 65536 ≤ w → Reached cs store words (cell w)) → (x : ℕ) → Has x lends → Reached cs store words x

  in_first : (w : ℕ) (ws : List ℕ) → In w (w ∷ ws)
  in_first w ws = omega (arith, count_cons w w ws, one_same w w refl)

  in_later : (v w : ℕ) (ws : List ℕ) → In v ws → In v (w ∷ ws)
  in_later v w ws h = omega (arith, count_cons v w ws)

  pub readied : (ms : List Mode) (ws : List ℕ) → length ws ≡ length ms → ((w : ℕ) → In w (chosen is_tree ms ws) → Grown cs store (suc (length store)) w) → Readied ms ws
  readied [] ws e g =
      record {
        owns = [];
        lends = [];
        match = λ A h. Match.last;
        own_counts = λ x. omega (arith, total_nil (part cs store x));
        lend_counts = λ x. omega (arith, total_nil (part cs store x));
        own_within = λ words f x h. absurd (nowhere h);
        lend_within = λ words f x h. absurd (nowhere h);
      }
  readied (m ∷ ms) [] e g = absurd (omega arith)
  readied (Mode.number ∷ ms) (w ∷ ws) e g =
      let r = readied ms ws (omega arith) g in
      record {
        owns = r.owns;
        lends = r.lends;
        match = λ A h. next (all_right r.owns) (live refl Holds.number) (r.match A h);
        own_counts = r.own_counts;
        lend_counts = r.lend_counts;
        own_within = r.own_within;
        lend_within = r.lend_within;
      }
  readied (Mode.lent ∷ ms) (w ∷ ws) e g =
      let rest : List ℕ = chosen is_lent ms ws in
      let t = g w (in_first w (chosen is_tree ms ws)) in
      let r = readied ms ws (omega arith) (λ v h. g v (in_later v w (chosen is_tree ms ws) h)) in
      record {
        owns = r.owns;
        lends = t.cells ++ r.lends;
        match = λ A h. next (all_right r.owns) (live refl (Holds.lent
            (subst (λ v. Tree cs store w v t.cells) (sym (t.read (suc (length store)) (omega arith))) t.stands)
            (λ c i. h c (has_left r.lends i)))) (r.match A (λ c i. h c (has_right t.cells i)));
        own_counts = r.own_counts;
        lend_counts = λ x.
            omega (
              arith,
              count_append x t.cells r.lends,
              t.counts x,
              r.lend_counts x,
              count_cons (65536 + x) w [],
              count_cons (65536 + x) w rest,
              total_append (part cs store x) t.cells r.lends,
            );
        own_within = r.own_within;
        lend_within = λ words f x h. elim (has_cases t.cells h) [
          | inl i ↦ t.within words (λ l. f w (in_first w rest) l) x i
          | inr i ↦ r.lend_within words (λ v j l. f v (in_later v w rest j) l) x i
        ];
      }
  readied (Mode.owned ∷ ms) (w ∷ ws) e g =
      let rest : List ℕ = chosen is_owned ms ws in
      let t = g w (in_first w (chosen is_tree ms ws)) in
      let r = readied ms ws (omega arith) (λ v h. g v (in_later v w (chosen is_tree ms ws) h)) in
      record {
        owns = t.cells ++ r.owns;
        lends = r.lends;
        match = λ A h. next (beside t.cells r.owns) (live refl (Holds.owned
            (subst (λ v. Tree cs store w v t.cells) (sym (t.read (suc (length store)) (omega arith))) t.stands))) (r.match A h);
        own_counts = λ x.
            omega (
              arith,
              count_append x t.cells r.owns,
              t.counts x,
              r.own_counts x,
              count_cons (65536 + x) w [],
              count_cons (65536 + x) w rest,
              total_append (part cs store x) t.cells r.owns,
            );
        lend_counts = r.lend_counts;
        own_within = λ words f x h. elim (has_cases t.cells h) [
          | inl i ↦ t.within words (λ l. f w (in_first w rest) l) x i
          | inr i ↦ r.own_within words (λ v j l. f v (in_later v w rest j) l) x i
        ];
        lend_within = r.lend_within;
      }

  -- a cell that is reached from an owned argument is met once in all
  module _ (owned trees reached met : List ℕ) (named_once : (c : ℕ) → Reached cs store owned c → namings cs store trees reached c ≤ 1)
      (once : (x : ℕ) → count x reached ≤ 1) (in_reached : (x : ℕ) → In x met → In x reached) (in_trees : (w : ℕ) → count w owned ≤ count w trees)
      (owned_reached : (c : ℕ) → Reached cs store owned c → In c reached)
      (counts : (x : ℕ) → count x met ≡ count (65536 + x) trees + total (part cs store x) met) where
    at_most : (c : ℕ) → ((d : ℕ) → 1 ≤ part cs store c d → count d met ≤ count d reached) → Reached cs store owned c → count c met ≤ 1
    at_most c h r = omega (arith, counts c, total_le (part cs store c) met reached h, named_once c r)

    pub met_once : {c : ℕ} → Reached cs store owned c → count c met ≤ 1
    met_once (from {c} i f) =
        at_most c (λ d p.
        ⊎_elim
        (λ (q : 1 ≤ count d met). absurd (omega (arith, named_once c (from i f), in_trees (65536 + c), total_ge (part cs store c) d reached (in_reached d q))))
        (λ (q : count d met < 1). omega arith)
        (le? 1 (count d met))) (from i f)
    met_once (through {b} {c} r i f) =
        let ih = met_once r in
        let ib = owned_reached b r in
        at_most c (λ d p.
        ⊎_elim
        (λ (q : 1 ≤ count d met).
        ⊎_elim
        (λ (e : d ≡ b).
        let x : count d met ≡ count b met = ap (λ y. count y met) e in
        let y : count d reached ≡ count b reached = ap (λ y. count y reached) e in
        omega arith)
        (λ (e : d ≡ b → ⊥). absurd (omega (arith, named_once c (through r i f), total_both (part cs store c) d b reached e (in_reached d q) ib)))
        (same? d b))
        (λ (q : count d met < 1). omega arith)
        (le? 1 (count d met))) (through r i f)
