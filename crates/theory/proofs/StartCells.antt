-- The three walks of the start over a store: the cells that they queue, the namings that they meet, and the order in which no cell is held
-- back. Assumes nothing.
use Prim.Native.Nat.{ℕ, ◌+◌, ◌≤◌, ◌<◌}
use mathlib.Core.Path.{◌≡◌, refl, subst}
use mathlib.Core.Logic.{⊎_elim}
use mathlib.Core.List.{List, [], ◌∷◌, ◌++◌}
use mathlib.Core.Bool.{true, false}
use native.Mathlib.Omega.{arith}
use lib.ListN.{length}
use Rattle.meaning.specs.Syntax.{Constructor}
use Rattle.meaning.specs.Machine.{Store}
use Rattle.meaning.specs.Walk.{count, Walk, walk, visit, visits}
use Rattle.meaning.specs.Start.{In, word_ok, inside, named, kids, Reached, Looped, owned_walk, all_walk, free_walk}
use Rattle.theory.proofs.Reached.{count_append}
use Rattle.theory.proofs.StartCounting.{bool?, total, total_ext}
use Rattle.theory.proofs.StartGraph.{Found, root}
use Rattle.theory.proofs.StartWalk.{Drained}
use Rattle.theory.proofs.StartReached.{Done, begun, done_drained, with_roots, sound_visits, drain_done, complete, queued_found, found_more}
use Rattle.theory.proofs.StartPeel.{Ordered, drain_ordered, roots_ordered, loop_there, no_loop}
use Rattle.theory.proofs.StartWords.{count_fine, count_bad, to_found, to_reached, to_way, from_way, reached_fine, fine_at}

visits_append : (t : ℕ → ℕ) (s : Walk) (a b : List ℕ) → visits t s (a ++ b) ≡ visits t (visits t s a) b
unfolding visits
visits_append t s [] b = refl
visits_append t s (c ∷ a) b = visits_append t (visit t s c) a b

module _ (cs : List Constructor) (store : Store) where
  -- how many places name a cell: argument words, and tree fields of some cells
  abbrev pub namings : (trees cells : List ℕ) → ℕ → ℕ
  namings trees cells c = count (65536 + c) trees + total (λ b. count (65536 + c) (inside cs store b)) cells

  -- `trees` are the owned and the lent words, in some order
  module _ (owned lent trees : List ℕ) (mixed : (w : ℕ) → count w trees ≡ count w owned + count w lent) (fits : length store ≤ 5120) where
    abbrev children : ℕ → List ℕ
    children = kids cs store

    abbrev own : List ℕ
    own = named cs store owned

    abbrev loan : List ℕ
    loan = named cs store lent

    abbrev roots : List ℕ
    roots = own ++ loan

    small : {ws : List ℕ} {x : ℕ} → Reached cs store ws x → x < 1024
    small {x} r = omega (arith, (fine_at cs store x (reached_fine cs store r)).stored)

    small_from : (ws : List ℕ) (x : ℕ) → Found children (named cs store ws) x → x < 1024
    small_from ws x h = small (to_reached cs store ws h)

    named_both : (x : ℕ) → count x (named cs store trees) ≡ count x roots
    named_both x =
        ⊎_elim
        (λ (f : word_ok cs store (65536 + x) ≡ true).
        omega (arith, count_fine cs store x trees f, count_fine cs store x owned f, count_fine cs store x lent f, mixed (65536 + x), count_append x own loan))
        (λ (f : word_ok cs store (65536 + x) ≡ false).
        omega (arith, count_bad cs store x trees f, count_bad cs store x owned f, count_bad cs store x lent f, count_append x own loan))
        (bool? (word_ok cs store (65536 + x)))

    roots_trees : {x : ℕ} → Found children roots x → Reached cs store trees x
    roots_trees h = to_reached cs store trees (found_more children roots (named cs store trees) (λ y p. omega (arith, named_both y)) h)

    trees_roots : {x : ℕ} → Reached cs store trees x → Found children roots x
    trees_roots h = found_more children (named cs store trees) roots (λ y p. omega (arith, named_both y)) (to_found cs store trees h)

    small_roots : (x : ℕ) → Found children roots x → x < 1024
    small_roots x h = small (roots_trees h)

    pub owned_done : Done children (λ _. 1) own (owned_walk cs store owned)
    unfolding owned_walk
    owned_done =
        drain_done children (λ _. 1) own 1024 (small_from owned) 1024 0 (visits (λ _. 1) (walk [] []) own)
        (with_roots children (λ _. 1) [] 0 (walk [] []) own (begun children (λ _. 1)))
        (sound_visits children (λ _. 1) own (walk [] []) own (λ x p. absurd (omega arith)) (λ x p. root x p))
        (omega arith)

    abbrev all : Walk
    all = all_walk cs store owned lent

    abbrev pub free : Walk
    free = free_walk cs store owned lent

    pub all_done : Done children (λ _. 1) roots all
    unfolding all_walk
    all_done =
        let w = owned_walk cs store owned in
        drain_done children (λ _. 1) roots 1024 small_roots 1024 (length w.queue) (visits (λ _. 1) w loan)
        (with_roots children (λ _. 1) own (length w.queue) w loan (done_drained children (λ _. 1) own w owned_done))
        (sound_visits children (λ _. 1) roots w loan
        (λ x p. found_more children own roots (λ y q. omega (arith, count_append y own loan)) (owned_done.sound x p))
        (λ x p. root x (omega (arith, count_append x own loan))))
        (omega arith)

    -- the second walk: each cell at its last naming
    abbrev last : ℕ → ℕ
    last = λ c. count c all.seen

    abbrev begin : Walk
    begin = visits last (visits last (walk [] []) own) loan

    free_start : Drained children last roots 0 begin
    free_start = with_roots children last own 0 (visits last (walk [] []) own) loan (with_roots children last [] 0 (walk [] []) own (begun children last))

    free_sound : (x : ℕ) → 1 ≤ count x begin.seen → Found children roots x
    free_sound =
        sound_visits children last roots (visits last (walk [] []) own) loan
        (sound_visits children last roots (walk [] []) own (λ x p. absurd (omega arith)) (λ x p. root x (omega (arith, count_append x own loan))))
        (λ x p. root x (omega (arith, count_append x own loan)))

    pub free_done : Done children last roots free
    unfolding free_walk
    free_done = drain_done children last roots 1024 small_roots 1024 0 begin free_start free_sound (omega arith)

    pub free_ordered : Ordered children all.queue free.queue
    unfolding free_walk
    free_ordered =
        drain_ordered children roots all all_done 1024 0 begin free_start
        (subst (λ (w : Walk). Ordered children all.queue w.queue) (visits_append last (walk [] []) own loan) (roots_ordered children roots all all_done))

    -- the cells queued are the cells reached
    abbrev pub cells : List ℕ
    cells = all.queue

    pub cells_in : {x : ℕ} → Reached cs store trees x → In x cells
    cells_in h = complete children (λ _. 1) roots 1024 small_roots all all_done (λ x. refl) (trees_roots h)

    pub cells_out : (x : ℕ) → In x cells → Reached cs store trees x
    cells_out x i = roots_trees (queued_found children (λ _. 1) roots 1024 small_roots all all_done x i)

    pub owned_in : {x : ℕ} → Reached cs store owned x → In x (owned_walk cs store owned).queue
    owned_in h = complete children (λ _. 1) own 1024 (small_from owned) (owned_walk cs store owned) owned_done (λ x. refl) (to_found cs store owned h)

    pub owned_out : (x : ℕ) → In x (owned_walk cs store owned).queue → Reached cs store owned x
    owned_out x i = to_reached cs store owned (queued_found children (λ _. 1) own 1024 (small_from owned) (owned_walk cs store owned) owned_done x i)

    -- the namings met are the namings there are
    pub met_all : (x : ℕ) → word_ok cs store (65536 + x) ≡ true → count x all.seen ≡ namings trees cells x
    met_all x f =
        omega (
          arith,
          all_done.all x,
          count_append x own loan,
          count_fine cs store x owned f,
          count_fine cs store x lent f,
          mixed (65536 + x),
          total_ext (λ d. count x (children d)) (λ b. count (65536 + x) (inside cs store b)) cells (λ d. count_fine cs store x (inside cs store d) f),
        )

    -- a shorter second queue: a cell that reaches itself
    pub loop_is : length free.queue < length cells → Looped cs store trees
    loop_is h =
        let r = loop_there children roots all free all_done free_done h in
        (r.0, cells_out r.0 r.1, from_way cs store r.0 r.2)

    pub loop_not : length cells ≤ length free.queue → Looped cs store trees → ⊥
    loop_not h l = no_loop children roots all free all_done free_done free_ordered h l.0 (cells_in l.1) (to_way cs store l.0 l.2)
