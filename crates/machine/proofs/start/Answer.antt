-- What the code answers at the start is the meaning's answer. Assumes nothing.
use Rattle.std.proofs.Common.{◌≡◌, ℕ, zero, suc, ◌+◌, ◌*◌, ◌/◌, ◌%◌, ◌<◌, ◌≤◌, Bool, true, false, not, ◌||◌, eqb, ltb, leb, List, [], ◌∷◌, ◌++◌, length, get_or, drop, sym, refl, ap, ◌∙◌, subst, ap₂, ⊎_elim, true≢false, append_assoc, arith, length-append, drop-cons, ltb-false, le-ltb, lt-ltb, eq-eqb, le-leb}
use mathlib.Core.Bool.{false≢true}
use lib.ListN.{get_or-append}
use lib.Seq.{drop-append_seam}
use borrow.Author.Tests.{lt-leb}
use Rattle.meaning.specs.Choice.{pick}
use Rattle.meaning.specs.Syntax.{Mode, Constructor}
use Rattle.meaning.specs.Walk.{count, Walk, walk, visits, drain}
use Rattle.meaning.specs.Machine.{function_of}
use Rattle.meaning.specs.Start.{any, is_number, word_ok, inside, named, kids, owned_walk, all_walk, free_walk, chosen, is_numeric, is_owned, is_lent, first, start}
use Rattle.standing.specs.Bytes.{params_in}
use Rattle.standing.specs.Table.{Modes, mode_byte}
use Rattle.theory.proofs.Reached.{count_cons}
use Rattle.theory.proofs.StartCounting.{bool?, le?, count_at, one_same}
use Rattle.theory.proofs.StartWalk.{visits_grows}
use Rattle.theory.proofs.StartReached.{drain_grows}
use Rattle.theory.proofs.StartWords.{any_false}
use Rattle.machine.specs.StartWords.{word_fine, mode_at, number_arg, tree_arg, all_from}
use Rattle.machine.specs.StartArea.{Area, area, cleared, used_once, drain_at, drain_fine, args_fine, begun, fresh, reached, reached_fine, owned_area, owned_fine, all_area, all_fine, free_begun, free_area, free_fine, judged, answer_at, start_at, outcome, goal_of}
use Rattle.machine.proofs.start.Fine.{fine_cell}
use Rattle.machine.proofs.start.Fields.{and_or}
use Rattle.machine.proofs.start.Told.{Ground, word_is}
use Rattle.machine.proofs.start.Simulate.{Rep, Aim, or_not, chosen_in, chosen_out, drain_rep, drain_fine_lem, args_rep, begin_rep}
use Rattle.machine.proofs.start.Cleared.{cleared_length, cleared_zero, cleared_under}
use Rattle.machine.proofs.start.Single.{none_held, free_in}

-- a test of every index is a test of every element
all_any : (f p : ℕ → Bool) (q : List ℕ) (i : ℕ) → ((k : ℕ) → k < length q → f (i + k) ≡ not (p (get_or q k 0))) → all_from f (length q) i ≡ not (any p q)
unfolding all_from
all_any f p [] i h = refl
all_any f p (a ∷ q) i h =
    let z : i ≡ i + 0 = omega arith in
    let e : f i ≡ not (p a) = ap f z ∙ h 0 (omega arith) in
    let r : all_from f (length q) (suc i) ≡ not (any p q) = all_any f p q (suc i) (λ k l. (let s : suc i + k ≡ i + suc k = omega arith in ap f s ∙ h (suc k) (omega arith))) in
    ap₂ (λ x y. pick x y false) e r ∙ or_not (p a) (any p q)

any_append : (p : ℕ → Bool) (a b : List ℕ) → any p (a ++ b) ≡ (any p a || any p b)
any_append p [] b = refl
any_append p (x ∷ a) b = ap (λ r. p x || r) (any_append p a b) ∙ sym (or_assoc (p x) (any p a) (any p b))
  where
    or_assoc : (x y z : Bool) → ((x || y) || z) ≡ (x || (y || z))
    or_assoc true y z = refl
    or_assoc false y z = refl

none_any : (p : ℕ → Bool) (l : List ℕ) → ((x : ℕ) → 1 ≤ count x l → p x ≡ false) → any p l ≡ false
none_any p [] h = refl
none_any p (a ∷ l) h =
    ap₂ (λ x y. x || y) (h a (omega (arith, count_cons a a l, one_same a a refl))) (none_any p l (λ x i. h x (omega (arith, count_cons x a l))))

neither : (a b : Bool) → not (a || b) ≡ true → (a ≡ false) × (b ≡ false)
neither true b e = absurd (false≢true e)
neither false true e = absurd (false≢true e)
neither false false e = (refl, refl)

-- ---- the answer, by the tests
ends : (n o l q₁ q₂ v p u : Bool) → (p ≡ false → u ≡ false)
    → outcome (judged (not n) (not (o || q₁)) (not (l || q₂)) (not v) (not p) u)
    ≡ first ((n || (o || (l || (q₁ || q₂))), 22) ∷ (v, 23) ∷ (u, 24) ∷ [])
unfolding judged first pick
ends true o l q₁ q₂ v p u h = refl
ends false true l q₁ q₂ v p u h = refl
ends false false true true q₂ v p u h = refl
ends false false true false q₂ v p u h = refl
ends false false false true q₂ v p u h = refl
ends false false false false true v p u h = refl
ends false false false false false true p u h = refl
ends false false false false false false false true h = absurd (true≢false (h refl))
ends false false false false false false false false h = refl
ends false false false false false false true true h = refl
ends false false false false false false true false h = refl

skip : (b : Bool) (n : ℕ) (es : List (Bool × ℕ)) → b ≡ false → first ((b, n) ∷ es) ≡ first es
unfolding first
skip b n es e = rw e

numbered : (k : Mode) → eqb (mode_byte k) 0 ≡ is_numeric k
numbered Mode.number = refl
numbered Mode.lent = refl
numbered Mode.owned = refl

lent_mode : (k : Mode) → eqb (mode_byte k) 1 ≡ is_lent k
lent_mode Mode.number = refl
lent_mode Mode.lent = refl
lent_mode Mode.owned = refl

owned_mode : (k : Mode) → eqb (mode_byte k) 2 ≡ is_owned k
owned_mode Mode.number = refl
owned_mode Mode.lent = refl
owned_mode Mode.owned = refl

-- the arguments of a mode
module _ (bytes table args : List ℕ) (f ok : ℕ → Bool) (same : (w : ℕ) → f w ≡ ok w) (test : Mode → Bool) (mode : ℕ)
    (says : (k : Mode) → eqb (mode_byte k) mode ≡ test k) where
  args_any : (n i : ℕ) (ms : List Mode) → length ms ≡ n → i + n ≡ length args → Modes bytes (get_or table 64 0 / 256 + i) ms
      → all_from (λ j. pick (eqb (mode_at bytes table j) mode) (f (get_or args j 0)) true) n i ≡ not (any (λ w. not (ok w)) (chosen test ms (drop i args)))
  unfolding all_from pick
  args_any zero i [] e l o = refl
  args_any zero i (k ∷ ms) e l o = absurd (omega arith)
  args_any (suc n) i [] e l o = absurd (omega arith)
  args_any (suc n) i (k ∷ ms) e l o =
      let w = get_or args i 0 in
      let rest = chosen test ms (drop (suc i) args) in
      let p : get_or table 64 0 / 256 + i + 1 ≡ get_or table 64 0 / 256 + suc i = omega arith in
      let r = args_any n (suc i) ms (omega arith) (omega arith) (subst (λ q. Modes bytes q ms) p o.2) in
      let here : eqb (mode_at bytes table i) mode ≡ test k = ap (λ b. eqb b mode) o.0 ∙ says k in
      let d : drop i args ≡ w ∷ drop (suc i) args = drop-cons args i 0 (omega arith) in
      ⊎_elim
      (λ (q : test k ≡ true).
      let c : chosen test (k ∷ ms) (drop i args) ≡ w ∷ rest = ap (chosen test (k ∷ ms)) d ∙ chosen_in test k ms w (drop (suc i) args) q in
      ap₂ (λ x y. pick x y false) (ap (λ b. pick b (f w) true) (here ∙ q) ∙ same w) r ∙ and_or (ok w) (any (λ z. not (ok z)) rest) ∙ ap (λ m. not (any (λ z. not (ok z)) m)) (sym c))
      (λ (q : test k ≡ false).
      let c : chosen test (k ∷ ms) (drop i args) ≡ rest = ap (chosen test (k ∷ ms)) d ∙ chosen_out test k ms w (drop (suc i) args) q in
      ap₂ (λ x y. pick x y false) (ap (λ b. pick b (f w) true) (here ∙ q)) r ∙ ap (λ m. not (any (λ z. not (ok z)) m)) (sym c))
      (bool? (test k))

module _ (bytes table codes store args : List ℕ) (g : Ground bytes table codes store) where
  abbrev cs : List Constructor
  cs = g.file.constructors

  abbrev bad : ℕ → Bool
  bad w = not (word_ok cs store w)

  abbrev bad_cell : ℕ → Bool
  bad_cell c = any (λ w. not (word_ok cs store w)) (inside cs store c)

  module _ (work : List ℕ) (room : 4096 ≤ length work) (same : length args ≡ params_in table 0) where
    abbrev ms : List Mode
    ms = (function_of g.file 0).parameters

    abbrev numbers : List ℕ
    numbers = chosen is_numeric ms args

    abbrev owned : List ℕ
    owned = chosen is_owned ms args

    abbrev lent : List ℕ
    lent = chosen is_lent ms args

    many : length ms ≡ length args
    many = sym (same ∙ g.declared.parameters 0 g.declared.first)

    short : length args ≤ 8
    short = omega (arith, many, g.declared.few 0)

    listed : Modes bytes (get_or table 64 0 / 256 + 0) ms
    listed =
        let e : get_or table 64 0 / 256 ≡ get_or table 64 0 / 256 + 0 = omega arith in
        subst (λ p. Modes bytes p ms) e (g.declared.modes 0 g.declared.first)

    abbrev cells : ℕ
    cells = length store / 5

    few_cells : cells ≤ 1024
    few_cells = omega (arith, g.fits)

    in_cells : (x : ℕ) → 5 * x + 5 ≤ length store → x < cells
    in_cells x h = omega arith

    -- ---- the first walk
    abbrev w₀ : List ℕ
    w₀ = cleared 0 cells work

    abbrev once : ℕ → ℕ
    once = λ _. 1

    aim₀ : Aim store 0 w₀ once
    aim₀ = record { low = omega arith; room = omega (arith, cleared_length 0 cells work); goals = λ w h c l. unfold goal_of pick in refl }

    abbrev begin₀ : Rep codes store 0 w₀ once 0 (walk [] []) (area w₀ 0)
    begin₀ = begin_rep bytes table codes store g 0 w₀ once aim₀ (λ x h. cleared_zero 0 cells work x (omega (arith, few_cells)) (in_cells x h))

    owned_begun_lem : Rep codes store 0 w₀ once (0 + length args) (visits once (walk [] []) (named cs store owned)) (begun bytes table codes store args 0 2 (fresh bytes table codes store args 0 work))
    owned_begun_lem =
        args_rep bytes table codes store g 0 w₀ once aim₀ args is_owned 2 owned_mode (length args) 0 0 ms _ _ many (omega arith) listed (omega (arith, short)) begin₀

    owned_rep : Rep codes store 0 w₀ once (0 + length args + 4 * 1024) (owned_walk cs store owned) (owned_area bytes table codes store args work)
    unfolding owned_walk reached
    owned_rep = drain_rep bytes table codes store g 0 w₀ once aim₀ 1024 0 (0 + length args) _ _ (omega (arith, short)) owned_begun_lem

    abbrev ownedₐ : Area
    ownedₐ = owned_area bytes table codes store args work

    abbrev allₐ : Area
    allₐ = all_area bytes table codes store args ownedₐ

    abbrev freeₐ : Area
    freeₐ = free_area bytes table codes store args allₐ.work

    abbrev all_steps : ℕ
    all_steps = 0 + length args + 4 * 1024 + length args

    abbrev all_begins : Walk
    all_begins = visits once (owned_walk cs store owned) (named cs store lent)

    all_begun_lem : Rep codes store 0 w₀ once all_steps all_begins (begun bytes table codes store args 0 1 ownedₐ)
    all_begun_lem =
        args_rep bytes table codes store g 0 w₀ once aim₀ args is_lent 1 lent_mode (length args) 0 (0 + length args + 4 * 1024) ms (owned_walk cs store owned) ownedₐ many (omega arith) listed (omega (arith, short)) owned_rep

    all_rep : Rep codes store 0 w₀ once (all_steps + 4 * 1024) (all_walk cs store owned lent) allₐ
    unfolding all_walk reached
    all_rep =
        let h = length (owned_walk cs store owned).queue in
        subst (λ (k : ℕ). Rep codes store 0 w₀ once (all_steps + 4 * 1024) (drain (kids cs store) once 1024 h all_begins) (drain_at codes store 0 1024 k (begun bytes table codes store args 0 1 ownedₐ))) (sym owned_rep.tails)
        (drain_rep bytes table codes store g 0 w₀ once aim₀ 1024 h all_steps all_begins (begun bytes table codes store args 0 1 ownedₐ) (omega (arith, short)) all_begun_lem)

    -- ---- the second walk
    abbrev w₁ : List ℕ
    w₁ = allₐ.work

    abbrev w₂ : List ℕ
    w₂ = cleared 2048 cells w₁

    abbrev last : ℕ → ℕ
    last = λ c. count c (all_walk cs store owned lent).seen

    count₁ : (c : ℕ) → 5 * c + 5 ≤ length store → get_or w₁ c 0 ≡ last c
    count₁ c h = let e : c ≡ 0 + c = omega arith in ap (λ j. get_or w₁ j 0) e ∙ all_rep.counts c h

    long₁ : length w₁ ≡ length work
    long₁ = all_rep.long ∙ cleared_length 0 cells work

    aim₂ : Aim store 2048 w₂ last
    aim₂ =
        record {
          low = omega arith;
          room = omega (arith, cleared_length 2048 cells w₁, long₁);
          goals = λ w h c l.
              (let k : c < 2048 = omega (arith, g.fits) in
              unfold goal_of pick in (h c k ∙ cleared_under 2048 cells w₁ c k ∙ count₁ c l));
        }

    free_begun_lem : Rep codes store 2048 w₂ last (0 + length args + length args)
        (visits last (visits last (walk [] []) (named cs store owned)) (named cs store lent)) (free_begun bytes table codes store args w₁)
    free_begun_lem =
        args_rep bytes table codes store g 2048 w₂ last aim₂ args is_lent 1 lent_mode (length args) 0 (0 + length args) ms _ _ many (omega arith) listed (omega (arith, short))
        (args_rep bytes table codes store g 2048 w₂ last aim₂ args is_owned 2 owned_mode (length args) 0 0 ms _ _ many (omega arith) listed (omega (arith, short))
        (begin_rep bytes table codes store g 2048 w₂ last aim₂ (λ x h. cleared_zero 2048 cells w₁ x (omega (arith, few_cells, long₁)) (in_cells x h))))

    free_rep : Rep codes store 2048 w₂ last (0 + length args + length args + 4 * 1024) (free_walk cs store owned lent) freeₐ
    unfolding free_walk free_area
    free_rep = drain_rep bytes table codes store g 2048 w₂ last aim₂ 1024 0 (0 + length args + length args) _ _ (omega (arith, short)) free_begun_lem

    -- ---- the tests
    abbrev queue : List ℕ
    queue = (all_walk cs store owned lent).queue

    cell_fine : (k : ℕ) → k < length queue → word_fine codes store (65536 + get_or queue k 0) ≡ true
    cell_fine k h = all_rep.fine (get_or queue k 0) (let o = all_rep.kept.outs (get_or queue k 0) (count_at queue k h) in omega (arith, o.0, o.1))

    at_cell : (k : ℕ) → k < length queue → get_or w₁ (1024 + (0 + k)) 0 ≡ get_or queue k 0
    at_cell k h = let e : 1024 + (0 + k) ≡ 0 + 1024 + k = omega arith in ap (λ j. get_or w₁ j 0) e ∙ all_rep.order k h

    numbers_test : all_from (λ i. number_arg (mode_at bytes table i) (get_or args i 0)) (length args) 0 ≡ not (any (λ w. not (is_number w)) numbers)
    unfolding number_arg
    numbers_test = args_any bytes table args (λ w. ltb w 65536) (λ w. is_number w) (λ w. refl) is_numeric 0 numbered (length args) 0 ms many (omega arith) listed

    owned_args : args_fine bytes table codes store args 2 ≡ not (any bad owned)
    unfolding tree_arg
    owned_args =
        args_any bytes table args (word_fine codes store) (λ w. word_ok cs store w) (word_is bytes table codes store g) is_owned 2 owned_mode (length args) 0 ms many (omega arith) listed

    lent_args : args_fine bytes table codes store args 1 ≡ not (any bad lent)
    unfolding tree_arg
    lent_args =
        args_any bytes table args (word_fine codes store) (λ w. word_ok cs store w) (word_is bytes table codes store g) is_lent 1 lent_mode (length args) 0 ms many (omega arith) listed

    abbrev own_queue : List ℕ
    own_queue = (owned_walk cs store owned).queue

    owned_test : owned_fine bytes table codes store args work ≡ not (any bad owned || any bad_cell own_queue)
    unfolding reached_fine owned_walk
    owned_test =
        ap₂ (λ x y. pick x y false) owned_args
        (drain_fine_lem bytes table codes store g 0 w₀ once aim₀ 1024 0 (0 + length args) (visits once (walk [] []) (named cs store owned)) (begun bytes table codes store args 0 2 (fresh bytes table codes store args 0 work)) (omega (arith, short)) (omega arith) owned_begun_lem)
        ∙ or_not (any bad owned) (any bad_cell own_queue)

    lent_test : all_fine bytes table codes store args ownedₐ ≡ not (any bad lent || any bad_cell (drop (length own_queue) queue))
    unfolding reached_fine all_walk
    lent_test =
        let h = length own_queue in
        ap₂ (λ x y. pick x y false) lent_args
        (subst (λ (k : ℕ). drain_fine codes store 0 1024 k (begun bytes table codes store args 0 1 ownedₐ) ≡ not (any bad_cell (drop h queue))) (sym owned_rep.tails)
        (drain_fine_lem bytes table codes store g 0 w₀ once aim₀ 1024 h all_steps all_begins (begun bytes table codes store args 0 1 ownedₐ) (omega (arith, short)) (omega arith) all_begun_lem))
        ∙ or_not (any bad lent) (any bad_cell (drop h queue))

    abbrev shared : ℕ → Bool
    shared c = ltb 1 (last c)

    used_test : (k : ℕ) → k < length queue → used_once w₁ (get_or w₁ (1024 + (0 + k)) 0) ≡ not (shared (get_or queue k 0))
    unfolding used_once pick
    used_test k h =
        let c = get_or queue k 0 in
        let s = (fine_cell codes store c (cell_fine k h)).0 in
        ap (used_once w₁) (at_cell k h)
        ∙ rw (lt-leb 1024 c (omega (arith, g.fits)), count₁ c s) (le_not (last c) 1)
      where
        le_not : (n m : ℕ) → leb n m ≡ not (ltb m n)
        le_not n m = ⊎_elim (λ (p : n ≤ m). rw (le-leb n m p, le-ltb m n p)) (λ (p : m < n). rw (lt-leb n m p, lt-ltb m n p)) (le? n m)

    all_test : all_from (λ i. used_once w₁ (get_or w₁ (1024 + i) 0)) allₐ.tail 0 ≡ not (any shared queue)
    all_test = rw all_rep.tails (all_any (λ i. used_once w₁ (get_or w₁ (1024 + i) 0)) shared queue 0 used_test)

    prefix : (l : List ℕ) × (queue ≡ (owned_walk cs store owned).queue ++ l)
    unfolding all_walk
    prefix =
        let a = visits_grows once (owned_walk cs store owned) (named cs store lent) in
        let b = drain_grows (kids cs store) once 1024 (length (owned_walk cs store owned).queue) (visits once (owned_walk cs store owned) (named cs store lent)) in
        (a.0 ++ b.0, b.1 ∙ ap (λ q. q ++ b.0) a.1 ∙ append_assoc (owned_walk cs store owned).queue a.0 b.0)

    single_test : all_from (λ i. used_once w₁ (get_or w₁ (1024 + i) 0)) ownedₐ.tail 0 ≡ not (any shared (owned_walk cs store owned).queue)
    single_test =
        let q = (owned_walk cs store owned).queue in
        let l : length queue ≡ length q + length prefix.0 = ap length prefix.1 ∙ length-append q prefix.0 in
        rw owned_rep.tails
        (all_any (λ i. used_once w₁ (get_or w₁ (1024 + i) 0)) shared q 0
        (λ k h.
        let e : get_or queue k 0 ≡ get_or q k 0 = ap (λ (u : List ℕ). get_or u k 0) prefix.1 ∙ get_or-append q prefix.0 0 k h in
        used_test k (omega arith) ∙ ap (λ c. not (shared c)) e))

    parts : any bad_cell queue ≡ (any bad_cell own_queue || any bad_cell (drop (length own_queue) queue))
    parts =
        let d : drop (length own_queue) queue ≡ prefix.0 = ap (drop (length own_queue)) prefix.1 ∙ drop-append_seam own_queue prefix.0 in
        ap (any bad_cell) prefix.1 ∙ any_append bad_cell own_queue prefix.0 ∙ ap (λ l. any bad_cell own_queue || any bad_cell l) (sym d)

    -- what the first walk has met without fault, the second meets
    pub free_fine_lem : owned_fine bytes table codes store args work ≡ true → all_fine bytes table codes store args ownedₐ ≡ true → free_fine bytes table codes store args w₁ ≡ true
    unfolding free_fine pick free_walk
    free_fine_lem p q =
        let x = neither (any bad owned) (any bad_cell own_queue) (sym owned_test ∙ p) in
        let y = neither (any bad lent) (any bad_cell (drop (length own_queue) queue)) (sym lent_test ∙ q) in
        let none : any bad_cell queue ≡ false = parts ∙ ap₂ (λ a b. a || b) x.1 y.1 in
        let still : any bad_cell (free_walk cs store owned lent).queue ≡ false =
        none_any bad_cell (free_walk cs store owned lent).queue (λ c i. any_false bad_cell queue none c (free_in cs store owned lent g.fits c i)) in
        let d = drain_fine_lem bytes table codes store g 2048 w₂ last aim₂ 1024 0 (0 + length args + length args) (visits last (visits last (walk [] []) (named cs store owned)) (named cs store lent)) (free_begun bytes table codes store args w₁) (omega (arith, short)) (omega arith) free_begun_lem in
        ap₂ (λ a b. pick a b false) (owned_args ∙ ap not x.0) (ap₂ (λ a b. pick a b false) (lent_args ∙ ap not y.0) (d ∙ ap not still))

    held : Bool
    held = ltb (length (free_walk cs store owned lent).queue) (length queue)

    none : any shared queue ≡ false → held ≡ false
    unfolding held
    none e =
        le-ltb (length (free_walk cs store owned lent).queue) (length queue)
        (none_held cs store owned lent g.fits (λ x i. ltb-false 1 (last x) (any_false shared queue e x i)))

    not_20 : (not (eqb (length store % 5) 0) || (ltb 5120 (length store) || ltb (length work) 4096)) ≡ false
    not_20 = rw (eq-eqb (length store % 5) 0 g.whole, le-ltb 5120 (length store) g.fits, le-ltb (length work) 4096 room)

    not_21 : not (eqb (length args) (length ms)) ≡ false
    not_21 = rw (eq-eqb (length args) (length ms) (sym many))

    pub start_is : outcome (start_at bytes table codes store args work) ≡ start g.file (length work) args store
    unfolding start_at answer_at start held
    start_is =
        rw (numbers_test, owned_test, lent_test, single_test, all_test, free_rep.tails, all_rep.tails)
        (ends (any (λ w. not (is_number w)) numbers) (any bad owned) (any bad lent) (any bad_cell own_queue) (any bad_cell (drop (length own_queue) queue))
        (any shared own_queue) (any shared queue) held none
        ∙ ap (λ b. first ((any (λ w. not (is_number w)) numbers || (any bad owned || (any bad lent || b)), 22) ∷ (any shared own_queue, 23) ∷ (held, 24) ∷ [])) (sym parts)
        ∙ sym (skip _ 20 _ not_20 ∙ skip _ 21 _ not_21))
