-- A walk in the work area is the walk over lists of the meaning. Assumes nothing.
use Rattle.std.proofs.Common.{◌≡◌, ℕ, zero, suc, ◌+◌, ◌-◌, ◌*◌, ◌/◌, ◌%◌, ◌<◌, ◌≤◌, Bool, true, false, not, ◌||◌, eqb, List, [], ◌∷◌, ◌++◌, length, get_or, drop, set, sym, refl, ap, ◌∙◌, subst, ⊎_elim, append_assoc, arith, length-append, length-set, drop_of_length-le, drop-cons, get_or-set_other, get_or-set_same, le-ltb, eq-eqb, ne_eqb, le-leb}
use lib.ListN.{get_or-append}
use lib.Seq.{get_or_at}
use borrow.Author.Tests.{lt-leb}
use Rattle.meaning.specs.Choice.{pick}
use Rattle.meaning.specs.Syntax.{Sort, Mode, Constructor}
use Rattle.meaning.specs.Walk.{count, Walk, walk, visit, visits, drain}
use Rattle.meaning.specs.Start.{any, word_ok, inside, tree_words, named, kids, chosen}
use Rattle.standing.specs.Table.{Modes, mode_byte}
use Rattle.theory.proofs.Reached.{count_cons}
use Rattle.theory.proofs.StartCounting.{same?, le?, bool?, one_same, one_other, few, count_at}
use Rattle.theory.proofs.StartWalk.{Kept, visit_kept, taken, passed, met, met_count, visits_grows}
use Rattle.theory.proofs.StartReached.{drain_grows}
use Rattle.theory.proofs.StartWords.{named_cell, named_bad, named_atom}
use Rattle.machine.specs.StartWords.{word_fine, code_at, inside_fine, mode_at}
use Rattle.machine.specs.StartArea.{Area, area, counted, bump_to, bump, goal_of, name_at, field_at, fields_at, expand_at, drain_at, drain_fine, arg_at, args_at}
use Rattle.machine.proofs.start.Fine.{fine_cell}
use Rattle.machine.proofs.start.Turns.{field_other, fields_turn, fields_none}
use Rattle.machine.proofs.start.Fields.{trees_of}
use Rattle.machine.proofs.start.Told.{Ground, many, small, trees_by, word_is, inside_by, inside_is}

count_length : (x : ℕ) (l : List ℕ) → count x l ≤ length l
count_length x [] = omega arith
count_length x (y ∷ l) =
    ⊎_elim
    (λ (e : x ≡ y). omega (arith, count_cons x y l, one_same x y e, count_length x l))
    (λ (e : x ≡ y → ⊥). omega (arith, count_cons x y l, one_other x y e, count_length x l))
    (same? x y)

-- a naming counted
counted_is : (base : ℕ) (w : List ℕ) (c n : ℕ) → get_or w (base + c) 0 ≡ n → n < 4294967295 → counted base w c ≡ 1 + n
unfolding counted
counted_is base w c n e h = ap (λ k. (k + 1) % 4294967296) e ∙ omega arith

count_step : (base room : ℕ) (w : List ℕ) (seen : List ℕ) (c n x : ℕ) → base + c < length w → 5 * x + 5 ≤ room → n ≡ 1 + count c seen
    → ((y : ℕ) → 5 * y + 5 ≤ room → get_or w (base + y) 0 ≡ count y seen) → get_or (set w (base + c) n) (base + x) 0 ≡ count x (c ∷ seen)
count_step base room w seen c n x l hx e k =
    ⊎_elim
    (λ (q : x ≡ c). rw q (get_or-set_same w (base + c) n 0 l ∙ omega (arith, count_cons c c seen, one_same c c refl)))
    (λ (q : x ≡ c → ⊥). get_or-set_other w (base + c) (base + x) n 0 (λ r. q (omega arith)) ∙ k x hx ∙ omega (arith, count_cons x c seen, one_other x c q))
    (same? x c)

pub or_not : (a b : Bool) → pick (not a) (not b) false ≡ not (a || b)
unfolding pick
or_not true b = refl
or_not false b = refl

-- an argument is of the modes chosen, or not
pub chosen_in : (test : Mode → Bool) (k : Mode) (ms : List Mode) (w : ℕ) (ws : List ℕ) → test k ≡ true → chosen test (k ∷ ms) (w ∷ ws) ≡ w ∷ chosen test ms ws
chosen_in test k ms w ws q = rw (q, chosen)

pub chosen_out : (test : Mode → Bool) (k : Mode) (ms : List Mode) (w : ℕ) (ws : List ℕ) → test k ≡ false → chosen test (k ∷ ms) (w ∷ ws) ≡ chosen test ms ws
chosen_out test k ms w ws q = rw (q, chosen)

-- the area holds the walk: its counts from `base` on, its queue behind them, and nothing else is changed
pub record Rep (codes store : List ℕ) (base : ℕ) (w₀ : List ℕ) (t : ℕ → ℕ) (m : ℕ) (s : Walk) (a : Area) : Type 0 where
  pub long : length a.work ≡ length w₀
  pub kept : Kept t s
  pub fine : (x : ℕ) → 1 ≤ count x s.seen → word_fine codes store (65536 + x) ≡ true
  pub few_met : length s.seen ≤ m
  pub counts : (x : ℕ) → 5 * x + 5 ≤ length store → get_or a.work (base + x) 0 ≡ count x s.seen
  pub order : (i : ℕ) → i < length s.queue → get_or a.work (base + 1024 + i) 0 ≡ get_or s.queue i 0
  pub tails : a.tail ≡ length s.queue
  pub under : (j : ℕ) → j < base → get_or a.work j 0 ≡ get_or w₀ j 0
  pub over : (j : ℕ) → base + 2048 ≤ j → get_or a.work j 0 ≡ get_or w₀ j 0

-- where a walk lies, and how often a cell is to be named before it is queued
pub record Aim (store : List ℕ) (base : ℕ) (w₀ : List ℕ) (t : ℕ → ℕ) : Type 0 where
  pub low : base ≤ 2048
  pub room : 4096 ≤ length w₀
  pub goals : (w : List ℕ) → ((j : ℕ) → j < base → get_or w j 0 ≡ get_or w₀ j 0) → (c : ℕ) → 5 * c + 5 ≤ length store → goal_of base w c ≡ t c

module _ (bytes table codes store : List ℕ) (g : Ground bytes table codes store) (base : ℕ) (w₀ : List ℕ) (t : ℕ → ℕ) (aim : Aim store base w₀ t) where
  abbrev cs : List Constructor
  cs = g.file.constructors

  abbrev Holds : ℕ → Walk → Area → Type 0
  Holds = Rep codes store base w₀ t

  abbrev Good : Walk → Type 0
  Good s = (x : ℕ) → 1 ≤ count x s.seen → word_fine codes store (65536 + x) ≡ true

  stored : (x : ℕ) → word_fine codes store (65536 + x) ≡ true → 5 * x + 5 ≤ length store
  stored x f = (fine_cell codes store x f).0

  queue_fits : (s : Walk) → Kept t s → Good s → length s.queue ≤ 1024
  queue_fits s k f =
      few 1024 s.queue k.once
      (λ x p. let h = stored x (f x (let o = k.outs x p in omega (arith, o.0, o.1))) in omega (arith, g.fits))

  visit_fine : (s : Walk) (c : ℕ) → Good s → word_fine codes store (65536 + c) ≡ true → Good (visit t s c)
  visit_fine s c f h x p =
      ⊎_elim
      (λ (e : x ≡ c). ap (λ y. word_fine codes store (65536 + y)) e ∙ h)
      (λ (e : x ≡ c → ⊥). f x (omega (arith, met_count t s c x, one_other x c e)))
      (same? x c)

  bump_rep : (m : ℕ) (s : Walk) (a : Area) (c : ℕ) → m < 4294967295 → word_fine codes store (65536 + c) ≡ true → Holds m s a
      → Holds (suc m) (visit t s c) (bump base a c)
  unfolding bump_to pick
  bump_rep m s a c hm h r =
      let hc : 5 * c + 5 ≤ length store = stored c h in
      let sm : c < 1024 = omega (arith, g.fits) in
      let w = a.work in
      let n : counted base w c ≡ 1 + count c s.seen = counted_is base w c (count c s.seen) (r.counts c hc) (omega (arith, count_length c s.seen, r.few_met)) in
      let goal : goal_of base w c ≡ t c = aim.goals w r.under c hc in
      let k = visit_kept t s c r.kept in
      let f = visit_fine s c r.fine h in
      let q = queue_fits (visit t s c) k f in
      let lw : length w ≡ length w₀ = r.long in
      let ro = aim.room in
      let lo = aim.low in
      let en = r.tails in
      ⊎_elim
      (λ (e : 1 + count c s.seen ≡ t c).
      let tq = taken t s c e in
      let lq : length (visit t s c).queue ≡ length s.queue + 1 = ap length tq ∙ length-append s.queue (c ∷ []) in
      let w₁ = set w (base + c) (counted base w c) in
      let w₂ = set w₁ (base + 1024 + a.tail) c in
      let l₁ : length w₁ ≡ length w = length-set w (base + c) (counted base w c) in
      let l₂ : length w₂ ≡ length w₁ = length-set w₁ (base + 1024 + a.tail) c in
      let b : bump base a c ≡ area w₂ (a.tail + 1) = simp (eq-eqb (counted base w c) (goal_of base w c) (n ∙ e ∙ sym goal), lt-leb 1024 a.tail (omega arith)) in
      rw b
      (record {
        long = omega arith;
        kept = k;
        fine = f;
        few_met = rw (met t s c) (omega (arith, r.few_met));
        counts = λ x p.
            (let sx : x < 1024 = omega (arith, g.fits) in
            rw (met t s c) (get_or-set_other w₁ (base + 1024 + a.tail) (base + x) c 0 (λ z. omega arith) ∙ count_step base (length store) w s.seen c (counted base w c) x (omega arith) p n r.counts));
        order = λ i p.
            rw tq
            (⊎_elim
            (λ (o : suc i ≤ length s.queue).
            get_or-set_other w₁ (base + 1024 + a.tail) (base + 1024 + i) c 0 (λ z. omega arith)
            ∙ get_or-set_other w (base + c) (base + 1024 + i) (counted base w c) 0 (λ z. omega arith)
            ∙ r.order i o
            ∙ sym (get_or-append s.queue (c ∷ []) 0 i o))
            (λ (o : length s.queue < suc i).
            let ie : length s.queue ≡ i = omega arith in
            let ix : base + 1024 + a.tail ≡ base + 1024 + i = omega arith in
            rw (get_or_at s.queue c [] 0 i ie) (ap (λ j. get_or w₂ j 0) (sym ix) ∙ get_or-set_same w₁ (base + 1024 + a.tail) c 0 (omega arith)))
            (le? (suc i) (length s.queue)));
        tails = omega arith;
        under = λ j p. get_or-set_other w₁ (base + 1024 + a.tail) j c 0 (λ z. omega arith) ∙ get_or-set_other w (base + c) j (counted base w c) 0 (λ z. omega arith) ∙ r.under j p;
        over = λ j p. get_or-set_other w₁ (base + 1024 + a.tail) j c 0 (λ z. omega arith) ∙ get_or-set_other w (base + c) j (counted base w c) 0 (λ z. omega arith) ∙ r.over j p;
      }))
      (λ (e : 1 + count c s.seen ≡ t c → ⊥).
      let tq = passed t s c e in
      let w₁ = set w (base + c) (counted base w c) in
      let l₁ : length w₁ ≡ length w = length-set w (base + c) (counted base w c) in
      let b : bump base a c ≡ area w₁ a.tail = simp (ne_eqb (counted base w c) (goal_of base w c) (λ z. e (sym n ∙ z ∙ goal))) in
      rw b
      (record {
        long = omega arith;
        kept = k;
        fine = f;
        few_met = rw (met t s c) (omega (arith, r.few_met));
        counts = λ x p. rw (met t s c) (count_step base (length store) w s.seen c (counted base w c) x (omega arith) p n r.counts);
        order = λ i p.
            (let p' : i < length s.queue = subst (λ (u : List ℕ). i < length u) tq p in
            rw tq (get_or-set_other w (base + c) (base + 1024 + i) (counted base w c) 0 (λ z. omega arith) ∙ r.order i p'));
        tails = rw tq en;
        under = λ j p. get_or-set_other w (base + c) j (counted base w c) 0 (λ z. omega arith) ∙ r.under j p;
        over = λ j p. get_or-set_other w (base + c) j (counted base w c) 0 (λ z. omega arith) ∙ r.over j p;
      }))
      (same? (1 + count c s.seen) (t c))

  more_rep : (m n : ℕ) (s : Walk) (a : Area) → m ≤ n → Holds m s a → Holds n s a
  more_rep m n s a h r =
      record { long = r.long; kept = r.kept; fine = r.fine; few_met = omega (arith, r.few_met); counts = r.counts; order = r.order; tails = r.tails; under = r.under; over = r.over }

  -- the cell of a word, or none
  abbrev visited : Walk → List ℕ → Walk
  visited s ws = visits t s (named cs store ws)

  visited_none : (s : Walk) → visited s [] ≡ s
  unfolding visits
  visited_none s = refl

  visited_cell : (s : Walk) (w : ℕ) (ws : List ℕ) → 65536 ≤ w → word_ok cs store w ≡ true → visited s (w ∷ ws) ≡ visited (visit t s (w - 65536)) ws
  unfolding visits
  visited_cell s w ws h f = ap (visits t s) (named_cell cs store w ws h f)

  visited_bad : (s : Walk) (w : ℕ) (ws : List ℕ) → 65536 ≤ w → word_ok cs store w ≡ false → visited s (w ∷ ws) ≡ visited s ws
  visited_bad s w ws h f = ap (visits t s) (named_bad cs store w ws h f)

  visited_atom : (s : Walk) (w : ℕ) (ws : List ℕ) → w < 65536 → visited s (w ∷ ws) ≡ visited s ws
  visited_atom s w ws h = ap (visits t s) (named_atom cs store w ws h)

  -- one word, and then the others
  name_rep : (m : ℕ) (s : Walk) (a : Area) (w : ℕ) (ws : List ℕ) → m < 4294967295 → Holds m s a
      → (u : Walk) × (visited s (w ∷ ws) ≡ visited u ws) × Holds (suc m) u (name_at codes store base a w)
  unfolding name_at pick
  name_rep m s a w ws hm r =
      ⊎_elim
      (λ (h : 65536 ≤ w).
      ⊎_elim
      (λ (f : word_fine codes store w ≡ true).
      let e : 65536 + (w - 65536) ≡ w = omega arith in (
        visit t s (w - 65536),
        visited_cell s w ws h (sym (word_is bytes table codes store g w) ∙ f),
        rw (le-leb 65536 w h, f) (bump_rep m s a (w - 65536) hm (ap (word_fine codes store) e ∙ f) r),
      ))
      (λ (f : word_fine codes store w ≡ false).
      (s, visited_bad s w ws h (sym (word_is bytes table codes store g w) ∙ f), rw (le-leb 65536 w h, f) (more_rep m (suc m) s a (omega arith) r)))
      (bool? (word_fine codes store w)))
      (λ (h : w < 65536). (s, visited_atom s w ws h, rw (lt-leb 65536 w h) (more_rep m (suc m) s a (omega arith) r)))
      (le? 65536 w)

  field_tree : (bits w : ℕ) (a : Area) → bits % 2 ≡ 1 → field_at codes store base bits w a ≡ name_at codes store base a w
  unfolding field_at pick
  field_tree bits w a e = rw e

  fields_rep : (c n i m : ℕ) (ss : Constructor) (s : Walk) (a : Area) → length ss ≤ n → m + n < 4294967295 → Holds m s a
      → Holds (m + n) (visited s (tree_words store c i ss)) (fields_at codes store base n (trees_of ss) (5 * c + i) a)
  fields_rep c n i m [] s a h hm r =
      rw (visited_none s, fields_none codes store base n (5 * c + i) a) (more_rep m (m + n) s a (omega arith) r)
  fields_rep c zero i m (s ∷ ss) u a h hm r = absurd (omega arith)
  fields_rep c (suc n) i m (Sort.number ∷ ss) s a h hm r =
      let x = trees_of ss in
      let w = get_or store (5 * c + i) 0 in
      let y : (2 * x) % 2 ≡ 0 = omega arith in
      let d : (2 * x) / 2 ≡ x = omega arith in
      let p : 5 * c + i + 1 ≡ 5 * c + suc i = omega arith in
      let e = fields_turn codes store base n (2 * x) x (5 * c + i) (5 * c + suc i) a a d p (field_other codes store base (2 * x) w a y) in
      rw e (more_rep (m + n) (m + suc n) (visited s (tree_words store c (suc i) ss)) (fields_at codes store base n x (5 * c + suc i) a) (omega arith)
      (fields_rep c n (suc i) m ss s a (omega arith) (omega arith) r))
  fields_rep c (suc n) i m (Sort.tree ∷ ss) s a h hm r =
      let x = trees_of ss in
      let w = get_or store (5 * c + i) 0 in
      let ws = tree_words store c (suc i) ss in
      let b = name_at codes store base a w in
      let y : (1 + 2 * x) % 2 ≡ 1 = omega arith in
      let d : (1 + 2 * x) / 2 ≡ x = omega arith in
      let p : 5 * c + i + 1 ≡ 5 * c + suc i = omega arith in
      let e = fields_turn codes store base n (1 + 2 * x) x (5 * c + i) (5 * c + suc i) a b d p (field_tree (1 + 2 * x) w a y) in
      let v = name_rep m s a w ws (omega arith) r in
      rw (v.1, e)
      (more_rep (suc m + n) (m + suc n) (visited v.0 ws) (fields_at codes store base n x (5 * c + suc i) b) (omega arith)
      (fields_rep c n (suc i) (suc m) ss v.0 b (omega arith) (omega arith) v.2))

  -- a cell that a well-formed word names is of a declared constructor
  pub con_there : (c : ℕ) → word_fine codes store (65536 + c) ≡ true → get_or store (5 * c) 0 < length cs
  con_there c h = omega (arith, (fine_cell codes store c h).1, many bytes table codes store g)

  expand_rep : (m : ℕ) (s : Walk) (a : Area) (c : ℕ) → m + 4 < 4294967295 → word_fine codes store (65536 + c) ≡ true → Holds m s a
      → Holds (m + 4) (visits t s (kids cs store c)) (expand_at codes store base a c)
  unfolding expand_at pick
  expand_rep m s a c hm h r =
      let f = fine_cell codes store c h in
      let k = get_or store (5 * c) 0 in
      let ss = get_or cs k [] in
      let o = con_there c h in
      rw (le-ltb (length store) (5 * c + 5) f.0, lt-leb (length codes) k f.1)
      (subst (λ ws. Holds (m + 4) (visited s ws) (fields_at codes store base 4 (code_at codes store c % 16) (5 * c + 1) a)) (sym (inside_by bytes table codes store g c))
      (subst (λ n. Holds (m + 4) (visited s (tree_words store c 1 ss)) (fields_at codes store base 4 n (5 * c + 1) a)) (sym (trees_by bytes table codes store g c o))
      (fields_rep c 4 1 m ss s a (small bytes table codes store g k) hm r)))

  pub drain_rep : (n h m : ℕ) (s : Walk) (a : Area) → m + 4 * n < 4294967295 → Holds m s a
      → Holds (m + 4 * n) (drain (kids cs store) t n h s) (drain_at codes store base n h a)
  unfolding drain drain_at pick
  drain_rep zero h m s a hm r = more_rep m (m + 4 * 0) s a (omega arith) r
  drain_rep (suc n) h m s a hm r =
      let en = r.tails in
      ⊎_elim
      (λ (p : length s.queue ≤ h). rw (le-leb (length s.queue) h p, le-leb a.tail h (omega arith)) (more_rep m (m + 4 * suc n) s a (omega arith) r))
      (λ (p : h < length s.queue).
      let c = get_or s.queue h 0 in
      let f : word_fine codes store (65536 + c) ≡ true = r.fine c (let o = r.kept.outs c (count_at s.queue h p) in omega (arith, o.0, o.1)) in
      let s₁ = visits t s (kids cs store c) in
      let k : m + 4 + 4 * n ≤ m + 4 * suc n = omega arith in
      rw (lt-leb (length s.queue) h p, lt-leb a.tail h (omega arith), r.order h p)
      (more_rep (m + 4 + 4 * n) (m + 4 * suc n) (drain (kids cs store) t n (suc h) s₁) (drain_at codes store base n (suc h) (expand_at codes store base a c)) k
      (drain_rep n (suc h) (m + 4) s₁ (expand_at codes store base a c) (omega arith) (expand_rep m s a c (omega arith) f r))))
      (le? (length s.queue) h)

  -- the words in the cells that are expanded
  abbrev bad_cell : ℕ → Bool
  bad_cell c = any (λ w. not (word_ok cs store w)) (inside cs store c)

  pub drain_fine_lem : (n h m : ℕ) (s : Walk) (a : Area) → m + 4 * n < 4294967295 → 1024 ≤ n + h → Holds m s a
      → drain_fine codes store base n h a ≡ not (any (λ c. any (λ w. not (word_ok cs store w)) (inside cs store c)) (drop h (drain (kids cs store) t n h s).queue))
  unfolding drain drain_fine pick
  drain_fine_lem zero h m s a hm k r =
      let l : length s.queue ≤ h = omega (arith, queue_fits s r.kept r.fine) in
      rw (drop_of_length-le s.queue l)
  drain_fine_lem (suc n) h m s a hm k r =
      let en = r.tails in
      ⊎_elim
      (λ (p : length s.queue ≤ h). rw (le-leb (length s.queue) h p, le-leb a.tail h (omega arith), drop_of_length-le s.queue p))
      (λ (p : h < length s.queue).
      let c = get_or s.queue h 0 in
      let f : word_fine codes store (65536 + c) ≡ true = r.fine c (let o = r.kept.outs c (count_at s.queue h p) in omega (arith, o.0, o.1)) in
      let s₁ = visits t s (kids cs store c) in
      let q = (drain (kids cs store) t n (suc h) s₁).queue in
      let x = visits_grows t s (kids cs store c) in
      let y = drain_grows (kids cs store) t n (suc h) s₁ in
      let e : q ≡ s.queue ++ (x.0 ++ y.0) = y.1 ∙ ap (λ l. l ++ y.0) x.1 ∙ append_assoc s.queue x.0 y.0 in
      let l : h < length q = rw e (simp length-append (omega arith)) in
      let d : drop h q ≡ c ∷ drop (suc h) q = drop-cons q h 0 l ∙ ap (λ z. z ∷ drop (suc h) q) (ap (λ (u : List ℕ). get_or u h 0) e ∙ get_or-append s.queue (x.0 ++ y.0) 0 h p) in
      let here : inside_fine codes store c ≡ not (bad_cell c) = inside_is bytes table codes store g c (stored c f) (con_there c f) in
      let rest = drain_fine_lem n (suc h) (m + 4) s₁ (expand_at codes store base a c) (omega arith) (omega arith) (expand_rep m s a c (omega arith) f r) in
      rw (lt-leb (length s.queue) h p, lt-leb a.tail h (omega arith), r.order h p, d, here, rest) (or_not (bad_cell c) (any bad_cell (drop (suc h) q))))
      (le? (length s.queue) h)

  -- the arguments of a mode
  module _ (args : List ℕ) (test : Mode → Bool) (mode : ℕ) (says : (k : Mode) → eqb (mode_byte k) mode ≡ test k) where
    pub args_rep : (n i m : ℕ) (ms : List Mode) (s : Walk) (a : Area) → length ms ≡ n → i + n ≡ length args → Modes bytes (get_or table 64 0 / 256 + i) ms
        → m + n < 4294967295 → Holds m s a → Holds (m + n) (visited s (chosen test ms (drop i args))) (args_at bytes table codes store base args mode n i a)
    unfolding args_at arg_at pick
    args_rep zero i m [] s a e l o hm r = rw (visited_none s) (more_rep m (m + 0) s a (omega arith) r)
    args_rep zero i m (k ∷ ms) s a e l o hm r = absurd (omega arith)
    args_rep (suc n) i m [] s a e l o hm r = absurd (omega arith)
    args_rep (suc n) i m (k ∷ ms) s a e l o hm r =
        let w = get_or args i 0 in
        let ws = chosen test ms (drop (suc i) args) in
        let here : eqb (mode_at bytes table i) mode ≡ test k = ap (λ b. eqb b mode) o.0 ∙ says k in
        let p : get_or table 64 0 / 256 + i + 1 ≡ get_or table 64 0 / 256 + suc i = omega arith in
        let o' : Modes bytes (get_or table 64 0 / 256 + suc i) ms = subst (λ q. Modes bytes q ms) p o.2 in
        ⊎_elim
        (λ (q : test k ≡ true).
        let v = name_rep m s a w ws (omega arith) r in
        let b = name_at codes store base a w in
        rw (drop-cons args i 0 (omega arith), here, q, chosen_in test k ms w (drop (suc i) args) q, v.1)
        (more_rep (suc m + n) (m + suc n) (visited v.0 ws) (args_at bytes table codes store base args mode n (suc i) b) (omega arith)
        (args_rep n (suc i) (suc m) ms v.0 b (omega arith) (omega arith) o' (omega arith) v.2)))
        (λ (q : test k ≡ false).
        rw (drop-cons args i 0 (omega arith), here, q, chosen_out test k ms w (drop (suc i) args) q)
        (more_rep (m + n) (m + suc n) (visited s ws) (args_at bytes table codes store base args mode n (suc i) a) (omega arith)
        (args_rep n (suc i) m ms s a (omega arith) (omega arith) o' (omega arith) r)))
        (bool? (test k))

  -- an area whose counts are zero begins a walk
  pub begin_rep : ((x : ℕ) → 5 * x + 5 ≤ length store → get_or w₀ (base + x) 0 ≡ 0) → Holds 0 (walk [] []) (area w₀ 0)
  begin_rep z =
      record {
        long = refl;
        kept = record { once = λ x. omega arith; ins = λ x p q. omega arith; outs = λ x p. absurd (omega arith) };
        fine = λ x p. absurd (omega arith);
        few_met = omega arith;
        counts = z;
        order = λ i p. absurd (omega arith);
        tails = refl;
        under = λ j p. refl;
        over = λ j p. refl;
      }
