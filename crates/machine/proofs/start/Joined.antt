-- The answer at each way out of the start check. Assumes nothing.
use Rattle.std.proofs.Common.{◌≡◌, ℕ, ◌+◌, ◌-◌, ◌<◌, ◌≤◌, Bool, true, false, List, length, get_or, sym, refl, ap, ◌∙◌, le-ltb, lt-ltb, Result, Ok, Err}
use Rattle.std.specs.Result.{IsErrAnd}
use Rattle.std.proofs.lemmas.Result.{err_from_is_err_and}
use Rattle.meaning.specs.Choice.{pick}
use Rattle.meaning.specs.Syntax.{File}
use Rattle.standing.specs.Table.{Declared}
use Rattle.meaning.specs.declared.Fault.{Fault}
use Rattle.machine.specs.StartWords.{Coded, mode_at, number_arg, all_from}
use Rattle.machine.specs.declared.start.Mode.{Mode}
use Rattle.machine.specs.declared.start.Start.{Start}
use Rattle.machine.specs.declared.start.Walk.{Walk}
use Rattle.machine.specs.StartWalk.{area_of, Kept, Ends, Reaches, Frees}
use Rattle.machine.specs.StartArea.{Area, fresh, reached, reached_fine, used_once, owned_area, owned_fine, all_area, all_fine, free_area, free_fine, judged, answer_at, start_at, outcome, Passed, Meant}
use Rattle.machine.proofs.start.Turns.{all_whole, all_rest}
use Rattle.machine.proofs.start.Goes.{ends_as, At, at_after, at_ends}
use Rattle.machine.proofs.start.Answer.{start_is, free_fine_lem}

module _ (bytes table codes args store work : List ℕ) (read : (tree : File) → Declared tree bytes table → Coded tree codes)
    (k : Passed bytes table args store work) where
  by_areas : (r : Result (Unit {0}) Fault) (o a f : Area) → o ≡ owned_area bytes table codes store args work → a ≡ all_area bytes table codes store args o
      → f ≡ free_area bytes table codes store args a.work → answer_at bytes table codes store args work o a f ≡ r → Meant bytes table args store work r
  unfolding start_at
  by_areas r o a f p q s e tree d =
      let w : start_at bytes table codes store args work ≡ answer_at bytes table codes store args work o a f = rw (s, q, p) in
      ap outcome (sym e ∙ sym w) ∙ start_is bytes table codes store args (record { file = tree; declared = d; coded = read tree d; fits = k.fits; whole = k.whole }) work k.room k.given

  abbrev numbers : Bool
  numbers = all_from (λ i. number_arg (mode_at bytes table i) (get_or args i 0)) (length args) 0

  -- an argument or a word that is malformed
  pub number_out : numbers ≡ false → Meant bytes table args store work (Err Fault.Malformed)
  unfolding answer_at judged pick
  number_out n =
      let o = owned_area bytes table codes store args work in
      let a = all_area bytes table codes store args o in
      by_areas (Err Fault.Malformed) o a (free_area bytes table codes store args a.work) refl refl refl (rw n)

  owned_out : numbers ≡ true → owned_fine bytes table codes store args work ≡ false → Meant bytes table args store work (Err Fault.Malformed)
  unfolding answer_at judged pick
  owned_out n p =
      let o = owned_area bytes table codes store args work in
      let a = all_area bytes table codes store args o in
      by_areas (Err Fault.Malformed) o a (free_area bytes table codes store args a.work) refl refl refl (rw (n, p))

  lent_out : (o : Area) → numbers ≡ true → owned_fine bytes table codes store args work ≡ true → o ≡ owned_area bytes table codes store args work
      → all_fine bytes table codes store args o ≡ false → Meant bytes table args store work (Err Fault.Malformed)
  unfolding answer_at judged pick
  lent_out o n p q l =
      let a = all_area bytes table codes store args o in
      by_areas (Err Fault.Malformed) o a (free_area bytes table codes store args a.work) q refl refl (rw (n, p, l))

  -- the areas after the first walk, which met no malformed word
  pub record Walked (o a : Area) : Type 0 where
    pub numbers : all_from (λ i. number_arg (mode_at bytes table i) (get_or args i 0)) (length args) 0 ≡ true
    pub owned : owned_fine bytes table codes store args work ≡ true
    pub lent : all_fine bytes table codes store args o ≡ true
    pub first : o ≡ owned_area bytes table codes store args work
    pub second : a ≡ all_area bytes table codes store args o

  -- the fault of a walk, passed on by `?`
  passed_on : (r : Result (Unit {0}) Fault) {e : Fault} → IsErrAnd r (λ x. x ≡ e) → e ≡ Fault.Malformed → Meant bytes table args store work (Err Fault.Malformed)
      → Meant bytes table args store work r
  passed_on r p q m tree d =
      let y = err_from_is_err_and r p in
      ap outcome (y.1 ∙ ap Err (y.2 ∙ q)) ∙ m tree d

module _ {bytes table codes args store work : List ℕ} {read : (tree : File) → Declared tree bytes table → Coded tree codes}
    {k : Passed bytes table args store work} {o a : Area} (w : Walked bytes table codes args store work read k o a) where
  abbrev once : ℕ → ℕ → Bool
  once n i = all_from (λ j. used_once a.work (get_or a.work (1024 + j) 0)) n i

  pub shared : once (o.tail - 0) 0 ≡ false → Meant bytes table args store work (Err Fault.NamedTwice)
  unfolding answer_at judged pick
  shared s = by_areas bytes table codes args store work read k (Err Fault.NamedTwice) o a (free_area bytes table codes store args a.work) w.first w.second refl (rw (w.numbers, w.owned, w.lent, sym (all_whole _ o.tail) ∙ s))

  module _ (own : once (o.tail - 0) 0 ≡ true) where
    owned_once : once o.tail 0 ≡ true
    owned_once = sym (all_whole _ o.tail) ∙ own

    all_once : (b : Bool) → once (a.tail - o.tail) o.tail ≡ b → once a.tail 0 ≡ b
    all_once b e = sym (all_rest _ o.tail a.tail owned_once) ∙ e

    pub single : once (a.tail - o.tail) o.tail ≡ true → Meant bytes table args store work (Ok tt)
    unfolding answer_at judged pick
    single s = by_areas bytes table codes args store work read k (Ok tt) o a (free_area bytes table codes store args a.work) w.first w.second refl (rw (w.numbers, w.owned, w.lent, owned_once, all_once true s))

    module _ (some : once (a.tail - o.tail) o.tail ≡ false) (f : Area) (e : f ≡ free_area bytes table codes store args a.work) where
      pub held : f.tail < a.tail → Meant bytes table args store work (Err Fault.ReachesItself)
      unfolding answer_at judged pick
      held l = by_areas bytes table codes args store work read k (Err Fault.ReachesItself) o a f w.first w.second e (rw (w.numbers, w.owned, w.lent, owned_once, all_once false some, lt-ltb f.tail a.tail l))

      pub none : a.tail ≤ f.tail → Meant bytes table args store work (Ok tt)
      unfolding answer_at judged pick
      none l = by_areas bytes table codes args store work read k (Ok tt) o a f w.first w.second e (rw (w.numbers, w.owned, w.lent, owned_once, all_once false some, le-ltb f.tail a.tail l))

  -- the second walk meets no malformed word
  pub never : free_fine bytes table codes store args a.work ≡ true
  never =
      let at : a ≡ all_area bytes table codes store args (owned_area bytes table codes store args work) = w.second ∙ ap (all_area bytes table codes store args) w.first in
      ap (λ (z : Area). free_fine bytes table codes store args z.work) at
      ∙ free_fine_lem bytes table codes store args (record { file = k.tree; declared = k.declared; coded = read k.tree k.declared; fits = k.fits; whole = k.whole }) work k.room k.given w.owned
      (ap (all_fine bytes table codes store args) (sym w.first) ∙ w.lent)

-- the same by the walk that makes the check
module _ (s : Start) (a : Walk) (read : (tree : File) → Declared tree s.rules.file.now s.rules.table.now.words → Coded tree a.codes.now)
    (k : Passed s.rules.file.now s.rules.table.now.words s.args.now a.store.now a.work.now) where
  -- the walk begun, once the numbers among the arguments are tested
  pub record Begun (b : Walk) : Type 0 where
    pub tested : numbers s.rules.file.now s.rules.table.now.words a.codes.now s.args.now a.store.now a.work.now read k ≡ true
    pub at : At b a.codes a.store 0
    pub area : area_of b ≡ fresh s.rules.file.now s.rules.table.now.words a.codes.now a.store.now s.args.now 0 a.work.now

  pub begin_with : {b : Walk} → numbers s.rules.file.now s.rules.table.now.words a.codes.now s.args.now a.store.now a.work.now read k ≡ true → Kept a b → b.base ≡ 0
      → area_of b ≡ fresh s.rules.file.now s.rules.table.now.words a.codes.now a.store.now s.args.now 0 a.work.now → Begun b
  begin_with n l e q = record { tested = n; at = record { codes = l.codes; store = l.store; base = e }; area = q }

  owned_ends : {b d : Walk} {r : Result (Unit {0}) Fault} → Begun b → Reaches s b d r Mode.Owned
      → Ends r (owned_fine s.rules.file.now s.rules.table.now.words a.codes.now a.store.now s.args.now a.work.now) (area_of d) (owned_area s.rules.file.now s.rules.table.now.words a.codes.now a.store.now s.args.now a.work.now)
  owned_ends h w =
      at_ends (λ x y z v. reached_fine s.rules.file.now s.rules.table.now.words x y s.args.now z 2 v) (λ x y z v. reached s.rules.file.now s.rules.table.now.words x y s.args.now z 2 v) h.at h.area w

  lent_ends : {b d e : Walk} {u : Unit {0}} {r : Result (Unit {0}) Fault} → Begun b → Reaches s b d (Ok u) Mode.Owned → Reaches s d e r Mode.Lent
      → Ends r (all_fine s.rules.file.now s.rules.table.now.words a.codes.now a.store.now s.args.now (area_of d)) (area_of e) (all_area s.rules.file.now s.rules.table.now.words a.codes.now a.store.now s.args.now (area_of d))
  lent_ends h v w =
      at_ends (λ x y z q. reached_fine s.rules.file.now s.rules.table.now.words x y s.args.now z 1 q) (λ x y z q. reached s.rules.file.now s.rules.table.now.words x y s.args.now z 1 q)
      (at_after h.at v.kept v.base) refl w

  pub owned_bad : {b d : Walk} {e : Fault} (r : Result (Unit {0}) Fault) → IsErrAnd r (λ x. x ≡ e) → Begun b → Reaches s b d (Err e) Mode.Owned
      → Meant s.rules.file.now s.rules.table.now.words s.args.now a.store.now a.work.now r
  owned_bad r p h w =
      let o = owned_ends h w in
      passed_on s.rules.file.now s.rules.table.now.words a.codes.now s.args.now a.store.now a.work.now read k r p o.1
      (owned_out s.rules.file.now s.rules.table.now.words a.codes.now s.args.now a.store.now a.work.now read k h.tested o.0)

  pub lent_bad : {b d f : Walk} {u : Unit {0}} {e : Fault} (r : Result (Unit {0}) Fault) → IsErrAnd r (λ x. x ≡ e) → Begun b → Reaches s b d (Ok u) Mode.Owned
      → Reaches s d f (Err e) Mode.Lent → Meant s.rules.file.now s.rules.table.now.words s.args.now a.store.now a.work.now r
  lent_bad {d = d} r p h v w =
      let o = owned_ends h v in
      let l = lent_ends h v w in
      passed_on s.rules.file.now s.rules.table.now.words a.codes.now s.args.now a.store.now a.work.now read k r p l.1
      (lent_out s.rules.file.now s.rules.table.now.words a.codes.now s.args.now a.store.now a.work.now read k (area_of d) h.tested o.0 o.1 l.0)

  pub walked : {b d e : Walk} {u v : Unit {0}} → Begun b → Reaches s b d (Ok u) Mode.Owned → Reaches s d e (Ok v) Mode.Lent
      → Walked s.rules.file.now s.rules.table.now.words a.codes.now s.args.now a.store.now a.work.now read k (area_of d) (area_of e)
  walked h v w =
      let o = owned_ends h v in
      let l = lent_ends h v w in
      record { numbers = h.tested; owned = o.0; lent = l.0; first = o.1; second = l.1 }

  -- the second walk after it
  pub freed : {b d e f : Walk} {u v : Unit {0}} {r : Result (Unit {0}) Fault} → Begun b → Reaches s b d (Ok u) Mode.Owned → Reaches s d e (Ok v) Mode.Lent → Frees s e f r
      → Ends r (free_fine s.rules.file.now s.rules.table.now.words a.codes.now a.store.now s.args.now e.work.now) (area_of f) (free_area s.rules.file.now s.rules.table.now.words a.codes.now a.store.now s.args.now e.work.now)
  freed {e = e} {f} {r = r} h v w x =
      let t = at_after (at_after h.at v.kept v.base) w.kept w.base in
      ends_as r (area_of f) (sym (λ i. free_fine s.rules.file.now s.rules.table.now.words (t.codes i).now (t.store i).now s.args.now e.work.now))
      (λ i. free_area s.rules.file.now s.rules.table.now.words (t.codes i).now (t.store i).now s.args.now e.work.now) x.ends
