-- A node that is tried: its mark by the distance of its letters, and what is left as it was where the run ends. Assumes nothing.
use Rattle.std.proofs.Common.{◌≡◌, ℕ, ◌+◌, ◌-◌, ◌*◌, ◌%◌, ◌<◌, Bool, true, false, eqb, List, sym, refl, ap, ◌∙◌, subst, arith, Option, Some, None}
use mathlib.Core.Option.{none, some}
use mathlib.Core.Option as maybe
use Rattle.meaning.specs.Choice.{pick}
use Rattle.meaning.specs.Marks.{mark_of, number_of, find_mark}
use Rattle.meaning.specs.Plain.{arithmetic, place_of}
use Rattle.meaning.specs.Syntax.{Term, File}
use Rattle.standing.specs.Bytes.{byte_at, mark_at}
use Rattle.standing.specs.Stands.{Stands}
use Rattle.meaning.specs.declared.RunEnd.{RunEnd}
use Rattle.meaning.specs.Answers.{number, as_end, value_of}
use Rattle.machine.specs.declared.frame.State.{State}
use Rattle.machine.specs.Layout.{Top, top, ended, bound, slot_in, on, at_work, goes, ar_of, gv_of, cl_of}
use Rattle.meaning.specs.declared.Mark.{Mark}
use Rattle.machine.specs.Represents.{Fit}
use Rattle.machine.proofs.step.Needed.{steps_of}
use Rattle.machine.specs.Steps.{Steps, StepsAt, Comes, Stepped, Node, by_distance, ending_at, ending, place_of as place_at}

-- the ten marks, by the distance of their letters
pub by_letters : (a b : ℕ) → a < 256 → b < 256 → Node (a * 256 + b) → by_distance ((b + 256 - a) % 32) ≡ find_mark (a * 256 + b)
unfolding by_distance pick find_mark mark_of number_of
by_letters a b la lb (Node.GV e) = let x : a ≡ 71 = omega arith in let y : b ≡ 86 = omega arith in rw (x, y)
by_letters a b la lb (Node.AT e) = let x : a ≡ 65 = omega arith in let y : b ≡ 84 = omega arith in rw (x, y)
by_letters a b la lb (Node.MK e) = let x : a ≡ 77 = omega arith in let y : b ≡ 75 = omega arith in rw (x, y)
by_letters a b la lb (Node.CL e) = let x : a ≡ 67 = omega arith in let y : b ≡ 76 = omega arith in rw (x, y)
by_letters a b la lb (Node.TL e) = let x : a ≡ 84 = omega arith in let y : b ≡ 76 = omega arith in rw (x, y)
by_letters a b la lb (Node.OP e) = let x : a ≡ 79 = omega arith in let y : b ≡ 80 = omega arith in rw (x, y)
by_letters a b la lb (Node.LK e) = let x : a ≡ 76 = omega arith in let y : b ≡ 75 = omega arith in rw (x, y)
by_letters a b la lb (Node.NU e) = let x : a ≡ 78 = omega arith in let y : b ≡ 85 = omega arith in rw (x, y)
by_letters a b la lb (Node.AR e) = let x : a ≡ 65 = omega arith in let y : b ≡ 82 = omega arith in rw (x, y)
by_letters a b la lb (Node.IF e) = let x : a ≡ 73 = omega arith in let y : b ≡ 70 = omega arith in rw (x, y)

stands_node : (file : File) (bytes : List ℕ) {n next : ℕ} (t : Term) → Stands file bytes n t next → Node (mark_at bytes (place_of t))
stands_node file bytes t (Stands.GV a b e n) = Node.GV a
stands_node file bytes t (Stands.AT a b e l q x) = Node.AT a
stands_node file bytes t (Stands.NU a b e l q x) = Node.NU a
stands_node file bytes t (Stands.AR a b e f g l q z) = Node.AR a
stands_node file bytes t (Stands.IF a b e q x f y) = Node.IF a
stands_node file bytes t (Stands.TL a b e g h i n) = Node.TL a
stands_node file bytes t (Stands.CL a b e g h i l q x) = Node.CL a
stands_node file bytes t (Stands.MK a b e f g h i l q y) = Node.MK a
stands_node file bytes t (Stands.OP a b e f x) = Node.OP a
stands_node file bytes t (Stands.LK a b e f x) = Node.LK a

pub fit_node : {bytes decl store : List ℕ} {c : Top} → Fit bytes decl store c → Node (mark_at bytes c.state.frame.at)
fit_node {bytes} f = subst (λ p. Node (mark_at bytes p)) (sym f.represents.here) (stands_node f.file bytes f.st.top.todo f.represents.stands)

-- an end with the words as they were, or a state that goes on
still : (x : Bool) (e g : Top) (w : List ℕ) → e.work ≡ w → g.state.number ≡ 99 → ((pick x e g).state.number ≡ 99 → ⊥) → (pick x e g).work ≡ w
unfolding pick
still true e g w a b z = a
still false e g w a b z = absurd (z b)

pub gv_still : (bytes : List ℕ) (c : Top) → ((gv_of bytes c).state.number ≡ 99 → ⊥) → (gv_of bytes c).work ≡ c.work
unfolding gv_of
gv_still bytes c z = still (eqb c.state.frame.depth 0) _ _ c.work refl refl z

pub cl_still : (bytes decl : List ℕ) (c : Top) → ((cl_of bytes decl c).state.number ≡ 99 → ⊥) → (cl_of bytes decl c).work ≡ c.work
unfolding cl_of
cl_still bytes decl c z = still _ _ _ c.work refl refl z

pub ar_still : (bytes : List ℕ) (c : Top) → ((ar_of bytes c).state.number ≡ 99 → ⊥) → (ar_of bytes c).work ≡ c.work
unfolding ar_of
ar_still bytes c =
    go (arithmetic (byte_at bytes (c.state.frame.at + 2)) (slot_in bytes c.work (c.state.frame.depth * 32) (c.state.frame.at + 3))
    (slot_in bytes c.work (c.state.frame.depth * 32) (c.state.frame.at + 4)))
  where
    after : maybe.Option ℕ → Top
    after m = elim m as (λ _. Top) [ none ↦ top (ended c.state 34 0) c.work | some v ↦ bound c v (c.state.frame.at + 5) ]

    go : (m : maybe.Option ℕ) → ((after m).state.number ≡ 99 → ⊥) → (after m).work ≡ c.work
    go none z = refl
    go (some v) z = absurd (z refl)

ends : (e : RunEnd) → number (as_end e) ≡ 99 → ⊥
ends (RunEnd.Done v) z = omega arith
ends RunEnd.NoBranch z = omega arith
ends RunEnd.BudgetSpent z = omega arith
ends RunEnd.NoFrame z = omega arith
ends RunEnd.OutOfRange z = omega arith

-- a node that ends the run by another end than these
pub no_end : (k : Mark) (bytes : List ℕ) (c : Top) → (k ≡ Mark.GV → ⊥) → (k ≡ Mark.CL → ⊥) → (k ≡ Mark.AR → ⊥) → RunEnd.NoBranch ≡ ending_at k bytes c
no_end Mark.CN bytes c g l a = refl
no_end Mark.FN bytes c g l a = refl
no_end Mark.BD bytes c g l a = refl
no_end Mark.ND bytes c g l a = refl
no_end Mark.GV bytes c g l a = absurd (g refl)
no_end Mark.AT bytes c g l a = refl
no_end Mark.MK bytes c g l a = refl
no_end Mark.CL bytes c g l a = absurd (l refl)
no_end Mark.TL bytes c g l a = refl
no_end Mark.OP bytes c g l a = refl
no_end Mark.LK bytes c g l a = refl
no_end Mark.BR bytes c g l a = refl
no_end Mark.NU bytes c g l a = refl
no_end Mark.AR bytes c g l a = absurd (a refl)
no_end Mark.IF bytes c g l a = refl
no_end Mark.Other bytes c g l a = refl

-- the place of an end, but where the run is done
pub place_undone : (s : State) (e : RunEnd) → ((v : ℕ) → e ≡ RunEnd.Done v → ⊥) → s.frame.at ≡ place_at (ended (on s) (number (as_end e)) (value_of e))
unfolding place_at pick
place_undone s (RunEnd.Done v) z = absurd (z v refl)
place_undone s RunEnd.NoBranch z = refl
place_undone s RunEnd.BudgetSpent z = refl
place_undone s RunEnd.NoFrame z = refl
place_undone s RunEnd.OutOfRange z = refl

-- an end does not go on
pub not_going : (s : State) (e : RunEnd) (work : List ℕ) → (goes e s None work).state.number ≡ 99 → ⊥
not_going s e work z = ends e z

module _ (out : Bool) (bytes decl store : List ℕ) (s : State) (work : List ℕ) (k : Mark) (is : mark_of (mark_at bytes s.frame.at) ≡ k) where
  ended_as : (work' : List ℕ) → ending_at k bytes (at_work s work') ≡ ending bytes (at_work s work')
  unfolding ending
  ended_as work' = ap (λ m. ending_at m bytes (at_work s work')) (sym is)

  -- a node that needs no end of a term: what it comes to, with the words as they were where it ends
  pub stepped : (r : Option State) (work' : List ℕ) {x : Top} → goes (ending_at k bytes (at_work s work')) s r work' ≡ x → StepsAt k bytes decl store (at_work s work) store x
      → ((x.state.number ≡ 99 → ⊥) → x.work ≡ work) → Stepped out bytes decl store s work r store work'
  stepped (Some s') work' e p z = steps_of k is (subst (λ y. StepsAt k bytes decl store (at_work s work) store y) (sym e) p)
  stepped None work' {x} e p z = (
    λ _. steps_of k is (subst (λ y. StepsAt k bytes decl store (at_work s work) store y) (sym e ∙ ap (λ f. goes f s None work') (ended_as work')) p),
    λ _. (refl, ap (λ y. y.work) e ∙ z (λ n. not_going s _ work' (ap (λ y. y.state.number) e ∙ n))),
  )

  -- one that needs the end of a term
  pub stepped_on : (P : Top → Type 0) (r : Option State) (work' : List ℕ) → ((x : Top) → P x → StepsAt k bytes decl store (at_work s work) store x)
      → Comes out (ending_at k bytes (at_work s work')) P (work' ≡ work) s r work' → Stepped out bytes decl store s work r store work'
  stepped_on P (Some s') work' f a = steps_of k is (f _ a)
  stepped_on P None work' f a = (λ z. steps_of k is (subst (λ y. StepsAt k bytes decl store (at_work s work) store y) (ap (λ g. goes g s None work') (ended_as work')) (f _ (a.0 z))), λ z. (refl, a.1 z))

module _ (bytes decl store : List ℕ) (s : State) (work store' work' : List ℕ) where
  pub goes_on : (out : Bool) {r : Option State} (s' : State) → r ≡ Some s' → Stepped out bytes decl store s work r store' work' → Steps bytes decl store (at_work s work) store' (at_work s' work')
  goes_on out s' e a = subst (λ x. Stepped out bytes decl store s work x store' work') e a

  pub stays : {r : Option State} → r ≡ None → Stepped false bytes decl store s work r store' work' → (store' ≡ store) × (work' ≡ work)
  stays e a = (subst (λ x. Stepped false bytes decl store s work x store' work') e a).1 refl

  pub ends_so : {r : Option State} → r ≡ None → Stepped true bytes decl store s work r store' work' → Steps bytes decl store (at_work s work) store' (goes (ending bytes (at_work s work')) s None work')
  ends_so e a = (subst (λ x. Stepped true bytes decl store s work x store' work') e a).0 refl
