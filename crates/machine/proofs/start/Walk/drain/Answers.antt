-- The proof of `drain`. Assumes nothing.
use Rattle.std.proofs.Common.{◌≡◌, ℕ, ◌+◌, ◌-◌, List, get_or, sym, ap₂, ◌∙◌, arith}
use Rattle.machine.specs.StartWords.{inside_fine}
use Rattle.machine.specs.StartArea.{expand_at, drain_at, drain_fine}
use Rattle.machine.specs.StartWalk.{area_of}
use Rattle.machine.proofs.start.Turns.{drain_turn, drain_stay, fine_turn, fine_out, fine_stay}
use Rattle.machine.proofs.start.Goes.{went_err, going_on, going_stop, going_done}
use Rattle.machine.proofs.start.Walk.drain.Goals as goal

pub returns-then-self-head : goal.returns-then-self-head
returns-then-self-head c =
    let a = c.args.self.now in
    let b = c.loop-head.self in
    let h = c.loop-head.head in
    let n = 1024 + c.args.from - h in
    going_done c.loop-head.invariant.1 (fine_stay a.codes.now a.store.now a.base n h (area_of b) (omega arith)) (drain_stay a.codes.now a.store.now a.base n h (area_of b) (omega arith))

pub returns-in_err-expand : goal.returns-in_err-expand
returns-in_err-expand c =
    let a = c.args.self.now in
    let b = c.loop-head.self in
    let h = c.loop-head.head in
    let n = 1024 + c.args.from - h in
    let fine = λ (x y : List ℕ) (z : ℕ). inside_fine x y (get_or b.work.now (z + 1024 + h) 0) in
    let meant = λ (x y : List ℕ) (z : ℕ). expand_at x y z (area_of b) (get_or b.work.now (z + 1024 + h) 0) in
    went_err c.from_residual.ensures.1
    (going_stop fine meant c.loop-head.invariant.1 c.in_err-expand.ensures (fine_out a.codes.now a.store.now a.base n h (area_of b) (omega arith) (omega arith)))

pub loop-head-preserved : goal.loop-head-preserved
loop-head-preserved c =
    let a = c.args.self.now in
    let b = c.loop-head.self in
    let h = c.loop-head.head in
    let n = 1024 + c.args.from - h in
    let fine = λ (x y : List ℕ) (z : ℕ). inside_fine x y (get_or b.work.now (z + 1024 + h) 0) in
    let meant = λ (x y : List ℕ) (z : ℕ). expand_at x y z (area_of b) (get_or b.work.now (z + 1024 + h) 0) in
    let x = area_of c.expand.new.self in
    let e : n - 1 ≡ 1024 + c.args.from - (h + 1) = omega arith in (
      omega arith,
      going_on fine meant c.loop-head.invariant.1 c.in_ok-expand.ensures
          (λ z y. fine_turn a.codes.now a.store.now a.base n h (area_of b) (omega arith) (omega arith) z ∙ ap₂ (λ k v. drain_fine a.codes.now a.store.now a.base k (h + 1) v) e (sym y))
          (λ y. drain_turn a.codes.now a.store.now a.base n h (area_of b) (omega arith) (omega arith) ∙ ap₂ (λ k v. drain_at a.codes.now a.store.now a.base k (h + 1) v) e (sym y)),
    )

pub returns : goal.returns
returns c =
    let a = c.args.self.now in
    let b = c.loop-head.self in
    let h = c.loop-head.head in
    let n = 1024 + c.args.from - h in
    going_done c.loop-head.invariant.1 (fine_stay a.codes.now a.store.now a.base n h (area_of b) (omega arith)) (drain_stay a.codes.now a.store.now a.base n h (area_of b) (omega arith))
