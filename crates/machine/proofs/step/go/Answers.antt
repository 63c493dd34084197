-- The proof of `go`. Assumes nothing.
use Rattle.std.proofs.Common.{◌-◌, ◌≤◌, true, refl, ◌∙◌, arith}
use Rattle.machine.proofs.step.Needed.{fit_mark}
use Rattle.machine.proofs.step.Tries.{fit_node, goes_on, ends_so, not_going}
use Rattle.machine.proofs.step.Runs.{reached_start, reached_next, reached_on, reached_stop, reached_end, stop_small}
use Rattle.machine.proofs.step.Behind.{step_behind}
use Rattle.machine.proofs.step.go.Goals as goal

pub loop-t-init : goal.loop-t-init
loop-t-init c = (omega arith, refl, refl, reached_start _ _ _ _ _, refl)

pub step-requires : goal.step-requires
step-requires c = let a = reached_on c.known_steps-t.ensures.0 c.loop-t.invariant.0 c.known_steps-t.ensures.1 c.loop-t.invariant.3 in (a c.requires).0

pub known_steps-t-requires-in-Some : goal.known_steps-t-requires-in-Some
known_steps-t-requires-in-Some c = let a = reached_on c.known_steps-t.ensures.0 c.loop-t.invariant.0 c.known_steps-t.ensures.1 c.loop-t.invariant.3 in let s = goes_on c.args.rules.file.now c.args.rules.table.now.words c.loop-t.store c.loop-t.t.state c.loop-t.work c.step.new.store c.step.new.work true c.in-Some.next c.in-Some.is c.step.ensures in let l : c.loop-t.t.left ≤ c.args.limit = omega (arith, c.loop-t.invariant.0, c.known_steps-t.ensures.0) in (reached_next c.loop-t-test.true l a s refl c.requires).0

pub loop-t-preserved : goal.loop-t-preserved
loop-t-preserved c = let a = reached_on c.known_steps-t.ensures.0 c.loop-t.invariant.0 c.known_steps-t.ensures.1 c.loop-t.invariant.3 in let s = goes_on c.args.rules.file.now c.args.rules.table.now.words c.loop-t.store c.loop-t.t.state c.loop-t.work c.step.new.store c.step.new.work true c.in-Some.next c.in-Some.is c.step.ensures in let l : c.loop-t.t.left - 1 ≤ c.known_steps-t.result.left = omega (arith, c.loop-t.invariant.0) in (omega (arith, c.loop-t.invariant.0, c.known_steps-t-in-Some.ensures.0), c.known_steps-t-in-Some.auto.store ∙ c.step.auto.store ∙ c.loop-t.invariant.1, c.known_steps-t-in-Some.auto.work ∙ c.step.auto.work ∙ c.loop-t.invariant.2, reached_on l c.known_steps-t-in-Some.ensures.0 (reached_next c.loop-t-test.true c.loop-t.invariant.0 c.loop-t.invariant.3 s refl) c.known_steps-t-in-Some.ensures.1, c.known_steps-t-in-Some.ensures.2 ∙ step_behind (a c.requires).0 s ∙ c.loop-t.invariant.4)

pub ending-end-requires : goal.ending-end-requires
ending-end-requires c = let a = reached_on c.known_steps-t.ensures.0 c.loop-t.invariant.0 c.known_steps-t.ensures.1 c.loop-t.invariant.3 in let g = (a c.requires).0 in ((fit_mark g, omega (arith, g.represents.depth, g.represents.deep), omega (arith, c.step.auto.work, g.represents.room)), fit_node g)

pub overflow_cast-result : goal.overflow_cast-result
overflow_cast-result c = let a = reached_on c.known_steps-t.ensures.0 c.loop-t.invariant.0 c.known_steps-t.ensures.1 c.loop-t.invariant.3 in let s = ends_so c.args.rules.file.now c.args.rules.table.now.words c.loop-t.store c.loop-t.t.state c.loop-t.work c.step.new.store c.step.new.work c.in-None.is c.step.ensures in let q = stop_small (a c.requires).0 s (not_going c.loop-t.t.state _ c.step.new.work) in omega (arith, q.0, rw c.ending-end.ensures at c.place.ensures)

pub overflow_cast-result-in-None : goal.overflow_cast-result-in-None
overflow_cast-result-in-None c = let a = reached_on c.known_steps-t.ensures.0 c.loop-t.invariant.0 c.known_steps-t.ensures.1 c.loop-t.invariant.3 in let s = ends_so c.args.rules.file.now c.args.rules.table.now.words c.loop-t.store c.loop-t.t.state c.loop-t.work c.step.new.store c.step.new.work c.in-None.is c.step.ensures in let q = stop_small (a c.requires).0 s (not_going c.loop-t.t.state _ c.step.new.work) in omega (arith, q.1)

pub returns-in-None : goal.returns-in-None
returns-in-None c = let a = reached_on c.known_steps-t.ensures.0 c.loop-t.invariant.0 c.known_steps-t.ensures.1 c.loop-t.invariant.3 in let s = ends_so c.args.rules.file.now c.args.rules.table.now.words c.loop-t.store c.loop-t.t.state c.loop-t.work c.step.new.store c.step.new.work c.in-None.is c.step.ensures in let l : c.loop-t.t.left ≤ c.args.limit = omega (arith, c.loop-t.invariant.0, c.known_steps-t.ensures.0) in (λ f. rw (c.place.ensures, c.ending-end.ensures) (reached_stop c.loop-t-test.true l a s (not_going c.loop-t.t.state _ c.step.new.work) f), step_behind (a c.requires).0 s ∙ c.loop-t.invariant.4 ∙ c.known_steps-t.ensures.2)

pub overflow_cast-result-2 : goal.overflow_cast-result-2
overflow_cast-result-2 c = let a = reached_on c.known_steps-t.ensures.0 c.loop-t.invariant.0 c.known_steps-t.ensures.1 c.loop-t.invariant.3 in let g = (a c.requires).0 in omega (arith, fit_mark g, g.declared.size)

pub overflow_cast-result-3 : goal.overflow_cast-result-3
overflow_cast-result-3 c = let a = reached_on c.known_steps-t.ensures.0 c.loop-t.invariant.0 c.known_steps-t.ensures.1 c.loop-t.invariant.3 in let g = (a c.requires).0 in omega (arith, g.high)

pub returns : goal.returns
returns c = let a = reached_on c.known_steps-t.ensures.0 c.loop-t.invariant.0 c.known_steps-t.ensures.1 c.loop-t.invariant.3 in (reached_end _ a (omega (arith, c.loop-t-test.false)), c.loop-t.invariant.4 ∙ c.known_steps-t.ensures.2)
