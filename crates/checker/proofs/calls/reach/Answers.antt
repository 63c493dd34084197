-- `calls::reach` meets its contract. Assumes nothing.
use borrow.Author.Tests.{le-leb, lt-leb}
use Prim.Native.Nat.{ℕ, zero, suc, ◌+◌, ◌-◌, ◌<◌, ◌≤◌}
use Rattle.std.proofs.Common.{◌≡◌, refl, sym, ◌∙◌, arith, lit≤, Bool, false, List, set}
use Rattle.meaning.specs.Sets.{first, zip, or, except}
use Rattle.meaning.specs.Calls.{Square, row, visits, start, reach}
use Rattle.checker.specs.Bits.{bits_of}
use Rattle.checker.proofs.calls.reach.Goals as goal

stop : (n : ℕ) (sq : Square) (todo seen : List Bool) → 32 ≤ first todo → visits n sq todo seen ≡ seen
unfolding visits
stop zero sq todo seen h = refl
stop (suc n) sq todo seen h = rw (le-leb 32 (first todo) h, visits)

turn : (n : ℕ) (sq : Square) (todo seen : List Bool) → first todo < 32
    → visits (suc n) sq todo seen ≡ visits n sq (zip or (set todo (first todo) false) (except (row sq (first todo)) seen)) (zip or (row sq (first todo)) seen)
unfolding visits
turn n sq todo seen d = rw (lt-leb 32 (first todo) d, visits)

pub loop-init : goal.loop-init
unfolding reach start bits_of
loop-init c = refl

pub returns-then-todo-eq0 : goal.returns-then-todo-eq0
unfolding bits_of first
returns-then-todo-eq0 c = sym (rw c.if-todo-eq0.true at c.loop.invariant ∙ stop _ _ _ _ (lit≤ tt))

pub loop-preserved : goal.loop-preserved
loop-preserved c =
    let l = c.loop in
    let n : 32 - l.counter ≡ suc (32 - (l.counter + 1)) = omega arith in
    let t = turn (32 - (l.counter + 1)) c.args.square (bits_of 32 l.todo) (bits_of 32 l.seen) (omega (arith, c.lowest-f.ensures.0, c.lowest-f.ensures.2 (omega arith))) in
    rw (c.either-todo.ensures, c.either-seen.ensures, c.without_lowest.ensures.0, c.except.ensures, c.callees-calls.ensures, c.lowest-f.ensures.0) (l.invariant ∙ rw n t)

pub returns : goal.returns
unfolding visits
returns c =
    let e : 32 - c.loop.counter ≡ 0 = omega arith in
    sym (c.loop.invariant ∙ rw e)
