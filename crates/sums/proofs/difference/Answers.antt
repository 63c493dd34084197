-- `difference` meets its contract. Assumes nothing.
use native.Mathlib.Omega.{arith}
use Prim.Native.Nat.{◌≤◌, ◌<◌}
use borrow.Author.Tests.{le-leb, lt-leb}
use Rattle.meaning.specs.Choice.{pick}
use Rattle.sums.proofs.difference.Goals as goal

pub returns-then-b-a : goal.returns-then-b-a
unfolding pick
returns-then-b-a c =
    let fits : c.args.b ≤ c.args.a = omega arith in
    rw (le-leb _ _ fits) c.from.ensures

pub returns-else-b-a : goal.returns-else-b-a
unfolding pick
returns-else-b-a c =
    let over : c.args.a < c.args.b = omega arith in
    rw (lt-leb _ _ over)
