-- `calls::settle` meets its contract. Assumes nothing.
use Rattle.std.proofs.Common.{ℕ, suc, ◌≡◌, refl, sym, ap, ◌∙◌, arith, add-one, Bool, List, eqb}
use Rattle.std.proofs.lemmas.Bool.{true≢false}
use Rattle.std.proofs.lemmas.Bool.Decides.{Decides-eqb}
use Rattle.std.proofs.lemmas.Slice.Eq.{slice_eq-Decides}
use Rattle.std.specs.Bool.{Decides}
use Rattle.std.specs.Cmp.Lexicographic.{pointwise}
use Rattle.meaning.specs.Calls.{Square, relax, rounds}
use Rattle.checker.specs.Bits.{bits_of}
use Rattle.checker.proofs.calls.Rounds.{rounds_low, flat_at, stacked_at}
use Rattle.checker.proofs.calls.settle.Goals as goal

pub loop-init : goal.loop-init
unfolding rounds
loop-init c = refl

pub relax-next-requires : goal.relax-next-requires
relax-next-requires c = rw c.loop.invariant (λ f l. omega (arith, rounds_low c.args.square (bits_of 32 c.args.seen) c.loop.counter f l))

-- a round more, as the code makes it, is the table after one round more
module _ (sq : Square) (seen : List Bool) (k : ℕ) {table next : List ℕ} {b : Bool} (t : table ≡ rounds k sq seen) (n : next ≡ relax sq seen table) (e : b ≡ pointwise eqb next table) where
  compared : Decides b (rounds (suc k) sq seen ≡ rounds k sq seen)
  unfolding rounds
  compared = let d = slice_eq-Decides Decides-eqb next table b e in rw (n, t) at d

pub returns-then-eq : goal.returns-then-eq
returns-then-eq c =
    let d = compared c.args.square (bits_of 32 c.args.seen) c.loop.counter c.loop.invariant c.relax-next.ensures c.eq.ensures in
    rw (flat_at c.args.square (bits_of 32 c.args.seen) c.loop.counter c.args.reached (d.0 c.if-eq.true) c.loop-test.true, add-one, c.from.ensures, c.loop.invariant)

pub returns-else-eq : goal.returns-else-eq
returns-else-eq c =
    let d = compared c.args.square (bits_of 32 c.args.seen) c.loop.counter c.loop.invariant c.relax-next.ensures c.eq.ensures in
    let q : c.args.reached ≡ c.loop.counter = omega arith in
    rw q (rw (stacked_at c.args.square (bits_of 32 c.args.seen) c.loop.counter (λ same. true≢false (sym (d.1 same) ∙ c.if-eq.false))))

pub loop-preserved : goal.loop-preserved
unfolding rounds
loop-preserved c = rw add-one (c.relax-next.ensures ∙ ap (relax c.args.square (bits_of 32 c.args.seen)) c.loop.invariant)

pub returns : goal.returns
returns c = absurd (omega arith)
