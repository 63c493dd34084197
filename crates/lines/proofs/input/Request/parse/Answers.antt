-- An input that is as long as its counts say is cut where they say; any other asks for nothing.
use Rattle.std.proofs.Common.{arith, ap, ◌∙◌}
use Rattle.std.proofs.Math.Option.{some}
use Rattle.lines.proofs.Requests.{Sized, none_decoded, some_decoded, counts_of, cut}
use Rattle.lines.proofs.input.Request.parse.Goals as goal

pub returns-in_err-counts : goal.returns-in_err-counts
returns-in_err-counts c = rw c.from_residual.ensures (none_decoded _ (λ s. omega (arith, s.whole, c.in_err-counts.ensures.cases)))

pub returns-then-file-gt-FILE : goal.returns-then-file-gt-FILE
returns-then-file-gt-FILE c =
    let counts = counts_of _ _ c.in_ok-counts.ensures.cases.1 in
    none_decoded _ (λ s. grind (arith, c.then-file-gt-FILE.either, c.word_at-file.ensures, c.word_at-arguments.ensures, c.word_at-cells.ensures, counts.file, counts.args, counts.store, s.file, s.args, s.store))

pub returns-then-rest-file : goal.returns-then-rest-file
returns-then-rest-file c =
    let parts = c.in_ok-counts.ensures.cases in
    let counts = counts_of _ _ parts.1 in
    none_decoded _ (λ s. omega (arith, s.whole, parts.3, parts.4, counts.file, counts.args, counts.store))

pub returns : goal.returns
returns c =
    let parts = c.in_ok-counts.ensures.cases in
    let counts = counts_of _ _ parts.1 in
    let sized : Sized c.args.input.now =
    record {
      file = omega (arith, counts.file, c.if-file-gt-FILE.false);
      args = omega (arith, counts.args, c.if-arguments-gt-ARGUMENTS.false);
      store = omega (arith, counts.store, c.if-cells-gt-CELLS.false);
      whole = omega (arith, counts.file, counts.args, counts.store, c.if-rest-file.false, parts.3, parts.4);
    }
    in
    ap some
    (cut c.args.input.now _ _ _ _ _ _ sized (c.word_at-file.ensures ∙ counts.file) (c.word_at-arguments.ensures ∙ counts.args) (c.word_at.ensures ∙ counts.budget)
    (c.split_at.ensures.front ∙ rw parts.2)
    (c.split_at-2.ensures.front ∙ rw (c.split_at.ensures.back, parts.2))
    (c.split_at-2.ensures.back ∙ rw (c.split_at.ensures.back, parts.2)))
    ∙ some_decoded _ sized
