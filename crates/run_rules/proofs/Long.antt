-- All inputs over 24,649 bytes have one line: no request is as long, so such an input is bad whatever its bytes are. Assumes nothing.
use Rattle.std.proofs.Common.{◌≡◌, ℕ, ◌<◌, List, arith, length, sym, ◌∙◌}
use Rattle.std.proofs.Math.Option.{none}
use Rattle.meaning.specs.Lines.{decoded, run_line}
use Rattle.lines.proofs.Requests.{none_decoded, line_of_none}

over : (input : List ℕ) → 24649 < length input → none ≡ decoded input
over input h = none_decoded input (λ s. omega (arith, s.file, s.args, s.store, s.whole))

pub one_line : (input other : List ℕ) → 24649 < length input → 24649 < length other → run_line input ≡ run_line other
one_line input other h k = sym (line_of_none input (over input h)) ∙ line_of_none other (over other k)
