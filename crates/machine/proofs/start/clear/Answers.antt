use Rattle.std.proofs.Common.{◌≡◌, ℕ, ◌+◌, ◌-◌, ap, ◌∙◌, arith, replicate}
use Rattle.std.proofs.lemmas.List.Edits.{length-between}
use Rattle.std.proofs.lemmas.Slice.{put_mid-paste}
use lib.ListN.{length-replicate}
use Rattle.machine.proofs.start.Cleared.{cleared_paste}
use Rattle.machine.proofs.start.clear.Goals as goal

pub returns : goal.returns
returns c =
    let w = c.args.work.now in
    let b = c.args.base in
    let n = c.args.n in
    let k : b + n - b ≡ n = omega arith in
    let zeros = c.fill.ensures.after (λ y h. h) ∙ ap (λ j. replicate j 0) (length-between w b (b + n) (omega arith) ∙ k) in
    put_mid-paste b (b + n - b) w c.fill.new.self (replicate n 0) n zeros (omega arith) (omega (arith, length-replicate {A = ℕ} n 0)) ∙ cleared_paste b n w (omega arith)
