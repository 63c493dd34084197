-- The proof of `call`. Assumes nothing.
use Rattle.std.proofs.Common.{◌≡◌, ℕ, ◌+◌, ◌*◌, List, set, ap, ◌∙◌, arith, le-leb}
use borrow.Author.Tests.{lt-leb}
use Rattle.machine.specs.Layout.{cl_of, laid, gathered}
use Rattle.meaning.specs.Choice.{pick}
use Rattle.standing.specs.Bytes.{params_in, byte_at}
use Rattle.machine.proofs.frame.Laid.{gathered_above, laid_one}
use Rattle.machine.proofs.step.call.Goals as goal
use Rattle.machine.proofs.step.call.Goals.{then-n-eq1, else-n-eq1}

-- the work area with what the caller waits for, and with the slots of the called function
abbrev saved : (work : List ℕ) (depth place n count : ℕ) → List ℕ
saved work depth place n count = set (set work (1024 + depth * 2) (place + 3 + n)) (1024 + depth * 2 + 1) count

abbrev handed : (file work : List ℕ) (depth place n count : ℕ) → List ℕ
handed file work depth place n count =
    laid (saved work depth place n count) (depth * 32 + 32) (gathered file (saved work depth place n count) (depth * 32) (place + 3) n)

pub returns-then-depth : goal.returns-then-depth
unfolding cl_of pick
returns-then-depth c = simp (le-leb _ _ c.if-depth.true)

pub returns : goal.returns
unfolding cl_of pick
returns c =
    let s = c.args.s in
    let n = c.parameter_count-n.result in
    let w₀ : List ℕ = saved c.args.work.now s.frame.depth s.frame.at n s.frame.bound in
    -- both ways hand over the same
    let given : c.if-n-eq1.work ≡ handed c.args.rules.file.now c.args.work.now s.frame.depth s.frame.at n s.frame.bound =
    elim c.if-n-eq1.branch [
      | then-n-eq1 w ↦ w.work-is ∙ ap (set w₀ (s.frame.depth * 32 + 32)) w.slot-v.ensures ∙ laid_one w₀ c.args.rules.file.now w₀ (s.frame.depth * 32 + 32) (s.frame.depth * 32) (s.frame.at + 3) n w.if-n-eq1.true
      | else-n-eq1 w ↦ w.work-is ∙ w.hand_over.ensures
    ] in
    rw (lt-leb _ _ c.if-depth.false, c.body.ensures.0, c.max.ensures, given, c.parameter_count-n.ensures.0, c.byte-g.ensures.0, gathered_above c.args.rules.file.now c.args.work.now (c.args.s.frame.depth * 32) (c.args.s.frame.at + 3) (params_in c.args.rules.table.now.words (byte_at c.args.rules.file.now (c.args.s.frame.at + 2))) (1024 + c.args.s.frame.depth * 2) (c.args.s.frame.at + 3 + (params_in c.args.rules.table.now.words (byte_at c.args.rules.file.now (c.args.s.frame.at + 2)))) (1024 + c.args.s.frame.depth * 2 + 1) c.args.s.frame.bound (omega arith) (omega arith) c.requires.7)
