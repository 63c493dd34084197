-- The proof of `name_args`. Assumes nothing.
use Rattle.std.proofs.Common.{◌≡◌, ℕ, suc, ◌+◌, ◌-◌, List, length, arith}
use Rattle.machine.specs.StartWords.{mode_byte, tree_arg}
use Rattle.machine.specs.StartArea.{arg_at}
use Rattle.machine.specs.StartWalk.{area_of}
use Rattle.machine.proofs.start.Turns.{all_in, all_out, all_end, args_turn, args_end}
use Rattle.machine.proofs.start.Goes.{went_err, going_on, going_stop, going_done}
use Rattle.machine.proofs.start.Walk.name_args.Goals as goal

pub returns-in_err-name_arg : goal.returns-in_err-name_arg
returns-in_err-name_arg c =
    let a = c.args.self.now in
    let b = c.loop-i.self in
    let s = c.args.start.now in
    let i = c.loop-i.i in
    let k = mode_byte c.args.mode in
    let e : length s.args.now - i ≡ suc (length s.args.now - (i + 1)) = omega arith in
    let fine = λ (x y : List ℕ) (z : ℕ). tree_arg s.rules.file.now s.rules.table.now.words x y s.args.now k i in
    let meant = λ (x y : List ℕ) (z : ℕ). arg_at s.rules.file.now s.rules.table.now.words x y z s.args.now k i (area_of b) in
    went_err c.from_residual.ensures.1
    (going_stop fine meant c.loop-i.invariant c.in_err-name_arg.ensures (all_out (λ j. tree_arg s.rules.file.now s.rules.table.now.words a.codes.now a.store.now s.args.now k j) _ _ i e))

pub loop-i-preserved : goal.loop-i-preserved
loop-i-preserved c =
    let a = c.args.self.now in
    let b = c.loop-i.self in
    let s = c.args.start.now in
    let i = c.loop-i.i in
    let k = mode_byte c.args.mode in
    let e : length s.args.now - i ≡ suc (length s.args.now - (i + 1)) = omega arith in
    let fine = λ (x y : List ℕ) (z : ℕ). tree_arg s.rules.file.now s.rules.table.now.words x y s.args.now k i in
    let meant = λ (x y : List ℕ) (z : ℕ). arg_at s.rules.file.now s.rules.table.now.words x y z s.args.now k i (area_of b) in
    going_on fine meant c.loop-i.invariant c.in_ok-name_arg.ensures
    (λ z y. all_in (λ j. tree_arg s.rules.file.now s.rules.table.now.words a.codes.now a.store.now s.args.now k j) _ _ i e z)
    (args_turn s.rules.file.now s.rules.table.now.words a.codes.now a.store.now a.base s.args.now k _ _ i (area_of b) _ e)

pub returns : goal.returns
returns c =
    let a = c.args.self.now in
    let b = c.loop-i.self in
    let s = c.args.start.now in
    let i = c.loop-i.i in
    let k = mode_byte c.args.mode in
    let e : length s.args.now - i ≡ 0 = omega arith in
    going_done c.loop-i.invariant
    (all_end (λ j. tree_arg s.rules.file.now s.rules.table.now.words a.codes.now a.store.now s.args.now k j) _ i e)
    (args_end s.rules.file.now s.rules.table.now.words a.codes.now a.store.now a.base s.args.now k _ i (area_of b) e)
