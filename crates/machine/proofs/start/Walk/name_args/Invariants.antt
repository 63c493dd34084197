use Rattle.std.proofs.Common.{◌-◌, length}
use Rattle.machine.specs.StartWords.{mode_byte, tree_arg, all_from}
use Rattle.machine.specs.StartArea.{args_at}
use Rattle.machine.specs.StartWalk.{area_of}
use Rattle.machine.proofs.start.Goes.{Going}
use Rattle.machine.proofs.start.Walk.name_args.Given as goal

abbrev pub invariant-loop-i : goal.invariant-loop-i
invariant-loop-i l =
    let a = l.initial.self in
    let s = l.start in
    let n = length s.args.now in
    let f = tree_arg s.rules.file.now s.rules.table.now.words a.codes.now a.store.now s.args.now (mode_byte l.mode) in
    let m = args_at s.rules.file.now s.rules.table.now.words a.codes.now a.store.now a.base s.args.now (mode_byte l.mode) in
    Going a l.self (all_from (λ k. f k) n 0) (all_from (λ k. f k) (n - l.i) l.i) (m n 0 (area_of a)) (m (n - l.i) l.i (area_of l.self))
