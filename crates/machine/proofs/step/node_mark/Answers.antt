-- The proof of `node_mark`. Assumes nothing.
use Rattle.std.proofs.Common.{◌+◌, arith}
use Rattle.standing.specs.Bytes.{byte_at, mark_at}
use Rattle.machine.proofs.step.Marked.{marked}
use Rattle.machine.proofs.step.Tries.{by_letters}
use Rattle.machine.proofs.step.node_mark.Goals as goal

pub returns : goal.returns
returns c = marked (mark_at c.args.file.now c.args.at) (rw (c.by_distance.ensures, c.byte.ensures.0, c.byte-2.ensures.0) (by_letters (byte_at c.args.file.now c.args.at) (byte_at c.args.file.now (c.args.at + 1)) (omega (arith, c.byte-2.ensures.0, c.byte-2.ensures.1)) (omega (arith, c.byte.ensures.0, c.byte.ensures.1)) c.requires.1))
