-- What the records that are read declare stands in the table, and each lies past the one before. Assumes nothing.
use Prim.Native.Nat.{◌-◌}
use lib.ListN.{length}
use Rattle.checker.specs.Opening.{Counted}
use Rattle.checker.proofs.reading.read_records.Given as goal

abbrev pub invariant-loop-records : goal.invariant-loop-records
invariant-loop-records l = Counted l.records l.file l.table.words l.count l.at

abbrev pub decreases-loop-records : goal.decreases-loop-records
decreases-loop-records l = length l.file - l.at
