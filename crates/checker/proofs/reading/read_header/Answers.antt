-- The records of each kind that are read, or the refusal, are those of the header. Assumes nothing.
use native.Mathlib.Omega.{arith}
use Rattle.std.proofs.lemmas.Grind.{common_steps}
use Rattle.checker.specs.Opening.{HeaderRead}
use Rattle.checker.proofs.reading.Filed.{header_start, functions_start, stops_by, stops_short, stops_here, header_goes}
use Rattle.checker.proofs.reading.read_header.Goals as goal

pub read_records-requires : goal.read_records-requires
read_records-requires c = (c.requires.0, header_start _ _ c.requires.1)

pub returns-in_err-constructors : goal.returns-in_err-constructors
unfolding HeaderRead
returns-in_err-constructors c = let h = stops_by _ _ _ _ c.requires.0 c.in_err-constructors.ensures in grind (arith, common_steps)

pub read_records-requires-2 : goal.read_records-requires-2
read_records-requires-2 c = (c.requires.0, functions_start _ _ _ c.in_ok-constructors.ensures)

pub returns-in_err-functions : goal.returns-in_err-functions
unfolding HeaderRead
returns-in_err-functions c = let h = stops_by _ _ _ _ c.requires.0 c.in_err-functions.ensures in grind (arith, common_steps)

pub returns-in_err-read_mark : goal.returns-in_err-read_mark
unfolding HeaderRead
returns-in_err-read_mark c = let h = stops_short _ _ _ c.requires.0 c.in_ok-functions.ensures _ c.if-functions-eq0.true c.in_err-read_mark.ensures in grind (arith, common_steps)

pub returns-then-functions-eq0 : goal.returns-then-functions-eq0
unfolding HeaderRead
returns-then-functions-eq0 c = let h = stops_here _ _ _ c.requires.0 c.in_ok-functions.ensures _ c.if-functions-eq0.true c.in_ok-read_mark.ensures in grind (arith, common_steps)

pub returns : goal.returns
unfolding HeaderRead
returns c = header_goes _ _ _ c.requires.0 c.in_ok-functions.ensures c.if-functions-eq0.false
