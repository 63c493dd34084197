-- A request that was read or none, as the definitions have it. Assumes nothing.
use Rattle.std.specs.Prelude.{Option, None, Some}
use Rattle.std.proofs.Math.Option as math
use Rattle.meaning.specs.Lines.{Request}

abbrev pub parsed : Option Request → math.Option Request
parsed None = math.none
parsed (Some r) = math.some r
