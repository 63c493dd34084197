-- All files over 4,096 bytes have one line: such a file is refused by 1 whatever its bytes are. Assumes nothing.
use Rattle.std.proofs.Common.{◌≡◌, ℕ, ◌<◌, List, length}
use Rattle.std.proofs.lemmas.Bool.{lt-leb}
use Rattle.meaning.specs.Outcome.{refuse}
use Rattle.meaning.specs.Reading.{read}
use Rattle.meaning.specs.Verdict.{accepted, verdict}
use Rattle.meaning.specs.Answers.{verdict_of}
use Rattle.meaning.specs.Lines.{check_line}

over : (file : List ℕ) → 4096 < length file → read file ≡ refuse 1 0
unfolding read
over file h = rw (lt-leb (length file) 4096 h, read)

pub one_line : (file other : List ℕ) → 4096 < length file → 4096 < length other → check_line file ≡ check_line other
unfolding check_line verdict_of verdict accepted
one_line file other h k = rw (over file h, over other k)
