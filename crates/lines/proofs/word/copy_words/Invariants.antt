-- The first words are those of the bytes, and the rest stay.
use Rattle.std.proofs.Common.{◌≡◌, ◌++◌, drop}
use Rattle.meaning.specs.Lines.{words_in}
use Rattle.lines.proofs.word.copy_words.Given as goal

abbrev pub invariant-loop-i : goal.invariant-loop-i
invariant-loop-i l = l.words ≡ words_in l.bytes 0 l.i ++ drop l.i l.initial.words
