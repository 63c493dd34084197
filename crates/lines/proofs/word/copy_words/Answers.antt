-- One word more.
use Rattle.std.proofs.Common.{◌*◌, refl, zero-add}
use Rattle.meaning.specs.Lines.{words_in}
use Rattle.lines.proofs.Words.{next_word}
use Rattle.lines.proofs.word.copy_words.Goals as goal

pub loop-i-init : goal.loop-i-init
unfolding words_in
loop-i-init c = refl

pub loop-i-preserved : goal.loop-i-preserved
loop-i-preserved c = rw (c.word_at.ensures, c.loop-i.invariant) (rw (← zero-add (4 * c.loop-i.i)) (next_word _ 0 _ _ c.loop-i-test.true))
