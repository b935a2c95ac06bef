use Rattle.bitmap.proofs.WordTests.{one_word, two_words}
use Rattle.bitmap.proofs.missing.bits_from.Goals as goal

pub returns-then-shift-eq0 : goal.returns-then-shift-eq0
returns-then-shift-eq0 c =
    one_word c.args.words.now c.args.first c.word_at.result c.told-words c.word_at.ensures c.if-shift-eq0.true

pub returns-else-shift-eq0 : goal.returns-else-shift-eq0
returns-else-shift-eq0 c =
    two_words c.args.words.now c.args.first c.word_at.result c.word_at-else-shift-eq0.result c.told-words c.fits-words c.word_at.ensures c.word_at-else-shift-eq0.ensures c.if-shift-eq0.false
