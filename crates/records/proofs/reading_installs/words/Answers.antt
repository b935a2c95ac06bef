use Rattle.std.proofs.Common.{refl, arith}
use Rattle.records.proofs.BitmapBytes.{words_begin, words_more, words_end}
use Rattle.records.proofs.reading_installs.words.Goals as goal

pub loop-row-init : goal.loop-row-init
loop-row-init c = words_begin _ _ refl

pub loop-row-preserved : goal.loop-row-preserved
loop-row-preserved c = words_more c.loop-row.words c.args.bytes.now c.loop-row.row c.word.result c.loop-row-test.true c.word.ensures c.loop-row.invariant

pub returns : goal.returns
returns c = words_end c.loop-row.words c.args.bytes.now c.loop-row.row (omega arith) c.loop-row.invariant
