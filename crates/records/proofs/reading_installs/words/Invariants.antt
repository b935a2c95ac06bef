use Rattle.records.proofs.BitmapBytes.{WordsRead}
use Rattle.records.proofs.reading_installs.words.Given as goal

abbrev pub invariant-loop-row : goal.invariant-loop-row
invariant-loop-row l = WordsRead l.words l.bytes l.row
