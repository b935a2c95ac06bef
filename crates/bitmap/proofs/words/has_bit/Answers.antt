use Rattle.bitmap.proofs.Edits.{read_inside, read_past}
use Rattle.bitmap.proofs.words.has_bit.Goals as goal

pub returns-then-bit-lt-PARTS : goal.returns-then-bit-lt-PARTS
returns-then-bit-lt-PARTS c = read_inside c.args.words.now c.args.bit c.if-bit-lt-PARTS.true

pub returns-else-bit-lt-PARTS : goal.returns-else-bit-lt-PARTS
returns-else-bit-lt-PARTS c = read_past c.args.words.now c.args.bit c.if-bit-lt-PARTS.false
