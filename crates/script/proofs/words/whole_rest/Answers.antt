use Rattle.script.proofs.Splitting.{no_rest, rest_taken}
use Rattle.script.proofs.words.whole_rest.Goals as goal

pub returns-then-is_empty : goal.returns-then-is_empty
returns-then-is_empty c = no_rest c.args.bytes.now c.blanks.result c.is_empty.result c.blanks.ensures c.is_empty.ensures c.if-is_empty.true

pub returns : goal.returns
returns c = rest_taken c.args.bytes.now c.split_at.result.0.now c.split_at.result.1.now c.blanks.result c.is_empty.result c.blanks.ensures c.is_empty.ensures c.if-is_empty.false c.split_at.ensures.front c.split_at.ensures.back
