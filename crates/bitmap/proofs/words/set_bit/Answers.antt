use Rattle.bitmap.proofs.Edits.{set_marked, whole_marked}
use Rattle.bitmap.proofs.words.set_bit.Goals as goal

pub returns-clause-spelled : goal.returns-clause-spelled
returns-clause-spelled c = set_marked c.args.words.now c.args.bit c.told-words c.requires

pub returns-clause-whole : goal.returns-clause-whole
returns-clause-whole c = whole_marked c.args.words.now c.args.bit c.requires
