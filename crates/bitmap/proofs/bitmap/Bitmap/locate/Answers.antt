use Rattle.bitmap.specs.Words.{set_of}
use Rattle.bitmap.proofs.Bitmaps.{answers_located, answers_prefix}
use Rattle.bitmap.proofs.bitmap.Bitmap.locate.Goals as goal

pub returns-clause-greatest : goal.returns-clause-greatest
returns-clause-greatest c =
    answers_located (set_of c.self.inside.words) c.args.self.now c.self.view_is c.self.invariant.well_formed c.args.hash c.locate_in.result c.locate_in.ensures

pub returns-clause-prefix : goal.returns-clause-prefix
returns-clause-prefix c =
    answers_prefix (set_of c.self.inside.words) c.args.self.now c.self.view_is c.self.invariant.well_formed c.args.hash
