use Rattle.std.proofs.Common.{ap, sym, ◌∙◌}
use Rattle.bitmap.specs.Words.{words_of}
use Rattle.bitmap.specs.WordLaws.{words_back}
use Rattle.bitmap.proofs.bitmap.Bitmap.words.Goals as goal

pub returns-clause-value : goal.returns-clause-value
returns-clause-value c =
    sym (words_back c.self.inside.words c.self.invariant.whole) ∙ ap words_of c.self.view_is
