use Rattle.std.proofs.Common.{◌∙◌, sym}
use Rattle.bitmap.specs.BitSetLaws.{same_from_test, test_from_same}
use Rattle.bitmap.specs.WordLaws.{words_test}
use Rattle.bitmap.proofs.bitmap.BitmapPartialEq.eq.Goals as goal

pub returns-clause-value : goal.returns-clause-value
returns-clause-value c =
    c.eq.ensures
    ∙ words_test c.self.inside.words c.other.inside.words c.args.self.now c.args.other.now c.self.view_is c.other.view_is c.self.invariant.whole c.other.invariant.whole

pub returns-clause-same : goal.returns-clause-same
returns-clause-same c =
    let value = words_test c.self.inside.words c.other.inside.words c.args.self.now c.args.other.now c.self.view_is c.other.view_is c.self.invariant.whole c.other.invariant.whole in (
      λ e. same_from_test c.args.self.now c.args.other.now (sym value ∙ (sym c.eq.ensures ∙ e)),
      λ e. c.eq.ensures ∙ (value ∙ test_from_same c.args.self.now c.args.other.now e),
    )
