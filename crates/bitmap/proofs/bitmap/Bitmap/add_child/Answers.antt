use Rattle.std.proofs.Common.{◌+◌, ◌^◌, ◌<◌, ℕ, refl, sym, ap, ◌∙◌, subst, lit≤}
use Rattle.std.specs.FinSet as set
use Rattle.std.proofs.lemmas.Bool.{false≢true}
use Rattle.mds_base.specs.declared.TheConstants.{RADIX}
use Rattle.bitmap.specs.Words.{set_of}
use Rattle.bitmap.proofs.Bitmaps.{refused, refused_least, Adds, adds, adds_formed, adds_stays, adds_splits, adds_halves, grown_formed, child_below}
use Rattle.bitmap.proofs.bitmap.Bitmap.add_child.Goals as goal

pub returns-in-Some-clause-exactly : goal.returns-in-Some-clause-exactly
returns-in-Some-clause-exactly c = (
  λ e. absurd (false≢true e),
  λ g. absurd (refused (set_of c.self.inside.words) c.args.self.now c.self.view_is c.self.invariant.well_formed c.args.part c.args.depth c.in-Some.bit c.requires.in_depth c.requires.in_radix c.in-Some.ensures g),
)

pub returns-in-Some-clause-least : goal.returns-in-Some-clause-least
returns-in-Some-clause-least c =
    refused_least (set_of c.self.inside.words) c.args.self.now c.self.view_is c.self.invariant.well_formed c.args.part c.args.depth c.in-Some.bit c.requires.in_depth c.requires.in_radix c.in-Some.ensures

pub set_bit-requires : goal.set_bit-requires
set_bit-requires c =
    let P : ℕ → Type 0 = λ x. c.args.part + x < 2 ^ RADIX in
    subst P (sym c.power.ensures) (child_below c.args.part c.args.depth RADIX c.requires.in_depth c.requires.in_radix)

added : (c : goal.After-set_bit) → Adds RADIX c.args.self.now (set_of c.set_bit.new.words) c.args.part c.args.depth
added c =
    adds (set_of c.self.inside.words) c.args.self.now (set_of c.set_bit.new.words) c.self.view_is c.self.invariant.well_formed c.args.part c.args.depth c.requires.in_depth c.requires.in_radix c.in_default.ensures
    (c.set_bit.ensures.spelled ∙ ap (λ x. set.insert (set_of c.self.inside.words) (c.args.part + x)) c.power.ensures)

pub invariant_of-self : goal.invariant_of-self
invariant_of-self c = grown_formed c.set_bit.new.words (added c) (c.set_bit.ensures.whole c.self.invariant.whole)

pub returns-clause-exactly : goal.returns-clause-exactly
returns-clause-exactly c = (λ _. adds_formed (added c), λ _. refl)

pub returns-clause-stays : goal.returns-clause-stays
returns-clause-stays c = adds_stays (added c)

pub returns-clause-depths : goal.returns-clause-depths
returns-clause-depths c = adds_splits (added c)

pub returns-clause-halves : goal.returns-clause-halves
returns-clause-halves c = adds_halves (lit≤ tt) (added c)

pub returns-clause-well_formed : goal.returns-clause-well_formed
returns-clause-well_formed c = (added c).grown
