use Rattle.std.proofs.Common.{sym, subst}
use Rattle.mds_base.specs.declared.TheConstants.{RADIX}
use Rattle.chains.specs.WellFormed.{IsWellFormed}
use Rattle.bitmap.specs.Bits.{Bits, has}
use Rattle.bitmap.specs.Words.{set_of}
use Rattle.bitmap.proofs.Bitmaps.{union_stays_formed, union_grows_at}
use Rattle.bitmap.proofs.bitmap.Bitmap.merge.Goals as goal

pub invariant_of-self : goal.invariant_of-self
invariant_of-self c = record {
  whole = c.join.ensures.whole c.self.invariant.whole c.other.invariant.whole;
  well_formed =
      subst (λ (b : Bits). IsWellFormed RADIX (has b)) (sym c.join.ensures.spelled)
      (union_stays_formed (set_of c.self.inside.words) (set_of c.other.inside.words) c.self.invariant.well_formed c.other.invariant.well_formed);
}

pub returns-clause-well_formed : goal.returns-clause-well_formed
returns-clause-well_formed c =
    subst (λ (b : Bits). IsWellFormed RADIX (has b)) (sym c.join.ensures.spelled)
    (union_stays_formed (set_of c.self.inside.words) (set_of c.other.inside.words) c.self.invariant.well_formed c.other.invariant.well_formed)

pub returns-clause-grows : goal.returns-clause-grows
returns-clause-grows c =
    union_grows_at (set_of c.self.inside.words) c.args.self.now (set_of c.other.inside.words) (set_of c.join.new.words) c.self.view_is c.self.invariant.well_formed c.other.invariant.well_formed c.join.ensures.spelled
