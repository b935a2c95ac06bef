use Rattle.mds_base.specs.declared.TheConstants.{RADIX}
use Rattle.bitmap.proofs.Bitmaps.{first_bitmap}
use Rattle.bitmap.proofs.bitmap.Bitmap.zero.Goals as goal

pub invariant_of-result : goal.invariant_of-result
invariant_of-result c = (first_bitmap RADIX c.set_bit.new.words c.set_bit.ensures.spelled c.set_bit.ensures.whole).1

pub returns-clause-value : goal.returns-clause-value
returns-clause-value c = (first_bitmap RADIX c.set_bit.new.words c.set_bit.ensures.spelled c.set_bit.ensures.whole).0

pub returns-clause-well_formed : goal.returns-clause-well_formed
returns-clause-well_formed c =
    (first_bitmap RADIX c.set_bit.new.words c.set_bit.ensures.spelled c.set_bit.ensures.whole).1.well_formed
