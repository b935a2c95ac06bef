use Rattle.std.proofs.Common.{refl, sym, ap, ◌∙◌, ◌+◌, arith}
use Rattle.mds_base.specs.declared.TheConstants.{RADIX}
use Rattle.chains.specs.Depth.{IsDepth}
use Rattle.chains.proofs.Depths.{depth_is}
use Rattle.bitmap.specs.Bits.{has}
use Rattle.bitmap.specs.Words.{set_of}
use Rattle.bitmap.proofs.Bitmaps.{length_by_zeros, length_within, length_children, depth_done}
use Rattle.bitmap.proofs.words.depth_in.Goals as goal

pub loop-depth-init : goal.loop-depth-init
loop-depth-init c =
    let digits = length_by_zeros c.args.part _ c.ranges.part.fits refl in
    record {
      within = length_within (c.requires.well_formed.below c.args.part c.requires.there) digits;
      digits = digits.fits;
      children = length_children (has (set_of c.args.words.now)) digits;
    }

found : (c : goal.Else-has_bit) → IsDepth RADIX c.args.part (has (set_of c.args.words.now)) c.loop-depth.depth
found c = record {
  within = c.loop-depth.invariant.within;
  digits = c.loop-depth.invariant.digits;
  free = λ _.
      ap (λ x. has (set_of c.args.words.now) (c.args.part + x)) (sym c.power.ensures)
      ∙ (sym c.has_bit.ensures ∙ c.if-has_bit.false);
  least = c.loop-depth.invariant.children;
}

pub returns-else-has_bit-clause-value : goal.returns-else-has_bit-clause-value
returns-else-has_bit-clause-value c = sym (depth_is c.loop-depth.depth (found c))

pub returns-else-has_bit-clause-least : goal.returns-else-has_bit-clause-least
returns-else-has_bit-clause-least c = found c

pub returns-after-loop-depth-clause-value : goal.returns-after-loop-depth-clause-value
returns-after-loop-depth-clause-value c =
    sym (depth_done (has (set_of c.args.words.now)) c.loop-depth.depth c.loop-depth.invariant.within c.loop-depth.invariant.digits c.loop-depth.invariant.children (λ lt. absurd (omega arith)))
