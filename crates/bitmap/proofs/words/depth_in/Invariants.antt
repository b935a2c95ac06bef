use Rattle.std.proofs.Common.{◌-◌, ◌^◌, ◌<◌, ◌≤◌}
use Rattle.mds_base.specs.declared.TheConstants.{RADIX}
use Rattle.chains.specs.Depth.{HasChildrenBelow}
use Rattle.bitmap.specs.Bits.{has}
use Rattle.bitmap.specs.Words.{set_of}
use Rattle.bitmap.proofs.words.depth_in.Given as goal

abbrev pub invariant-loop-depth : goal.invariant-loop-depth
invariant-loop-depth l = record {
  within : l.depth ≤ RADIX;
  digits : l.part < 2 ^ l.depth;
  children : HasChildrenBelow l.part l.depth (has (set_of l.words));
}

abbrev pub decreases-loop-depth : goal.decreases-loop-depth
decreases-loop-depth l = RADIX - l.depth
