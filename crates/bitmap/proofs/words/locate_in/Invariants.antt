use Rattle.std.proofs.Common.{◌^◌, ◌-◌, IsTrue}
use Rattle.mds_base.specs.declared.TheConstants.{RADIX}
use Rattle.chains.specs.Chain.{OnChain}
use Rattle.bitmap.specs.Bits.{has}
use Rattle.bitmap.specs.Words.{set_of}
use Rattle.bitmap.proofs.words.locate_in.Given as goal

abbrev pub invariant-loop-next : goal.invariant-loop-next
invariant-loop-next l = record {
  on : OnChain RADIX l.hash l.part;
  held : IsTrue (has (set_of l.words) l.part);
}

abbrev pub decreases-loop-next : goal.decreases-loop-next
decreases-loop-next l = 2 ^ 32 - l.part
