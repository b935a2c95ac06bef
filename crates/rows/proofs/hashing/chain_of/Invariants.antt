use Rattle.std.proofs.Common.{◌^◌, ◌-◌}
use Rattle.mds_base.specs.declared.TheConstants.{RADIX}
use Rattle.chains.specs.Chain.{OnChain}
use Rattle.rows.proofs.hashing.chain_of.Given as goal

abbrev pub invariant-loop-next : goal.invariant-loop-next
invariant-loop-next l = OnChain RADIX l.hash l.part

abbrev pub decreases-loop-next : goal.decreases-loop-next
decreases-loop-next l = 2 ^ 32 - l.part
