use Rattle.std.proofs.Common.{◌≡◌, length}
use Rattle.block_cache.specs.Blocks.{without}
use Rattle.block_cache.proofs.block_cache.BlockCache.leave.Given as goal

abbrev pub invariant-loop-place : goal.invariant-loop-place
invariant-loop-place l = without l.self l.file ≡ without l.fn.self l.file

abbrev pub decreases-loop-place : goal.decreases-loop-place
decreases-loop-place l = length l.self.entries
