use Rattle.std.proofs.Common.{length}
use Rattle.row_store.proofs.fresh.+apply.Given as goal

abbrev pub decreases-apply : goal.decreases-apply
decreases-apply l = length l.changes.now
