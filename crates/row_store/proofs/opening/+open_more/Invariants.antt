use Rattle.std.proofs.Common.{length}
use Rattle.row_store.proofs.opening.+open_more.Given as goal

abbrev pub decreases-open_more : goal.decreases-open_more
decreases-open_more g l = length l.files.now
