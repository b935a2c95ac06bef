use Rattle.std.proofs.Common.{length}
use Rattle.row_store.proofs.looks.+row_through.Given as goal

abbrev pub decreases-row_through : goal.decreases-row_through
decreases-row_through g l = length l.tables.now
