use Rattle.std.proofs.Common.{length}
use Rattle.row_store.proofs.seeking.+key_through.Given as goal

abbrev pub decreases-key_through : goal.decreases-key_through
decreases-key_through g l = length l.tables.now
