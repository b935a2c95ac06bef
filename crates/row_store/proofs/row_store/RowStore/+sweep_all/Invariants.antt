use Rattle.std.proofs.Common.{length}
use Rattle.row_store.proofs.row_store.RowStore.+sweep_all.Given as goal

abbrev pub decreases-sweep_all : goal.decreases-sweep_all
decreases-sweep_all g l = length l.files.now
