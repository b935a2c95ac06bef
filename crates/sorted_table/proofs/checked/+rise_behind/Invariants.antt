use Rattle.std.proofs.Common.{length}
use Rattle.sorted_table.proofs.checked.+rise_behind.Given as goal

abbrev pub decreases-rise_behind : goal.decreases-rise_behind
decreases-rise_behind l = length l.rows.now
