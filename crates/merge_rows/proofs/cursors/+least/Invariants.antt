use Rattle.std.proofs.Common.{length}
use Rattle.merge_rows.proofs.cursors.+least.Given as goal

abbrev pub decreases-least : goal.decreases-least
decreases-least l = length l.cursors.now
