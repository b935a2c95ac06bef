use Rattle.std.proofs.Common.{length}
use Rattle.plain_dir.proofs.directory.PlainDir.+load.Given as goal

-- fewer rows are left
abbrev pub decreases-load : goal.decreases-load
decreases-load l = length l.rows.now
