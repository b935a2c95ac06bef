-- Whether two final replies are one, as a test.
use Rattle.std.specs.Prelude.{ℕ, ◌==◌, ◌&&◌, Bool}
use Rattle.mds_base.specs.declared.reply.Final.{Final}
use Rattle.mds_base.specs.declared.reply.Final.TheVariants.{Created, CreatedDir, Exists, Removed, Missing, IsDir, Set}
use Rattle.mds_base.specs.declared.reply.Final.TheVariants.{Ids, Loaded, Stale, Sealed, NotEmpty, Late, Opened, Killed}

-- a final's kind, and its numbers
abbrev pub final_tag : Final → ℕ × ℕ × ℕ
final_tag Created = (1, 0, 0)
final_tag (CreatedDir number) = (2, number, 0)
final_tag Exists = (3, 0, 0)
final_tag Removed = (4, 0, 0)
final_tag Missing = (5, 0, 0)
final_tag IsDir = (6, 0, 0)
final_tag Set = (7, 0, 0)
final_tag (Ids first) = (8, first, 0)
final_tag (Loaded count) = (9, count, 0)
final_tag Stale = (10, 0, 0)
final_tag (Sealed depth epoch) = (11, depth, epoch)
final_tag NotEmpty = (12, 0, 0)
final_tag Late = (13, 0, 0)
final_tag Opened = (14, 0, 0)
final_tag Killed = (15, 0, 0)

abbrev pub same_final : Final → Final → Bool
same_final a b = (((final_tag a).0 == (final_tag b).0) && ((final_tag a).1 == (final_tag b).1))
    && ((final_tag a).2 == (final_tag b).2)
