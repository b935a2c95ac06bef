use Rattle.std.proofs.Common.{length}
use Rattle.mds_out.specs.Images.{IsTorn}
use Rattle.sorted_table.proofs.Elsewhere.{elsewhere_one}
use Rattle.sorted_table.proofs.writes.write_behind.Goals as goal

pub returns-clause-any_moment : goal.returns-clause-any_moment
returns-clause-any_moment g c =
    elsewhere_one g.D.Disk.moment g.D.Disk.images_since c.args.file c.args.disk.now c.write_at.new.self (IsTorn c.args.at (length c.args.bytes.now)) (g.D.Disk.images c.args.disk.now) (g.D.Disk.images c.write_at.new.self) (g.met.D.Disk.only_now c.args.disk.now) c.write_at.ensures.time c.write_at.ensures.crash
