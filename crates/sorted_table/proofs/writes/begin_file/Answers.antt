use Rattle.mds_out.specs.Images.{IsShortened}
use Rattle.sorted_table.proofs.Elsewhere.{elsewhere_one}
use Rattle.sorted_table.proofs.writes.begin_file.Goals as goal

pub returns-then-written-eq0-clause-any_moment : goal.returns-then-written-eq0-clause-any_moment
returns-then-written-eq0-clause-any_moment g c =
    elsewhere_one g.D.Disk.moment g.D.Disk.images_since c.args.file c.args.disk.now c.cut.new.self (IsShortened 0) (g.D.Disk.images c.args.disk.now) (g.D.Disk.images c.cut.new.self) (g.met.D.Disk.only_now c.args.disk.now) c.cut.ensures.time c.cut.ensures.crash
