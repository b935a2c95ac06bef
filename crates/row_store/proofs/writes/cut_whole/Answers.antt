use Rattle.mds_out.specs.Images.{IsShortened}
use Rattle.sorted_table.proofs.Elsewhere.{elsewhere_one}
use Rattle.row_store.proofs.writes.cut_whole.Goals as goal

pub returns-clause-any_moment : goal.returns-clause-any_moment
returns-clause-any_moment g c =
    elsewhere_one g.D.Disk.moment g.D.Disk.images_since c.args.file c.args.disk.now c.cut.new.self (IsShortened 0) (g.D.Disk.images c.args.disk.now) (g.D.Disk.images c.cut.new.self) (g.met.D.Disk.only_now c.args.disk.now) c.cut.ensures.time c.cut.ensures.crash
