use Rattle.sorted_table.proofs.Elsewhere.{elsewhere_on}
use Rattle.sorted_table.proofs.writes.put_block.Goals as goal

pub returns-clause-any_moment : goal.returns-clause-any_moment
returns-clause-any_moment g c =
    elsewhere_on g.D.Disk.moment g.D.Disk.images_since c.args.file c.args.disk.now c.begin_file.new.disk c.write_behind.new.disk (g.D.Disk.images c.args.disk.now) (g.D.Disk.images c.begin_file.new.disk) (g.met.D.Disk.counts_now c.begin_file.new.disk)
    c.begin_file.ensures.any_moment c.write_behind.ensures.any_moment
