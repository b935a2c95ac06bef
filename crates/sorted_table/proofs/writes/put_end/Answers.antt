use Rattle.sorted_table.proofs.Elsewhere.{elsewhere_on, elsewhere_sync}
use Rattle.sorted_table.proofs.writes.put_end.Goals as goal

pub returns-clause-any_moment : goal.returns-clause-any_moment
returns-clause-any_moment g c =
    elsewhere_on g.D.Disk.moment g.D.Disk.images_since c.args.file c.args.disk.now c.put_block.new.disk c.sync.new.self (g.D.Disk.images c.args.disk.now) (g.D.Disk.images c.put_block.new.disk) (g.met.D.Disk.counts_now c.put_block.new.disk)
    c.put_block.ensures.any_moment
    (elsewhere_sync g.D.Disk.moment g.D.Disk.images_since c.args.file c.put_block.new.disk c.sync.new.self (g.D.Disk.images c.put_block.new.disk) (g.D.Disk.images c.sync.new.self) (g.met.D.Disk.only_now c.put_block.new.disk) c.sync.ensures.time c.sync.ensures.crash)
