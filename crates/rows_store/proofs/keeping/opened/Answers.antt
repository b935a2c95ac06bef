use Rattle.std.proofs.Common.{◌∙◌}
use Rattle.rows_store.proofs.Redone.{stays_ready}
use Rattle.rows_store.proofs.keeping.opened.Goals as goal

pub returns : goal.returns
returns g c =
    let was = c.in_ok-bodies.ensures in
    let stays = c.in_ok-redo_all.ensures in
    (stays.1 ∙ was.0, stays_ready c.bodies_of.new.store c.redo_all.new.store (g.D.Disk.seen c.bodies_of.new.disk) (g.D.Disk.sizes c.bodies_of.new.disk) (g.D.Disk.images c.bodies_of.new.disk) stays.0 was.1)
