use Rattle.mds_out.proofs.Fusing.{refused_reading}
use Rattle.mds_out.proofs.fuse.FuseDisk.length.Goals as goal

pub returns-then-refuses-clause-call : goal.returns-then-refuses-clause-call
returns-then-refuses-clause-call g c = refused_reading g.D.Disk.seen g.D.Disk.sizes g.D.Disk.images g.D.Disk.moment g.D.Disk.images_since g.D.Disk.faults g.D.Disk.changes_asked g.D.Disk.lasts g.D.Disk.fails
    g.met.D.Disk.lasts_here c.args.self.now c.refuses.new.self c.if-refuses.ensures.0 c.if-refuses.ensures.1 c.if-refuses.ensures.2
