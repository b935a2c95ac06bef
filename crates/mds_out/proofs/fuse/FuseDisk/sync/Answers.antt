use Rattle.mds_out.proofs.Fusing.{refused_unchanged}
use Rattle.mds_out.proofs.fuse.FuseDisk.sync.Goals as goal

pub returns-then-refuses-clause-unchanged : goal.returns-then-refuses-clause-unchanged
returns-then-refuses-clause-unchanged g c = refused_unchanged g.D.Disk.seen g.D.Disk.sizes c.args.self.now c.refuses.new.self c.if-refuses.ensures.2
