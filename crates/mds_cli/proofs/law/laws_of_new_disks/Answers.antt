use Rattle.mds_cli.proofs.DisksNew.{new_disks, new_memories}
use Rattle.mds_cli.proofs.law.laws_of_new_disks.Goals as goal

pub returns-clause-any : goal.returns-clause-any
returns-clause-any g c = new_disks g.D.Disk.seen g.D.Disk.images

pub returns-clause-memory : goal.returns-clause-memory
returns-clause-memory g c = new_memories
