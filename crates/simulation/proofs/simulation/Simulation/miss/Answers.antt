use Rattle.pasts.specs.Fuses.{seen_by, images_by}
use Rattle.simulation.proofs.RangesKept.{ranged_count, room_in}
use Rattle.simulation.proofs.StopRun.{missed_happens}
use Rattle.simulation.proofs.simulation.Simulation.miss.Goals as goal

pub invariant_of-self : goal.invariant_of-self
invariant_of-self g c = (ranged_count c.self.invariant.0 (room_in c.self.view_is c.requires.room), c.self.invariant.1, c.self.invariant.2)

pub returns-clause-happens : goal.returns-clause-happens
returns-clause-happens g c = missed_happens (seen_by g.D.Disk.seen) (images_by g.D.Disk.images) c.self.view_is c.requires.room c.args.message c.requires.message c.self.invariant.0.stores'.all
