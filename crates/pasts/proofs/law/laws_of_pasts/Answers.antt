use Rattle.std.proofs.Common.{refl}
use Rattle.pasts.proofs.DisksLeft.{found_left}
use Rattle.pasts.proofs.PastOnTerms.{found_on, terms_may_change}
use Rattle.pasts.proofs.law.laws_of_pasts.Goals as goal

pub returns-clause-runs : goal.returns-clause-runs
returns-clause-runs g c =
    let d = g.D.Disk in
    λ older from there last disks reached may are terms share. (
      share,
      _,
      record { from = from; there = there; reached = reached; may = may; ends = refl },
      found_on d.seen d.images last.setup terms share disks _ (found_left d.seen d.images last.setup disks _ are),
    )

pub returns-clause-terms : goal.returns-clause-terms
returns-clause-terms g c = terms_may_change g.D.Disk.seen g.D.Disk.images
