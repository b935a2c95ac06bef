use Rattle.std.proofs.Common.{◌<◌, arith}
use Rattle.std.proofs.lemmas.Result.{IfOk-weaker, IfErr-weaker}
use Rattle.pasts.proofs.PastBegun.{opens_from}
use Rattle.pasts.proofs.DisksLeft.{reached_sound}
use Rattle.pasts.proofs.PastRefused.{are_reached_still, come_back, come_same}
use Rattle.pasts.proofs.opening.Servers.open.Goals as goal

pub returns-clause-opens : goal.returns-clause-opens
returns-clause-opens g c =
    let d = g.D.Disk in
    let some : 0 < c.args.setup.servers = let s = c.requires.setup.some_server in omega arith in
    IfOk-weaker c.bring_up_all.result _ _ (λ servers up. opens_from d.lasts d.seen d.images g.met.D.Disk.reads_as c.laws_of_disks.ensures.one c.args.setup servers.stores.items c.args.disks.items up some) c.bring_up_all.ensures.up

pub returns-clause-back : goal.returns-clause-back
returns-clause-back g c =
    let d = g.D.Disk in
    IfErr-weaker c.bring_up_all.result _ _ (λ refused back. come_back d.lasts d.seen d.images c.args.setup 0 c.args.disks.items refused.disks.items back) c.bring_up_all.ensures.back

pub returns-clause-still : goal.returns-clause-still
returns-clause-still g c =
    let d = g.D.Disk in
    IfErr-weaker c.bring_up_all.result _ _ (λ refused back. are_reached_still d.lasts d.seen d.images c.args.setup c.args.disks.items refused.disks.items back) c.bring_up_all.ensures.back

pub returns-clause-sound : goal.returns-clause-sound
returns-clause-sound g c =
    let d = g.D.Disk in
    IfErr-weaker c.bring_up_all.result _ _
    (λ refused is. reached_sound d.faults d.seen d.images g.met.D.Disk.reads_as c.laws_of_disks.ensures.sound c.args.setup c.args.disks.items refused.disks.items refused.server refused.fault c.requires.setup c.requires.disks is)
    c.bring_up_all.ensures.refused

pub returns-in_default-clause-back : goal.returns-in_default-clause-back
returns-in_default-clause-back g c = rw c.without_memory.ensures (come_same g.D.Disk.lasts g.met.D.Disk.lasts_here c.args.disks.items)

pub returns-in_default-with_capacity-clause-back : goal.returns-in_default-with_capacity-clause-back
returns-in_default-with_capacity-clause-back g c =
    rw c.without_memory-in_default-with_capacity.ensures (come_same g.D.Disk.lasts g.met.D.Disk.lasts_here c.args.disks.items)
