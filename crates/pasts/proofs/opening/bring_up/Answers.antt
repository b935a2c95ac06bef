use Rattle.pasts.proofs.ServerOpened.{handed, fused_up, fused_counted, open_fault}
use Rattle.pasts.proofs.opening.bring_up.Goals as goal

pub returns-in-Ok-clause-up : goal.returns-in-Ok-clause-up
returns-in-Ok-clause-up g c =
    let d = g.D.Disk in
    let e = c.in-Ok.ensures in
    let s = c.in-Ok.store in
    fused_up d.lasts d.seen d.images c.args.setup c.args.server c.args.disk s c.fused.result c.fused.ensures e.named e.sure e.keeps e.opened
    (handed d.lasts d.seen d.images d.moment d.images_since g.met.D.Disk.counts_now c.args.setup c.args.server c.args.disk s.disk e.lasts e.told e.any_moment)

pub returns-in-Ok-clause-counts : goal.returns-in-Ok-clause-counts
returns-in-Ok-clause-counts g c = fused_counted g.D.Disk.faults c.args.disk c.in-Ok.store c.fused.result c.fused.ensures c.in-Ok.ensures.same

pub returns-in-Err-clause-back : goal.returns-in-Err-clause-back
returns-in-Err-clause-back g c =
    let d = g.D.Disk in
    let e = c.in-Err.ensures in
    handed d.lasts d.seen d.images d.moment d.images_since g.met.D.Disk.counts_now c.args.setup c.args.server c.args.disk c.in-Err.refused.disk e.lasts_refused e.told e.any_moment

pub returns-in-Err-clause-cause : goal.returns-in-Err-clause-cause
returns-in-Err-clause-cause g c =
    let d = g.D.Disk in
    let e = c.in-Err.ensures in
    open_fault d.faults d.seen c.args.setup c.args.server c.args.disk c.in-Err.refused.disk c.in-Err.refused.fault e.refused e.still e.device
