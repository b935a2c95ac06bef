use Rattle.std.proofs.Common.{◌∙◌, ap, Err, refl}
use Rattle.mds_out.specs.Fused.{fused_faults}
use Rattle.mds_base.proofs.Grow.{within}
use Rattle.pasts.specs.Fuses.{seen_by, images_by}
use Rattle.simulation.specs.Payments.{stops_in_serve}
use Rattle.simulation.proofs.ServeStep.{done_on, undone_on, near_on, down_on, done_stops, serve_quiet, serve_stop}
use Rattle.simulation.proofs.servers.serve_on.Goals as goal

pub hand_out-requires : goal.hand_out-requires
hand_out-requires g c = within c.args.messages.now.sent c.args.message c.requires.one.0 c.requires.one.1

pub returns-in-Ok-clause-ok : goal.returns-in-Ok-clause-ok
returns-in-Ok-clause-ok g c = λ up msg is there.
    done_on (seen_by g.D.Disk.seen) (images_by g.D.Disk.images) (fused_faults g.D.Disk.faults) c.args.store.now c.handle.new.store c.handle.ensures.told c.handle.ensures.same up msg c.args.moment (c.in-Ok.ensures.served msg up there is) c.in-Ok.ensures.call.cause.kept c.args.message c.args.messages.now.sent c.hand_out.new.messages.sent c.args.waiting.now c.hand_out.new.waiting c.args.messages.now.made c.hand_out.new.messages.made there
    c.hand_out.result c.hand_out.ensures.sent c.hand_out.ensures.waits c.hand_out.ensures.made c.hand_out.ensures.served

pub returns-in-Ok-clause-err : goal.returns-in-Ok-clause-err
returns-in-Ok-clause-err g c = λ up msg is there.
    undone_on (seen_by g.D.Disk.seen) (images_by g.D.Disk.images) (fused_faults g.D.Disk.faults) c.args.store.now c.handle.new.store c.handle.ensures.told c.handle.ensures.same up msg c.args.moment (c.in-Ok.ensures.served msg up there is) c.hand_out.result

pub returns-in-Ok-clause-paid : goal.returns-in-Ok-clause-paid
returns-in-Ok-clause-paid g c =
    serve_quiet g.D.Disk.lasts g.D.Disk.fails g.D.Disk.faults g.met.D.Disk.lasts_on c.requires.up.1 c.handle.ensures.call.lasts (stops_in_serve c.hand_out.result) (done_stops c.hand_out.result _ _ c.hand_out.ensures.served)

pub returns-in-Device-clause-ok : goal.returns-in-Device-clause-ok
returns-in-Device-clause-ok g c = λ up msg is there.
    let device = c.in-Err.is ∙ ap Err c.in-Device.is in
    down_on (seen_by g.D.Disk.seen) (images_by g.D.Disk.images) (fused_faults g.D.Disk.faults) c.args.store.now c.handle.new.store c.handle.ensures.told c.handle.ensures.same up msg c.args.moment c.args.messages.now.sent c.args.waiting.now c.args.messages.now.made (c.in-Err.ensures.refused msg up there is) is
    (c.handle.ensures.down device) (c.handle.ensures.call.cause.device device)

pub returns-in-Device-clause-paid : goal.returns-in-Device-clause-paid
returns-in-Device-clause-paid g c =
    let device = c.in-Err.is ∙ ap Err c.in-Device.is in
    serve_stop g.D.Disk.lasts g.D.Disk.fails g.D.Disk.faults g.met.D.Disk.lasts_on c.requires.up.1 c.handle.ensures.call.lasts g.met.D.Disk.fails_rise (c.handle.ensures.down device) (c.handle.ensures.call.failed device)

pub returns-in_default-clause-err : goal.returns-in_default-clause-err
returns-in_default-clause-err g c = λ up msg is there.
    near_on (seen_by g.D.Disk.seen) (images_by g.D.Disk.images) (fused_faults g.D.Disk.faults) c.args.store.now c.handle.new.store c.handle.ensures.told c.handle.ensures.same up msg c.args.moment (c.in-Err.ensures.refused msg up there is)

pub returns-in_default-clause-paid : goal.returns-in_default-clause-paid
returns-in_default-clause-paid g c = serve_quiet g.D.Disk.lasts g.D.Disk.fails g.D.Disk.faults g.met.D.Disk.lasts_on c.requires.up.1 c.handle.ensures.call.lasts 0 refl
