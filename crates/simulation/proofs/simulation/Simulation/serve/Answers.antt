use Rattle.std.proofs.Common.{ap, Ok}
use Rattle.message_store.specs.Made.{MessagesV}
use Rattle.mds_out.specs.Fused.{fused_faults}
use Rattle.pasts.specs.Fuses.{seen_by, images_by}
use Rattle.simulation.proofs.RangesKept.{ranged_event, ranged_still, room_in, same_sent, served_sent, stores_set}
use Rattle.simulation.proofs.ServeStep.{on_err, serving, serve_after, serve_near, serve_others, serve_paid, refused_paid, serves_of}
use Rattle.simulation.proofs.simulation.Simulation.serve.Goals as goal

pub serve_on-requires-clause-up : goal.serve_on-requires-clause-up
serve_on-requires-clause-up g c =
    let s = serving c.self.view_is c.requires.room c.args.message c.in-Some.server c.index_mut.result.now c.requires.message c.in-Some.ensures.value c.index_mut.ensures.value in
    (s.up, s.to.up', s.to.numbers)

pub serve_on-requires-clause-one : goal.serve_on-requires-clause-one
serve_on-requires-clause-one g c =
    let s = serving c.self.view_is c.requires.room c.args.message c.in-Some.server c.index_mut.result.now c.requires.message c.in-Some.ensures.value c.index_mut.ensures.value in
    (s.msg, s.to.there, (c.self.invariant.0.ranges.sent'.at c.args.message s.msg s.to.there).made)

pub invariant_of-self : goal.invariant_of-self
invariant_of-self g c =
    let s = serving c.self.view_is c.requires.room c.args.message c.in-Some.server c.index_mut.result.now c.requires.message c.in-Some.ensures.value c.index_mut.ensures.value in
    let r = c.self.invariant.0 in
    (ranged_still r _ _ (stores_set c.in-Some.server c.index_mut.result.now c.serve_on.new.store r.stores' s.to.is c.serve_on.ensures.same) (same_sent r.ranges c.serve_on.new.messages.sent (ap (λ (v : MessagesV). v.sent) c.in_err-served.ensures.unsent)), c.self.invariant.1, c.self.invariant.2)

pub returns-in_err-served-clause-err : goal.returns-in_err-served-clause-err
returns-in_err-served-clause-err g c =
    let s = serving c.self.view_is c.requires.room c.args.message c.in-Some.server c.index_mut.result.now c.requires.message c.in-Some.ensures.value c.index_mut.ensures.value in
    on_err _ _ (serve_near c.self.view_is s (seen_by g.D.Disk.seen) (images_by g.D.Disk.images) c.serve_on.new.store (c.in_err-served.ensures.err s.up s.msg s.to.up' s.to.there))

pub returns-in_err-served-clause-others : goal.returns-in_err-served-clause-others
returns-in_err-served-clause-others g c =
    let s = serving c.self.view_is c.requires.room c.args.message c.in-Some.server c.index_mut.result.now c.requires.message c.in-Some.ensures.value c.index_mut.ensures.value in
    on_err _ _ (serve_others c.self.view_is s c.serve_on.new.store)

pub returns-in_err-served-clause-paid : goal.returns-in_err-served-clause-paid
returns-in_err-served-clause-paid g c =
    let s = serving c.self.view_is c.requires.room c.args.message c.in-Some.server c.index_mut.result.now c.requires.message c.in-Some.ensures.value c.index_mut.ensures.value in
    refused_paid g.D.Disk.faults g.D.Disk.lasts c.self.view_is s c.serve_on.new.store c.from_residual.result c.in_err-served.field-0.0 c.from_residual.ensures.1 c.in_err-served.ensures.paid

pub invariant_of-self-2 : goal.invariant_of-self-2
invariant_of-self-2 g c =
    let s = serving c.self.view_is c.requires.room c.args.message c.in-Some.server c.index_mut.result.now c.requires.message c.in-Some.ensures.value c.index_mut.ensures.value in
    let r = c.self.invariant.0 in
    let on = c.in_ok-served.ensures.ok s.up s.msg s.to.up' s.to.there in
    (ranged_event r (room_in c.self.view_is c.requires.room) _ _ (stores_set c.in-Some.server c.index_mut.result.now c.serve_on.new.store r.stores' s.to.is c.serve_on.ensures.same) (served_sent r.ranges s.up s.msg c.self.inside.moment c.in_ok-served.served c.serve_on.new.messages.sent on.sends), c.self.invariant.1, c.self.invariant.2)

pub returns-clause-after : goal.returns-clause-after
returns-clause-after g c =
    let s = serving c.self.view_is c.requires.room c.args.message c.in-Some.server c.index_mut.result.now c.requires.message c.in-Some.ensures.value c.index_mut.ensures.value in
    serve_after c.self.view_is s (seen_by g.D.Disk.seen) (images_by g.D.Disk.images) (fused_faults g.D.Disk.faults) c.serve_on.new.store c.in_ok-served.served c.serve_on.new.messages.sent c.serve_on.new.messages.made _ _ (c.in_ok-served.ensures.ok s.up s.msg s.to.up' s.to.there) c.no_longer_waits.ensures

pub returns-clause-ok : goal.returns-clause-ok
returns-clause-ok g c = λ other meant. serves_of (seen_by g.D.Disk.seen) (images_by g.D.Disk.images) (fused_faults g.D.Disk.faults) c.in_ok-served.served (returns-clause-after g c other meant)

pub returns-clause-paid : goal.returns-clause-paid
returns-clause-paid g c =
    let s = serving c.self.view_is c.requires.room c.args.message c.in-Some.server c.index_mut.result.now c.requires.message c.in-Some.ensures.value c.index_mut.ensures.value in
    serve_paid g.D.Disk.faults g.D.Disk.lasts c.self.view_is s c.serve_on.new.store (Ok c.in_ok-served.served) c.in_ok-served.ensures.paid
