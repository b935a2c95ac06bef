use Rattle.std.proofs.Common.{refl, arith}
use Rattle.node_core.proofs.Calls.{well_made_fits}
use Rattle.pasts.specs.Fuses.{seen_by, images_by}
use Rattle.simulation.specs.Moves.{issued_by}
use Rattle.simulation.specs.Shows.{is_idle}
use Rattle.world.specs.declared.event.Event.TheVariants.{Issue}
use Rattle.simulation.proofs.ClientStep.{called, seat_below, idle, left, numbers_at, stayed_ranged, issuing, issued_is, send_ranged, send_place, send_request, send_after, happens_after}
use Rattle.simulation.proofs.RangesKept.{in_range}
use Rattle.simulation.proofs.IssueRun.{issued_happens}
use Rattle.simulation.proofs.simulation.Simulation.issue.Goals as goal

pub index_mut-requires : goal.index_mut-requires
index_mut-requires g c = let low = seat_below c.self.view_is is_idle c.args.client refl c.requires.free in omega (arith, low)

pub issue-requires-clause-idle : goal.issue-requires-clause-idle
issue-requires-clause-idle g c = idle (called c.self.view_is is_idle c.args.client c.index_mut.result.now c.self.invariant.0 c.requires.room refl c.requires.free c.index_mut.ensures.value)

pub issue-requires-clause-room : goal.issue-requires-clause-room
issue-requires-clause-room g c = (left (called c.self.view_is is_idle c.args.client c.index_mut.result.now c.self.invariant.0 c.requires.room refl c.requires.free c.index_mut.ensures.value)).0

pub issue-requires-clause-fits : goal.issue-requires-clause-fits
issue-requires-clause-fits g c = well_made_fits c.args.call c.requires.made.made

pub invariant_of-self : goal.invariant_of-self
invariant_of-self g c =
    let at = called c.self.view_is is_idle c.args.client c.index_mut.result.now c.self.invariant.0 c.requires.room refl c.requires.free c.index_mut.ensures.value in
    (stayed_ranged at c.issue.new.self c.in_err-request.ensures.err, c.self.invariant.1, c.self.invariant.2)

pub invariant_of-self-2 : goal.invariant_of-self-2
invariant_of-self-2 g c =
    let at = called c.self.view_is is_idle c.args.client c.index_mut.result.now c.self.invariant.0 c.requires.room refl c.requires.free c.index_mut.ensures.value in
    let s = issuing at c.args.call c.issue.new.self c.in_ok-request.request c.requires.made c.in_ok-request.ensures.client c.in_ok-request.ensures.ok in
    (send_ranged c.self.view_is s c.send.result c.send.new.messages.sent _ c.send.ensures.sends, c.self.invariant.1, c.self.invariant.2)

pub returns-clause-message : goal.returns-clause-message
returns-clause-message g c =
    let at = called c.self.view_is is_idle c.args.client c.index_mut.result.now c.self.invariant.0 c.requires.room refl c.requires.free c.index_mut.ensures.value in
    let s = issuing at c.args.call c.issue.new.self c.in_ok-request.request c.requires.made c.in_ok-request.ensures.client c.in_ok-request.ensures.ok in
    send_place c.self.view_is s c.send.result c.send.new.messages.sent _ c.send.ensures.sends

pub returns-clause-request : goal.returns-clause-request
returns-clause-request g c =
    let at = called c.self.view_is is_idle c.args.client c.index_mut.result.now c.self.invariant.0 c.requires.room refl c.requires.free c.index_mut.ensures.value in
    let s = issuing at c.args.call c.issue.new.self c.in_ok-request.request c.requires.made c.in_ok-request.ensures.client c.in_ok-request.ensures.ok in
    send_request c.self.view_is s c.send.result c.send.new.messages.sent _ c.send.new.messages.made c.send.ensures.sends

pub returns-clause-after : goal.returns-clause-after
returns-clause-after g c =
    let at = called c.self.view_is is_idle c.args.client c.index_mut.result.now c.self.invariant.0 c.requires.room refl c.requires.free c.index_mut.ensures.value in
    let s = issuing at c.args.call c.issue.new.self c.in_ok-request.request c.requires.made c.in_ok-request.ensures.client c.in_ok-request.ensures.ok in
    send_after c.self.view_is s c.send.result c.send.new.messages.sent _ c.send.new.messages.made c.send.ensures.sends c.send.ensures.made (λ v. issued_by v c.args.client c.args.call) (issued_is at c.args.call c.issue.new.self c.in_ok-request.request c.in_ok-request.ensures.client c.in_ok-request.ensures.ok)

pub returns-clause-ok : goal.returns-clause-ok
returns-clause-ok g c =
    happens_after (seen_by g.D.Disk.seen) (images_by g.D.Disk.images) c.args.self.now _ _ (Issue c.args.client c.args.call) c.send.result (returns-clause-after g c)
    (issued_happens (seen_by g.D.Disk.seen) (images_by g.D.Disk.images) c.args.self.now c.requires.room c.args.client (numbers_at c.args.self.now (in_range c.self.view_is c.self.invariant.0) c.args.client) c.args.call c.requires.free c.requires.served)
