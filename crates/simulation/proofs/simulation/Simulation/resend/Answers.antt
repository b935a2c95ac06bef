use Rattle.std.proofs.Common.{refl, arith}
use Rattle.pasts.specs.Fuses.{seen_by, images_by}
use Rattle.simulation.specs.Moves.{resent_by}
use Rattle.simulation.specs.Shows.{is_busy}
use Rattle.world.specs.declared.event.Event.TheVariants.{Resend}
use Rattle.simulation.proofs.ClientStep.{called, seat_below, busy, again, has_pending, stayed_ranged, resending, resent_is, numbers_at, send_ranged, send_place, send_request, send_after, happens_after}
use Rattle.simulation.proofs.RangesKept.{in_range}
use Rattle.simulation.proofs.IssueRun.{resent_happens}
use Rattle.simulation.proofs.simulation.Simulation.resend.Goals as goal

pub index_mut-requires : goal.index_mut-requires
index_mut-requires g c = let low = seat_below c.self.view_is is_busy c.args.client refl c.requires.busy in omega (arith, low)

pub resend-requires : goal.resend-requires
resend-requires g c =
    let at = called c.self.view_is is_busy c.args.client c.index_mut.result.now c.self.invariant.0 c.requires.room refl c.requires.busy c.index_mut.ensures.value in
    has_pending at (busy at).0 (busy at).1

pub invariant_of-self : goal.invariant_of-self
invariant_of-self g c =
    let at = called c.self.view_is is_busy c.args.client c.index_mut.result.now c.self.invariant.0 c.requires.room refl c.requires.busy c.index_mut.ensures.value in
    (stayed_ranged at c.resend.new.self c.in_err-request.ensures.err, c.self.invariant.1, c.self.invariant.2)

pub invariant_of-self-2 : goal.invariant_of-self-2
invariant_of-self-2 g c =
    let at = called c.self.view_is is_busy c.args.client c.index_mut.result.now c.self.invariant.0 c.requires.room refl c.requires.busy c.index_mut.ensures.value in
    let s = resending at (busy at).0 c.resend.new.self c.in_ok-request.request (busy at).1 (again (busy at).0 (busy at).1 c.in_ok-request.ensures.ok) in
    (send_ranged c.self.view_is s c.send.result c.send.new.messages.sent _ c.send.ensures.sends, c.self.invariant.1, c.self.invariant.2)

pub returns-clause-message : goal.returns-clause-message
returns-clause-message g c =
    let at = called c.self.view_is is_busy c.args.client c.index_mut.result.now c.self.invariant.0 c.requires.room refl c.requires.busy c.index_mut.ensures.value in
    let s = resending at (busy at).0 c.resend.new.self c.in_ok-request.request (busy at).1 (again (busy at).0 (busy at).1 c.in_ok-request.ensures.ok) in
    send_place c.self.view_is s c.send.result c.send.new.messages.sent _ c.send.ensures.sends

pub returns-clause-request : goal.returns-clause-request
returns-clause-request g c =
    let at = called c.self.view_is is_busy c.args.client c.index_mut.result.now c.self.invariant.0 c.requires.room refl c.requires.busy c.index_mut.ensures.value in
    let s = resending at (busy at).0 c.resend.new.self c.in_ok-request.request (busy at).1 (again (busy at).0 (busy at).1 c.in_ok-request.ensures.ok) in
    send_request c.self.view_is s c.send.result c.send.new.messages.sent _ c.send.new.messages.made c.send.ensures.sends

pub returns-clause-after : goal.returns-clause-after
returns-clause-after g c =
    let at = called c.self.view_is is_busy c.args.client c.index_mut.result.now c.self.invariant.0 c.requires.room refl c.requires.busy c.index_mut.ensures.value in
    let next = again (busy at).0 (busy at).1 c.in_ok-request.ensures.ok in
    let s = resending at (busy at).0 c.resend.new.self c.in_ok-request.request (busy at).1 next in
    send_after c.self.view_is s c.send.result c.send.new.messages.sent _ c.send.new.messages.made c.send.ensures.sends c.send.ensures.made (λ v. resent_by v c.args.client) (resent_is at (busy at).0 c.resend.new.self c.in_ok-request.request (busy at).1 next)

pub returns-clause-ok : goal.returns-clause-ok
returns-clause-ok g c =
    happens_after (seen_by g.D.Disk.seen) (images_by g.D.Disk.images) c.args.self.now _ _ (Resend c.args.client) c.send.result (returns-clause-after g c)
    (resent_happens (seen_by g.D.Disk.seen) (images_by g.D.Disk.images) c.args.self.now c.requires.room c.args.client (numbers_at c.args.self.now (in_range c.self.view_is c.self.invariant.0) c.args.client) c.requires.busy)
