use Rattle.std.proofs.Common.{sym, refl, subst, is_some, IsSome}
use Rattle.pasts.specs.Fuses.{seen_by, images_by}
use Rattle.simulation.specs.Shows.{Happens}
use Rattle.world.specs.declared.event.Event.TheVariants.{Take}
use Rattle.simulation.proofs.ClientStep.{called, is_numbered, left, message_for, numbers_at, stayed_ranged, took_ranged, took_said, took_after}
use Rattle.simulation.proofs.RangesKept.{in_range}
use Rattle.simulation.proofs.TakeRun.{taken_happens}
use Rattle.simulation.proofs.simulation.Simulation.take.Goals as goal

pub take_from-requires-clause-there : goal.take_from-requires-clause-there
take_from-requires-clause-there g c = let m = message_for c.self.view_is c.args.client c.args.message c.requires.message in subst IsSome (sym m.1) refl

pub take_from-requires-clause-room : goal.take_from-requires-clause-room
take_from-requires-clause-room g c =
    let at = called c.self.view_is is_some c.args.client c.index_mut.result.now c.self.invariant.0 c.requires.room refl (is_numbered c.self.view_is c.args.client c.requires.client c.self.invariant.0) c.index_mut.ensures.value in
    (left at).1

pub invariant_of-self : goal.invariant_of-self
invariant_of-self g c =
    let at = called c.self.view_is is_some c.args.client c.index_mut.result.now c.self.invariant.0 c.requires.room refl (is_numbered c.self.view_is c.args.client c.requires.client c.self.invariant.0) c.index_mut.ensures.value in
    (stayed_ranged at c.take_from.new.client c.in_err-taken.ensures.err, c.self.invariant.1, c.self.invariant.2)

pub invariant_of-self-in_err-note_taken : goal.invariant_of-self-in_err-note_taken
invariant_of-self-in_err-note_taken g c =
    let at = called c.self.view_is is_some c.args.client c.index_mut.result.now c.self.invariant.0 c.requires.room refl (is_numbered c.self.view_is c.args.client c.requires.client c.self.invariant.0) c.index_mut.ensures.value in
    let m = message_for c.self.view_is c.args.client c.args.message c.requires.message in
    (took_ranged c.self.view_is at c.args.message m.0 m.1 c.take_from.new.client c.in_ok-taken.taken (c.in_ok-taken.ensures.ok m.0 m.1), c.self.invariant.1, c.self.invariant.2)

pub invariant_of-self-2 : goal.invariant_of-self-2
invariant_of-self-2 g c =
    let at = called c.self.view_is is_some c.args.client c.index_mut.result.now c.self.invariant.0 c.requires.room refl (is_numbered c.self.view_is c.args.client c.requires.client c.self.invariant.0) c.index_mut.ensures.value in
    let m = message_for c.self.view_is c.args.client c.args.message c.requires.message in
    (took_ranged c.self.view_is at c.args.message m.0 m.1 c.take_from.new.client c.in_ok-taken.taken (c.in_ok-taken.ensures.ok m.0 m.1), c.self.invariant.1, c.self.invariant.2)

pub returns-clause-taken : goal.returns-clause-taken
returns-clause-taken g c =
    let at = called c.self.view_is is_some c.args.client c.index_mut.result.now c.self.invariant.0 c.requires.room refl (is_numbered c.self.view_is c.args.client c.requires.client c.self.invariant.0) c.index_mut.ensures.value in
    let m = message_for c.self.view_is c.args.client c.args.message c.requires.message in
    took_said c.self.view_is at c.args.message m.0 m.1 c.take_from.new.client c.in_ok-taken.taken (c.in_ok-taken.ensures.ok m.0 m.1)

pub returns-clause-after : goal.returns-clause-after
returns-clause-after g c =
    let at = called c.self.view_is is_some c.args.client c.index_mut.result.now c.self.invariant.0 c.requires.room refl (is_numbered c.self.view_is c.args.client c.requires.client c.self.invariant.0) c.index_mut.ensures.value in
    let m = message_for c.self.view_is c.args.client c.args.message c.requires.message in
    took_after c.self.view_is at c.args.message m.0 m.1 c.take_from.new.client c.in_ok-taken.taken (c.in_ok-taken.ensures.ok m.0 m.1) _ c.in_ok-note_taken.ensures

pub returns-clause-ok : goal.returns-clause-ok
returns-clause-ok g c =
    subst (λ n. Happens (seen_by g.D.Disk.seen) (images_by g.D.Disk.images) c.args.self.now n (Take c.args.client c.args.message)) (sym (returns-clause-after g c))
    (taken_happens (seen_by g.D.Disk.seen) (images_by g.D.Disk.images) c.args.self.now c.requires.room c.args.client (numbers_at c.args.self.now (in_range c.self.view_is c.self.invariant.0) c.args.client) c.args.message (is_numbered c.self.view_is c.args.client c.requires.client c.self.invariant.0) c.requires.message)
