use Rattle.std.proofs.Common.{◌-◌, ◌∙◌, sym, ap}
use Rattle.std.specs.Option.{option_copied}
use Rattle.world.proofs.Stepped.{take_is}
use Rattle.world.proofs.Within.{with_seat, taken_fits}
use Rattle.world.proofs.world.World.take.Goals as goal

pub invariant_of-self-2 : goal.invariant_of-self-2
invariant_of-self-2 c =
    let seat = c.index_mut-seat.result.now in
    let fits = taken_fits _ c.args.self.now c.self.view_is c.self.invariant c.args.client seat c.index_mut-seat.ensures.value c.requires.can c.unwrap-msg.result.now c.take.new.self c.in_ok-take.ensures.ok.client' in
    with_seat c.self.invariant (c.args.client - 1) (record { client = c.take.new.self; quit = seat.quit }) fits

pub returns : goal.returns
returns c =
    take_is _ c.args.self.now c.self.view_is c.args.client c.index_mut-seat.result.now c.index_mut-seat.ensures.value c.args.message c.requires.can c.unwrap-msg.result.now
    (sym c.msg_at.ensures ∙ ap option_copied c.unwrap-msg.ensures) c.take.new.self c.in_ok-take.ensures.ok.client'
