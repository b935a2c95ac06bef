use Rattle.std.proofs.Common.{◌-◌, sym, subst}
use Rattle.world.specs.Ranges.{IsRanged}
use Rattle.world.proofs.Stepped.{resend_is}
use Rattle.world.proofs.Within.{with_seat, resent_fits, resent_ranges}
use Rattle.world.proofs.world.World.resend.Goals as goal

pub invariant_of-self-in_err-push : goal.invariant_of-self-in_err-push
invariant_of-self-in_err-push c =
    let seat = c.index_mut-seat.result.now in
    let fits = resent_fits _ c.args.self.now c.self.view_is c.self.invariant c.args.client seat c.index_mut-seat.ensures.value c.requires c.resend.new.self c.in_ok-msg.msg c.in_ok-msg.ensures.ok in
    subst (IsRanged c.self.inside.setup c.self.inside.moment c.self.inside.servers.items _) (sym c.in_err-push.ensures.err) (with_seat c.self.invariant (c.args.client - 1) (record { client = c.resend.new.self; quit = seat.quit }) fits)

pub invariant_of-self-2 : goal.invariant_of-self-2
invariant_of-self-2 c =
    resent_ranges _ c.args.self.now c.self.view_is c.self.invariant c.args.client c.index_mut-seat.result.now c.index_mut-seat.ensures.value c.requires c.resend.new.self c.in_ok-msg.msg c.in_ok-msg.ensures.ok
    c.push.new.self c.in_ok-push.ensures.ok

pub returns : goal.returns
returns c =
    resend_is _ c.args.self.now c.self.view_is c.args.client c.index_mut-seat.result.now c.index_mut-seat.ensures.value c.requires c.resend.new.self c.in_ok-msg.msg c.push.new.self c.in_ok-msg.ensures.ok c.in_ok-push.ensures.ok
