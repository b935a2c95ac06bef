use Rattle.std.proofs.Common.{◌-◌, ◌∙◌, sym, ap, subst}
use Rattle.client_core.specs.Clients.{issue_msg, issued}
use Rattle.world.specs.Ranges.{IsRanged}
use Rattle.world.proofs.Stepped.{issue_is}
use Rattle.world.specs.Events.{seat_at}
use Rattle.world.proofs.Within.{with_seat, issued_dir, issued_room, issued_fits, issued_ranges}
use Rattle.world.proofs.world.World.issue.Goals as goal

pub issue-requires-clause-fits : goal.issue-requires-clause-fits
issue-requires-clause-fits c = issued_dir (seat_at c.args.self.now.clients c.args.client) c.args.call.now c.in_ok-call.call c.requires c.in_ok-call.ensures

pub issue-requires-clause-room : goal.issue-requires-clause-room
issue-requires-clause-room c = issued_room _ c.args.self.now c.self.view_is c.args.client c.index_mut-seat.result.now c.index_mut-seat.ensures.value c.args.call.now c.requires

pub invariant_of-self-in_err-push : goal.invariant_of-self-in_err-push
invariant_of-self-in_err-push c =
    let seat = c.index_mut-seat.result.now in
    let fits = issued_fits _ c.args.self.now c.self.view_is c.self.invariant c.args.client seat c.index_mut-seat.ensures.value c.args.call.now c.in_ok-call.call c.requires c.in_ok-call.ensures c.issue.new.self c.in_ok-msg.ensures.client in
    subst (IsRanged c.self.inside.setup c.self.inside.moment c.self.inside.servers.items _) (sym c.in_err-push.ensures.err) (with_seat c.self.invariant (c.args.client - 1) (record { client = c.issue.new.self; quit = seat.quit }) fits)

pub invariant_of-self-2 : goal.invariant_of-self-2
invariant_of-self-2 c =
    issued_ranges _ c.args.self.now c.self.view_is c.self.invariant c.args.client c.index_mut-seat.result.now c.index_mut-seat.ensures.value c.args.call.now c.in_ok-call.call c.requires c.in_ok-call.ensures
    c.issue.new.self c.in_ok-msg.ensures.client c.in_ok-msg.msg c.in_ok-msg.ensures.ok c.push.new.self c.in_ok-push.ensures.ok

pub returns : goal.returns
returns c =
    let seat = c.index_mut-seat.result.now in
    issue_is _ c.args.self.now c.self.view_is c.args.client seat c.index_mut-seat.ensures.value c.args.call.now c.requires c.issue.new.self c.in_ok-msg.msg c.push.new.self
    (c.in_ok-msg.ensures.ok ∙ ap (issue_msg seat.client) c.in_ok-call.ensures) (c.in_ok-msg.ensures.client ∙ ap (issued seat.client) c.in_ok-call.ensures) c.in_ok-push.ensures.ok
