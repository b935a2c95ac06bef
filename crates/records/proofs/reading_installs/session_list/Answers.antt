use Rattle.std.proofs.Common.{sym, subst, ◌+◌, List, arith}
use Rattle.mds_base.specs.declared.session.Session.{Session}
use Rattle.records.proofs.Sessions.{SessionsRead, sessions_begin, session_fails, one_session, all_sessions}
use Rattle.records.proofs.reading_installs.session_list.Goals as goal

pub loop-place-init : goal.loop-place-init
loop-place-init c = subst (λ (s : List Session). SessionsRead c.args.count c.args.bytes.now s 1 0 c.args.bytes.now) (sym c.new-sessions.ensures) (sessions_begin c.args.count c.args.bytes.now c.requires)

pub session-requires : goal.session-requires
session-requires c = let enough = c.loop-place.invariant.enough in (omega arith, omega arith)

pub returns-in-Err : goal.returns-in-Err
returns-in-Err c = session_fails c.args.count c.args.bytes.now c.loop-place.sessions c.loop-place.least c.loop-place.place c.loop-place.rest.now c.in-Err.stop c.loop-place-test.true c.loop-place.invariant c.in-Err.ensures.gives

pub loop-place-preserved : goal.loop-place-preserved
loop-place-preserved c =
    let more = one_session c.args.count c.args.bytes.now c.loop-place.sessions c.loop-place.least c.loop-place.place c.loop-place.rest.now c.in-Ok.next c.in-Ok.after.now c.loop-place-test.true c.loop-place.invariant c.in-Ok.ensures.gives c.in-Ok.ensures.within in
    subst (λ (s : List Session). SessionsRead c.args.count c.args.bytes.now s (c.in-Ok.next.client + 1) (c.loop-place.place + 1) c.in-Ok.after.now) (sym c.in_ok-push-in-Ok.ensures.ok) more

pub returns : goal.returns
returns c = all_sessions c.args.count c.args.bytes.now c.loop-place.sessions c.loop-place.least c.loop-place.place c.loop-place.rest.now (omega arith) c.loop-place.invariant
