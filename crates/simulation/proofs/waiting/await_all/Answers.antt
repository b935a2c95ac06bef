use Rattle.std.proofs.Common.{arith}
use Rattle.simulation.proofs.MessagesAwaited.{awaited_more, awaited_all}
use Rattle.simulation.proofs.waiting.await_all.Goals as goal

pub loop-msg-preserved : goal.loop-msg-preserved
loop-msg-preserved c = (
  awaited_more c.args.waiting.now c.messages-msg-items.result.now c.args.first c.loop-msg.waiting c.loop-msg.message c.loop-msg.msg-index c.loop-msg.invariant.0 c.msg-item.result _ c.loop-msg-test.true c.msg-item.is c.in_ok-await_server.ensures.ok,
  (let e = c.loop-msg.invariant.1 in omega (arith, e)),
)

pub returns : goal.returns
returns c = awaited_all c.args.waiting.now _ c.args.first _ _ _ c.loop-msg.invariant.0 c.args.msgs.now c.loop-msg-test.false c.messages-msg-items.ensures
