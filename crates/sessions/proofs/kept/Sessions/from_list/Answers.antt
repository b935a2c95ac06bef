use Rattle.std.proofs.Common.{arith}
use Rattle.sessions.proofs.Lists.{put_before}
use Rattle.sessions.proofs.kept.Sessions.from_list.Goals as goal

pub loop-left-preserved : goal.loop-left-preserved
loop-left-preserved c = record { within = omega arith; so_far = put_before c.sessions-sessions.result.now c.loop-left.left _ _ _ (omega arith) c.loop-left.invariant.within c.loop-left.invariant.so_far c.in_ok-insert.ensures.updates.0 }
