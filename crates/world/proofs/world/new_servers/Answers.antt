use Rattle.std.proofs.Common.{arith}
use Rattle.world.specs.Worlds.{new_server}
use Rattle.world.proofs.Within.{one_more}
use Rattle.world.proofs.world.new_servers.Goals as goal

pub loop-number-preserved : goal.loop-number-preserved
loop-number-preserved c =
    one_more (new_server c.args.setup) 0 c.loop-number.number c.loop-number.number (omega arith) c.loop-number.servers.items c.loop-number.invariant c.new.result c.new.ensures c.push.new.self.items c.in_ok-push.ensures.items
