use Rattle.std.proofs.Common.{◌+◌, arith}
use Rattle.world.specs.Worlds.{new_seat}
use Rattle.world.proofs.Within.{one_more}
use Rattle.world.proofs.world.new_seats.Goals as goal

pub loop-number-preserved : goal.loop-number-preserved
loop-number-preserved c =
    one_more (new_seat c.args.setup) 1 c.loop-number.number (c.loop-number.number + 1) (omega arith) c.loop-number.clients.items c.loop-number.invariant c.new.result c.new.ensures c.push.new.self.items c.in_ok-push.ensures.items
