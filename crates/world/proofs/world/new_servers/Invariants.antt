use Rattle.std.proofs.Common.{◌≡◌}
use Rattle.std.specs.Prelude.{map}
use Rattle.std.specs.List.{range_with_len}
use Rattle.world.specs.Worlds.{new_server}
use Rattle.world.proofs.world.new_servers.Given as goal

abbrev pub invariant-loop-number : goal.invariant-loop-number
invariant-loop-number l = l.servers.items ≡ map (new_server l.setup) (range_with_len 0 l.number)
