use Rattle.std.proofs.Common.{◌≡◌, map}
use Rattle.std.specs.List.{range_with_len}
use Rattle.client_core.specs.Clients.{new_client}
use Rattle.simulation.proofs.opening.new_clients.Given as goal

abbrev pub invariant-loop-number : goal.invariant-loop-number
invariant-loop-number l = l.clients.items ≡ map (λ k. new_client k l.fn.setup) (range_with_len 1 l.number)
