use Rattle.std.proofs.Common.{◌≡◌}
use Rattle.std.specs.FinMap as map
use Rattle.leases.specs.Leases.{ends_above}
use Rattle.leases.proofs.ends.Ends.drop_ended.Given as goal

abbrev pub invariant-loop : goal.invariant-loop
invariant-loop l = ends_above l.self l.now ≡ ends_above l.initial.self l.now

abbrev pub decreases-loop : goal.decreases-loop
decreases-loop l = map.len l.self
