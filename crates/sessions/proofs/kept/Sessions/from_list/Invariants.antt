use Rattle.std.proofs.Common.{◌≡◌, ◌≤◌, length, drop}
use Rattle.std.specs.FinMap as map
use Rattle.sessions.specs.Kept.{from_listed}
use Rattle.sessions.proofs.kept.Sessions.from_list.Given as goal

abbrev pub invariant-loop-left : goal.invariant-loop-left
invariant-loop-left l = record { within : l.left ≤ length l.sessions; so_far : map.from_entries l.kept.entries ≡ from_listed (drop l.left l.sessions) }

abbrev pub decreases-loop-left : goal.decreases-loop-left
decreases-loop-left l = l.left
