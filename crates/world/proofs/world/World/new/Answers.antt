use Rattle.std.proofs.Common.{sym, subst}
use Rattle.world.specs.Ranges.{IsRanged}
use Rattle.world.proofs.Within.{new_ranges}
use Rattle.world.proofs.world.World.new.Goals as goal

pub invariant_of-result : goal.invariant_of-result
invariant_of-result c =
    subst (IsRanged c.args.setup 0 _ _) (sym c.new.ensures) (new_ranges c.args.setup c.requires c.in_ok-new_servers.field-0.items c.in_ok-new_seats.field-0.items c.in_ok-new_servers.ensures c.in_ok-new_seats.ensures)
