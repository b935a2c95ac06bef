use Rattle.std.proofs.Common.{sym, subst}
use Rattle.std.specs.FinMap as map
use Rattle.leases.specs.Order.{AreEndings}
use Rattle.leases.proofs.Endings.{none_yet}
use Rattle.leases.proofs.ends.Ends.new.Goals as goal

pub invariant_of-result : goal.invariant_of-result
invariant_of-result c =
    subst (λ es. AreEndings c.new-2.result.keys (map.from_entries es)) (sym c.new.ensures.empty) (subst (λ ks. AreEndings ks map.empty) (sym c.new-2.ensures.empty) none_yet)
