use Rattle.std.proofs.Common.{◌≡◌, ◌∙◌, sym, subst, arith}
use Rattle.leases.specs.Leases.{LeasesV, granted}
use Rattle.leases.proofs.Above.{granted_less}
use Rattle.leases.proofs.leases.Leases.grant.Goals as goal

pub returns-in-Some-2-clause-ok : goal.returns-in-Some-2-clause-ok
returns-in-Some-2-clause-ok c =
    let inside : LeasesV = record { ends = c.self.inside.ends; floor = c.self.inside.floor } in
    subst (λ (l : LeasesV). l ≡ granted l c.args.name.now c.args.until) c.self.view_is (granted_less inside c.args.name.now c.in-Some.end c.args.until (sym c.get.ensures ∙ c.in-Some.is) (omega arith))
