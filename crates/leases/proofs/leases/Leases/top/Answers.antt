use Rattle.std.proofs.Common.{◌∙◌, sym, ap}
use Rattle.leases.specs.Leases.{LeasesV, top}
use Rattle.leases.proofs.Greatest.{top_of_none, top_is}
use Rattle.leases.proofs.leases.Leases.top.Goals as goal

pub returns-in-None : goal.returns-in-None
returns-in-None c =
    let inside : LeasesV = record { ends = c.self.inside.ends; floor = c.self.inside.floor } in
    sym (top_of_none inside c.in-None.ensures.none) ∙ ap top c.self.view_is

pub returns-in-Some : goal.returns-in-Some
returns-in-Some c =
    let inside : LeasesV = record { ends = c.self.inside.ends; floor = c.self.inside.floor } in
    c.max.ensures ∙ top_is inside c.in-Some.last c.in-Some.ensures.reached c.in-Some.ensures.greatest ∙ ap top c.self.view_is
