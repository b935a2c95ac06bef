use Rattle.std.proofs.Common.{◌∙◌, sym, ap, subst, ℕ, ◌<◌}
use Rattle.mds_base.specs.declared.limits.TheConstants.{DIRECTORIES}
use Rattle.node_core.specs.Nodes.{NodeAndRows}
use Rattle.node_core.proofs.Calls.{dir_of_change, dir_of_look}
use Rattle.node_core.proofs.Planned.{plans_nothing}
use Rattle.node_core.proofs.Served.{not_served}
use Rattle.node_core.proofs.node.Node.plan_ask.Goals as goal

pub plan_change-requires-clause-fits : goal.plan_change-requires-clause-fits
plan_change-requires-clause-fits g c = subst (λ (d : ℕ). d < DIRECTORIES) (dir_of_change c.args.ask.now.call c.in-Change.dir c.in-Change.name.now (sym c.in-Change.ensures)) c.requires.fits

pub plan_look-requires-clause-fits : goal.plan_look-requires-clause-fits
plan_look-requires-clause-fits g c = subst (λ (d : ℕ). d < DIRECTORIES) (dir_of_look c.args.ask.now.call c.in-Look.dir c.in-Look.name.now (sym c.in-Look.ensures)) c.requires.fits

pub returns-in-NothingYet-clause-ok : goal.returns-in-NothingYet-clause-ok
returns-in-NothingYet-clause-ok g c =
    let store : NodeAndRows = record { node = c.args.self.now; rows = g.R.Rows.contents c.args.rows.now } in
    let served = not_served store c.args.ask.now c.args.now (sym c.in-NothingYet.ensures) in
    plans_nothing store _ c.idle.result c.idle.ensures.change (ap (λ v. v.store) (sym served))
    (c.idle.ensures.records ∙ ap (λ v. v.records) (sym served)) (c.idle.ensures.outputs ∙ ap (λ v. v.outputs) (sym served))
