use Rattle.std.proofs.Common.{sym, subst, ℕ, ◌<◌}
use Rattle.mds_base.specs.declared.limits.TheConstants.{DIRECTORIES}
use Rattle.node_core.specs.Nodes.{NodeAndRows}
use Rattle.node_core.proofs.Calls.{dir_of_change}
use Rattle.node_core.proofs.Replayed.{not_look, not_change}
use Rattle.node_core.proofs.node.Node.redo.Goals as goal

pub redo_at-requires-clause-fits : goal.redo_at-requires-clause-fits
redo_at-requires-clause-fits g c = subst (λ (d : ℕ). d < DIRECTORIES) (dir_of_change c.args.call.now c.in-Change.dir c.in-Change.name.now (sym c.in-Change.ensures)) c.requires.fits

pub returns-in-Look-clause-ok : goal.returns-in-Look-clause-ok
returns-in-Look-clause-ok g c =
    let store : NodeAndRows = record { node = c.args.self.now; rows = g.R.Rows.contents c.args.rows.now } in
    not_look store c.args.client c.args.seq c.args.part c.args.call.now c.args.said c.in-Look.dir c.in-Look.name.now (sym c.in-Look.ensures)

pub returns-in-NothingYet-clause-ok : goal.returns-in-NothingYet-clause-ok
returns-in-NothingYet-clause-ok g c =
    let store : NodeAndRows = record { node = c.args.self.now; rows = g.R.Rows.contents c.args.rows.now } in
    not_change store c.args.client c.args.seq c.args.part c.args.call.now c.args.said (sym c.in-NothingYet.ensures)
