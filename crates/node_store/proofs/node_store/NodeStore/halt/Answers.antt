use Rattle.node_core.specs.Nodes.{NodeAndRows}
use Rattle.node_store.specs.Store.{IsDownAt}
use Rattle.node_store.proofs.Stores.{at_up, shown, down_at}
use Rattle.std.proofs.Common.{true}
use Rattle.node_store.proofs.node_store.NodeStore.halt.Goals as goal

pub returns-clause-at : goal.returns-clause-at
returns-clause-at g c =
    let s = c.self.inside in
    let inside : NodeAndRows = record { node = s.node; rows = s.rows } in
    at_up (λ v store. IsDownAt g.D.Disk.seen g.D.Disk.images (shown s.disk s.server s.setup s.log inside true s.doubt) store) s.disk s.server s.setup s.log inside s.down s.doubt c.args.self.now c.self.view_is
    (λ up. let was = c.self.invariant.2 up in down_at g.D.Disk.seen g.D.Disk.sizes g.D.Disk.images s.disk s.server s.setup s.log inside s.doubt was.kept was.sure)
