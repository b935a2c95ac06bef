use Rattle.std.proofs.Common.{refl}
use Rattle.node_store.proofs.Stores.{opened_told}
use Rattle.node_store.proofs.node_store.NodeStore.bring_up.Goals as goal

pub returns-in-Ok-clause-opened : goal.returns-in-Ok-clause-opened
returns-in-Ok-clause-opened g c = opened_told (g.D.Disk.seen c.args.disk 1) c.args.server c.args.setup (record { node = c.in-Ok.node; rows = c.in-Ok.rows }) c.in-Ok.ensures.opened

pub returns-in-Ok-clause-some : goal.returns-in-Ok-clause-some
returns-in-Ok-clause-some g c = (record { node = c.in-Ok.node; rows = c.in-Ok.rows }, refl)
