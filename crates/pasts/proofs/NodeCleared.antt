-- A node without its sessions has none to lose.
use Rattle.std.proofs.Common.{◌≡◌, ap, ℕ}
use Rattle.std.specs.FinMap as map
use Rattle.mds_base.specs.declared.setup.Setup.{Setup}
use Rattle.node_core.specs.Nodes.{NodeV, NodeAndRows}
use Rattle.node_core.proofs.Views.{cleared_twice, cleared_new}
use Rattle.node_store.specs.Stands.{new_store, opened_store}

-- opened twice is opened once
pub opened_twice : (store : NodeAndRows) → opened_store (opened_store store) ≡ opened_store store
opened_twice store = ap (λ (node : NodeV). record { node = node; rows = store.rows }) (cleared_twice store.node)

-- a new store stays as it is when it is opened
pub opened_new : (server : ℕ) (setup : Setup) → opened_store (new_store server setup) ≡ new_store server setup
opened_new server setup = ap (λ (node : NodeV). record { node = node; rows = map.empty }) (cleared_new server setup)
