-- What is known of the parts of a server on a disk.
use Rattle.std.specs.Prelude.{◌≡◌, ℕ, ◌≤◌, true, List, []}
use Rattle.mds_base.specs.declared.limits.TheConstants.{LEASE_MOST}
use Rattle.mds_base.specs.declared.setup.Setup.{Setup}
use Rattle.records.specs.declared.record.Record.{Record}
use Rattle.records.specs.Spelling.{IsHead}
use Rattle.gate_log.specs.LogState.{LogState}
use Rattle.mds_out.specs.Disk.{Image, Contents, Lengths}
use Rattle.node_core.specs.Nodes.{NodeV, NodeAndRows}
use Rattle.node_store.specs.Stands.{all_follow, IsBody}
use Rattle.node_store.specs.Store.{IsKept}

-- the number of a server and its setup are in their ranges
pub record IsServer (server : ℕ) (setup : Setup) : Type 0 where
  pub head : IsHead 1 setup.servers server setup.threshold
  pub lease : setup.lease ≤ LEASE_MOST

-- the node is that of the server, and gives directory numbers from two on
pub record IsNodeOf (server : ℕ) (setup : Setup) (node : NodeV) : Type 0 where
  pub server' : node.server ≡ server
  pub setup' : node.setup ≡ setup
  pub from_two : 2 ≤ node.next

-- a server that is up
pub record IsUp (seen : Contents) (sizes : Lengths) (images : Image → Type 0) (server : ℕ) (setup : Setup)
    (log : LogState) (store : NodeAndRows) (doubt : List Record) : Type 0 where
  pub kept : IsKept seen sizes images server setup log store
  pub node : IsNodeOf server setup store.node
  pub sure : doubt ≡ []

-- of each server that is up on the disk
abbrev pub OfEach : Contents → Lengths → (Image → Type 0) → LogState → NodeAndRows → (ℕ → Setup → Type 0) → Type 0
OfEach seen sizes images log store P =
    (server : ℕ) → (setup : Setup) → IsKept seen sizes images server setup log store → P server setup

-- of each server that is up on the disk, and each records of the body that may follow there
abbrev pub OfEachBody : Contents → Lengths → (Image → Type 0) → LogState → List ℕ
    → (ℕ → Setup → NodeAndRows → List Record → Type 0) → Type 0
OfEachBody seen sizes images log body P = (server : ℕ) → (setup : Setup) → (store : NodeAndRows) → (items : List Record)
    → IsBody body items → all_follow store items ≡ true → IsKept seen sizes images server setup log store
    → P server setup store items
