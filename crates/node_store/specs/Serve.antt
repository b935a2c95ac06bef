-- What the calls of a server on a disk take and answer.
use Rattle.std.specs.Prelude.{◌≡◌, ℕ, List, [], ◌∷◌, Option, Some, ◌⊎◌}
use Rattle.std.specs.List.{slice_get}
use Rattle.records.specs.declared.handled.Handled.{Handled}
use Rattle.records.specs.declared.msg.Msg.{Msg}
use Rattle.records.specs.declared.record.Record.{Record}
use Rattle.mds_out.specs.Disk.{Image, Contents}
pub use Rattle.node_core.specs.Messages.{IsWellMade, IsAsked, IsRequest, IsMessage}
use Rattle.node_core.specs.Nodes.{NodeAndRows}
use Rattle.node_core.specs.Serving.{ServedV}
use Rattle.node_store.specs.Store.{Store, IsDownAt}

-- the one message of a batch: that at the one place of a list
pub record IsOneMessage (msgs : List Msg) (places : List ℕ) (msg : Msg) : Type 0 where
  pub message : ℕ
  pub one : places ≡ message ∷ []
  pub there : slice_get msgs message ≡ Some msg
  pub made : IsMessage msg

-- what serving gave is what the specification says, and the server is up with it
pub record HasServed (served : ServedV) (up : Option NodeAndRows) (handled : Handled) : Type 0 where
  pub up' : up ≡ Some served.store
  pub records : handled.records ≡ served.records
  pub outputs : handled.outputs ≡ served.outputs

-- a server that was up at this store went down, and these records are in doubt
pub record HasStopped {D : Type 0} (seen : D → Contents) (images : D → Image → Type 0) (s : Store D)
    (store : NodeAndRows)
    (records : List Record) : Type 0 where
  pub doubt : s.doubt ≡ records
  pub at : IsDownAt seen images s store

-- all the records in doubt were kept, or none
abbrev pub IsAllOrNone : ℕ → ℕ → Type 0
IsAllOrNone kept doubt = (kept ≡ 0) ⊎ (kept ≡ doubt)
