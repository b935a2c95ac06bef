-- A store that is timed, and its disk.
use Rattle.std.specs.Prelude.{◌≡◌, false}
use Rattle.mds_out.specs.Disk.{Image, Contents, Lengths}
use Rattle.row_store.specs.declared.row_store.RowStore.{RowStore}
use Rattle.row_store.specs.Value.{HasRoot, IsReady}

-- the store has a root, and while it runs its disk is as it needs it
pub record IsBench (store : RowStore) (seen : Contents) (sizes : Lengths) (images : Image → Type 0) : Type 0 where
  pub root : HasRoot store
  pub ready : store.stopped ≡ false → IsReady store seen sizes images
