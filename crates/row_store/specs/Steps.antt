-- What a step of a store that runs makes of the store and its disk.
use Rattle.std.specs.Prelude.{◌≡◌, ℕ, List, Option, Some, true, false, Result, OnOk, OnErr, IsErrOf}
use Rattle.frame_pool.specs.Frames.{free_frames}
use Rattle.mds_base.specs.declared.store_fault.StoreFault.{StoreFault}
use Rattle.mds_base.specs.declared.store_fault.StoreFault.TheVariants.{Device}
use Rattle.mds_base.specs.RowKeys.{RowMap}
use Rattle.mds_out.specs.Disk.{Image, Contents, Lengths, LeavesOnly, StaysTold}
use Rattle.row_store.specs.declared.row_store.RowStore.{RowStore}
use Rattle.row_store.specs.Answers.{IsStoreChanging}
use Rattle.row_store.specs.Store.{Kept, StandsFor, TellsAll, reading, flushed, IsFlushing}
use Rattle.row_store.specs.Value.{IsReady, Keeps, HasRoot}

-- What is kept and the map stay, and at each moment the disk stands for what is kept. After `Ok` the store runs on,
-- after `Device` it has stopped; where it runs, its disk is ready for it.
pub record IsKeeping {D T : Type 0} (seen : D → Contents) (sizes : D → Lengths) (images : D → Image → Type 0)
    (moment : D → ℕ) (since : D → ℕ → Image → Type 0)
    (faults : D → ℕ) (leads fails_by : D → D → Type 0) (old new : RowStore) (disk disk' : D)
    (result : Result T StoreFault) : Type 0 where
  pub kept : new.stopped ≡ false → TellsAll (seen disk) → (kept : Option Kept) (rows : RowMap)
      → Keeps old kept rows (reading (seen disk)) → Keeps new kept rows (reading (seen disk'))
  pub any_moment : TellsAll (seen disk) → (kept : Option Kept) (rows : RowMap)
      → Keeps old kept rows (reading (seen disk)) → LeavesOnly moment since disk disk' (StandsFor kept)
  pub ready : new.stopped ≡ false → IsReady new (seen disk') (sizes disk') (images disk')
  pub told : (file : ℕ) → StaysTold (seen disk file) (seen disk' file)
  pub frames : free_frames new.pool ≡ free_frames old.pool
  pub runs : OnOk result (new.stopped ≡ false)
  pub stops : IsErrOf result Device → new.stopped ≡ true
  pub call : IsStoreChanging faults leads fails_by disk disk' result

-- After `Ok` the map is the base, beside this state and with no body, and at each moment the disk stands for what was
-- kept or for that. Where the store runs after a refusal, what is kept and the map are as they were.
pub record IsFlushed {D T : Type 0} (seen : D → Contents) (sizes : D → Lengths) (images : D → Image → Type 0)
    (moment : D → ℕ) (since : D → ℕ → Image → Type 0)
    (faults : D → ℕ) (leads fails_by : D → D → Type 0) (state : List ℕ) (old new : RowStore) (disk disk' : D)
    (result : Result T StoreFault) : Type 0 where
  pub kept : OnOk result (TellsAll (seen disk) → (kept : Option Kept) (rows : RowMap)
      → Keeps old kept rows (reading (seen disk)) → Keeps new (Some (flushed rows state)) rows (reading (seen disk')))
  pub refused : OnErr result (new.stopped ≡ false → TellsAll (seen disk) → (kept : Option Kept) (rows : RowMap)
      → Keeps old kept rows (reading (seen disk)) → Keeps new kept rows (reading (seen disk')))
  pub any_moment : TellsAll (seen disk) → (kept : Option Kept) (rows : RowMap)
      → Keeps old kept rows (reading (seen disk)) → LeavesOnly moment since disk disk' (IsFlushing kept rows state)
  pub ready : new.stopped ≡ false → IsReady new (seen disk') (sizes disk') (images disk')
  pub root : OnOk result (HasRoot new)
  pub told : (file : ℕ) → StaysTold (seen disk file) (seen disk' file)
  pub frames : free_frames new.pool ≡ free_frames old.pool
  pub runs : OnOk result (new.stopped ≡ false)
  pub stops : IsErrOf result Device → new.stopped ≡ true
  pub call : IsStoreChanging faults leads fails_by disk disk' result
