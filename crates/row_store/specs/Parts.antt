-- What a flush writes before it changes the root.
use Rattle.std.specs.Prelude.{◌≡◌, ◌<◌, ℕ, suc, List, [], ◌∷◌, Option, None, Some, IfSome, true}
use Rattle.gate_log.specs.LogState.{LogState, HasBodies, open_log}
use Rattle.gate_log.specs.LogState as logs
use Rattle.mds_out.specs.Disk.{Image, Contents, Lengths}
use Rattle.mds_out.specs.Known.{OnTold}
use Rattle.root_slots.specs.declared.root.Root.{Root}
use Rattle.root_slots.specs.Root.{is_root, is_fresh, files_of}
use Rattle.row_store.specs.declared.merges.Pending.{Pending}
use Rattle.row_store.specs.declared.row_store.InForce.{InForce}
use Rattle.row_store.specs.declared.row_store.RowStore.{RowStore}
use Rattle.row_store.specs.Files.{tables_named}
use Rattle.row_store.specs.Rows.{rows_of}
use Rattle.row_store.specs.Store.{HoldsState}
use Rattle.sorted_table.specs.declared.table_row.TableRow.{TableRow}
use Rattle.sorted_table.specs.Tables.{TableState, HoldsRows, IsDurable, IsReady as IsTableReady}

-- a table of these rows was made in a file
pub record IsTableMade (table : TableState) (file : ℕ) (rows : List TableRow) (seen : Contents) (sizes : Lengths)
    (images : Image → Type 0) : Type 0 where
  pub file_is : table.file ≡ file
  pub ready : IsTableReady table seen sizes
  pub durable : IsDurable table.file seen images
  pub holds : HoldsRows table seen rows

-- a table of these rows, and none where there is no row
abbrev pub IsTableOf : Option TableState → ℕ → List TableRow → Contents → Lengths → (Image → Type 0) → Type 0
IsTableOf None file rows seen sizes images = rows ≡ []
IsTableOf (Some table) file rows seen sizes images = IsTableMade table file rows seen sizes images

-- a state and an empty log were written into files
pub record AreBegun (state_file log_file : ℕ) (state : List ℕ) (seen : Contents) (sizes : Lengths)
    (images : Image → Type 0) : Type 0 where
  pub written : OnTold (seen state_file) (HoldsState state)
  pub state_durable : IsDurable state_file seen images
  pub log_ready : logs.IsReady (open_log log_file 1) seen sizes images
  pub empty : HasBodies (open_log log_file 1) seen []

-- the tables with a new one in front
abbrev pub in_front : {X : Type 0} → Option X → List X → List X
in_front None older = older
in_front (Some table) older = table ∷ older

abbrev pub file_of : Option TableState → Option ℕ
file_of None = None
file_of (Some table) = Some table.file

-- the number of the root in force is below this one
abbrev pub IsNextNumber : Option InForce → ℕ → Type 0
IsNextNumber None number = 0 < number
IsNextNumber (Some force) number = force.root.number < number

-- The root that a flush brings into force, its log, and the table of the rows that changed: they are on the disk, under
-- files that nothing else is in.
pub record IsNext (store : RowStore) (root : Root) (log : LogState) (table : Option TableState) (seen : Contents)
    (sizes : Lengths) (images : Image → Type 0) : Type 0 where
  pub is : is_root root ≡ true
  pub number : IsNextNumber store.force root.number
  pub log_is : log ≡ open_log root.log_file 1
  pub files : root.tables ≡ in_front (file_of table) (tables_named store.force)
  pub apart : IfSome store.merge (λ pending. is_fresh pending.file (files_of root) ≡ true)
  pub state_durable : IsDurable root.state seen images
  pub log_ready : logs.IsReady (open_log root.log_file 1) seen sizes images
  pub empty : HasBodies (open_log root.log_file 1) seen []
  pub table_file : ℕ
  pub made : IsTableOf table table_file (rows_of store.fresh.entries) seen sizes images

-- the merge that is under way, once there is a newer table more
abbrev pub shifted : Option TableState → Option Pending → Option Pending
shifted None merge = merge
shifted (Some table) None = None
shifted (Some table) (Some pending) = Some (record pending { newer = suc pending.newer })
