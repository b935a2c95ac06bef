-- What a turn of a merge came to.
use Rattle.std.specs.Prelude.{◌≡◌, ◌<◌, ℕ, List, [], ◌∷◌, ◌++◌, take, Option, None, Some}
use Rattle.merge_rows.specs.declared.merge.Turn.{Turn}
use Rattle.merge_rows.specs.declared.merge.Turn.TheVariants.{More, Finished}
use Rattle.merge_rows.specs.Merging.{IsMerging}
use Rattle.merge_rows.specs.Telling.{AllTell}
use Rattle.merge_rows.specs.Turns.{HoldsMerged}
use Rattle.mds_out.specs.Disk.{Image, Contents, Lengths}
use Rattle.root_slots.specs.declared.root.Root.{Root}
use Rattle.row_store.specs.declared.row_store.InForce.{InForce}
use Rattle.sorted_table.specs.declared.table_row.TableRow.{TableRow}
use Rattle.sorted_table.specs.Tables.{TableState, HasRows, IsDurable, IsReady as IsTableReady}

-- the table of what these tables say of each key was made in a file
pub record IsMergedTable (table : TableState) (tables : List TableState) (seen : Contents) (sizes : Lengths)
    (images : Image → Type 0) : Type 0 where
  pub ready : IsTableReady table seen sizes
  pub durable : IsDurable table.file seen images
  pub rows : (lists : List (List TableRow)) → AllTell HasRows tables seen lists → HoldsMerged table seen lists

abbrev pub IsTurned : Turn → ℕ → List TableState → Contents → Lengths → (Image → Type 0) → Type 0
IsTurned (More merge) file tables seen sizes images = (merge.builder.file ≡ file) × IsMerging merge tables seen sizes
IsTurned (Finished table) file tables seen sizes images =
    (table.file ≡ file) × IsMergedTable table tables seen sizes images

-- The root in force with a table in this file in the place of those behind so many newer ones, and with a greater
-- number.
pub record IsRootMerged (old root : Root) (newer file : ℕ) : Type 0 where
  pub number : old.number < root.number
  pub state : root.state ≡ old.state
  pub log_file : root.log_file ≡ old.log_file
  pub tables : root.tables ≡ take newer old.tables ++ file ∷ []

abbrev pub IsMergedRoot : Option InForce → ℕ → ℕ → Root → Type 0
IsMergedRoot None newer file root = ⊥
IsMergedRoot (Some force) newer file root = IsRootMerged force.root root newer file

-- another root in force, with the same log
abbrev pub rooted : Root → Option InForce → Option InForce
rooted root None = None
rooted root (Some force) = Some (record force { root = root })
