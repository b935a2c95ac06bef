-- What one step of a merge does: one key is passed.
use Rattle.std.specs.Prelude.{◌≡◌, ◌⊎◌, ℕ, ◌+◌, ◌<◌, ◌≤◌, List, [], ◌∷◌, ◌++◌, map, Option, None, Some, Result, Ok, Err}
use Rattle.std.specs.Prelude.{⊤, Bool, true, false}
use Rattle.mds_base.specs.declared.attr.Attr.{Attr}
use Rattle.mds_base.specs.declared.row_key.RowKey.{RowKey}
use Rattle.mds_out.specs.Disk.{Contents}
use Rattle.sorted_table.specs.declared.builder.Builder.{Builder}
use Rattle.sorted_table.specs.declared.fault.TableFault.{TableFault}
use Rattle.sorted_table.specs.declared.fault.TableFault.TheVariants.{Device, Damaged, OutOfMemory}
use Rattle.sorted_table.specs.declared.table_row.TableRow.{TableRow}
use Rattle.sorted_table.specs.declared.table_row.Held.TheVariants.{Absent}
use Rattle.sorted_table.specs.Blocks.{is_above}
use Rattle.sorted_table.specs.Building.{IsBuilt, AllBelow}
use Rattle.sorted_table.specs.Tables.{TableState, HasBlocks}
use Rattle.merge_rows.specs.declared.merge.Merge.{Merge}
use Rattle.merge_rows.specs.Cursors.{cursor_passed, lefts, weights}
use Rattle.merge_rows.specs.Merged.{newest}
use Rattle.merge_rows.specs.Telling.{AllTell}

-- the rows and this one, but for a tombstone
abbrev pub with_row : List TableRow → RowKey → Option Attr → List TableRow
with_row rows key None = rows
with_row rows key (Some attr) = rows ++ record { key = key; attr = Some attr } ∷ []

-- a row was added to the builder, but for a tombstone: at most one block was written, and where anything was added the
-- present block has a row
pub record IsPut (old new : Builder) (key : RowKey) (attr : Option Attr) (seen seen' : Option (List ℕ)) : Type 0 where
  pub file : new.file ≡ old.file
  pub built : (rows : List TableRow) → IsBuilt old rows seen → AllBelow rows key
      → IsBuilt new (with_row rows key attr) seen'
  pub later : old.written ≤ new.written
  pub most : new.written ≤ old.written + 1
  pub some : (new ≡ old) ⊎ (0 < new.count)

-- the key was passed: its row was put, and each cursor is behind it
pub record IsPassed (old new : Merge) (key : RowKey) (attr : Option Attr) (seen seen' : Option (List ℕ)) : Type 0 where
  pub put : IsPut old.builder new.builder key attr seen seen'
  pub above : is_above old.last key ≡ true
  pub cursors : new.cursors.items ≡ map (cursor_passed key) old.cursors.items
  pub last : new.last ≡ Some key

-- refused as damaged only where the key is not above the last one
abbrev pub IsPassAnswer : {T : Type 0} → Bool → Result T TableFault → Type 0
IsPassAnswer above (Ok _) = ⊤
IsPassAnswer above (Err Device) = ⊤
IsPassAnswer above (Err (Damaged offset damage)) = above ≡ false
IsPassAnswer above (Err OutOfMemory) = ⊤

-- a step was made, or no row is left
pub record Steps (old new : Merge) (some : Bool) (tables : List TableState) (seen : Contents) : Type 0 where
  pub file : new.builder.file ≡ old.builder.file
  pub later : old.builder.written ≤ new.builder.written
  pub most : new.builder.written ≤ old.builder.written + 1
  pub added : (new.builder ≡ old.builder) ⊎ (0 < new.builder.count)
  pub less : some ≡ true → weights new.cursors.items tables < weights old.cursors.items tables
  pub none : some ≡ false → (blocks : List (List (List TableRow))) → AllTell HasBlocks tables seen blocks
      → (key : RowKey) → newest (lefts new.cursors.items blocks) key ≡ Absent
