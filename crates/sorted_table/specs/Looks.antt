-- Which block answers for a key, and what it answers, by its first row that is not below the key.
use Rattle.std.specs.Prelude.{◌≡◌, ◌*◌, ℕ, suc, List, take, drop, Option, None, Some, Result, Ok, Err, ⊤, true, false}
use Rattle.std.specs.Prelude.{if◌then◌else◌}
use Rattle.std.specs.List.Sorted.{IsPartitionedBy, IsPartitionPoint}
use Rattle.std.specs.Ordering.{is_eq, is_le}
use Rattle.mds_base.specs.declared.row_key.RowKey.{RowKey}
use Rattle.mds_base.specs.RowKeys.{row_key_cmp}
use Rattle.sorted_table.specs.declared.TheConstants.{BLOCK_BYTES}
use Rattle.sorted_table.specs.declared.fault.TableFault.{TableFault}
use Rattle.sorted_table.specs.declared.fault.TableFault.TheVariants.{Device, Damaged, OutOfMemory}
use Rattle.sorted_table.specs.declared.table_row.TableRow.{TableRow}
use Rattle.sorted_table.specs.declared.table_row.Held.{Held}
use Rattle.sorted_table.specs.declared.table_row.Held.TheVariants.{Absent}
use Rattle.sorted_table.specs.TableRows.{held_of}
use Rattle.sorted_table.specs.Tables.{TableState}

-- the bytes of the block at a place of a file
abbrev pub bytes_at : ℕ → List ℕ → List ℕ
bytes_at place file = take BLOCK_BYTES (drop (BLOCK_BYTES * place) file)

-- The block at this place may have the key: with rising first keys it is the last one that begins with a key up to it.
abbrev pub IsBlockFor : TableState → RowKey → ℕ → Type 0
IsBlockFor table key place = IsPartitionedBy (λ first. is_le (row_key_cmp first key)) table.firsts
    → IsPartitionPoint (λ first. is_le (row_key_cmp first key) ≡ true) (λ first. is_le (row_key_cmp first key) ≡ false)
    table.firsts (suc place)

-- what the first row that is not below the key says of it
abbrev pub held_first : Option TableRow → RowKey → Held
held_first None key = Absent
held_first (Some row) key = if is_eq (row_key_cmp row.key key) then held_of row.attr else Absent

-- it is this answer, unless memory ran out
abbrev pub IsThis : {T : Type 0} → T → Result T TableFault → Type 0
IsThis wanted (Ok found) = found ≡ wanted
IsThis wanted (Err Device) = ⊥
IsThis wanted (Err (Damaged offset damage)) = ⊥
IsThis wanted (Err OutOfMemory) = ⊤

-- no fault of the disk, and no damage
abbrev pub IsPlain : {T : Type 0} → Result T TableFault → Type 0
IsPlain (Ok _) = ⊤
IsPlain (Err Device) = ⊥
IsPlain (Err (Damaged offset damage)) = ⊥
IsPlain (Err OutOfMemory) = ⊤
