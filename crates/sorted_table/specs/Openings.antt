-- What was read of a table's file so far, and what is found at its end.
use Rattle.std.specs.Prelude.{◌≡◌, ℕ, ◌+◌, ◌*◌, ◌≤◌, List, length, take, Option, None, Some, Result, Ok, Err, ⊤, ◌==◌}
use Rattle.std.specs.Prelude.{if◌then◌else◌}
use Rattle.md5.specs.Md5.{Holds}
use Rattle.sorted_table.specs.declared.TheConstants.{BLOCK_BYTES}
use Rattle.sorted_table.specs.declared.fault.TableFault.{TableFault}
use Rattle.sorted_table.specs.declared.fault.TableFault.TheVariants.{Device, Damaged, OutOfMemory}
use Rattle.sorted_table.specs.declared.checked.Checked.{Checked}
use Rattle.sorted_table.specs.declared.opening.Opening.{Opening}
use Rattle.sorted_table.specs.Reading.{◌>>=◌, u32_at, u64_at}
use Rattle.sorted_table.specs.Checks.{IsRead}
use Rattle.sorted_table.specs.TableFiles.{IsDamaged}
use Rattle.sorted_table.specs.Tables.{TableState, IsSomeTable}

-- whole blocks, these bytes, were read up to the place, and are kept as they were
pub record IsOpening (opening : Opening) (bytes : List ℕ) : Type 0 where
  pub blocks : ℕ
  pub at : opening.at ≡ BLOCK_BYTES * blocks
  pub sum : Holds opening.sum (take opening.at bytes)
  pub read : IsRead opening.checked (take opening.at bytes)

-- no more than so many blocks are kept
abbrev pub KeepsAtMost : ℕ → Option Checked → Type 0
KeepsAtMost n None = ⊤
KeepsAtMost n (Some checked) = length checked.firsts.items ≤ n

-- so many calls of the disk, and one for each whole block of a file of this size
abbrev pub AsksByBlock : ℕ → ℕ → ℕ → ℕ → Type 0
AsksByBlock more size before now = BLOCK_BYTES * now ≤ BLOCK_BYTES * (before + more) + size

-- the counts of blocks and rows, and nothing else
abbrev pub counts_at : List ℕ → Option (ℕ × ℕ)
counts_at bytes =
    u32_at bytes >>= λ blocks. u64_at blocks.1 >>= λ rows. if length rows.1 == 0 then Some (blocks.0, rows.0) else None

-- a verdict is no fault of the disk, and takes no memory
abbrev pub IsVerdictAnswer : {T : Type 0} → Result T TableFault → Type 0
IsVerdictAnswer (Ok _) = ⊤
IsVerdictAnswer (Err Device) = ⊥
IsVerdictAnswer (Err (Damaged offset damage)) = ⊤
IsVerdictAnswer (Err OutOfMemory) = ⊥

-- the table that the bytes are, or what is wrong with them
abbrev pub IsVerdict : ℕ → List ℕ → Result TableState TableFault → Type 0
IsVerdict file bytes (Ok table) = (table.file ≡ file) × IsSomeTable table bytes
IsVerdict file bytes (Err Device) = ⊥
IsVerdict file bytes (Err (Damaged offset damage)) = IsDamaged bytes offset damage
IsVerdict file bytes (Err OutOfMemory) = ⊥
