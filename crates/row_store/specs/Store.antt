-- What a disk has of a row store, and what a crash may leave.
use Rattle.std.specs.Prelude.{◌≡◌, ◌⊎◌, ℕ, List, [], ◌∷◌, ◌++◌, Option, None, Some, IsSome, unwrap_or, ⊤}
use Rattle.std.specs.FinMap as map
use Rattle.gate_log.specs.Log.{HoldsLog}
use Rattle.mds_base.specs.RowKeys.{RowMap}
use Rattle.mds_out.specs.Disk.{Image, Contents}
use Rattle.md5.specs.Md5.{md5}
use Rattle.root_slots.specs.declared.root.Root.{Root}
use Rattle.root_slots.specs.Slot.{HasNoRoot, root_in}
use Rattle.row_store.specs.Rows.{rows_under}
use Rattle.sorted_table.specs.declared.table_row.TableRow.{TableRow}
use Rattle.sorted_table.specs.TableFiles.{HoldsTable}

-- ---- what a disk reads as

-- the disk tells each of its files
abbrev pub TellsAll : Contents → Type 0
TellsAll seen = (file : ℕ) → IsSome (seen file)

-- what it reads as: of a file that it does not tell, nothing
abbrev pub reading : Contents → Image
reading seen file = unwrap_or (seen file) []

-- ---- on whole files

-- What a store keeps: its base, which is the map at its last flush, the state given then, and the bodies committed
-- since.
pub record Kept : Type 0 where
  pub base : RowMap
  pub state : List ℕ
  pub bodies : List (List ℕ)

-- the file of a state: the state, and its MD5
abbrev pub HoldsState : List ℕ → List ℕ → Type 0
HoldsState state file = file ≡ state ++ md5 state

-- each of these files holds the table beside it
abbrev pub HoldTables : List ℕ → List (List TableRow) → Image → Type 0
HoldTables [] [] image = ⊤
HoldTables [] (table ∷ tables) image = ⊥
HoldTables (file ∷ files) [] image = ⊥
HoldTables (file ∷ files) (table ∷ tables) image = HoldsTable table (image file) × HoldTables files tables image

-- The disk has this under a root: the state, a log of these bodies, and tables that stand for the base. What files hold
-- that the root does not name is free.
pub record HasUnder (root : Root) (kept : Kept) (image : Image) : Type 0 where
  pub tables : List (List TableRow)
  pub in_force : root_in (image 0) ≡ Some root
  pub state : HoldsState kept.state (image root.state)
  pub log : HoldsLog kept.bodies (image root.log_file)
  pub hold : HoldTables root.tables tables image
  pub base : kept.base ≡ rows_under tables

-- what the disk stands for: of a new one, no store
abbrev pub StandsFor : Option Kept → Image → Type 0
StandsFor None image = HasNoRoot (image 0)
StandsFor (Some kept) image = (root : Root) × HasUnder root kept image

-- ---- at each moment of a call

abbrev pub with_body : Kept → List ℕ → Kept
with_body kept body = record kept { bodies = kept.bodies ++ body ∷ [] }

abbrev pub flushed : RowMap → List ℕ → Kept
flushed rows state = record { base = rows; state = state; bodies = [] }

-- A commit: the bodies before it, with this one or without. After `Ok` it is with this one.
abbrev pub IsCommitting : Kept → List ℕ → Image → Type 0
IsCommitting kept body image = StandsFor (Some kept) image ⊎ StandsFor (Some (with_body kept body)) image

-- A flush: what was there, or the map as the new base with the new state and no body. After `Ok` it is this.
abbrev pub IsFlushing : Option Kept → RowMap → List ℕ → Image → Type 0
IsFlushing old rows state image = StandsFor old image ⊎ StandsFor (Some (flushed rows state)) image

-- the base, which is empty on a new disk
abbrev pub base_of : Option Kept → RowMap
base_of None = map.empty
base_of (Some kept) = kept.base
