-- The blocks of a store's tables that are kept in memory.
use Rattle.std.specs.Prelude.{◌≡◌, ◌⊎◌, ◌<◌, ℕ, List, [], ◌∷◌, length, Option, None, Some, IfSome, IsSome}
use Rattle.std.specs.List.{AllByRecursion}
use Rattle.block_cache.specs.Blocks.{Blocks, held}
use Rattle.block_cache.specs.declared.place.Place.{Place}
use Rattle.mds_base.specs.declared.row_key.RowKey.{RowKey}
use Rattle.mds_out.specs.Disk.{Contents}
use Rattle.mds_out.specs.Known.{OnTold}
use Rattle.sorted_table.specs.Looks.{bytes_at, IsBlockFor}
use Rattle.sorted_table.specs.Tables.{TableState}

-- what is kept of a block; where there is no cache, nothing
abbrev pub held_of : Option Blocks → Place → Option (List ℕ)
held_of None place = None
held_of (Some blocks) place = held blocks place

-- nothing is kept
abbrev pub IsEmpty : Option Blocks → Type 0
IsEmpty cache = (place : Place) → held_of cache place ≡ None

-- the place of a table's block
abbrev pub place_in : TableState → ℕ → Place
place_in table block = record { file = table.file; block = block }

-- the bytes are those of this block, where the disk tells its file
abbrev pub IsBlock : Contents → Place → List ℕ → Type 0
IsBlock seen place bytes = OnTold (seen place.file) (λ file. bytes ≡ bytes_at place.block file)

-- one of the tables is in this file
abbrev pub IsFileOf : List TableState → ℕ → Type 0
IsFileOf [] file = ⊥
IsFileOf (table ∷ tables) file = (table.file ≡ file) ⊎ IsFileOf tables file

-- what is kept of each block is what the disk has there
abbrev pub AreRight : Option Blocks → Contents → Type 0
AreRight cache seen = (place : Place) → IfSome (held_of cache place) (IsBlock seen place)

-- What is kept are blocks of these tables, as the disk has them.
pub record AreCached (cache : Option Blocks) (tables : List TableState) (seen : Contents) : Type 0 where
  pub right : AreRight cache seen
  pub only : (place : Place) → IsSome (held_of cache place) → IsFileOf tables place.file

-- ---- what calls make of a cache

-- the same is kept
abbrev pub HoldSame : Option Blocks → Option Blocks → Type 0
HoldSame old new = (place : Place) → held_of new place ≡ held_of old place

-- what is kept was kept before, or is a block of these tables as the disk has it
abbrev pub HoldsMore : Option Blocks → Option Blocks → List TableState → Contents → Type 0
HoldsMore old new tables seen = (place : Place) → IfSome (held_of new place)
    (λ bytes. (held_of old place ≡ Some bytes) ⊎ (IsFileOf tables place.file × IsBlock seen place bytes))

-- what is kept was kept before, and is no block of these tables
abbrev pub HaveLeft : List TableState → Option Blocks → Option Blocks → Type 0
HaveLeft tables old new = (place : Place) → IfSome (held_of new place)
    (λ bytes. (held_of old place ≡ Some bytes) × (IsFileOf tables place.file → ⊥))

-- ---- what is answered from it

-- the block of the table that may have the key is kept
abbrev pub IsWarm : Option Blocks → RowKey → TableState → Type 0
IsWarm cache key table = (block : ℕ) → IsBlockFor table key block → block < length table.firsts
    → IsSome (held_of cache (place_in table block))

-- of each table
abbrev pub AreWarm : Option Blocks → RowKey → List TableState → Type 0
AreWarm cache key tables = AllByRecursion (IsWarm cache key) tables
