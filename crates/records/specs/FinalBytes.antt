-- Finals as bytes: a tag and a number.
use Rattle.std.specs.Prelude.{ℕ, ◌+◌, ◌*◌, ◌^◌, ◌<◌, ◌≤◌, List, ◌∷◌}
use Rattle.std.specs.Int.{w64, to_be_bytes}
use Rattle.mds_base.specs.declared.reply.Final.{Final}
use Rattle.mds_base.specs.declared.reply.Final.TheVariants.{Created, CreatedDir, Exists, Removed, Missing, IsDir, Set}
use Rattle.mds_base.specs.declared.reply.Final.TheVariants.{Ids, Loaded, Stale, Sealed, NotEmpty, Late, Opened, Killed}
use Rattle.records.specs.declared.kinds.TheConstants as kinds

-- a directory number
abbrev pub IsDirectory : ℕ → Type 0
IsDirectory dir = (1 ≤ dir) × (dir < 2 ^ 48)

-- the number of a final is in its range
abbrev pub IsNumbered : Final → Type 0
IsNumbered (CreatedDir number) = IsDirectory number
IsNumbered (Ids first) = (2 ≤ first) × (first ≤ 2 ^ 45)
IsNumbered (Loaded count) = count ≤ 4096
IsNumbered (Sealed depth epoch) = (depth ≤ 14) × (epoch < 2 ^ 48)
IsNumbered said = Unit {0}

abbrev pub tag_of : Final → ℕ
tag_of Created = kinds.FINAL_CREATED
tag_of (CreatedDir number) = kinds.FINAL_CREATED_DIR
tag_of Exists = kinds.FINAL_EXISTS
tag_of Removed = kinds.FINAL_REMOVED
tag_of Missing = kinds.FINAL_MISSING
tag_of IsDir = kinds.FINAL_IS_DIR
tag_of Set = kinds.FINAL_SET
tag_of (Ids first) = kinds.FINAL_IDS
tag_of (Loaded count) = kinds.FINAL_LOADED
tag_of Stale = kinds.FINAL_STALE
tag_of (Sealed depth epoch) = kinds.FINAL_SEALED
tag_of NotEmpty = kinds.FINAL_NOT_EMPTY
tag_of Late = kinds.FINAL_LATE
tag_of Opened = kinds.FINAL_OPENED
tag_of Killed = kinds.FINAL_KILLED

-- the number of a final, 0 where it has none
abbrev pub number_of : Final → ℕ
number_of (CreatedDir number) = number
number_of (Ids first) = first
number_of (Loaded count) = count
number_of (Sealed depth epoch) = 16 * epoch + depth
number_of said = 0

abbrev pub final_spelling : Final → List ℕ
final_spelling said = tag_of said ∷ to_be_bytes w64 (number_of said)
