-- How the bytes of a name lie: up to 22 of them in the name itself, beside their number, and more in a box.
use Rattle.std.specs.Prelude.{ℕ, List, take, ◌≤◌, ⊤}
use Rattle.mds_base.specs.declared.limits.TheConstants.{SHORT_NAME}
use Rattle.mds_base.specs.declared.name.Kept.{Kept}
use Rattle.mds_base.specs.declared.name.Kept.TheVariants.{Short, Long}

-- the bytes
abbrev pub kept_bytes : Kept → List ℕ
kept_bytes (Short number bytes) = take number bytes
kept_bytes (Long bytes) = bytes.value.items

-- a short one's number is within its room
abbrev pub IsWithin : Kept → Type 0
IsWithin (Short number bytes) = number ≤ SHORT_NAME
IsWithin (Long bytes) = ⊤
