-- The one statement of crashes: files that no root in force names may hold anything; the root decides.
use Rattle.std.specs.Prelude.{◌≡◌, ◌≢◌, ◌⊎◌, ℕ, Contains, Some}
use Rattle.root_slots.specs.Root.{files_of}
use Rattle.root_slots.specs.Slot.{root_in}
use Rattle.root_slots.specs.declared.root.Root.{Root}
use Rattle.mds_out.specs.Disk.{Image}

-- The root is in force, and each file that it names is as it was. Any other file may hold anything.
pub record IsUnder (root : Root) (before image : Image) : Type 0 where
  pub in_force : root_in (image 0) ≡ Some root
  pub files : (file : ℕ) → Contains (files_of root) file → image file ≡ before file

-- a root names no file 0
abbrev pub NamesNoZero : Root → Type 0
NamesNoZero root = (file : ℕ) → Contains (files_of root) file → file ≢ 0

-- Whatever becomes of a file that the root does not name, and that is not file 0, the disk stays under it.
abbrev pub OtherFilesAreFree : Type 0
OtherFilesAreFree = (root : Root) (file : ℕ) (before image : Image) → file ≢ 0 → (Contains (files_of root) file → ⊥)
    → ((other : ℕ) → other ≢ file → image other ≡ before other) → root_in (before 0) ≡ Some root
    → IsUnder root before image

-- Where file 0 alone changes from the one root to the other, the disk is under the one or under the other.
abbrev pub RootDecides : Type 0
RootDecides = (old new : Root) (before image : Image) → NamesNoZero old → NamesNoZero new
    → ((other : ℕ) → other ≢ 0 → image other ≡ before other)
    → (root_in (image 0) ≡ Some old) ⊎ (root_in (image 0) ≡ Some new)
    → IsUnder old before image ⊎ IsUnder new before image
