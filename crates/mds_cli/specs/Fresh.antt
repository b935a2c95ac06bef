-- Disks that nobody has written yet, and the empty past.
use Rattle.std.specs.Prelude.{◌≡◌, List, [], ◌∷◌, length, Some}
use Rattle.mds_base.specs.declared.setup.Setup.{Setup}
use Rattle.mds_out.specs.Content.{bytes_of}
use Rattle.mds_out.specs.Disk.{Image, Contents}
use Rattle.mds_out.specs.Past.{Past, content_of, IsPastImage}
use Rattle.pasts.specs.Starts.{AreReached}
use Rattle.mds_base.specs.Lists.{Each}

-- file 1 of the disk is empty, and a crash leaves it so
pub record IsNewDisk {D : Type 0} (seen : D → Contents) (images : D → Image → Type 0) (disk : D) : Type 0 where
  pub told : seen disk 1 ≡ Some []
  pub left : (image : Image) → images disk image → image 1 ≡ []

-- such disks, one for each server, are those to which the empty past leads
abbrev pub NewDisksAreReached : {D : Type 0} → (D → Contents) → (D → Image → Type 0) → Type 0
NewDisksAreReached {D = D} seen images =
    (setup : Setup) (disks : List D) → length disks ≡ setup.servers → Each disks (λ s disk. IsNewDisk seen images disk)
    → AreReached seen images setup disks []

-- ---- disks in memory

-- what one tells of its files, and what a crash may leave of them
abbrev pub memory_seen : Past → Contents
memory_seen disk file = Some (bytes_of (content_of disk.outcome disk.acts file))

abbrev pub memory_images : Past → Image → Type 0
memory_images disk = IsPastImage disk.outcome disk.acts

-- nothing was done to any of these
abbrev pub AreNewMemories : List Past → Type 0
AreNewMemories [] = Unit {0}
AreNewMemories (disk ∷ disks) = (disk.acts ≡ []) × AreNewMemories disks

-- so, one for each server, they are disks to which the empty past leads
abbrev pub NewMemoriesAreReached : Type 0
NewMemoriesAreReached =
    (setup : Setup) (disks : List Past) → length disks ≡ setup.servers → AreNewMemories disks
    → AreReached memory_seen memory_images setup disks []
