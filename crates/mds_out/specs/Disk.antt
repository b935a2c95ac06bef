-- What the calls of a disk do to its files, and what a crash may do during them.
use Rattle.std.specs.Prelude.{◌≡◌, ◌≢◌, ◌⊎◌, ℕ, ◌+◌, ◌≤◌, List, ◌++◌, length, take, drop, ⊤, Option, None, Some, Result}
use Rattle.std.specs.Prelude.{OnOk, IsErrOf}
use Rattle.mds_out.specs.declared.disk.DiskFault.{DiskFault}
use Rattle.mds_out.specs.declared.disk.DiskFault.TheVariants.{Device, OutOfMemory}
use Rattle.mds_out.specs.Fault.{Rose}
use Rattle.mds_out.specs.Known.{OnTold}

-- a content for each file, by its number
abbrev pub Image : Type 0
Image = ℕ → List ℕ

-- what reads give of each file, where the disk tells it
abbrev pub Contents : Type 0
Contents = ℕ → Option (List ℕ)

-- the length of each file, where it is known
abbrev pub Lengths : Type 0
Lengths = ℕ → Option ℕ

-- a file that is told goes on by this change, and one that is not told is not told then
abbrev pub Tells : Option (List ℕ) → Option (List ℕ) → (List ℕ → List ℕ → Type 0) → Type 0
Tells None None change = ⊤
Tells None (Some now) change = ⊥
Tells (Some before) None change = ⊥
Tells (Some before) (Some now) change = change before now

-- a file is told exactly where it was told before
abbrev pub StaysTold : Option (List ℕ) → Option (List ℕ) → Type 0
StaysTold before now = Tells before now (λ old new. ⊤)

-- the bytes with these at this place in their stead, or behind them
abbrev pub put : List ℕ → ℕ → List ℕ → List ℕ
put old at bytes = take at old ++ bytes ++ drop (at + length bytes) old

-- each file that the disk tells reads as in this image
abbrev pub Shows : Contents → Image → Type 0
Shows seen image = (file : ℕ) → OnTold (seen file) (λ bytes. image file ≡ bytes)

-- nothing that a read gives has changed, and a length that was known stays
pub record IsUnchanged (seen seen' : Contents) (sizes sizes' : Lengths) : Type 0 where
  pub bytes : (file : ℕ) → seen' file ≡ seen file
  pub lengths : (file : ℕ) → OnTold (sizes file) (λ size. sizes' file ≡ Some size)

-- no file but this one has changed
pub record IsElsewhereUnchanged (file : ℕ) (seen seen' : Contents) (sizes sizes' : Lengths) : Type 0 where
  pub bytes : (other : ℕ) → other ≢ file → seen' other ≡ seen other
  pub lengths : (other : ℕ) → other ≢ file → OnTold (sizes other) (λ size. sizes' other ≡ Some size)

-- the images are the same
pub record AreSame (old new : Image → Type 0) : Type 0 where
  pub no_other : (image : Image) → new image → old image
  pub all : (image : Image) → old image → new image

-- the change of one file, and of no other
pub record ChangesOne (file : ℕ) (change : List ℕ → List ℕ → Type 0) (old new : Image) : Type 0 where
  pub changed : change (old file) (new file)
  pub others : (other : ℕ) → other ≢ file → new other ≡ old other

-- each new image is an old one after this change of one file
abbrev pub Follows : ℕ → (List ℕ → List ℕ → Type 0) → (Image → Type 0) → (Image → Type 0) → Type 0
Follows file change old new =
    (image : Image) → new image → (before : Image) × old before × ChangesOne file change before image

-- Time goes on: a crash since an earlier moment might have left what it might have left before this call, or what it
-- may leave now, and nothing else.
pub record Elapses (before now : ℕ) (past since : ℕ → Image → Type 0) (images : Image → Type 0) : Type 0 where
  pub later : before ≤ now
  pub nothing_else : (moment : ℕ) (image : Image) → moment ≤ before → since moment image
      → past moment image ⊎ images image
  pub keeps : (moment : ℕ) (image : Image) → moment ≤ before → past moment image → since moment image

-- A crash at any moment since `old` leaves an image that has P.
pub record LeavesOnly {D : Type 0} (moment : D → ℕ) (since : D → ℕ → Image → Type 0) (old new : D)
    (P : Image → Type 0) : Type 0 where
  pub later : moment old ≤ moment new
  pub each : (image : Image) → since new (moment old) image → P image
  -- for a run that began earlier
  pub before : (t : ℕ) (image : Image) → t ≤ moment old → since new t image → since old t image ⊎ P image

-- A disk's count of faults never falls, rises where `Device` is answered, and stays else.
pub record HasDiskCause {T : Type 0} (before now : ℕ) (result : Result T DiskFault) : Type 0 where
  pub later : before ≤ now
  pub device : IsErrOf result Device → Rose before now
  pub memory : IsErrOf result OutOfMemory → now ≡ before
  pub kept : OnOk result (now ≡ before)

-- A call that changes nothing, as `length` and `read`, or a run of such calls up to this answer: what a read gives, the
-- images and the count of writes and cuts are as before.
pub record IsReading {D T : Type 0} (seen : D → Contents) (sizes : D → Lengths) (images : D → Image → Type 0)
    (moment : D → ℕ) (since : D → ℕ → Image → Type 0)
    (faults changes_asked : D → ℕ) (leads fails_by : D → D → Type 0) (old new : D)
    (result : Result T DiskFault) : Type 0 where
  pub unchanged : IsUnchanged (seen old) (seen new) (sizes old) (sizes new)
  pub crash : AreSame (images old) (images new)
  pub time : Elapses (moment old) (moment new) (since old) (since new) (images new)
  pub no_memory : IsErrOf result OutOfMemory → ⊥
  pub cause : HasDiskCause (faults old) (faults new) result
  pub lasts : leads old new
  pub failed : IsErrOf result Device → fails_by old new
  pub changes : changes_asked new ≡ changes_asked old

-- A call that may change something, as the others, or a run of calls up to this answer.
pub record IsChanging {D T : Type 0} (faults : D → ℕ) (leads fails_by : D → D → Type 0) (old new : D)
    (result : Result T DiskFault) : Type 0 where
  pub cause : HasDiskCause (faults old) (faults new) result
  pub lasts : leads old new
  pub failed : IsErrOf result Device → fails_by old new
