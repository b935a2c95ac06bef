-- An open log, and what the disk owes it.
use Rattle.std.specs.Prelude.{◌≡◌, ◌≢◌, ◌≤◌, ℕ, Bool, false, List, length, Some}
use Rattle.gate_log.specs.Log.{HoldsLog, log_length}
use Rattle.mds_out.specs.Disk.{Image, Contents, Lengths, ChangesOne}
use Rattle.mds_out.specs.Images.{IsTorn}
use Rattle.mds_out.specs.Known.{OnTold}

-- the number of its file, the bytes of the log with its closed gate, and whether it has stopped
pub record LogState : Type 0 where
  pub file : ℕ
  pub length : ℕ
  pub stopped : Bool

-- the bytes hold these bodies, whose log has the length that the value says
pub record IsLogOf (log : LogState) (bodies : List (List ℕ)) (bytes : List ℕ) : Type 0 where
  pub holds : HoldsLog bodies bytes
  pub ends : log.length ≡ log_length bodies

-- the bytes hold a log of this length, and each image has just these bytes
pub record IsKept (log : LogState) (images : Image → Type 0) (bytes : List ℕ) : Type 0 where
  pub bodies : List (List ℕ)
  pub is : IsLogOf log bodies bytes
  pub durable : (image : Image) → images image → image log.file ≡ bytes

-- The file is as the calls of this log left it: it reaches to the log's end, and where the disk tells it, it holds the
-- log at each image.
pub record IsReady (log : LogState) (seen : Contents) (sizes : Lengths) (images : Image → Type 0) : Type 0 where
  pub size : ℕ
  pub known : sizes log.file ≡ Some size
  pub reaches : log.length ≤ size
  pub some : 1 ≤ log.length
  pub told : OnTold (seen log.file) (IsKept log images)

-- the log has these bodies, where the disk tells it
abbrev pub HasBodies : LogState → Contents → List (List ℕ) → Type 0
HasBodies log seen bodies = OnTold (seen log.file) (IsLogOf log bodies)

-- the image is an old one after a write that a crash may have cut short
pub record IsWrittenOver (file at count : ℕ) (old : Image → Type 0) (image : Image) : Type 0 where
  pub before : Image
  pub was : old before
  pub changes : ChangesOne file (IsTorn at count) before image

-- a file other than this one is in the image as in one from before
pub record IsElsewhereOld (file : ℕ) (old : Image → Type 0) (image : Image) : Type 0 where
  pub before : Image
  pub was : old before
  pub others : (other : ℕ) → other ≢ file → image other ≡ before other

-- a log that has not stopped
abbrev pub open_log : ℕ → ℕ → LogState
open_log file length = record { file = file; length = length; stopped = false }
