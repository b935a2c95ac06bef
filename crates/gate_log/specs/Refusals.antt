-- What a refused call of a log leaves.
use Rattle.std.specs.Prelude.{◌≡◌, ◌<◌, ◌^◌, ℕ, List, ⊤, Option, true, false}
use Rattle.gate_log.specs.declared.gate_log.LogFault.{LogFault}
use Rattle.gate_log.specs.declared.gate_log.LogFault.TheVariants.{Device, Stopped, BadLog, OutOfMemory}
use Rattle.gate_log.specs.declared.scan.Found.{Found}
use Rattle.gate_log.specs.declared.scan.Found.TheVariants.{End, Bad}
use Rattle.gate_log.specs.LogState.{LogState, IsReady, open_log}
use Rattle.mds_out.specs.declared.disk.DiskFault.{DiskFault}
use Rattle.mds_out.specs.declared.disk.DiskFault.TheVariants.{Device as DiskDevice, OutOfMemory as DiskMemory}
use Rattle.mds_out.specs.Disk.{Image, Contents, Lengths}
use Rattle.mds_out.specs.Known.{OnTold}

-- the log's answer to a fault of its disk
abbrev pub log_fault_of : DiskFault → LogFault
log_fault_of DiskDevice = Device
log_fault_of DiskMemory = OutOfMemory

-- where the log ends the file is ready for it
abbrev pub IsEndReady : ℕ → Found → Contents → Lengths → (Image → Type 0) → Type 0
IsEndReady file (End length) seen sizes images = IsReady (open_log file length) seen sizes images
IsEndReady file (Bad offset) seen sizes images = ⊤

-- A replay that was refused: a stopped log stays as it is, a failing disk stops it, and want of memory changes nothing.
-- A disk that tells what it holds is never found to be bad.
abbrev pub IsReplayRefusal : Option (List ℕ) → LogState → LogState → List ℕ → List ℕ → LogFault → Type 0
IsReplayRefusal seen old new into into' Device = (old.stopped ≡ false) × (new ≡ record old { stopped = true })
IsReplayRefusal seen old new into into' Stopped = (old.stopped ≡ true) × (new ≡ old) × (into' ≡ into)
IsReplayRefusal seen old new into into' (BadLog offset) =
    (old.stopped ≡ false) × (new ≡ old) × (into' ≡ into) × OnTold seen (λ bytes. ⊥)
IsReplayRefusal seen old new into into' OutOfMemory = (old.stopped ≡ false) × (new ≡ old) × (into' ≡ into)

-- a body that was not read: a disk that tells what it holds is never found to be bad
abbrev pub IsBodyRefusal : Option (List ℕ) → List ℕ → List ℕ → LogFault → Type 0
IsBodyRefusal seen into into' Device = ⊤
IsBodyRefusal seen into into' Stopped = ⊥
IsBodyRefusal seen into into' (BadLog offset) = (into' ≡ into) × OnTold seen (λ bytes. ⊥)
IsBodyRefusal seen into into' OutOfMemory = into' ≡ into

-- a log's length is that of a file
abbrev pub IsShortEnd : Found → Type 0
IsShortEnd (End length) = length < 2 ^ 63
IsShortEnd (Bad offset) = ⊤
