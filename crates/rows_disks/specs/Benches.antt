-- A log beside its disk, as the calls of the log left it.
use Rattle.std.specs.Prelude.{◌≡◌, false, Option}
use Rattle.std.specs.Option.{MatchOption}
use Rattle.mds_out.specs.Disk.{Image, Contents, Lengths}
use Rattle.gate_log.specs.LogState.{LogState, IsReady}

-- the log may be used on a disk that tells this, unless it has stopped
abbrev pub IsRunning : LogState → Contents → Lengths → (Image → Type 0) → Type 0
IsRunning log seen sizes images = log.stopped ≡ false → IsReady log seen sizes images

-- so may the log that is open, where one is
abbrev pub IsBench : Option LogState → Contents → Lengths → (Image → Type 0) → Type 0
IsBench log seen sizes images = MatchOption log (Unit {0}) (λ log. IsRunning log seen sizes images)
