-- What opening a disk leaves of the file of its log.
use Rattle.std.specs.Prelude.{◌≡◌, ℕ, ◌<◌, ◌^◌, ◌⊎◌, List, false}
use Rattle.mds_base.specs.declared.setup.Setup.{Setup}
use Rattle.mds_base.specs.declared.store_fault.Damage.{Damage}
use Rattle.gate_log.specs.LogState.{LogState, IsReady}
use Rattle.mds_out.specs.Disk.{Image, Contents, Lengths}
use Rattle.node_core.specs.Nodes.{NodeAndRows}
use Rattle.node_store.specs.Stands.{FileStandsFor}
use Rattle.node_store.specs.Damage.{IsDamaged}

-- the file stands for each store for which the bytes stand
abbrev pub StandsLike : ℕ → Setup → List ℕ → List ℕ → Type 0
StandsLike server setup bytes file =
    (store : NodeAndRows) → FileStandsFor server setup bytes store → FileStandsFor server setup file store

-- two files stand for the same stores, and what is damaged in the second is so in the first
pub record StandAlike (server : ℕ) (setup : Setup) (bytes file : List ℕ) : Type 0 where
  pub on : StandsLike server setup bytes file
  pub back : StandsLike server setup file bytes
  pub damaged : (offset : ℕ) (damage : Damage) → IsDamaged server setup file offset damage
      → IsDamaged server setup bytes offset damage

-- an image is one from before, or stands for what the bytes stand for
abbrev pub IsAsBefore : ℕ → Setup → (Image → Type 0) → List ℕ → Image → Type 0
IsAsBefore server setup old bytes image = old image ⊎ StandsLike server setup bytes (image 1)

-- the log of file 1 is open
pub record IsOpenLog (log : LogState) (seen : Contents) (sizes : Lengths) (images : Image → Type 0) : Type 0 where
  pub file : log.file ≡ 1
  pub running : log.stopped ≡ false
  pub ready : IsReady log seen sizes images
  pub short : log.length < 2 ^ 63
