-- Damage that a restart finds.
use Rattle.std.specs.Prelude.{◌≡◌, ℕ, List, [], ◌∷◌, Some}
use Rattle.std.specs.List.{slice_get}
use Rattle.mds_base.specs.declared.setup.Setup.{Setup}
use Rattle.mds_base.specs.declared.store_fault.Damage.{Damage}
use Rattle.mds_base.specs.declared.store_fault.StoreFault.TheVariants.{Damaged}
use Rattle.mds_out.specs.Disk.{Contents}
use Rattle.mds_out.specs.Fused.{Fused}
use Rattle.node_store.specs.Reading.{IsRefusal, IsBadAtRestart}
use Rattle.node_store.specs.Store.{Store}
use Rattle.script.specs.declared.line.Line.TheVariants.{Restart}
use Rattle.mds_cli.specs.Follows.{Says}
use Rattle.mds_cli.specs.declared.status.Status.{Status}
use Rattle.mds_cli.specs.declared.status.Status.TheVariants.{BadDisk}

-- The line that was begun restarts this server, and this is wrong with the file of its disk.
pub record FindsDamage {X : Type 0} (seen : X → Contents) (setup : Setup) (disks : List X) (next : List (List ℕ))
    (server file offset : ℕ) (damage : Damage) : Type 0 where
  pub line : List ℕ
  pub is : next ≡ line ∷ []
  pub says : Says setup line (Restart server)
  pub log : (disk : X) → slice_get disks server ≡ Some disk
      → IsRefusal (IsBadAtRestart server setup) (seen disk 1) (Damaged file offset damage)

-- damage of which the status tells was found so
abbrev pub Finds : {X : Type 0} → (X → Contents) → Setup → List X → List (List ℕ) → Status → Type 0
Finds seen setup disks next (BadDisk server file offset damage) =
    FindsDamage seen setup disks next server file offset damage
Finds seen setup disks next status = Unit {0}

-- what the disk of a server gives, the fuse left out
abbrev pub seen_in : {D : Type 0} → (D → Contents) → Store (Fused D) → Contents
seen_in seen store = seen store.disk.inner
