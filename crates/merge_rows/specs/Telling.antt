-- Disks that tell what tables have.
use Rattle.std.specs.Prelude.{◌≡◌, ℕ, List, [], ◌∷◌, Some, ⊤}
use Rattle.std.specs.List.{AllByRecursion}
use Rattle.std.specs.Option.{IsSome}
use Rattle.mds_out.specs.Disk.{Contents, Lengths}
use Rattle.sorted_table.specs.Tables.{TableState, IsReady}

-- the disk tells of a table that it has this
pub record Tells {X : Type 0} (Has : TableState → X → List ℕ → Type 0) (table : TableState) (seen : Contents)
    (x : X) : Type 0 where
  pub bytes : List ℕ
  pub told : seen table.file ≡ Some bytes
  pub has : Has table x bytes

-- of each table
abbrev pub AllTell : {X : Type 0} → (TableState → X → List ℕ → Type 0) → List TableState → Contents → List X → Type 0
AllTell Has [] seen [] = ⊤
AllTell Has [] seen (x ∷ xs) = ⊥
AllTell Has (table ∷ tables) seen [] = ⊥
AllTell Has (table ∷ tables) seen (x ∷ xs) = Tells Has table seen x × AllTell Has tables seen xs

-- the disk tells the bytes of each table's file
abbrev pub AreTold : List TableState → Contents → Type 0
AreTold tables seen = AllByRecursion (λ table. IsSome (seen table.file)) tables

abbrev pub AreReady : List TableState → Contents → Lengths → Type 0
AreReady tables seen sizes = AllByRecursion (λ table. IsReady table seen sizes) tables
