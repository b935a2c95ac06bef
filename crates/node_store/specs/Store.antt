-- A server on a disk.
use Rattle.std.specs.Prelude.{◌≡◌, ℕ, List, [], ◌∷◌, ◌++◌, map, true, false, Option, None, ◌⊎◌}
use Rattle.mds_base.specs.declared.setup.Setup.{Setup}
use Rattle.records.specs.declared.record.Record.{Record}
use Rattle.gate_log.specs.Log.{HoldsLog, log_length}
use Rattle.gate_log.specs.LogState.{LogState, IsReady, IsLogOf}
use Rattle.mds_out.specs.Disk.{Image, Contents, Lengths, LeavesOnly}
use Rattle.mds_out.specs.Known.{OnTold}
use Rattle.node_core.specs.Nodes.{NodeAndRows}
use Rattle.node_core.specs.Serving.{replayed_all}
use Rattle.node_store.specs.Stands.{StandFor, FileStandsFor, IsBody, all_follow, opened_store}

-- the disk, whose server it is, its log, its node and rows where it is up, and its records in doubt
pub record Store (D : Type 0) : Type 0 where
  pub disk : D
  pub server : ℕ
  pub setup : Setup
  pub log : LogState
  pub up : Option NodeAndRows
  pub doubt : List Record

-- the bytes hold the log, whose bodies stand for the store
pub record HoldsStore (server : ℕ) (setup : Setup) (log : LogState) (store : NodeAndRows)
    (bytes : List ℕ) : Type 0 where
  pub bodies : List (List ℕ)
  pub is : IsLogOf log bodies bytes
  pub stands : StandFor server setup bodies store

-- what the disk owes a server that is up
pub record IsKept (seen : Contents) (sizes : Lengths) (images : Image → Type 0) (server : ℕ) (setup : Setup)
    (log : LogState) (store : NodeAndRows) : Type 0 where
  pub file : log.file ≡ 1
  pub running : log.stopped ≡ false
  pub ready : IsReady log seen sizes images
  pub holds : OnTold (seen 1) (HoldsStore server setup log store)

-- the file holds these bodies, or these and one more with the records in doubt
abbrev pub HasDoubt : List (List ℕ) → List Record → List ℕ → Type 0
HasDoubt bodies doubt file =
    HoldsLog bodies file ⊎ ((body : List ℕ) × IsBody body doubt × HoldsLog (bodies ++ body ∷ []) file)

-- bodies that stand for the store, and a log of just their length; the records in doubt may follow, and each image has
-- the bodies without them or with them
pub record LeavesDoubt (images : Image → Type 0) (server : ℕ) (setup : Setup) (log : LogState) (store : NodeAndRows)
    (doubt : List Record) : Type 0 where
  pub bodies : List (List ℕ)
  pub stands : StandFor server setup bodies store
  pub ends : log.length ≡ log_length bodies
  pub follow : all_follow store doubt ≡ true
  pub each : (image : Image) → images image → HasDoubt bodies doubt (image 1)

-- what the disk owes a server that is down: its store, the records in doubt left out
pub record IsDownAt {D : Type 0} (seen : D → Contents) (images : D → Image → Type 0) (s : Store D)
    (store : NodeAndRows) : Type 0 where
  pub down : s.up ≡ None
  pub told : OnTold (seen s.disk 1) (λ _. LeavesDoubt (images s.disk) s.server s.setup s.log store s.doubt)

-- each image of the disk stands for the store
abbrev pub KeepsStore : (Image → Type 0) → ℕ → Setup → NodeAndRows → Type 0
KeepsStore images server setup store = (image : Image) → images image → FileStandsFor server setup (image 1) store

-- an image stands for the one store or for the other
abbrev pub StandsForEither : ℕ → Setup → NodeAndRows → NodeAndRows → Image → Type 0
StandsForEither server setup old new image =
    FileStandsFor server setup (image 1) old ⊎ FileStandsFor server setup (image 1) new

-- each image of the disk stands for the store, or for it with all its records in doubt
abbrev pub KeepsInDoubt : (Image → Type 0) → ℕ → Setup → NodeAndRows → List Record → Type 0
KeepsInDoubt images server setup store doubt =
    (image : Image) → images image → StandsForEither server setup store (replayed_all store doubt) image

-- the file stands for one of the stores
abbrev pub StandsForAny : ℕ → Setup → List NodeAndRows → List ℕ → Type 0
StandsForAny server setup [] file = ⊥
StandsForAny server setup (store ∷ stores) file =
    FileStandsFor server setup file store ⊎ StandsForAny server setup stores file

-- each image of the disk stands for one of the stores
abbrev pub KeepsAny : (Image → Type 0) → ℕ → Setup → List NodeAndRows → Type 0
KeepsAny images server setup stores = (image : Image) → images image → StandsForAny server setup stores (image 1)

-- Where the file was told: whichever stores each image stood for one of before, a crash at any moment since leaves an
-- image that stands for one of them, or for one of them opened.
abbrev pub LeavesOpened : {D : Type 0} → (D → ℕ) → (D → ℕ → Image → Type 0) → Contents → (Image → Type 0) → ℕ → Setup
    → D → D → Type 0
LeavesOpened moment since seen images server setup old new =
    OnTold (seen 1) (λ _. (stores : List NodeAndRows) → KeepsAny images server setup stores
    → LeavesOnly moment since old new
    (λ image. StandsForAny server setup (stores ++ map opened_store stores) (image 1)))
