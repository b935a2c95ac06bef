-- What a disk stands for.
use Rattle.std.specs.Prelude.{◌≡◌, ℕ, ◌<◌, true, List, [], ◌∷◌, ◌++◌, length, ◌⊎◌}
use Rattle.std.specs.List.{AllByRecursion, flat_map}
use Rattle.std.specs.FinMap as map
use Rattle.mds_base.specs.declared.setup.Setup.{Setup}
use Rattle.records.specs.declared.record.Record.{Record}
use Rattle.records.specs.declared.record.Record.TheVariants.{Head, Opened}
use Rattle.records.specs.Spelling.{IsRecord, record_spelling}
use Rattle.gate_log.specs.Log.{HoldsLog}
use Rattle.node_core.specs.Nodes.{NodeAndRows, new_node}
use Rattle.node_core.specs.Durable.{durable}
pub use Rattle.node_core.specs.Serving.{all_follow}
use Rattle.node_core.specs.Serving.{replayed, replayed_all}

-- a server on which nothing was noted yet, with its rows
abbrev pub new_store : ℕ → Setup → NodeAndRows
new_store server setup = record { node = new_node server setup; rows = map.empty }

-- the records of a body, one or more
pub record IsBody (body : List ℕ) (items : List Record) : Type 0 where
  pub some : 0 < length items
  pub each : AllByRecursion IsRecord items
  pub spelled : body ≡ flat_map record_spelling items

abbrev pub AreBodies : List (List ℕ) → List (List Record) → Type 0
AreBodies [] [] = Unit {0}
AreBodies [] (items ∷ more) = ⊥
AreBodies (body ∷ bodies) [] = ⊥
AreBodies (body ∷ bodies) (items ∷ more) = IsBody body items × AreBodies bodies more

-- the records of bodies, in order
abbrev pub all_of : List (List Record) → List Record
all_of [] = []
all_of (items ∷ more) = items ++ all_of more

abbrev pub head_of : ℕ → Setup → Record
head_of server setup = Head 1 setup.servers server setup.threshold

-- Bodies stand for a store: the first one is the head of this server, and the records of the others lead from the new
-- store to what a log can bring back of it.
pub record StandFor (server : ℕ) (setup : Setup) (bodies : List (List ℕ)) (store : NodeAndRows) : Type 0 where
  pub rest : List (List ℕ)
  pub items : List (List Record)
  pub head : bodies ≡ record_spelling (head_of server setup) ∷ rest
  pub are : AreBodies rest items
  pub follow : all_follow (new_store server setup) (all_of items) ≡ true
  pub leads : durable store ≡ replayed_all (new_store server setup) (all_of items)

-- a file that is new: it has fewer than two bytes, or its first gate is closed
abbrev pub IsNewFile : List ℕ → Type 0
IsNewFile file = (length file < 2) ⊎ HoldsLog [] file

-- The file stands for a store: it is new, and so is the store, or its log's bodies stand for it.
abbrev pub FileStandsFor : ℕ → Setup → List ℕ → NodeAndRows → Type 0
FileStandsFor server setup file store = (IsNewFile file × (durable store ≡ new_store server setup))
    ⊎ ((bodies : List (List ℕ)) × HoldsLog bodies file × StandFor server setup bodies store)

-- the file's log stands for no store
abbrev pub StandsForNone : ℕ → Setup → List ℕ → Type 0
StandsForNone server setup file =
    (bodies : List (List ℕ)) → (store : NodeAndRows) → HoldsLog bodies file → StandFor server setup bodies store → ⊥

-- a store once its server was opened for a new run
abbrev pub opened_store : NodeAndRows → NodeAndRows
opened_store store = replayed store Opened
