-- Where a log's bytes stand for no server, and why.
use Rattle.std.specs.Prelude.{◌≡◌, ◌≢◌, ◌⊎◌, ℕ, ◌+◌, ◌≤◌, true, List, [], ◌∷◌, ◌++◌, length}
use Rattle.std.specs.List.{AllByRecursion, flat_map}
use Rattle.mds_base.specs.declared.setup.Setup.{Setup}
use Rattle.mds_base.specs.declared.store_fault.Damage.{Damage}
use Rattle.mds_base.specs.declared.store_fault.Damage.TheVariants as damages
use Rattle.mds_base.specs.declared.store_fault.Head.{Head}
use Rattle.records.specs.declared.record.Record.{Record}
use Rattle.records.specs.declared.record.Record.TheVariants as records
use Rattle.records.specs.Spelling.{IsRecord, IsHead, record_spelling}
use Rattle.gate_log.specs.Log.{HoldsLog, IsCutShort, log_bytes}
use Rattle.node_core.specs.Nodes.{NodeAndRows}
use Rattle.node_core.specs.Serving.{may_follow, replayed_all}
use Rattle.node_store.specs.Stands.{IsNewFile, new_store, all_follow, AreBodies, all_of, head_of}

-- the place of the first byte of a body behind these bodies
abbrev pub body_place : List (List ℕ) → ℕ
body_place before = length (log_bytes before) + 5

-- no record begins the bytes that may follow at the store
abbrev pub NoneFollows : NodeAndRows → List ℕ → Type 0
NoneFollows store bytes = (item : Record) (more : List ℕ) → IsRecord item → bytes ≡ record_spelling item ++ more
    → may_follow store item ≡ true → ⊥

-- A record that may not stand at its place: the bodies before this one and the records before it in its body lead to a
-- store, and what comes then begins with no record that may follow there; or the body is empty.
pub record IsWrongAt (server : ℕ) (setup : Setup) (bytes : List ℕ) (offset : ℕ) : Type 0 where
  pub before : List (List ℕ)
  pub body : List ℕ
  pub after : List (List ℕ)
  pub holds : HoldsLog (record_spelling (head_of server setup) ∷ before ++ body ∷ after) bytes
  pub items : List (List Record)
  pub are : AreBodies before items
  pub front : List Record
  pub each : AllByRecursion IsRecord front
  pub rest : List ℕ
  pub split : body ≡ flat_map record_spelling front ++ rest
  pub follow : all_follow (new_store server setup) (all_of items ++ front) ≡ true
  pub none : NoneFollows (replayed_all (new_store server setup) (all_of items ++ front)) rest
  pub empty : rest ≡ [] → front ≡ []
  pub place_is : offset
      ≡ body_place (record_spelling (head_of server setup) ∷ before) + length (flat_map record_spelling front)

-- the log's first body
pub record HasFirst (body : List ℕ) (bytes : List ℕ) : Type 0 where
  pub after : List (List ℕ)
  pub holds : HoldsLog (body ∷ after) bytes

abbrev pub head_spelling : Head → List ℕ
head_spelling head = record_spelling (records.Head 1 head.servers head.server head.threshold)

abbrev pub wanted_head : ℕ → Setup → Head
wanted_head server setup = record { servers = setup.servers; server = server; threshold = setup.threshold }

-- the log's first body is the head of another server, or of other servers
pub record IsForeign (server : ℕ) (setup : Setup) (bytes : List ℕ) (offset : ℕ) (kept wanted : Head) : Type 0 where
  pub first : HasFirst (head_spelling kept) bytes
  pub is : IsHead 1 kept.servers kept.server kept.threshold
  pub wanted_is : wanted ≡ wanted_head server setup
  pub differ : kept ≢ wanted
  pub place_is : offset ≡ 5

-- the log's first body is no head
pub record IsHeadless (bytes : List ℕ) (offset : ℕ) : Type 0 where
  pub body : List ℕ
  pub first : HasFirst body bytes
  pub none : (head : Head) → IsHead 1 head.servers head.server head.threshold → body ≢ head_spelling head
  pub place_is : offset ≡ 5

-- What is wrong at a place of the file: its log is cut short, its first body is no head or that of others, or a record
-- may not stand there.
abbrev pub IsDamaged : ℕ → Setup → List ℕ → ℕ → Damage → Type 0
IsDamaged server setup bytes offset damages.Spelling =
    (2 ≤ length bytes) × (IsCutShort bytes offset ⊎ (IsHeadless bytes offset ⊎ IsWrongAt server setup bytes offset))
IsDamaged server setup bytes offset (damages.Sum kept found) = ⊥
IsDamaged server setup bytes offset (damages.Head kept wanted) = IsForeign server setup bytes offset kept wanted

-- What is wrong with the file of a server that was up: that, or, at its first byte, that the file is new.
abbrev pub IsDamagedAtRestart : ℕ → Setup → List ℕ → ℕ → Damage → Type 0
IsDamagedAtRestart server setup bytes offset damage =
    IsDamaged server setup bytes offset damage
    ⊎ (IsNewFile bytes × (offset ≡ 0) × (damage ≡ damages.Spelling))
