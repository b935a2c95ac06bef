-- What an event makes of a server on its disk.
use Rattle.std.specs.Prelude.{◌≡◌, ◌⊎◌, ℕ, ◌++◌, true, is_some, List, take, length, Option, Some, None, Result, Ok, Err}
use Rattle.std.specs.Prelude.{IfOk, OnErr, IsErrOf, if◌then◌else◌, ◌==◌}
use Rattle.mds_base.specs.declared.store_fault.StoreFault.{StoreFault}
use Rattle.mds_base.specs.declared.store_fault.StoreFault.TheVariants.{Device}
use Rattle.mds_out.specs.Disk.{Image, Contents, StaysTold}
use Rattle.mds_out.specs.Fault.{Rose}
use Rattle.mds_out.specs.Known.{OnTold}
use Rattle.records.specs.declared.handled.Handled.{Handled}
use Rattle.records.specs.declared.msg.Msg.{Msg}
use Rattle.records.specs.declared.record.Record.{Record}
use Rattle.node_core.specs.Nodes.{NodeAndRows}
use Rattle.node_core.specs.Serving.{ServedV, restarted, replayed_all, serve}
use Rattle.node_store.specs.Disks.{IsStoreChanging}
use Rattle.node_store.specs.Serve.{HasServed, HasStopped, IsAllOrNone}
use Rattle.node_store.specs.Store.{Store, IsDownAt}
use Rattle.message_store.specs.declared.made.Made.{Made}
use Rattle.simulation.specs.declared.servers.Restarted.{Restarted}
use Rattle.simulation.specs.declared.servers.Restarted.TheVariants as restarts
use Rattle.simulation.specs.declared.servers.Served.{Served}
use Rattle.simulation.specs.declared.servers.Served.TheVariants as serves
use Rattle.simulation.specs.Entries.{changes_of}

-- ---- a Serve

-- it serves on, up with this
pub record IsServedOn {X : Type 0} (seen : X → Contents) (old new : Store X) (up : NodeAndRows) : Type 0 where
  pub told : is_some (seen old.disk 1) ≡ true → is_some (seen new.disk 1) ≡ true
  pub server : new.server ≡ old.server
  pub setup : new.setup ≡ old.setup
  pub up' : new.up ≡ Some up

-- it went down where it was up with this, and these records are in doubt
pub record IsStoppedOn {X : Type 0} (seen : X → Contents) (images : X → Image → Type 0) (old new : Store X)
    (up : NodeAndRows) (records : List Record) : Type 0 where
  pub told : is_some (seen old.disk 1) ≡ true → is_some (seen new.disk 1) ≡ true
  pub server : new.server ≡ old.server
  pub setup : new.setup ≡ old.setup
  pub at : IsDownAt seen images new up
  pub doubt : new.doubt ≡ records

-- how a Serve ends that gives this: it was done, and the count of the disk stayed; or the disk failed
abbrev pub EndsOn : {X : Type 0} → (X → Contents) → (X → Image → Type 0) → (X → ℕ) → Store X → Store X → NodeAndRows
    → ServedV → Served → Type 0
EndsOn seen images faults old new up given serves.Stopped =
    IsStoppedOn seen images old new up given.records × Rose (faults old.disk) (faults new.disk)
EndsOn seen images faults old new up given served =
    IsServedOn seen old new given.store × (faults new.disk ≡ faults old.disk)

-- where it was refused for want of memory the server is as it was, or as one that was done or stopped
abbrev pub NearServed : {X : Type 0} → (X → Contents) → (X → Image → Type 0) → Store X → Store X → NodeAndRows → ServedV
    → Type 0
NearServed seen images old new up given =
    (new ≡ old) ⊎ (IsServedOn seen old new given.store ⊎ IsStoppedOn seen images old new up given.records)

-- what serving the message gave, on any disk: what the specification says; or nothing changed, or the server went down
-- and the records are in doubt
pub record IsHandled {X : Type 0} (seen : X → Contents) (images : X → Image → Type 0) (faults : X → ℕ)
    (leads fails_by : X → X → Type 0) (old new : Store X) (asked : Option Msg) (now : ℕ)
    (result : Result Handled StoreFault) : Type 0 where
  pub served : IfOk result
      (λ handled. (msg : Msg) → (up : NodeAndRows) → asked ≡ Some msg → old.up ≡ Some up
      → HasServed (serve up msg now) new.up handled)
  pub refused : OnErr result
      ((msg : Msg) → (up : NodeAndRows) → asked ≡ Some msg → old.up ≡ Some up
      → (new ≡ old) ⊎ HasStopped seen images new up (serve up msg now).records)
  pub down : IsErrOf result Device → new.up ≡ None
  pub same : (new.server ≡ old.server) × (new.setup ≡ old.setup)
  pub told : StaysTold (seen old.disk 1) (seen new.disk 1)
  pub call : IsStoreChanging faults leads fails_by old.disk new.disk result

-- ---- a restart

-- it is up, with the store that its disk owed it and as many of the records in doubt as were kept
pub record IsRestarted {X : Type 0} (seen : X → Contents) (images : X → Image → Type 0) (old new : Store X)
    (kept now : ℕ) : Type 0 where
  pub told : is_some (seen old.disk 1) ≡ true → is_some (seen new.disk 1) ≡ true
  pub server : new.server ≡ old.server
  pub setup : new.setup ≡ old.setup
  pub all_or_none : IsAllOrNone kept (length old.doubt)
  pub up : (store : NodeAndRows) → IsDownAt seen images old store
      → OnTold (seen new.disk 1) (λ _. new.up ≡ Some (restarted (replayed_all store (take kept old.doubt)) now))

-- it is down still, with all that its disk owes it
pub record IsDownStill {X : Type 0} (seen : X → Contents) (images : X → Image → Type 0)
    (old new : Store X) : Type 0 where
  pub told : is_some (seen old.disk 1) ≡ true → is_some (seen new.disk 1) ≡ true
  pub server : new.server ≡ old.server
  pub setup : new.setup ≡ old.setup
  pub doubt : new.doubt ≡ old.doubt
  pub at : (store : NodeAndRows) → IsDownAt seen images old store → IsDownAt seen images new store

-- how many entries are left, of those before it and those with the records in doubt
abbrev pub entries_left : Result ℕ StoreFault → ℕ → ℕ → ℕ
entries_left (Ok kept) before all = if kept == 0 then before else all
entries_left (Err fault) before all = before

-- how a restart ends: the server is up, and these are the entries with those of the records that were kept; or the disk
-- failed
pub record IsRevived {X : Type 0} (seen : X → Contents) (images : X → Image → Type 0) (faults : X → ℕ)
    (old new : Store X) (now : ℕ) (made made' : List Made) : Type 0 where
  pub kept : ℕ
  pub restarted' : IsRestarted seen images old new kept now
  pub entries : made' ≡ made ++ changes_of (take kept old.doubt)
  pub faults' : faults new.disk ≡ faults old.disk

pub record IsFailed {X : Type 0} (seen : X → Contents) (images : X → Image → Type 0) (faults : X → ℕ)
    (old new : Store X) (made made' : List Made) : Type 0 where
  pub still : IsDownStill seen images old new
  pub entries : made' ≡ made
  pub rose : Rose (faults old.disk) (faults new.disk)

abbrev pub RestartsOn : {X : Type 0} → (X → Contents) → (X → Image → Type 0) → (X → ℕ) → Store X → Store X → ℕ
    → List Made → List Made → Restarted → Type 0
RestartsOn seen images faults old new now made made' restarts.Up = IsRevived seen images faults old new now made made'
RestartsOn seen images faults old new now made made' restarts.Stopped = IsFailed seen images faults old new made made'

-- where it was refused the server is still down, or for want of memory as one that was restarted
abbrev pub NearRestarted : {X : Type 0} → (X → Contents) → (X → Image → Type 0) → Store X → Store X → ℕ → Type 0
NearRestarted seen images old new now =
    IsDownStill seen images old new ⊎ ((kept : ℕ) × IsRestarted seen images old new kept now)
