-- What an opening makes of disks: servers that are up on them, from which a run may begin.
use Rattle.std.specs.Prelude.{◌≡◌, ℕ, ◌+◌, ◌<◌, ◌≤◌, Bool, true, is_some, List, [], ◌∷◌, ◌++◌, length, None, Some}
use Rattle.std.specs.Prelude.{map as list_map}
use Rattle.std.specs.List.{slice_get}
use Rattle.mds_base.specs.declared.setup.Setup.{Setup}
use Rattle.mds_base.specs.declared.store_fault.StoreFault.{StoreFault}
use Rattle.mds_base.specs.declared.store_fault.StoreFault.TheVariants.{Device, Stopped, Damaged, Room, OutOfMemory}
use Rattle.mds_base.specs.Entries.{Entries}
use Rattle.mds_out.specs.Disk.{Image, Contents}
use Rattle.mds_out.specs.Fault.{Rose}
use Rattle.mds_out.specs.Fused.{Fused}
use Rattle.mds_out.specs.Known.{OnTold}
use Rattle.node_core.specs.Nodes.{NodeAndRows}
use Rattle.node_store.specs.Stands.{FileStandsFor, opened_store}
use Rattle.node_store.specs.Damage.{IsDamaged}
use Rattle.node_store.specs.Store.{Store, KeepsStore, KeepsAny}
use Rattle.world.specs.declared.state.ServerState.{ServerState}
use Rattle.world.specs.Events.{all_enabled}
use Rattle.world.specs.Histories.{run}
use Rattle.world.specs.Law.{PastRun, IsReached, start_trace}
use Rattle.world.specs.Worlds.{fresh_world}
use Rattle.pasts.specs.Servers.{AreServers}
use Rattle.pasts.specs.Starts.{AreDisks, AreReached, AreReachedOnAllTerms}

-- the past with this choice of the records in doubt that were kept at the end of its last run
abbrev pub with_choice : (ℕ → Bool) → List PastRun → List PastRun
with_choice keep [] = []
with_choice keep (past ∷ older) = record past { keep = keep } ∷ older

-- the servers are those to which the past leads, with some choice of the records in doubt that were kept
pub record OpensFrom {X : Type 0} (seen : X → Contents) (images : X → Image → Type 0) (setup : Setup)
    (past : List PastRun) (stores : List (Store X)) : Type 0 where
  pub keep : ℕ → Bool
  pub servers : List ServerState
  pub entries : Entries
  pub reached : IsReached setup (with_choice keep past) servers entries
  pub are : AreServers seen images setup stores servers

-- the elements of two lists, two by two, from number s on
abbrev pub Paired : {X Y : Type 0} → (ℕ → X → Y → Type 0) → ℕ → List X → List Y → Type 0
Paired P s [] [] = Unit {0}
Paired P s [] (y ∷ ys) = ⊥
Paired P s (x ∷ xs) [] = ⊥
Paired P s (x ∷ xs) (y ∷ ys) = P s x y × Paired P (s + 1) xs ys

-- A disk after an opening that was answered or refused: calls alone made it of the one before; it tells what it told,
-- and each of its images stands for a store that one stood for before, or for that store opened.
pub record IsHandedBack {D : Type 0} (lasts : D → D → Type 0) (seen : D → Contents) (images : D → Image → Type 0)
    (setup : Setup) (s : ℕ) (old new : D) : Type 0 where
  pub lasts' : lasts old new
  pub told : is_some (seen old 1) ≡ true → is_some (seen new 1) ≡ true
  pub left : is_some (seen old 1) ≡ true → (stores : List NodeAndRows) → KeepsAny (images old) s setup stores
      → KeepsAny (images new) s setup (stores ++ list_map opened_store stores)

-- a server is up on its disk, with what the disk stood for, opened
pub record IsUpOn {D : Type 0} (lasts : D → D → Type 0) (seen : D → Contents) (images : D → Image → Type 0)
    (setup : Setup) (s : ℕ) (old : D) (store : Store (Fused D)) : Type 0 where
  pub server : store.server ≡ s
  pub setup' : store.setup ≡ setup
  pub sure : store.doubt ≡ []
  pub keeps : (st : NodeAndRows) → store.up ≡ Some st
      → OnTold (seen store.disk.inner 1) (λ _. KeepsStore (images store.disk.inner) s setup st)
  pub opened : OnTold (seen old 1)
      (λ bytes. (st : NodeAndRows) × FileStandsFor s setup bytes st × (store.up ≡ Some (opened_store st)))
  pub back : IsHandedBack lasts seen images setup s old store.disk.inner

-- a server is behind a fuse that is not armed, and its disk did not fail
abbrev pub IsCounted : {D : Type 0} → (D → ℕ) → D → Store (Fused D) → Type 0
IsCounted faults old store = (faults store.disk.inner ≡ faults old) × (store.disk.left ≡ None)

-- so it is of each server
abbrev pub AreCounted : {D : Type 0} → (D → ℕ) → List D → List (Store (Fused D)) → Type 0
AreCounted {D = D} faults disks stores = (s : ℕ) (disk : D) (store : Store (Fused D)) → slice_get disks s ≡ Some disk
    → slice_get stores s ≡ Some store → IsCounted faults disk store

-- the disk of a server, which stands for its node and rows where it is up
pub record IsDiskOf {D : Type 0} (seen : D → Contents) (images : D → Image → Type 0) (store : Store (Fused D))
    (disk : D) : Type 0 where
  pub inner : disk ≡ store.disk.inner
  pub kept : (st : NodeAndRows) → store.up ≡ Some st
      → OnTold (seen disk 1) (λ _. KeepsStore (images disk) store.server store.setup st)

-- as many disks come back as went in, each at its place, where calls alone made it of the one that went in
abbrev pub ComeBack : {D : Type 0} → (D → D → Type 0) → List D → List D → Type 0
ComeBack lasts old new = Paired (λ s. lasts) 0 old new

-- the same of the disks of servers
abbrev pub LastOn : {D : Type 0} → (D → D → Type 0) → List D → List (Store (Fused D)) → Type 0
LastOn lasts disks stores = Paired (λ s disk store. lasts disk store.disk.inner) 0 disks stores

-- why a server was not opened on a disk: its count of faults has risen, or its bytes are damaged, and read as before,
-- or there was no memory
abbrev pub IsOpenFault : {D : Type 0} → (D → ℕ) → (D → Contents) → Setup → ℕ → D → D → StoreFault → Type 0
IsOpenFault faults seen setup s old new Device = Rose (faults old) (faults new)
IsOpenFault faults seen setup s old new Stopped = ⊥
IsOpenFault faults seen setup s old new (Damaged file offset damage) =
    (file ≡ 1) × OnTold (seen old 1) (λ bytes. IsDamaged s setup bytes offset damage × (seen new 1 ≡ Some bytes))
IsOpenFault faults seen setup s old new Room = ⊥
IsOpenFault faults seen setup s old new OutOfMemory = Unit {0}

-- A server was opened on a disk: its bytes stood for a store, and each image of it stands for that store opened now;
-- what was told is told, and it did not fail.
pub record WasOpened {D : Type 0} (faults : D → ℕ) (seen : D → Contents) (images : D → Image → Type 0) (setup : Setup)
    (s : ℕ) (old new : D) : Type 0 where
  pub stood : OnTold (seen old 1) (λ bytes. (st : NodeAndRows) × FileStandsFor s setup bytes st
      × OnTold (seen new 1) (λ _. KeepsStore (images new) s setup (opened_store st)))
  pub told : is_some (seen old 1) ≡ true → is_some (seen new 1) ≡ true
  pub sound : faults new ≡ faults old

-- The disks where a server was not opened: on those before it the servers were opened, so it is the first; and those
-- behind it are as they were.
pub record IsNotOpened {D : Type 0} (faults : D → ℕ) (seen : D → Contents) (images : D → Image → Type 0) (setup : Setup)
    (old new : List D) (server : ℕ) (fault : StoreFault) : Type 0 where
  pub count : length new ≡ length old
  pub within : server < length old
  pub earlier : (s : ℕ) (before now : D) → s < server → slice_get old s ≡ Some before → slice_get new s ≡ Some now
      → WasOpened faults seen images setup s before now
  pub later : (s : ℕ) → server < s → slice_get new s ≡ slice_get old s
  pub cause : (before now : D) → slice_get old server ≡ Some before → slice_get new server ≡ Some now
      → IsOpenFault faults seen setup server before now fault

-- a fault that tells of no damage
abbrev pub IsNoDamage : StoreFault → Type 0
IsNoDamage (Damaged file offset damage) = ⊥
IsNoDamage fault = Unit {0}

-- disks of servers as a run from a reached start left them are those of its past, with the run as its last one
abbrev pub RunsAreReached : {D : Type 0} → (D → Contents) → (D → Image → Type 0) → Type 0
RunsAreReached {D = D} seen images =
    (older : List PastRun) (from : List ServerState) (there : Entries) (last : PastRun) (disks : List D)
    → IsReached last.setup older from there
    → all_enabled (fresh_world last.setup from) last.events ≡ true
    → AreDisks seen images last.setup disks (run (start_trace last.setup from there) last.events).world.servers
    → AreReachedOnAllTerms seen images last.setup disks (last ∷ older)

-- disks to which a past leads for a run on some terms are those for a run on all that share the head
abbrev pub TermsMayChange : {D : Type 0} → (D → Contents) → (D → Image → Type 0) → Type 0
TermsMayChange {D = D} seen images =
    (setup : Setup) (disks : List D) (past : List PastRun) → AreReached seen images setup disks past
    → AreReachedOnAllTerms seen images setup disks past
