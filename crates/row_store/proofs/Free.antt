-- Files that the root in force does not name are free: a store on a disk on which others have changed.
use Rattle.std.proofs.Common.{◌≡◌, ◌∙◌, sym, ap, subst, refl, ℕ, suc, List, [], ◌∷◌, Option, Some, None, Bool, arith}
use Rattle.std.specs.Prelude.{Contains, unwrap_or}
use Rattle.frame_pool.specs.Frames.{Frames, free_frames}
use Rattle.gate_log.specs.LogState.{LogState, IsLogOf}
use Rattle.gate_log.specs.LogState as logs
use Rattle.mds_base.specs.RowKeys.{RowMap}
use Rattle.mds_out.specs.Disk.{Image, Contents, Lengths, LeavesOnly}
use Rattle.mds_out.specs.Known.{OnTold}
use Rattle.mds_out.proofs.Moments.{leaves_weaker}
use Rattle.root_slots.specs.declared.root_slots.RootSlots.{RootSlots}
use Rattle.root_slots.specs.Slot.{HasNoRoot, root_in}
use Rattle.root_slots.specs.Slots as slots
use Rattle.row_store.specs.declared.merges.Pending.{Pending}
use Rattle.row_store.specs.declared.row_store.InForce.{InForce}
use Rattle.row_store.specs.declared.row_store.RowStore.{RowStore}
use Rattle.row_store.specs.Files.{named_by}
use Rattle.row_store.specs.Leaving.{IsOldIn}
use Rattle.row_store.specs.Store.{Kept, HoldsState, StandsFor, TellsAll, reading}
use Rattle.row_store.specs.Value.{KeepsBy, Keeps, AreReady, IsAsNamed, IsForceReady, IsMergeReady, IsReady}
use Rattle.row_store.proofs.Appends.{slots_on}
use Rattle.row_store.proofs.Keeping.{AreSameIn, rows_on, stands}
use Rattle.row_store.proofs.KeptBlocks.{cached_kept}
use Rattle.row_store.proofs.Pendings.{AllIn, all_in}
use Rattle.row_store.proofs.Told.{still_known}
use Rattle.sorted_table.specs.Tables.{TableState, IsSomeTable, IsDurable}

-- the files of the root in force are among them
abbrev pub NamesOnly : (ℕ → Type 0) → Option InForce → Type 0
NamesOnly kept force = (file : ℕ) → Contains (named_by force) file → kept file

pub tables_in : (kept : ℕ → Type 0) (force : Option InForce) (tables : List TableState) (seen : Contents) (sizes : Lengths) (images : Image → Type 0) → NamesOnly kept force → IsForceReady force tables seen sizes images → AllIn kept tables
tables_in kept None tables seen sizes images named ready = subst (AllIn kept) (sym ready) tt
tables_in kept (Some force) tables seen sizes images named ready =
    all_in kept tables force.root.tables ready.0 (λ k file below at. named file (suc (suc k), omega arith, at))

-- ---- what stays where its files stay

module _ (kept : ℕ → Type 0) (seen seen' : Contents) (sizes sizes' : Lengths) (images images' : Image → Type 0) (bytes : (file : ℕ) → kept file → seen' file ≡ seen file)
    (lengths : (file : ℕ) → kept file → OnTold (sizes file) (λ size. sizes' file ≡ Some size)) (left : (crashed : Image) → images' crashed → IsOldIn kept images crashed) where
  pub told_kept : (file : ℕ) (P : List ℕ → Type 0) → kept file → OnTold (seen file) P → OnTold (seen' file) P
  told_kept file P is told = subst (λ (now : Option (List ℕ)). OnTold now P) (sym (bytes file is)) told

  pub reading_kept : (file : ℕ) → kept file → reading seen' file ≡ reading seen file
  reading_kept file is = ap (λ (told : Option (List ℕ)). unwrap_or told []) (bytes file is)

  pub durable_kept : (file : ℕ) → kept file → IsDurable file seen images → IsDurable file seen' images'
  durable_kept file is durable = subst (λ (now : Option (List ℕ)). OnTold now (λ held. (image : Image) → images' image → image file ≡ held)) (sym (bytes file is)) (at (seen file) durable)
    where
      at : (told : Option (List ℕ)) → OnTold told (λ held. (image : Image) → images image → image file ≡ held) → OnTold told (λ held. (image : Image) → images' image → image file ≡ held)
      at None durable = tt
      at (Some held) durable = λ image now. (left image now).same file is ∙ durable (left image now).before (left image now).was

  pub slots_kept : (value : RootSlots) → kept 0 → slots.IsReady value seen sizes images → slots.IsReady value seen' sizes' images'
  slots_kept value is ready = slots_on value seen seen' sizes sizes' images images' (bytes 0 is) (lengths 0 is) (λ crashed now. ((left crashed now).before, (left crashed now).was, (left crashed now).same 0 is)) ready

  pub log_kept : (log : LogState) → kept log.file → logs.IsReady log seen sizes images → logs.IsReady log seen' sizes' images'
  log_kept log is ready = record {
    size = ready.size;
    known = still_known (sizes log.file) (sizes' log.file) ready.size (lengths log.file is) ready.known;
    reaches = ready.reaches;
    some = ready.some;
    told = subst (λ (now : Option (List ℕ)). OnTold now (logs.IsKept log images')) (sym (bytes log.file is)) (at (seen log.file) ready.told);
  }
    where
      at : (told : Option (List ℕ)) → OnTold told (logs.IsKept log images) → OnTold told (logs.IsKept log images')
      at None kept = tt
      at (Some held) here = record { bodies = here.bodies; is = here.is; durable = λ image now. (left image now).same log.file is ∙ here.durable (left image now).before (left image now).was }

  pub tables_kept : (tables : List TableState) → AllIn kept tables → AreReady tables seen sizes → AreReady tables seen' sizes'
  tables_kept [] all ready = tt
  tables_kept (table ∷ tables) all ready = (
    record {
      size = ready.0.size;
      known = still_known (sizes table.file) (sizes' table.file) ready.0.size (lengths table.file all.0) ready.0.known;
      short = ready.0.short;
      reaches = ready.0.reaches;
      told = told_kept table.file (IsSomeTable table) all.0 ready.0.told;
    },
    tables_kept tables all.1 ready.1,
  )

  force_kept : (force : Option InForce) (tables : List TableState) → NamesOnly kept force → IsForceReady force tables seen sizes images → IsForceReady force tables seen' sizes' images'
  force_kept None tables named ready = ready
  force_kept (Some force) tables named ready = (
    ready.0,
    record {
      root = ready.1.root;
      log_file = ready.1.log_file;
      log = record { running = ready.1.log.running; ready = log_kept force.log (subst kept (sym ready.1.log_file) (named force.root.log_file (1, omega arith, refl))) ready.1.log.ready };
    },
  )

-- ---- images

-- what is left of the files of the root in force
pub named_on : (kept : ℕ → Type 0) (force : Option InForce) (image image' before crashed : Image) → kept 0 → NamesOnly kept force → ((file : ℕ) → kept file → image' file ≡ image file) → ((file : ℕ) → kept file → crashed file ≡ before file)
    → IsAsNamed force image before → IsAsNamed force image' crashed
named_on kept None image image' before crashed first named same left is = left 0 first ∙ is ∙ sym (same 0 first)
named_on kept (Some force) image image' before crashed first named same left is = record {
  in_force = ap root_in (left 0 first) ∙ is.in_force;
  files = λ file there. left file (named file there) ∙ is.files file there ∙ sym (same file (named file there));
}

pub keeps_on : (kept : ℕ → Type 0) (force : Option InForce) (tables : List TableState) (held : Option Kept) (image image' : Image) → kept 0 → NamesOnly kept force → ((file : ℕ) → kept file → image' file ≡ image file) → KeepsBy force tables held image → KeepsBy force tables held image'
keeps_on kept None tables None image image' first named same by = (subst HasNoRoot (sym (same 0 first)) by.0, by.1)
keeps_on kept None tables (Some held) image image' first named same by = absurd by
keeps_on kept (Some force) tables None image image' first named same by = absurd by
keeps_on kept (Some force) tables (Some held) image image' first named same by = record {
  rows = by.rows;
  in_force = ap root_in (same 0 first) ∙ by.in_force;
  state = subst (HoldsState held.state) (sym (same force.root.state (named force.root.state (0, omega arith, refl)))) by.state;
  log_file = by.log_file;
  bodies = subst (IsLogOf force.log held.bodies) (sym (same force.root.log_file (named force.root.log_file (1, omega arith, refl)))) by.bodies;
  files = by.files;
  hold = rows_on tables by.rows image image' by.hold
      (let P : List ℕ → Type 0 = λ files. AreSameIn files image image' in subst P (sym by.files) (λ k file below at. same file (named file (suc (suc k), omega arith, at))));
  base = by.base;
}

-- ---- a store

module _ (kept : ℕ → Type 0) (store : RowStore) (seen seen' : Contents) (sizes sizes' : Lengths) (images images' : Image → Type 0) (first : kept 0) (named : NamesOnly kept store.force) (ready : IsReady store seen sizes images)
    (bytes : (file : ℕ) → kept file → seen' file ≡ seen file) (lengths : (file : ℕ) → kept file → OnTold (sizes file) (λ size. sizes' file ≡ Some size)) where
  -- the disk stays ready for the store, whose merge may be another one
  pub ready_free : (pool : Frames) (merge : Option Pending) (stopped : Bool) → ((crashed : Image) → images' crashed → IsOldIn kept images crashed) → (TellsAll seen' → TellsAll seen) → free_frames pool ≡ free_frames store.pool
      → IsMergeReady merge (named_by store.force) store.tables.items seen' sizes' → IsReady (record store { pool = pool; merge = merge; stopped = stopped }) seen' sizes' images'
  ready_free pool merge stopped left back frames merging = record {
    cached = cached_kept kept seen seen' bytes store.cache store.tables.items (tables_in kept store.force store.tables.items seen sizes images named ready.force) ready.cached;
    frames = omega (arith, frames, ready.frames);
    slots_run = ready.slots_run;
    begun = ready.begun;
    numbered = ready.numbered;
    slots = slots_kept kept seen seen' sizes sizes' images images' bytes lengths left store.slots first ready.slots;
    force = force_kept kept seen seen' sizes sizes' images images' bytes lengths left store.force store.tables.items named ready.force;
    tables = tables_kept kept seen seen' sizes sizes' images images' bytes lengths left store.tables.items (tables_in kept store.force store.tables.items seen sizes images named ready.force) ready.tables;
    merging = merging;
    marked = ready.marked;
    steady = λ tells crashed now.
        named_on kept store.force (reading seen) (reading seen') (left crashed now).before crashed first named (λ file is. ap (λ (told : Option (List ℕ)). unwrap_or told []) (bytes file is)) (left crashed now).same
        (ready.steady (back tells) (left crashed now).before (left crashed now).was);
  }

  -- it keeps what it kept
  pub keeps_free : (pool : Frames) (merge : Option Pending) (stopped : Bool) (held : Option Kept) (rows : RowMap) → Keeps store held rows (reading seen) → Keeps (record store { pool = pool; merge = merge; stopped = stopped }) held rows (reading seen')
  keeps_free pool merge stopped held rows keeps = record {
    by = keeps_on kept store.force store.tables.items held (reading seen) (reading seen') first named (λ file is. ap (λ (told : Option (List ℕ)). unwrap_or told []) (bytes file is)) keeps.by;
    rows_are = keeps.rows_are;
  }

-- each moment leaves what is kept
pub moments_free : {D : Type 0} (moment : D → ℕ) (since : D → ℕ → Image → Type 0) (old new : D) (kept : ℕ → Type 0) (store : RowStore) (seen : Contents) (sizes : Lengths) (images : Image → Type 0) → kept 0 → NamesOnly kept store.force → IsReady store seen sizes images
    → LeavesOnly moment since old new (IsOldIn kept images) → TellsAll seen → (held : Option Kept) (rows : RowMap) → Keeps store held rows (reading seen) → LeavesOnly moment since old new (StandsFor held)
moments_free moment since old new kept store seen sizes images first named ready leaves tells held rows keeps =
    leaves_weaker moment since old new (IsOldIn kept images) (StandsFor held)
    (λ image is. stands store held rows (reading seen) image keeps
    (named_on kept store.force (reading seen) (reading seen) is.before image first named (λ file _. refl) is.same (ready.steady tells is.before is.was))) leaves
