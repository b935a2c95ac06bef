-- An append to the log in force.
use Rattle.std.proofs.lemmas.Bool.{cases_eq}
use Rattle.std.proofs.Common.{◌≡◌, ◌≢◌, inl, inr, ⊎_elim, ◌∙◌, sym, ap, subst, refl, ℕ, suc, ◌≤◌, ◌<◌, List, [], ◌∷◌, ◌++◌, length, Option, Some, None, Bool, true, false, arith}
use Rattle.std.specs.Prelude.{⊤, IsSome, unwrap_or, slice_index_or}
use Rattle.gate_log.specs.Log.{HoldsLog, IsBeforeOrAfter}
use Rattle.gate_log.specs.LogState.{LogState, IsLogOf, HasBodies, IsElsewhereOld}
use Rattle.gate_log.specs.LogState as logs
use Rattle.mds_base.specs.RowKeys.{RowMap}
use Rattle.mds_out.proofs.Moments.{started}
use Rattle.frame_pool.specs.Frames.{Frames, free_frames}
use Rattle.mds_out.specs.Disk.{Image, Contents, Lengths, IsUnchanged, IsElsewhereUnchanged, LeavesOnly, StaysTold}
use Rattle.mds_out.specs.Known.{OnTold}
use Rattle.root_slots.specs.Crash.{IsUnder}
use Rattle.root_slots.specs.declared.root.Root.{Root}
use Rattle.root_slots.specs.declared.root_slots.RootSlots.{RootSlots}
use Rattle.root_slots.specs.Root.{is_root, files_of}
use Rattle.root_slots.specs.Slot.{root_in}
use Rattle.root_slots.specs.Slots as slots
use Rattle.root_slots.proofs.Crashes.{names_no_zero, state_apart, tables_apart}
use Rattle.row_store.specs.declared.merges.Pending.{Pending}
use Rattle.row_store.specs.declared.row_store.InForce.{InForce}
use Rattle.row_store.specs.Files.{named_by}
use Rattle.row_store.specs.Store.{Kept, HoldsState, TellsAll, reading, StandsFor, with_body, IsCommitting}
use Rattle.row_store.specs.declared.row_store.RowStore.{RowStore}
use Rattle.row_store.specs.Value.{IsOpenOn, KeepsBy, Keeps, AreReady, IsAsNamed, IsRootReady, IsForceReady, AreNumbered, IsMergeReady, IsReady}
use Rattle.row_store.proofs.Apart.{fresh_among}
use Rattle.row_store.proofs.Keeping.{AreSameIn, files_of_tables, rows_on, stands, stands_with, named_state, named_tables}
use Rattle.block_cache.specs.Blocks.{Blocks}
use Rattle.row_store.specs.Caching.{AreCached}
use Rattle.row_store.proofs.KeptBlocks.{cached_kept, cached_same}
use Rattle.row_store.proofs.Pendings.{all_in, pending_kept}
use Rattle.row_store.proofs.Told.{same_seen, tables_on, still_known, told_is, to_told, some_on, some_back, told_same}
use Rattle.sorted_table.specs.Tables.{TableState, IsSomeTable}

-- two things that each moment leaves
pub leaves_both : {D : Type 0} (moment : D → ℕ) (since : D → ℕ → Image → Type 0) (old new : D) (P Q R : Image → Type 0) → LeavesOnly moment since old new P → LeavesOnly moment since old new Q → ((image : Image) → P image → Q image → R image) → LeavesOnly moment since old new R
leaves_both moment since old new P Q R first second join = record {
  later = first.later;
  each = λ image left. join image (first.each image left) (second.each image left);
  before = λ t image le left. ⊎_elim (λ past. inl past) (λ p. ⊎_elim (λ past. inl past) (λ q. inr (join image p q)) (second.before t image le left)) (first.before t image le left);
}

-- ---- the other files of the root

module _ (root : Root) (is : is_root root ≡ true) (image other : Image) (elsewhere : (file : ℕ) → file ≢ root.log_file → other file ≡ image file) where
  log_not_zero : root.log_file ≢ 0
  log_not_zero = names_no_zero root is root.log_file (1, omega arith, refl)

  pub first_file : other 0 ≡ image 0
  first_file = elsewhere 0 (λ same. log_not_zero (sym same))

  pub state_file : other root.state ≡ image root.state
  state_file = elsewhere root.state (state_apart root is)

  pub table_files : AreSameIn root.tables image other
  table_files k file below at = elsewhere file (tables_apart root is k file below at)

-- ---- at each moment

-- an image of a moment of an append: the log is before or after it, and the other files of the root are as they were
pub committing : (force : InForce) (tables : List TableState) (kept : Kept) (body : List ℕ) (seen image : Image) (images : Image → Type 0) → is_root force.root ≡ true → force.log.file ≡ force.root.log_file
    → IsOpenOn force.root force.log tables kept seen → ((crashed : Image) → images crashed → IsUnder force.root seen crashed)
    → IsElsewhereOld force.log.file images image → IsBeforeOrAfter kept.bodies body (image force.log.file) → IsCommitting kept body image
committing force tables kept body seen image images is log_file by steady elsewhere log = ⊎_elim (λ before. inl (with_bodies kept.bodies before)) (λ after. inr (with_bodies (kept.bodies ++ body ∷ []) after)) log
  where
    apart : (file : ℕ) → file ≢ force.root.log_file → image file ≡ elsewhere.before file
    apart file differ = elsewhere.others file (λ same. differ (same ∙ log_file))

    under : IsUnder force.root seen elsewhere.before
    under = steady elsewhere.before elsewhere.was

    with_bodies : (bodies : List (List ℕ)) → HoldsLog bodies (image force.log.file) → StandsFor (Some (record kept { bodies = bodies })) image
    with_bodies bodies holds =
        stands_with force tables kept bodies seen image by
        (ap root_in (first_file force.root is elsewhere.before image apart) ∙ under.in_force)
        (state_file force.root is elsewhere.before image apart ∙ named_state force.root seen elsewhere.before under)
        (λ k file below at. table_files force.root is elsewhere.before image apart k file below at ∙ named_tables force.root seen elsewhere.before under k file below at)
        (subst (λ (file : ℕ). HoldsLog bodies (image file)) log_file holds)

-- ---- after it

pub appended : (root : Root) (log log' : LogState) (tables : List TableState) (kept : Kept) (body : List ℕ) (seen seen' : Image) → is_root root ≡ true → log'.file ≡ log.file
    → IsOpenOn root log tables kept seen → ((file : ℕ) → file ≢ root.log_file → seen' file ≡ seen file) → IsLogOf log' (kept.bodies ++ body ∷ []) (seen' log'.file) → IsOpenOn root log' tables (with_body kept body) seen'
appended root log log' tables kept body seen seen' is file by elsewhere holds =
    let there : log'.file ≡ root.log_file = file ∙ by.log_file in
    record {
      rows = by.rows;
      in_force = ap root_in (first_file root is seen seen' elsewhere) ∙ by.in_force;
      state = subst (HoldsState kept.state) (sym (state_file root is seen seen' elsewhere)) by.state;
      log_file = there;
      bodies = subst (λ (f : ℕ). IsLogOf log' (kept.bodies ++ body ∷ []) (seen' f)) there holds;
      files = by.files;
      hold = rows_on tables by.rows seen seen' by.hold (let P : List ℕ → Type 0 = λ files. AreSameIn files seen seen' in subst P (sym by.files) (table_files root is seen seen' elsewhere));
      base = by.base;
    }

-- what a crash leaves then
pub steady_after : (root : Root) (seen seen' crashed : Image) (images : Image → Type 0) → is_root root ≡ true → ((file : ℕ) → file ≢ root.log_file → seen' file ≡ seen file) → ((before : Image) → images before → IsUnder root seen before)
    → IsElsewhereOld root.log_file images crashed → crashed root.log_file ≡ seen' root.log_file → IsUnder root seen' crashed
steady_after root seen seen' crashed images is elsewhere steady left log =
    let under = steady left.before left.was in
    record {
      in_force = ap root_in (first_file root is left.before crashed left.others) ∙ under.in_force;
      files = λ file there. ⊎_elim
          (λ same. subst (λ (f : ℕ). crashed f ≡ seen' f) (sym same) log)
          (λ differ. left.others file differ ∙ under.files file there ∙ sym (elsewhere file differ))
          (cases_eq file root.log_file);
    }

slots_told : (value : RootSlots) (told told' : Option (List ℕ)) (images images' : Image → Type 0) → told' ≡ told → ((crashed : Image) → images' crashed → (before : Image) × images before × (crashed 0 ≡ before 0)) → OnTold told (slots.IsKept value images) → OnTold told' (slots.IsKept value images')
slots_told value told told' images images' same left kept = subst (λ (now : Option (List ℕ)). OnTold now (slots.IsKept value images')) (sym same) (at told kept)
  where
    at : (told : Option (List ℕ)) → OnTold told (slots.IsKept value images) → OnTold told (slots.IsKept value images')
    at None kept = tt
    at (Some file) kept = record { stands = kept.stands; durable = λ crashed now. (left crashed now).2 ∙ kept.durable (left crashed now).0 (left crashed now).1 }

pub slots_on : (value : RootSlots) (seen seen' : Contents) (sizes sizes' : Lengths) (images images' : Image → Type 0) → seen' 0 ≡ seen 0 → OnTold (sizes 0) (λ size. sizes' 0 ≡ Some size)
    → ((crashed : Image) → images' crashed → (before : Image) × images before × (crashed 0 ≡ before 0)) → slots.IsReady value seen sizes images → slots.IsReady value seen' sizes' images'
slots_on value seen seen' sizes sizes' images images' same stays left ready = record {
  size = ready.size;
  known = still_known (sizes 0) (sizes' 0) ready.size stays ready.known;
  whole = ready.whole;
  short = ready.short;
  told = slots_told value (seen 0) (seen' 0) images images' same left ready.told;
}

pub tables_elsewhere : (opened : List TableState) (file : ℕ) (seen seen' : Contents) (sizes sizes' : Lengths) → IsElsewhereUnchanged file seen seen' sizes sizes'
    → ((k other : ℕ) → k < length (files_of_tables opened) → slice_index_or (files_of_tables opened) k other ≡ other → other ≢ file) → AreReady opened seen sizes → AreReady opened seen' sizes'
tables_elsewhere [] file seen seen' sizes sizes' elsewhere apart ready = tt
tables_elsewhere (table ∷ opened) file seen seen' sizes sizes' elsewhere apart ready =
    let differ : table.file ≢ file = apart 0 table.file (omega arith) refl in (
      record {
        size = ready.0.size;
        known = still_known (sizes table.file) (sizes' table.file) ready.0.size (elsewhere.lengths table.file differ) ready.0.known;
        short = ready.0.short;
        reaches = ready.0.reaches;
        told = subst (λ (told : Option (List ℕ)). OnTold told (IsSomeTable table)) (sym (elsewhere.bytes table.file differ)) ready.0.told;
      },
      tables_elsewhere opened file seen seen' sizes sizes' elsewhere (λ k other below at. apart (suc k) other (omega arith) at) ready.1,
    )

-- the log as the disk reads, where each image has it so
pub log_left : (log : LogState) (told : Option (List ℕ)) (images : Image → Type 0) (crashed : Image) → IsSome told → OnTold told (logs.IsKept log images) → images crashed → crashed log.file ≡ unwrap_or told []
log_left log None images crashed some kept left = cc
log_left log (Some bytes) images crashed some kept left = kept.durable crashed left

-- ---- by the value of a store

-- the store with another log in force
abbrev pub with_log : RowStore → Root → LogState → RowStore
with_log store root log = record store { force = Some (record { root = root; log = log }) }

pub stays_all : (file : ℕ) (seen seen' : Contents) (sizes sizes' : Lengths) → IsElsewhereUnchanged file seen seen' sizes sizes' → StaysTold (seen file) (seen' file) → (other : ℕ) → StaysTold (seen other) (seen' other)
stays_all file seen seen' sizes sizes' elsewhere stays other = ⊎_elim
    (λ same. subst (λ (f : ℕ). StaysTold (seen f) (seen' f)) (sym same) stays)
    (λ differ. told_same (seen other) (seen' other) (elsewhere.bytes other differ))
    (cases_eq other file)

module _ (store : RowStore) (root : Root) (log log' : LogState) (seen seen' : Contents) (sizes sizes' : Lengths) (images images' : Image → Type 0) (was : store.force ≡ Some (record { root = root; log = log })) (ready : IsReady store seen sizes images)
    (elsewhere : IsElsewhereUnchanged log.file seen seen' sizes sizes') (stays : StaysTold (seen log.file) (seen' log.file)) (same_file : log'.file ≡ log.file) where
  force_ready : (files_of_tables store.tables.items ≡ root.tables) × IsRootReady (record { root = root; log = log }) seen sizes images
  force_ready = subst (λ (force : Option InForce). IsForceReady force store.tables.items seen sizes images) was ready.force

  is : is_root root ≡ true
  is = force_ready.1.root

  log_file : log.file ≡ root.log_file
  log_file = force_ready.1.log_file

  apart : (file : ℕ) → file ≢ root.log_file → reading seen' file ≡ reading seen file
  apart file differ = ap (λ (told : Option (List ℕ)). unwrap_or told []) (elsewhere.bytes file (λ same. differ (same ∙ log_file)))

  open_on : (kept : Kept) (rows : RowMap) → Keeps store (Some kept) rows (reading seen) → IsOpenOn root log store.tables.items kept (reading seen)
  open_on kept rows keeps = subst (λ (force : Option InForce). KeepsBy force store.tables.items (Some kept) (reading seen)) was keeps.by

  steady : TellsAll seen → (crashed : Image) → images crashed → IsUnder root (reading seen) crashed
  steady tells crashed left = subst (λ (force : Option InForce). IsAsNamed force (reading seen) crashed) was (ready.steady tells crashed left)

  -- a body more is kept
  pub keeps_appended : (body : List ℕ) → ((bodies : List (List ℕ)) → HasBodies log seen bodies → HasBodies log' seen' (bodies ++ body ∷ [])) → TellsAll seen → (kept : Kept) (rows : RowMap)
      → Keeps store (Some kept) rows (reading seen) → Keeps (with_log store root log') (Some (with_body kept body)) rows (reading seen')
  keeps_appended body gives tells kept rows keeps =
      let by = open_on kept rows keeps in
      let here : IsLogOf log kept.bodies (reading seen log.file) = subst (λ (f : ℕ). IsLogOf log kept.bodies (reading seen f)) (sym log_file) by.bodies in
      let some : IsSome (seen' log'.file) = subst (λ (f : ℕ). IsSome (seen' f)) (sym same_file) (some_on (seen log.file) (seen' log.file) stays (tells log.file)) in
      record {
        by = appended root log log' store.tables.items kept body (reading seen) (reading seen') is same_file by apart
            (told_is (seen' log'.file) (IsLogOf log' (kept.bodies ++ body ∷ [])) some (gives kept.bodies (to_told (seen log.file) (IsLogOf log kept.bodies) here)));
        rows_are = keeps.rows_are;
      }

  -- the disk is ready for the store
  pub ready_appended : ((crashed : Image) → images' crashed → IsElsewhereOld log.file images crashed) → log'.stopped ≡ false → logs.IsReady log' seen' sizes' images' → IsReady (with_log store root log') seen' sizes' images'
  ready_appended left running log_ready = record {
    cached = cached_kept (λ file. file ≢ log.file) seen seen' elsewhere.bytes store.cache store.tables.items
        (all_in (λ file. file ≢ log.file) store.tables.items (files_of_tables store.tables.items) refl tables_differ) ready.cached;
    frames = ready.frames;
    slots_run = ready.slots_run;
    begun = ready.begun;
    numbered = subst (AreNumbered store.slots) was ready.numbered;
    merging = merging_now;
    slots = slots_on store.slots seen seen' sizes sizes' images images' (elsewhere.bytes 0 zero_apart) (elsewhere.lengths 0 zero_apart)
        (λ crashed now. ((left crashed now).before, (left crashed now).was, (left crashed now).others 0 zero_apart)) ready.slots;
    force = (force_ready.0, record { root = is; log_file = same_file ∙ log_file; log = record { running = running; ready = log_ready } });
    tables = tables_elsewhere store.tables.items log.file seen seen' sizes sizes' elsewhere tables_differ ready.tables;
    marked = ready.marked;
    steady = λ tells crashed now. steady_after root (reading seen) (reading seen') crashed images is apart (steady (λ file. some_back (seen file) (seen' file) (stays_all log.file seen seen' sizes sizes' elsewhere stays file) (tells file)))
        (subst (λ (f : ℕ). IsElsewhereOld f images crashed) log_file (left crashed now)) (log_now tells crashed now);
  }
    where
      zero_apart : 0 ≢ log.file
      zero_apart same = names_no_zero root is root.log_file (1, omega arith, refl) (sym (same ∙ log_file))

      tables_differ : (k other : ℕ) → k < length (files_of_tables store.tables.items) → slice_index_or (files_of_tables store.tables.items) k other ≡ other → other ≢ log.file
      tables_differ = let P : List ℕ → Type 0 = λ files. (k other : ℕ) → k < length files → slice_index_or files k other ≡ other → other ≢ log.file in
          subst P (sym force_ready.0) (λ k other below at same. tables_apart root is k other below at (same ∙ log_file))

      merge_before : IsMergeReady store.merge (files_of root) store.tables.items seen sizes
      merge_before = subst (λ (force : Option InForce). IsMergeReady store.merge (named_by force) store.tables.items seen sizes) was ready.merging

      pending_apart : (pending : Pending) → store.merge ≡ Some pending → pending.file ≢ log.file
      pending_apart pending is_merge same =
          let here : IsMergeReady (Some pending) (files_of root) store.tables.items seen sizes = subst (λ (m : Option Pending). IsMergeReady m (files_of root) store.tables.items seen sizes) is_merge merge_before in
          fresh_among pending.file (files_of root) root.log_file here.apart (1, omega arith, refl) (sym (same ∙ log_file))

      merging_now : IsMergeReady store.merge (files_of root) store.tables.items seen' sizes'
      merging_now =
          let kept : ℕ → Type 0 = λ file. file ≢ log.file in
          pending_kept kept seen seen' sizes sizes' elsewhere.bytes elsewhere.lengths store.merge (files_of root) store.tables.items pending_apart
          (all_in kept store.tables.items (files_of_tables store.tables.items) refl tables_differ) merge_before

      log_now : TellsAll seen' → (crashed : Image) → images' crashed → crashed root.log_file ≡ reading seen' root.log_file
      log_now tells crashed now = subst (λ (f : ℕ). crashed f ≡ reading seen' f) (same_file ∙ log_file) (log_left log' (seen' log'.file) images' crashed (tells log'.file) log_ready.told now)

  -- each moment of it
  pub moments_appended : {D : Type 0} (moment : D → ℕ) (since : D → ℕ → Image → Type 0) (old new : D) (body : List ℕ) → TellsAll seen → (kept : Kept) (rows : RowMap) → Keeps store (Some kept) rows (reading seen)
      → LeavesOnly moment since old new (IsElsewhereOld log.file images)
      → ((bodies : List (List ℕ)) → HasBodies log seen bodies → OnTold (seen log.file) (λ _. LeavesOnly moment since old new (λ image. IsBeforeOrAfter bodies body (image log.file))))
      → LeavesOnly moment since old new (IsCommitting kept body)
  moments_appended moment since old new body tells kept rows keeps others bodies =
      let by = open_on kept rows keeps in
      let here : IsLogOf log kept.bodies (reading seen log.file) = subst (λ (f : ℕ). IsLogOf log kept.bodies (reading seen f)) (sym log_file) by.bodies in
      let told = bodies kept.bodies (to_told (seen log.file) (IsLogOf log kept.bodies) here) in
      leaves_both moment since old new (IsElsewhereOld log.file images) (λ image. IsBeforeOrAfter kept.bodies body (image log.file)) (IsCommitting kept body) others
      (told_is (seen log.file) (λ _. LeavesOnly moment since old new (λ image. IsBeforeOrAfter kept.bodies body (image log.file))) (tells log.file) told)
      (λ image first second. committing (record { root = root; log = log }) store.tables.items kept body (reading seen) image images is log_file by (steady tells) first second)

-- ---- where nothing is written

log_on : (log : LogState) (seen seen' : Contents) (sizes sizes' : Lengths) (images images' : Image → Type 0) → IsUnchanged seen seen' sizes sizes' → ((image : Image) → images' image → images image) → logs.IsReady log seen sizes images → logs.IsReady log seen' sizes' images'
log_on log seen seen' sizes sizes' images images' same fewer ready = record {
  size = ready.size;
  known = still_known (sizes log.file) (sizes' log.file) ready.size (same.lengths log.file) ready.known;
  reaches = ready.reaches;
  some = ready.some;
  told = subst (λ (now : Option (List ℕ)). OnTold now (logs.IsKept log images')) (sym (same.bytes log.file)) (at (seen log.file) ready.told);
}
  where
    at : (told : Option (List ℕ)) → OnTold told (logs.IsKept log images) → OnTold told (logs.IsKept log images')
    at None kept = tt
    at (Some bytes) kept = record { bodies = kept.bodies; is = kept.is; durable = λ image now. kept.durable image (fewer image now) }

force_on : (force : Option InForce) (open_tables : List TableState) (seen seen' : Contents) (sizes sizes' : Lengths) (images images' : Image → Type 0) → IsUnchanged seen seen' sizes sizes' → ((image : Image) → images' image → images image)
    → IsForceReady force open_tables seen sizes images → IsForceReady force open_tables seen' sizes' images'
force_on None open_tables seen seen' sizes sizes' images images' same fewer ready = ready
force_on (Some force) open_tables seen seen' sizes sizes' images images' same fewer ready = (
  ready.0,
  record {
    root = ready.1.root;
    log_file = ready.1.log_file;
    log = record { running = ready.1.log.running; ready = log_on force.log seen seen' sizes sizes' images images' same fewer ready.1.log.ready };
  },
)

-- a store whose frames came back, with other blocks kept, on a disk on which nothing changed
pub ready_read : (store : RowStore) (pool : Frames) (cache : Option Blocks) (stopped : Bool) (seen seen' : Contents) (sizes sizes' : Lengths) (images images' : Image → Type 0) → IsUnchanged seen seen' sizes sizes' → ((image : Image) → images' image → images image)
    → free_frames pool ≡ free_frames store.pool → AreCached cache store.tables.items seen' → IsReady store seen sizes images → IsReady (record store { pool = pool; cache = cache; stopped = stopped }) seen' sizes' images'
ready_read store pool cache stopped seen seen' sizes sizes' images images' same fewer frames cached ready = record {
  cached = cached;
  frames = omega (arith, frames, ready.frames);
  slots_run = ready.slots_run;
  begun = ready.begun;
  numbered = ready.numbered;
  merging = pending_kept (λ _. ⊤) seen seen' sizes sizes' (λ file _. same.bytes file) (λ file _. same.lengths file) store.merge (named_by store.force) store.tables.items (λ pending _. tt)
      (all_in (λ _. ⊤) store.tables.items (files_of_tables store.tables.items) refl (λ k file below at. tt)) ready.merging;
  slots = slots_on store.slots seen seen' sizes sizes' images images' (same.bytes 0) (same.lengths 0) (λ crashed now. (crashed, fewer crashed now, refl)) ready.slots;
  force = force_on store.force store.tables.items seen seen' sizes sizes' images images' same fewer ready.force;
  tables = tables_on store.tables.items seen seen' sizes sizes' same ready.tables;
  marked = ready.marked;
  steady = let P : Contents → Type 0 = λ s. TellsAll s → (crashed : Image) → images' crashed → IsAsNamed store.force (reading s) crashed in
      subst P (sym (same_seen seen seen' sizes sizes' same)) (λ tells crashed now. ready.steady tells crashed (fewer crashed now));
}

-- with the same blocks kept
pub ready_same : (store : RowStore) (pool : Frames) (stopped : Bool) (seen seen' : Contents) (sizes sizes' : Lengths) (images images' : Image → Type 0) → IsUnchanged seen seen' sizes sizes' → ((image : Image) → images' image → images image)
    → free_frames pool ≡ free_frames store.pool → IsReady store seen sizes images → IsReady (record store { pool = pool; stopped = stopped }) seen' sizes' images'
ready_same store pool stopped seen seen' sizes sizes' images images' same fewer frames ready =
    ready_read store pool store.cache stopped seen seen' sizes sizes' images images' same fewer frames (cached_same seen seen' same.bytes store.cache store.tables.items ready.cached) ready

pub keeps_read : (store : RowStore) (pool : Frames) (cache : Option Blocks) (stopped : Bool) (seen seen' : Contents) (sizes sizes' : Lengths) (kept : Option Kept) (rows : RowMap) → IsUnchanged seen seen' sizes sizes' → Keeps store kept rows (reading seen)
    → Keeps (record store { pool = pool; cache = cache; stopped = stopped }) kept rows (reading seen')
keeps_read store pool cache stopped seen seen' sizes sizes' kept rows same keeps =
    let P : Contents → Type 0 = λ s. KeepsBy store.force store.tables.items kept (reading s) in
    record { by = subst P (sym (same_seen seen seen' sizes sizes' same)) keeps.by; rows_are = keeps.rows_are }

pub keeps_same : (store : RowStore) (pool : Frames) (stopped : Bool) (seen seen' : Contents) (sizes sizes' : Lengths) (kept : Option Kept) (rows : RowMap) → IsUnchanged seen seen' sizes sizes' → Keeps store kept rows (reading seen)
    → Keeps (record store { pool = pool; stopped = stopped }) kept rows (reading seen')
keeps_same store pool stopped = keeps_read store pool store.cache stopped

-- no call at all leaves what was kept
pub none_committing : {D : Type 0} (moment : D → ℕ) (since : D → ℕ → Image → Type 0) (disk : D) (store : RowStore) (seen : Contents) (sizes : Lengths) (images : Image → Type 0) (body : List ℕ) → ((image : Image) → since disk (moment disk) image → images image)
    → IsReady store seen sizes images → TellsAll seen → (kept : Kept) (rows : RowMap) → Keeps store (Some kept) rows (reading seen) → LeavesOnly moment since disk disk (IsCommitting kept body)
none_committing moment since disk store seen sizes images body only_now ready tells kept rows keeps =
    started moment since disk (IsCommitting kept body) (λ image left. inl (stands store (Some kept) rows (reading seen) image keeps (ready.steady tells image (only_now image left))))

-- the log of a store that is ready runs
pub log_runs : (store : RowStore) (root : Root) (log : LogState) (seen : Contents) (sizes : Lengths) (images : Image → Type 0) → store.force ≡ Some (record { root = root; log = log }) → IsReady store seen sizes images → log.stopped ≡ false
log_runs store root log seen sizes images was ready = (subst (λ (force : Option InForce). IsForceReady force store.tables.items seen sizes images) was ready.force).1.log.running

-- what is left after it, by what each moment left
pub left_after : {D : Type 0} (moment : D → ℕ) (since : D → ℕ → Image → Type 0) (file : ℕ) (images images' : Image → Type 0) (old new : D) → ((t : ℕ) (image : Image) → t ≤ moment new → images' image → since new t image)
    → LeavesOnly moment since old new (IsElsewhereOld file images) → (crashed : Image) → images' crashed → IsElsewhereOld file images crashed
left_after moment since file images images' old new counts_now leaves crashed now = leaves.each crashed (counts_now (moment old) crashed leaves.later now)
