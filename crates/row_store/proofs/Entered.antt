-- A store once another root is in force, or its change was refused.
use Rattle.std.specs.Prelude.{IsErrOf, IfSome, IsSome}
use Rattle.std.proofs.Common.{◌≡◌, ◌≢◌, ◌⊎◌, inl, ⊎_elim, ◌∙◌, sym, ap, subst, refl, ℕ, suc, ◌+◌, ◌≤◌, List, [], ◌∷◌, ◌++◌, length, take, drop, Option, Some, None, true, false, Ok, Err, arith}
use Rattle.std.specs.BTreeMap as tree
use Rattle.std.specs.BTreeMap.{is_at}
use Rattle.std.specs.Map.{lookup}
use Rattle.frame_pool.specs.Frames.{free_frames}
use Rattle.gate_log.specs.LogState.{LogState, IsElsewhereOld}
use Rattle.mds_base.specs.declared.attr.Attr.{Attr}
use Rattle.mds_base.specs.declared.row_key.RowKey.{RowKey}
use Rattle.mds_base.specs.declared.store_fault.StoreFault.{StoreFault}
use Rattle.mds_base.specs.declared.store_fault.StoreFault.TheVariants.{Device, OutOfMemory}
use Rattle.mds_base.specs.RowKeys.{RowMap, row_key_cmp}
use Rattle.mds_out.specs.Disk.{Image, Contents, Lengths, LeavesOnly, IsElsewhereUnchanged, StaysTold}
use Rattle.mds_out.specs.Known.{OnTold}
use Rattle.gate_log.proofs.Told.{told_here}
use Rattle.mds_out.proofs.Moments.{leaves_weaker, started}
use Rattle.block_cache.specs.Blocks.{Blocks}
use Rattle.row_store.specs.Caching.{AreCached, HaveLeft}
use Rattle.row_store.proofs.KeptBlocks.{cached_front, cached_left}
use Rattle.row_store.proofs.Keeping.{stands}
use Rattle.root_slots.specs.declared.root_slots.Step.TheVariants.{Begun}
use Rattle.root_slots.specs.Slots.{IsReady as AreSlotsReady}
use Rattle.row_store.specs.Files.{named_by}
use Rattle.root_slots.specs.declared.root.Root.{Root}
use Rattle.root_slots.specs.declared.root_slots.RootSlots.{RootSlots}
use Rattle.root_slots.specs.Root.{is_fresh, files_of}
use Rattle.row_store.specs.declared.merges.Pending.{Pending}
use Rattle.row_store.specs.declared.row_store.InForce.{InForce}
use Rattle.row_store.specs.declared.row_store.RowStore.{RowStore}
use Rattle.row_store.specs.Answers.{HasStoreCause}
use Rattle.row_store.specs.Parts.{IsNext, in_front, shifted}
use Rattle.row_store.specs.RootSteps.{IsRootOr, IsInForce}
use Rattle.row_store.specs.Rows.{laid_over, rows_of}
use Rattle.row_store.specs.Steps.{IsKeeping, IsFlushed}
use Rattle.row_store.specs.Store.{Kept, HoldsState, StandsFor, IsFlushing, TellsAll, reading, flushed, base_of}
use Rattle.row_store.specs.Turning.{IsMergedTable, IsRootMerged}
use Rattle.row_store.specs.Value.{Keeps, KeepsBy, AreReady, AreNumbered, IsAsNamed, IsForceReady, IsMergeReady, IsReady}
use Rattle.row_store.proofs.Appends.{left_after, stays_all}
use Rattle.root_slots.proofs.Crashes.{names_no_zero}
use Rattle.row_store.proofs.Entering.{IsCandidate, HasCandidate, moments_entered, keeps_entered, ready_entered}
use Rattle.row_store.proofs.Flushing.{flush_candidate, flush_has, flush_pending}
use Rattle.row_store.proofs.Leaving.{cause_as, cause_plain, memory_not_device, same_refusal}
use Rattle.row_store.proofs.Joined.{cause_ok}
use Rattle.row_store.proofs.Merged.{merge_candidate, merge_has, none_new}
use Rattle.row_store.proofs.Pendings.{all_in, pending_kept}
use Rattle.row_store.proofs.Told.{some_on, some_back}
use Rattle.sorted_table.specs.TableRows.{IsMarked}
use Rattle.sorted_table.specs.Tables.{TableState}

none_marked : (entries : List (RowKey × Option Attr)) → entries ≡ [] → (key : RowKey) → IfSome (lookup (is_at (row_key_cmp key)) entries) IsMarked
none_marked entries none key = subst (λ (es : List (RowKey × Option Attr)). IfSome (lookup (is_at (row_key_cmp key)) es) IsMarked) (sym none) tt

not_zero : (file : ℕ) (files : List ℕ) → is_fresh file files ≡ true → file ≢ 0
not_zero file files fresh same =
    let wrong : true ≡ false = sym fresh ∙ ap (λ n. is_fresh n files) same in
    cc

-- what a store's disk owes it is a matter of these fields
ready_alike : (store store' : RowStore) (seen : Contents) (sizes : Lengths) (images : Image → Type 0) → store'.pool ≡ store.pool → store'.slots ≡ store.slots → store'.force ≡ store.force → store'.tables.items ≡ store.tables.items → store'.merge ≡ store.merge → store'.fresh ≡ store.fresh → store'.cache ≡ store.cache
    → IsReady store seen sizes images → IsReady store' seen sizes images
ready_alike store store' seen sizes images pool slots force tables merge fresh cache ready = record {
  cached = subst (λ (t : List TableState). AreCached store'.cache t seen) (sym tables) (subst (λ (k : Option Blocks). AreCached k store.tables.items seen) (sym cache) ready.cached);
  frames = subst (λ p. 4 ≤ free_frames p) (sym pool) ready.frames;
  slots_run = subst (λ (s : RootSlots). s.stopped ≡ false) (sym slots) ready.slots_run;
  begun = subst (λ (s : RootSlots). s.step ≡ Begun) (sym slots) ready.begun;
  numbered = (let P : Option InForce → Type 0 = λ f. AreNumbered store'.slots f in subst P (sym force) (subst (λ (s : RootSlots). AreNumbered s store.force) (sym slots) ready.numbered));
  slots = subst (λ (s : RootSlots). AreSlotsReady s seen sizes images) (sym slots) ready.slots;
  force = (let P : Option InForce → Type 0 = λ f. IsForceReady f store'.tables.items seen sizes images in subst P (sym force) (subst (λ (t : List TableState). IsForceReady store.force t seen sizes images) (sym tables) ready.force));
  tables = subst (λ (t : List TableState). AreReady t seen sizes) (sym tables) ready.tables;
  merging = (let P : Option InForce → Type 0 = λ f. IsMergeReady store'.merge (named_by f) store'.tables.items seen sizes in
      let Q : List TableState → Type 0 = λ t. IsMergeReady store'.merge (named_by store.force) t seen sizes in
      let R : Option Pending → Type 0 = λ m. IsMergeReady m (named_by store.force) store.tables.items seen sizes in
      subst P (sym force) (subst Q (sym tables) (subst R (sym merge) ready.merging)));
  marked = λ key. subst (λ f. IfSome (tree.get row_key_cmp f key) IsMarked) (sym fresh) (ready.marked key);
  steady = λ tells crashed now. subst (λ (f : Option InForce). IsAsNamed f (reading seen) crashed) (sym force) (ready.steady tells crashed now);
}

keeps_alike : (store store' : RowStore) (held : Option Kept) (rows : RowMap) (image : Image) → store'.force ≡ store.force → store'.tables.items ≡ store.tables.items → store'.fresh ≡ store.fresh → Keeps store held rows image → Keeps store' held rows image
keeps_alike store store' held rows image force tables fresh keeps = record {
  by = (let P : Option InForce → Type 0 = λ f. KeepsBy f store'.tables.items held image in subst P (sym force) (subst (λ (t : List TableState). KeepsBy store.force t held image) (sym tables) keeps.by));
  rows_are = keeps.rows_are ∙ ap (λ f. laid_over (base_of held) (rows_of f.entries)) (sym fresh);
}

-- a merge goes on where file 0 alone has changed
pending_entered : (merge : Option Pending) (root : Root) (log : LogState) (tables : List TableState) (seen seen' : Contents) (sizes sizes' : Lengths) (images : Image → Type 0) → IsCandidate root log tables seen sizes images → IsElsewhereUnchanged 0 seen seen' sizes sizes'
    → IsMergeReady merge (files_of root) tables seen sizes → IsMergeReady merge (files_of root) tables seen' sizes'
pending_entered merge root log tables seen seen' sizes sizes' images next elsewhere ready =
    let kept : ℕ → Type 0 = λ file. file ≢ 0 in
    pending_kept kept seen seen' sizes sizes' elsewhere.bytes elsewhere.lengths merge (files_of root) tables
    (λ pending is. (let here : IsMergeReady (Some pending) (files_of root) tables seen sizes = subst (λ (m : Option Pending). IsMergeReady m (files_of root) tables seen sizes) is ready in not_zero pending.file (files_of root) here.apart))
    (all_in kept tables root.tables next.files (λ k file below at. names_no_zero root next.is file (suc (suc k), omega (arith, below), at))) ready

module _ {D : Type 0} (seen : D → Contents) (sizes : D → Lengths) (images : D → Image → Type 0) (moment : D → ℕ) (since : D → ℕ → Image → Type 0) (faults : D → ℕ) (leads fails_by : D → D → Type 0) where
  -- no call of the disk
  pub flushed_none : {T : Type 0} (state : List ℕ) (store store' : RowStore) (disk : D) → ((image : Image) → since disk (moment disk) image → images disk image) → leads disk disk → store'.pool ≡ store.pool → store'.slots ≡ store.slots → store'.force ≡ store.force
      → store'.tables.items ≡ store.tables.items → store'.merge ≡ store.merge → store'.fresh ≡ store.fresh → store'.cache ≡ store.cache → IsReady store (seen disk) (sizes disk) (images disk) → IsFlushed {T = T} seen sizes images moment since faults leads fails_by state store store' disk disk (Err OutOfMemory)
  flushed_none {T = T} state store store' disk only here pool slots force tables merge fresh cache ready = record {
    kept = tt;
    refused = λ running tells held rows keeps. keeps_alike store store' held rows (reading (seen disk)) force tables fresh keeps;
    any_moment = λ tells held rows keeps. started moment since disk (IsFlushing held rows state) (λ image left. inl (stands store held rows (reading (seen disk)) image keeps (ready.steady tells image (only image left))));
    ready = λ running. ready_alike store store' (seen disk) (sizes disk) (images disk) pool slots force tables merge fresh cache ready;
    root = tt;
    told = λ file. told_here (seen disk file);
    frames = ap (λ p. free_frames p) pool;
    runs = tt;
    stops = λ device. absurd (memory_not_device {T = T} device);
    call = record { cause = cause_plain (faults disk) (faults disk) (Err OutOfMemory) refl (memory_not_device {T = T}); lasts = here; failed = λ device. absurd (memory_not_device {T = T} device) };
  }

  module _ (state : List ℕ) (store store' : RowStore) (root : Root) (log : LogState) (table : Option TableState) (a b : D) (next : IsNext store root log table (seen a) (sizes a) (images a)) (ready : IsReady store (seen a) (sizes a) (images a))
      (written : OnTold (seen a root.state) (HoldsState state)) (elsewhere : IsElsewhereUnchanged 0 (seen a) (seen b) (sizes a) (sizes b)) (told : StaysTold (seen a 0) (seen b 0)) (others : LeavesOnly moment since a b (IsElsewhereOld 0 (images a)))
      (said : OnTold (seen a 0) (λ file. LeavesOnly moment since a b (λ image. IsRootOr root file (image 0)))) (frames : free_frames store'.pool ≡ free_frames store.pool) where
    candidate : IsCandidate root log (in_front table store.tables.items) (seen a) (sizes a) (images a)
    candidate = flush_candidate store root log table (seen a) (sizes a) (images a) next ready

    stays : (file : ℕ) → StaysTold (seen a file) (seen b file)
    stays = stays_all 0 (seen a) (seen b) (sizes a) (sizes b) elsewhere told

    moments : TellsAll (seen a) → (held : Option Kept) (rows : RowMap) → Keeps store held rows (reading (seen a)) → LeavesOnly moment since a b (IsFlushing held rows state)
    moments tells held rows keeps =
        moments_entered root log (in_front table store.tables.items) (seen a) (sizes a) (images a) candidate moment since a b store held (flushed rows state) rows tells ready keeps
        (flush_has store root log table (seen a) (sizes a) (images a) next ready state held rows tells written keeps) others said

    pub entered_refused : {T U : Type 0} (fault : StoreFault) → store'.stopped ≡ true → HasStoreCause {T = U} (faults a) (faults b) (Err fault) → leads a b → (IsErrOf {T = U} (Err fault) Device → fails_by a b)
        → IsFlushed {T = T} seen sizes images moment since faults leads fails_by state store store' a b (Err fault)
    entered_refused {T = T} {U = U} fault stopped cause lasts failed = record {
      kept = tt;
      refused = λ running. absurd (let wrong : true ≡ false = sym stopped ∙ running in cc);
      any_moment = moments;
      ready = λ running. absurd (let wrong : true ≡ false = sym stopped ∙ running in cc);
      root = tt;
      told = stays;
      frames = frames;
      runs = tt;
      stops = λ _. stopped;
      call = record { cause = cause_as {T = U} {U = T} (faults a) (faults b) fault cause; lasts = lasts; failed = λ is. failed (same_refusal U T fault is) };
    }

    pub entered_done : {T : Type 0} (done : T) → ((t : ℕ) (image : Image) → t ≤ moment b → images b image → since b t image) → IsInForce store'.slots root (seen b) (sizes b) (images b) → store'.force ≡ Some (record { root = root; log = log })
        → store'.tables.items ≡ in_front table store.tables.items → store'.merge ≡ shifted table store.merge → store'.fresh.entries ≡ [] → store'.cache ≡ store.cache → store'.stopped ≡ false → faults b ≡ faults a → leads a b
        → IsFlushed {T = T} seen sizes images moment since faults leads fails_by state store store' a b (Ok done)
    entered_done done counts in_force force_is tables_are merge_is fresh cache_is running same lasts = record {
      kept = λ tells held rows keeps.
          keeps_entered root log (in_front table store.tables.items) (seen a) (sizes a) (images a) candidate (seen b) (sizes b) (images b) elsewhere store'.slots in_force store' (flushed rows state) rows
          (λ file. some_on (seen a file) (seen b file) (stays file) (tells file)) force_is tables_are (flush_has store root log table (seen a) (sizes a) (images a) next ready state held rows tells written keeps)
          (sym (ap (λ (entries : List (RowKey × Option Attr)). laid_over rows (rows_of entries)) fresh));
      refused = tt;
      any_moment = moments;
      ready = λ _. ready_entered root log (in_front table store.tables.items) (seen a) (sizes a) (images a) candidate (seen b) (sizes b) (images b) elsewhere store'.slots in_force store'
          (left_after moment since 0 (images a) (images b) a b counts others) (λ tells file. some_back (seen a file) (seen b file) (stays file) (tells file)) refl force_is tables_are (omega (arith, frames, ready.frames))
          (subst (λ (k : Option Blocks). AreCached k (in_front table store.tables.items) (seen a)) (sym cache_is) (cached_front store.cache table store.tables.items (seen a) ready.cached))
          (subst (λ (m : Option Pending). IsMergeReady m (files_of root) (in_front table store.tables.items) (seen b) (sizes b)) (sym merge_is)
          (pending_entered (shifted table store.merge) root log (in_front table store.tables.items) (seen a) (seen b) (sizes a) (sizes b) (images a) candidate elsewhere (flush_pending store root log table (seen a) (sizes a) (images a) next ready)))
          (none_marked store'.fresh.entries fresh);
      root = subst (λ (f : Option InForce). IsSome f) (sym force_is) refl;
      told = stays;
      frames = frames;
      runs = running;
      stops = λ device. cc;
      call = record { cause = cause_ok (faults a) (faults b) done same; lasts = lasts; failed = λ device. cc };
    }

  module _ (store store' : RowStore) (force : InForce) (root : Root) (newer : ℕ) (table : TableState) (a b : D) (was : store.force ≡ Some force) (ready : IsReady store (seen a) (sizes a) (images a)) (some : newer + 2 ≤ length store.tables.items)
      (fresh : is_fresh table.file (files_of force.root) ≡ true) (merged : IsMergedTable table (drop newer store.tables.items) (seen a) (sizes a) (images a)) (next : IsRootMerged force.root root newer table.file)
      (elsewhere : IsElsewhereUnchanged 0 (seen a) (seen b) (sizes a) (sizes b)) (told : StaysTold (seen a 0) (seen b 0)) (others : LeavesOnly moment since a b (IsElsewhereOld 0 (images a)))
      (said : OnTold (seen a 0) (λ file. LeavesOnly moment since a b (λ image. IsRootOr root file (image 0)))) (frames : free_frames store'.pool ≡ free_frames store.pool) where
    replacing : IsCandidate root force.log (take newer store.tables.items ++ table ∷ []) (seen a) (sizes a) (images a)
    replacing = merge_candidate store force root newer table (seen a) (sizes a) (images a) was ready some fresh merged next

    told_all : (file : ℕ) → StaysTold (seen a file) (seen b file)
    told_all = stays_all 0 (seen a) (seen b) (sizes a) (sizes b) elsewhere told

    replaced_has : (kept : Kept) (rows : RowMap) → TellsAll (seen a) → Keeps store (Some kept) rows (reading (seen a)) → HasCandidate root force.log (take newer store.tables.items ++ table ∷ []) kept (reading (seen a))
    replaced_has = merge_has store force root newer table (seen a) (sizes a) (images a) was ready some fresh merged next

    replaced_moments : TellsAll (seen a) → (held : Option Kept) (rows : RowMap) → Keeps store held rows (reading (seen a)) → LeavesOnly moment since a b (StandsFor held)
    replaced_moments tells None rows keeps = absurd (none_new store force root newer table (seen a) (sizes a) (images a) was ready some fresh merged next rows (reading (seen a)) keeps)
    replaced_moments tells (Some kept) rows keeps =
        leaves_weaker moment since a b (λ image. StandsFor (Some kept) image ⊎ StandsFor (Some kept) image) (StandsFor (Some kept)) (λ image is. ⊎_elim (λ one. one) (λ other. other) is)
        (moments_entered root force.log (take newer store.tables.items ++ table ∷ []) (seen a) (sizes a) (images a) replacing moment since a b store (Some kept) kept rows tells ready keeps (replaced_has kept rows tells keeps) others said)

    pub replaced_refused : {T U : Type 0} (fault : StoreFault) → store'.stopped ≡ true → HasStoreCause {T = U} (faults a) (faults b) (Err fault) → leads a b → (IsErrOf {T = U} (Err fault) Device → fails_by a b)
        → IsKeeping {T = T} seen sizes images moment since faults leads fails_by store store' a b (Err fault)
    replaced_refused {T = T} {U = U} fault stopped cause lasts failed = record {
      kept = λ running. absurd (let wrong : true ≡ false = sym stopped ∙ running in cc);
      any_moment = replaced_moments;
      ready = λ running. absurd (let wrong : true ≡ false = sym stopped ∙ running in cc);
      told = told_all;
      frames = frames;
      runs = tt;
      stops = λ _. stopped;
      call = record { cause = cause_as {T = U} {U = T} (faults a) (faults b) fault cause; lasts = lasts; failed = λ is. failed (same_refusal U T fault is) };
    }

    pub replaced_done : {T : Type 0} (done : T) → ((t : ℕ) (image : Image) → t ≤ moment b → images b image → since b t image) → IsInForce store'.slots root (seen b) (sizes b) (images b) → store'.force ≡ Some (record { root = root; log = force.log })
        → store'.tables.items ≡ take newer store.tables.items ++ table ∷ [] → store'.merge ≡ None → store'.fresh ≡ store.fresh → HaveLeft (drop newer store.tables.items) store.cache store'.cache → store'.stopped ≡ false → faults b ≡ faults a → leads a b
        → IsKeeping {T = T} seen sizes images moment since faults leads fails_by store store' a b (Ok done)
    replaced_done done counts in_force force_is tables_are merge_is fresh_is left running same lasts = record {
      kept = λ _. keeps;
      any_moment = replaced_moments;
      ready = λ _. ready_entered root force.log (take newer store.tables.items ++ table ∷ []) (seen a) (sizes a) (images a) replacing (seen b) (sizes b) (images b) elsewhere store'.slots in_force store'
          (left_after moment since 0 (images a) (images b) a b counts others) (λ tells file. some_back (seen a file) (seen b file) (told_all file) (tells file)) refl force_is tables_are (omega (arith, frames, ready.frames))
          (cached_left store.cache store'.cache (seen a) newer store.tables.items (table ∷ []) left ready.cached)
          (subst (λ (m : Option Pending). IsMergeReady m (files_of root) (take newer store.tables.items ++ table ∷ []) (seen b) (sizes b)) (sym merge_is) tt)
          (λ key. subst (λ f. IfSome (tree.get row_key_cmp f key) IsMarked) (sym fresh_is) (ready.marked key));
      told = told_all;
      frames = frames;
      runs = running;
      stops = λ device. cc;
      call = record { cause = cause_ok (faults a) (faults b) done same; lasts = lasts; failed = λ device. cc };
    }
      where
        keeps : TellsAll (seen a) → (held : Option Kept) (rows : RowMap) → Keeps store held rows (reading (seen a)) → Keeps store' held rows (reading (seen b))
        keeps tells None rows before = absurd (none_new store force root newer table (seen a) (sizes a) (images a) was ready some fresh merged next rows (reading (seen a)) before)
        keeps tells (Some kept) rows before =
            keeps_entered root force.log (take newer store.tables.items ++ table ∷ []) (seen a) (sizes a) (images a) replacing (seen b) (sizes b) (images b) elsewhere store'.slots in_force store' kept rows
            (λ file. some_on (seen a file) (seen b file) (told_all file) (tells file)) force_is tables_are (replaced_has kept rows tells before)
            (before.rows_are ∙ ap (λ f. laid_over kept.base (rows_of f.entries)) (sym fresh_is))
