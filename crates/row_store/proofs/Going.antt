-- Steps of a store, one after another.
use Rattle.std.specs.Prelude.{⊤, IsErrOf, OnOk, OnErr}
use Rattle.std.proofs.Common.{◌≡◌, inl, inr, ◌∙◌, sym, refl, ℕ, ◌≤◌, List, Option, Some, Bool, true, false, Result, Ok, Err}
use Rattle.frame_pool.specs.Frames.{Frames, free_frames}
use Rattle.gate_log.proofs.Told.{told_on}
use Rattle.mds_base.specs.declared.store_fault.StoreFault.{StoreFault}
use Rattle.mds_base.specs.declared.store_fault.StoreFault.TheVariants.{Device}
use Rattle.mds_base.specs.RowKeys.{RowMap}
use Rattle.mds_out.specs.Disk.{Image, Contents, Lengths}
use Rattle.mds_out.proofs.Moments.{both, leaves_weaker}
use Rattle.row_store.specs.declared.merges.Pending.{Pending}
use Rattle.row_store.specs.declared.row_store.RowStore.{RowStore}
use Rattle.row_store.specs.Answers.{IsStoreChanging}
use Rattle.row_store.specs.Files.{named_by}
use Rattle.row_store.specs.Leaving.{LeavesFiles}
use Rattle.row_store.specs.Steps.{IsKeeping, IsFlushed}
use Rattle.row_store.specs.Store.{Kept, StandsFor, IsFlushing, TellsAll, reading, flushed}
use Rattle.row_store.specs.Value.{Keeps, IsMergeReady, IsReady, HasRoot}
use Rattle.row_store.proofs.Free.{NamesOnly, ready_free, keeps_free, moments_free}
use Rattle.row_store.proofs.Joined.{cause_on}
use Rattle.row_store.proofs.Leaving.{same_refusal, cause_as, cause_plain, leaves_none, left_in}
use Rattle.row_store.proofs.Told.{some_on, some_back}

pub on_any : {T E : Type 0} (r : Result T E) (P : Type 0) → P → OnOk r P
on_any (Ok x) P p = p
on_any (Err e) P p = tt

on_ok : {T E : Type 0} (r : Result T E) (P Q : Type 0) → (P → Q) → OnOk r P → OnOk r Q
on_ok (Ok x) P Q more p = more p
on_ok (Err e) P Q more p = tt

module _ {D : Type 0} {faults : D → ℕ} {leads fails_by : D → D → Type 0} where
  call_on : {T U : Type 0} (done : U) (r : Result T StoreFault) (a b c : D) → (leads a b → leads b c → leads a c) → (leads a b → fails_by b c → fails_by a c) → IsStoreChanging faults leads fails_by a b (Ok done) → IsStoreChanging faults leads fails_by b c r
      → IsStoreChanging faults leads fails_by a c r
  call_on done r a b c on after first second = record {
    cause = cause_on (faults a) (faults b) (faults c) done r first.cause second.cause;
    lasts = on first.lasts second.lasts;
    failed = λ is. after first.lasts (second.failed is);
  }

  call_refused : {T U : Type 0} (fault : StoreFault) (a b : D) → IsStoreChanging {T = T} faults leads fails_by a b (Err fault) → IsStoreChanging {T = U} faults leads fails_by a b (Err fault)
  call_refused {T = T} {U = U} fault a b call = record {
    cause = cause_as {T = T} {U = U} (faults a) (faults b) fault call.cause;
    lasts = call.lasts;
    failed = λ is. call.failed (same_refusal T U fault is);
  }

module _ {D : Type 0} {seen : D → Contents} {sizes : D → Lengths} {images : D → Image → Type 0} {moment : D → ℕ} {since : D → ℕ → Image → Type 0} {faults : D → ℕ} {leads fails_by : D → D → Type 0} where
  -- files were left that the root in force names, and the merge is another one
  pub keeping_leaves : {T : Type 0} (r : Result T StoreFault) (kept : ℕ → Type 0) (store : RowStore) (pool : Frames) (merge : Option Pending) (stopped : Bool) (a b : D) → ((t : ℕ) (image : Image) → t ≤ moment b → images b image → since b t image)
      → kept 0 → NamesOnly kept store.force → IsReady store (seen a) (sizes a) (images a) → LeavesFiles seen sizes images moment since faults leads fails_by kept a b r → free_frames pool ≡ free_frames store.pool
      → IsMergeReady merge (named_by store.force) store.tables.items (seen b) (sizes b) → OnOk r (stopped ≡ false) → (IsErrOf r Device → stopped ≡ true)
      → IsKeeping seen sizes images moment since faults leads fails_by store (record store { pool = pool; merge = merge; stopped = stopped }) a b r
  keeping_leaves r kept store pool merge stopped a b counts first named ready leaves frames merging runs stops = record {
    kept = λ running tells held rows keeps. keeps_free kept store (seen a) (seen b) (sizes a) (sizes b) (images a) (images b) first named ready leaves.bytes leaves.lengths pool merge stopped held rows keeps;
    any_moment = λ tells held rows keeps. moments_free moment since a b kept store (seen a) (sizes a) (images a) first named ready leaves.any_moment tells held rows keeps;
    ready = λ running. ready_free kept store (seen a) (seen b) (sizes a) (sizes b) (images a) (images b) first named ready leaves.bytes leaves.lengths pool merge stopped
        (left_in r kept a b counts leaves) (λ tells file. some_back (seen a file) (seen b file) (leaves.told file) (tells file)) frames merging;
    told = leaves.told;
    frames = frames;
    runs = runs;
    stops = stops;
    call = record { cause = leaves.cause; lasts = leaves.lasts; failed = leaves.failed };
  }

  -- no call of the disk
  pub keeping_none : {T : Type 0} (r : Result T StoreFault) (store : RowStore) (merge : Option Pending) (disk : D) → ((t : ℕ) (image : Image) → t ≤ moment disk → images disk image → since disk t image)
      → ((image : Image) → since disk (moment disk) image → images disk image) → leads disk disk → (IsErrOf r Device → ⊥) → store.stopped ≡ false
      → IsReady store (seen disk) (sizes disk) (images disk) → IsMergeReady merge (named_by store.force) store.tables.items (seen disk) (sizes disk)
      → IsKeeping seen sizes images moment since faults leads fails_by store (record store { merge = merge }) disk disk r
  keeping_none {T = T} r store merge disk counts only here none running ready merging =
      keeping_leaves r (λ _. ⊤) store store.pool merge store.stopped disk disk counts tt (λ file there. tt) ready (leaves_none r (λ _. ⊤) disk only here none) refl merging (on_run r) (λ device. absurd (none device))
    where
      on_run : (r : Result T StoreFault) → OnOk r (store.stopped ≡ false)
      on_run (Ok x) = running
      on_run (Err e) = tt

  module _ {T U : Type 0} (done : U) (r : Result T StoreFault) (old mid new : RowStore) (a b c : D) (on : leads a b → leads b c → leads a c) (after : leads a b → fails_by b c → fails_by a c) where
    -- one step after another
    pub keeping_on : IsKeeping seen sizes images moment since faults leads fails_by old mid a b (Ok done) → IsKeeping seen sizes images moment since faults leads fails_by mid new b c r
        → IsKeeping seen sizes images moment since faults leads fails_by old new a c r
    keeping_on first second = record {
      kept = λ running tells held rows keeps. second.kept running (λ file. some_on (seen a file) (seen b file) (first.told file) (tells file)) held rows (first.kept first.runs tells held rows keeps);
      any_moment = λ tells held rows keeps. both moment since a b c (StandsFor held) (StandsFor held) (StandsFor held) (first.any_moment tells held rows keeps)
          (second.any_moment (λ file. some_on (seen a file) (seen b file) (first.told file) (tells file)) held rows (first.kept first.runs tells held rows keeps)) (λ image is. is) (λ image is. is);
      ready = second.ready;
      told = λ file. told_on (seen a file) (seen b file) (seen c file) (first.told file) (second.told file);
      frames = second.frames ∙ first.frames;
      runs = second.runs;
      stops = second.stops;
      call = call_on done r a b c on after first.call second.call;
    }

    -- a flush behind a step
    pub flushed_behind : (state : List ℕ) → IsKeeping seen sizes images moment since faults leads fails_by old mid a b (Ok done) → IsFlushed seen sizes images moment since faults leads fails_by state mid new b c r
        → IsFlushed seen sizes images moment since faults leads fails_by state old new a c r
    flushed_behind state first second =
        let on_tells : TellsAll (seen a) → TellsAll (seen b) = λ tells file. some_on (seen a file) (seen b file) (first.told file) (tells file) in
        record {
          kept = on_ok r _ _ (λ gives tells held rows keeps. gives (on_tells tells) held rows (first.kept first.runs tells held rows keeps)) second.kept;
          refused = on_refused r second.refused;
          any_moment = λ tells held rows keeps. both moment since a b c (StandsFor held) (IsFlushing held rows state) (IsFlushing held rows state) (first.any_moment tells held rows keeps)
              (second.any_moment (on_tells tells) held rows (first.kept first.runs tells held rows keeps)) (λ image is. inl is) (λ image is. is);
          ready = second.ready;
          root = second.root;
          told = λ file. told_on (seen a file) (seen b file) (seen c file) (first.told file) (second.told file);
          frames = second.frames ∙ first.frames;
          runs = second.runs;
          stops = second.stops;
          call = call_on done r a b c on after first.call second.call;
        }
      where
        on_refused : (r : Result T StoreFault) → OnErr r (new.stopped ≡ false → TellsAll (seen b) → (kept : Option Kept) (rows : RowMap) → Keeps mid kept rows (reading (seen b)) → Keeps new kept rows (reading (seen c)))
            → OnErr r (new.stopped ≡ false → TellsAll (seen a) → (kept : Option Kept) (rows : RowMap) → Keeps old kept rows (reading (seen a)) → Keeps new kept rows (reading (seen c)))
        on_refused (Ok x) gives = tt
        on_refused (Err e) gives = λ running tells held rows keeps. gives running (λ file. some_on (seen a file) (seen b file) (first.told file) (tells file)) held rows (first.kept first.runs tells held rows keeps)

    -- a step behind a flush, whose refusal stops the store
    pub flushed_then : (state : List ℕ) → IsFlushed seen sizes images moment since faults leads fails_by state old mid a b (Ok done) → IsKeeping seen sizes images moment since faults leads fails_by mid new b c r → OnErr r (new.stopped ≡ true)
        → OnOk r (HasRoot new) → IsFlushed seen sizes images moment since faults leads fails_by state old new a c r
    flushed_then state first second stopped root =
        let on_tells : TellsAll (seen a) → TellsAll (seen b) = λ tells file. some_on (seen a file) (seen b file) (first.told file) (tells file) in
        record {
          kept = on_done r second.runs;
          refused = on_refused r stopped;
          any_moment = λ tells held rows keeps. both moment since a b c (IsFlushing held rows state) (StandsFor (Some (flushed rows state))) (IsFlushing held rows state) (first.any_moment tells held rows keeps)
              (second.any_moment (on_tells tells) (Some (flushed rows state)) rows (first.kept tells held rows keeps)) (λ image is. is) (λ image is. inr is);
          ready = second.ready;
          root = root;
          told = λ file. told_on (seen a file) (seen b file) (seen c file) (first.told file) (second.told file);
          frames = second.frames ∙ first.frames;
          runs = second.runs;
          stops = second.stops;
          call = call_on done r a b c on after first.call second.call;
        }
      where
        on_done : (r : Result T StoreFault) → OnOk r (new.stopped ≡ false) → OnOk r (TellsAll (seen a) → (kept : Option Kept) (rows : RowMap) → Keeps old kept rows (reading (seen a)) → Keeps new (Some (flushed rows state)) rows (reading (seen c)))
        on_done (Ok x) running = λ tells held rows keeps.
            second.kept running (λ file. some_on (seen a file) (seen b file) (first.told file) (tells file)) (Some (flushed rows state)) rows (first.kept tells held rows keeps)
        on_done (Err e) running = tt

        on_refused : (r : Result T StoreFault) → OnErr r (new.stopped ≡ true) → OnErr r (new.stopped ≡ false → TellsAll (seen a) → (kept : Option Kept) (rows : RowMap) → Keeps old kept rows (reading (seen a)) → Keeps new kept rows (reading (seen c)))
        on_refused (Ok x) is = tt
        on_refused (Err e) is = λ running. absurd (let wrong : true ≡ false = sym is ∙ running in cc)

  -- a refusal that is passed on
  pub keeping_refused : {T U : Type 0} (fault : StoreFault) (old new : RowStore) (a b : D) → IsKeeping {T = T} seen sizes images moment since faults leads fails_by old new a b (Err fault)
      → IsKeeping {T = U} seen sizes images moment since faults leads fails_by old new a b (Err fault)
  keeping_refused {T = T} {U = U} fault old new a b step = record {
    kept = step.kept;
    any_moment = step.any_moment;
    ready = step.ready;
    told = step.told;
    frames = step.frames;
    runs = tt;
    stops = λ is. step.stops (same_refusal T U fault is);
    call = call_refused {T = T} {U = U} fault a b step.call;
  }

  -- another answer, which is not the device's
  pub keeping_as : {T U : Type 0} (done : U) (r : Result T StoreFault) (old new : RowStore) (a b : D) → (IsErrOf r Device → ⊥) → IsKeeping seen sizes images moment since faults leads fails_by old new a b (Ok done)
      → IsKeeping seen sizes images moment since faults leads fails_by old new a b r
  keeping_as {T = T} done r old new a b none step = record {
    kept = step.kept;
    any_moment = step.any_moment;
    ready = step.ready;
    told = step.told;
    frames = step.frames;
    runs = on_run r;
    stops = λ device. absurd (none device);
    call = record { cause = cause_plain (faults a) (faults b) r step.call.cause.kept none; lasts = step.call.lasts; failed = λ device. absurd (none device) };
  }
    where
      on_run : (r : Result T StoreFault) → OnOk r (new.stopped ≡ false)
      on_run (Ok x) = step.runs
      on_run (Err e) = tt

  pub flushed_as : {T U : Type 0} (fault : StoreFault) (state : List ℕ) (old new : RowStore) (a b : D) → IsFlushed {T = T} seen sizes images moment since faults leads fails_by state old new a b (Err fault)
      → IsFlushed {T = U} seen sizes images moment since faults leads fails_by state old new a b (Err fault)
  flushed_as {T = T} {U = U} fault state old new a b step = record {
    kept = tt;
    refused = step.refused;
    any_moment = step.any_moment;
    ready = step.ready;
    root = tt;
    told = step.told;
    frames = step.frames;
    runs = tt;
    stops = λ is. step.stops (same_refusal T U fault is);
    call = call_refused {T = T} {U = U} fault a b step.call;
  }

  -- a step that was refused, of a flush
  pub flushed_refused : {T U : Type 0} (fault : StoreFault) (state : List ℕ) (old new : RowStore) (a b : D) → IsKeeping {T = T} seen sizes images moment since faults leads fails_by old new a b (Err fault)
      → IsFlushed {T = U} seen sizes images moment since faults leads fails_by state old new a b (Err fault)
  flushed_refused {T = T} {U = U} fault state old new a b step = record {
    kept = tt;
    refused = step.kept;
    any_moment = λ tells held rows keeps. leaves_weaker moment since a b (StandsFor held) (IsFlushing held rows state) (λ image is. inl is) (step.any_moment tells held rows keeps);
    ready = step.ready;
    root = tt;
    told = step.told;
    frames = step.frames;
    runs = tt;
    stops = λ is. step.stops (same_refusal T U fault is);
    call = call_refused {T = T} {U = U} fault a b step.call;
  }
