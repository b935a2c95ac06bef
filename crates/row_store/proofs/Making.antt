-- File 0 is made where no root was ever in force.
use Rattle.std.proofs.Common.{◌≡◌, ◌∙◌, sym, ap, subst, refl, ℕ, ◌≤◌, List, [], ◌∷◌, Option, Some, None, Bool, true, false, Result, arith}
use Rattle.std.specs.Prelude.{IsErrOf, OnOk, unwrap_or}
use Rattle.mds_base.specs.declared.store_fault.StoreFault.{StoreFault}
use Rattle.mds_base.specs.declared.store_fault.StoreFault.TheVariants.{Device}
use Rattle.mds_base.specs.RowKeys.{RowMap}
use Rattle.mds_out.specs.Disk.{Image, Contents, Lengths, LeavesOnly, IsElsewhereUnchanged, Shows, StaysTold}
use Rattle.mds_out.specs.Known.{OnTold}
use Rattle.root_slots.specs.declared.root_slots.RootSlots.{RootSlots}
use Rattle.root_slots.specs.declared.root_slots.Step.TheVariants.{Begun}
use Rattle.root_slots.specs.Slot.{HasNoRoot}
use Rattle.root_slots.specs.Slots.{with_file, IsReady as AreSlotsReady}
use Rattle.row_store.proofs.KeptBlocks.{cached_none}
use Rattle.row_store.specs.declared.merges.Pending.{Pending}
use Rattle.row_store.specs.declared.row_store.InForce.{InForce}
use Rattle.row_store.specs.declared.row_store.RowStore.{RowStore}
use Rattle.row_store.specs.Answers.{IsStoreChanging}
use Rattle.row_store.specs.Files.{named_by}
use Rattle.row_store.specs.Steps.{IsKeeping}
use Rattle.row_store.specs.Store.{Kept, StandsFor, TellsAll, reading}
use Rattle.row_store.specs.Value.{KeepsBy, Keeps, AreReady, IsAsNamed, AreNumbered, IsForceReady, IsMergeReady, IsReady}
use Rattle.row_store.proofs.Appends.{stays_all}
use Rattle.row_store.proofs.Opens.{first_left}
use Rattle.row_store.proofs.Told.{told_is}
use Rattle.sorted_table.specs.Tables.{TableState}

pub is_new : (slots : RootSlots) (force : Option InForce) → AreNumbered slots force → slots.made ≡ false → force ≡ None
is_new slots None numbered unmade = refl
is_new slots (Some force) numbered unmade = absurd (let wrong : true ≡ false = sym numbered.0 ∙ unmade in cc)

pub new_slots : (slots : RootSlots) (force : Option InForce) → AreNumbered slots force → slots.made ≡ false → slots.step ≡ Begun → (slots.force ≡ None) × (slots.spare_open ≡ false) × (slots.step ≡ Begun)
new_slots slots None numbered unmade begun = (numbered.0, numbered.1, begun)
new_slots slots (Some force) numbered unmade begun = absurd (let wrong : true ≡ false = sym numbered.0 ∙ unmade in cc)

shows : (seen : Contents) → Shows seen (reading seen)
shows seen file = at (seen file)
  where
    at : (told : Option (List ℕ)) → OnTold told (λ bytes. unwrap_or told [] ≡ bytes)
    at None = tt
    at (Some bytes) = refl

no_tables : (force : Option InForce) (tables : List TableState) (seen : Contents) (sizes : Lengths) (images : Image → Type 0) → force ≡ None → IsForceReady force tables seen sizes images → tables ≡ []
no_tables None tables seen sizes images none ready = ready
no_tables (Some force) tables seen sizes images none ready = cc

no_merge : (merge : Option Pending) (named : List ℕ) (tables : List TableState) (seen seen' : Contents) (sizes sizes' : Lengths) → tables ≡ [] → IsMergeReady merge named tables seen sizes → IsMergeReady merge named tables seen' sizes'
no_merge None named tables seen seen' sizes sizes' none ready = tt
no_merge (Some pending) named [] seen seen' sizes sizes' none ready = let some = ready.some in absurd (omega (arith, some))
no_merge (Some pending) named (table ∷ tables) seen seen' sizes sizes' none ready = cc

kept_none : (force : Option InForce) (tables : List TableState) (held : Option Kept) (image : Image) → force ≡ None → KeepsBy force tables held image → held ≡ None
kept_none None tables None image none by = refl
kept_none None tables (Some held) image none by = absurd by
kept_none (Some force) tables held image none by = cc

new_ready : (force : Option InForce) (tables : List TableState) (seen : Contents) (sizes : Lengths) (images : Image → Type 0) → force ≡ None → tables ≡ [] → IsForceReady force tables seen sizes images
new_ready None tables seen sizes images none empty = empty
new_ready (Some force) tables seen sizes images none empty = cc

new_kept : (force : Option InForce) (tables : List TableState) (image image' : Image) → force ≡ None → HasNoRoot (image' 0) → KeepsBy force tables None image → KeepsBy force tables None image'
new_kept None tables image image' none has by = (has, by.1)
new_kept (Some force) tables image image' none has by = cc

module _ {D : Type 0} {seen : D → Contents} {sizes : D → Lengths} {images : D → Image → Type 0} {moment : D → ℕ} {since : D → ℕ → Image → Type 0} {faults : D → ℕ} {leads fails_by : D → D → Type 0} where
  pub keeping_made : {T : Type 0} (r : Result T StoreFault) (store : RowStore) (slots : RootSlots) (stopped : Bool) (a b : D) → ((t : ℕ) (image : Image) → t ≤ moment b → images b image → since b t image) → ((image : Image) → Shows (seen b) image → images b image) → store.slots.made ≡ false → IsReady store (seen a) (sizes a) (images a) → IsElsewhereUnchanged 0 (seen a) (seen b) (sizes a) (sizes b)
      → StaysTold (seen a 0) (seen b 0) → OnTold (seen a 0) (λ _. LeavesOnly moment since a b (λ image. HasNoRoot (image 0))) → (stopped ≡ false → (slots ≡ with_file store.slots) × AreSlotsReady slots (seen b) (sizes b) (images b))
      → OnOk r (stopped ≡ false) → (IsErrOf r Device → stopped ≡ true) → IsStoreChanging faults leads fails_by a b r → IsKeeping seen sizes images moment since faults leads fails_by store (record store { slots = slots; stopped = stopped }) a b r
  keeping_made r store slots stopped a b counts reads unmade ready elsewhere told leaves made runs stops call = record {
    kept = kept;
    any_moment = λ tells held rows keeps. subst (λ (h : Option Kept). LeavesOnly moment since a b (StandsFor h)) (sym (kept_none store.force store.tables.items held (reading (seen a)) none keeps.by))
        (told_is (seen a 0) (λ _. LeavesOnly moment since a b (λ image. HasNoRoot (image 0))) (tells 0) leaves);
    ready = λ running. (let is = made running in record {
      frames = ready.frames;
      slots_run = ap (λ (s : RootSlots). s.stopped) is.0 ∙ ready.slots_run;
      begun = ap (λ (s : RootSlots). s.step) is.0 ∙ ready.begun;
      numbered = numbered running;
      slots = is.1;
      force = new_ready store.force store.tables.items (seen b) (sizes b) (images b) none empty;
      tables = subst (λ (t : List TableState). AreReady t (seen b) (sizes b)) (sym empty) tt;
      cached = cached_none store.cache store.tables.items (seen a) (seen b) empty ready.cached;
      merging = no_merge store.merge (named_by store.force) store.tables.items (seen a) (seen b) (sizes a) (sizes b) empty ready.merging;
      marked = ready.marked;
      steady = λ tells crashed now. subst (λ (f : Option InForce). IsAsNamed f (reading (seen b)) crashed) (sym none) (first_left slots (seen b 0) (images b) crashed (tells 0) is.1.told now);
    });
    told = stays_all 0 (seen a) (seen b) (sizes a) (sizes b) elsewhere told;
    frames = refl;
    runs = runs;
    stops = stops;
    call = call;
  }
    where
      none : store.force ≡ None
      none = is_new store.slots store.force ready.numbered unmade

      empty : store.tables.items ≡ []
      empty = no_tables store.force store.tables.items (seen a) (sizes a) (images a) none ready.force

      numbers : AreNumbered store.slots None
      numbers = subst (AreNumbered store.slots) none ready.numbered

      numbered : stopped ≡ false → AreNumbered slots store.force
      numbered running = subst (AreNumbered slots) (sym none) (subst (λ (s : RootSlots). AreNumbered s None) (sym (made running).0) numbers)

      kept : stopped ≡ false → TellsAll (seen a) → (held : Option Kept) (rows : RowMap) → Keeps store held rows (reading (seen a)) → Keeps (record store { slots = slots; stopped = stopped }) held rows (reading (seen b))
      kept running tells held rows keeps =
          let is = made running in
          let moments = told_is (seen a 0) (λ _. LeavesOnly moment since a b (λ image. HasNoRoot (image 0))) (tells 0) leaves in
          let has : HasNoRoot (reading (seen b) 0) = moments.each (reading (seen b)) (counts (moment a) (reading (seen b)) moments.later (reads (reading (seen b)) (shows (seen b)))) in
          let held_none = kept_none store.force store.tables.items held (reading (seen a)) none keeps.by in
          let P : Option Kept → Type 0 = λ h. KeepsBy store.force store.tables.items h (reading (seen b)) in
          let Q : Option Kept → Type 0 = λ h. KeepsBy store.force store.tables.items h (reading (seen a)) in
          record { by = subst P (sym held_none) (new_kept store.force store.tables.items (reading (seen a)) (reading (seen b)) none has (subst Q held_none keeps.by)); rows_are = keeps.rows_are }
