-- A store that has taken what its log holds is ready where it was ready before.
use Rattle.std.proofs.Common.{◌≡◌, sym, subst, ◌≤◌, List, Option, false}
use Rattle.frame_pool.specs.Frames.{free_frames}
use Rattle.mds_out.specs.Disk.{Image, Contents, Lengths}
use Rattle.root_slots.specs.declared.root_slots.RootSlots.{RootSlots}
use Rattle.root_slots.specs.declared.root_slots.Step.TheVariants.{Begun}
use Rattle.root_slots.specs.Slots.{IsReady as AreSlotsReady}
use Rattle.row_store.specs.declared.merges.Pending.{Pending}
use Rattle.row_store.specs.declared.row_store.InForce.{InForce}
use Rattle.row_store.specs.declared.row_store.RowStore.{RowStore}
use Rattle.row_store.specs.Caching.{AreCached}
use Rattle.row_store.specs.Files.{named_by}
use Rattle.row_store.specs.Store.{reading}
use Rattle.row_store.specs.Value.{AreNumbered, AreReady, IsAsNamed, IsForceReady, IsMergeReady, IsReady, StaysReady}
use Rattle.sorted_table.specs.Tables.{TableState}

pub stays_ready : (old new : RowStore) (seen : Contents) (sizes : Lengths) (images : Image → Type 0) → StaysReady old new → IsReady old seen sizes images → IsReady new seen sizes images
stays_ready old new seen sizes images (pool, cache, slots, force, tables, merge, marked) ready = record {
  frames = subst (λ p. 4 ≤ free_frames p) (sym pool) ready.frames;
  slots_run = subst (λ (s : RootSlots). s.stopped ≡ false) (sym slots) ready.slots_run;
  begun = subst (λ (s : RootSlots). s.step ≡ Begun) (sym slots) ready.begun;
  numbered = (let P : Option InForce → Type 0 = λ f. AreNumbered new.slots f in subst P (sym force) (subst (λ (s : RootSlots). AreNumbered s old.force) (sym slots) ready.numbered));
  slots = subst (λ (s : RootSlots). AreSlotsReady s seen sizes images) (sym slots) ready.slots;
  force = (let P : Option InForce → Type 0 = λ f. IsForceReady f new.tables.items seen sizes images in subst P (sym force) (subst (λ (t : List TableState). IsForceReady old.force t seen sizes images) (sym tables) ready.force));
  tables = subst (λ (t : List TableState). AreReady t seen sizes) (sym tables) ready.tables;
  cached = subst (λ (t : List TableState). AreCached new.cache t seen) (sym tables) (subst (λ k. AreCached k old.tables.items seen) (sym cache) ready.cached);
  merging = (let P : Option InForce → Type 0 = λ f. IsMergeReady new.merge (named_by f) new.tables.items seen sizes in
      let Q : List TableState → Type 0 = λ t. IsMergeReady new.merge (named_by old.force) t seen sizes in
      let R : Option Pending → Type 0 = λ m. IsMergeReady m (named_by old.force) old.tables.items seen sizes in
      subst P (sym force) (subst Q (sym tables) (subst R (sym merge) ready.merging)));
  marked = marked ready.marked;
  steady = λ tells crashed now. subst (λ (f : Option InForce). IsAsNamed f (reading seen) crashed) (sym force) (ready.steady tells crashed now);
}
