-- Files in use stay where only others are written.
use Rattle.std.proofs.Common.{◌≡◌, ◌≢◌, ◌∙◌, sym, subst, refl, ℕ, zero, suc, List, Option, Some, None, true, false, arith}
use Rattle.mds_out.specs.Disk.{Image, Contents, Lengths}
use Rattle.mds_out.specs.Known.{OnTold}
use Rattle.root_slots.specs.Root.{is_fresh}
use Rattle.row_store.specs.declared.merges.Pending.{Pending}
use Rattle.row_store.specs.declared.row_store.InForce.{InForce}
use Rattle.row_store.specs.declared.row_store.RowStore.{RowStore}
use Rattle.row_store.specs.Files.{named_by, in_use, IsTaken, AreFree, IsNoneOf}
use Rattle.row_store.specs.declared.plans.FreeFiles.{FreeFiles}
use Rattle.row_store.specs.Value.{IsMergeReady, IsReady}
use Rattle.row_store.proofs.Apart.{taken_among}
use Rattle.row_store.proofs.Free.{NamesOnly, tables_in}
use Rattle.row_store.proofs.Pendings.{pending_kept}

pub named_taken : (merge : Option Pending) (force : Option InForce) → NamesOnly (IsTaken (in_use merge force)) force
named_taken None force file among = taken_among (named_by force) file among
named_taken (Some pending) force file (k, below, at) = taken_among (in_use (Some pending) force) file (suc k, omega (arith, below), at)

pub merged_taken : (merge : Option Pending) (force : Option InForce) (pending : Pending) → merge ≡ Some pending → IsTaken (in_use merge force) pending.file
merged_taken merge force pending is = subst (λ (m : Option Pending). IsTaken (in_use m force) pending.file) (sym is) (taken_among (in_use (Some pending) force) pending.file (zero, omega arith, refl))

-- what is not free is another file than a free one
pub taken_apart : (taken : List ℕ) (file : ℕ) → is_fresh file taken ≡ true → (other : ℕ) → IsTaken taken other → other ≢ file
taken_apart taken file free other is_taken same =
    let P : ℕ → Type 0 = λ n. is_fresh n taken ≡ false in
    let wrong : true ≡ false = sym free ∙ subst P same is_taken in
    cc

pub taken_none_of : (files : FreeFiles) (taken : List ℕ) → AreFree files taken → (file : ℕ) → IsTaken taken file → IsNoneOf files file
taken_none_of files taken free file is = record {
  state = taken_apart taken files.state free.state file is;
  log_file = taken_apart taken files.log_file free.log_file file is;
  table = taken_apart taken files.table free.table file is;
}

-- the merge that is under way goes on
pub merging_used : (store : RowStore) (seen seen' : Contents) (sizes sizes' : Lengths) (images : Image → Type 0) → IsReady store seen sizes images
    → ((file : ℕ) → IsTaken (in_use store.merge store.force) file → seen' file ≡ seen file) → ((file : ℕ) → IsTaken (in_use store.merge store.force) file → OnTold (sizes file) (λ size. sizes' file ≡ Some size))
    → IsMergeReady store.merge (named_by store.force) store.tables.items seen' sizes'
merging_used store seen seen' sizes sizes' images ready bytes lengths =
    let kept : ℕ → Type 0 = IsTaken (in_use store.merge store.force) in
    pending_kept kept seen seen' sizes sizes' bytes lengths store.merge (named_by store.force) store.tables.items (merged_taken store.merge store.force)
    (tables_in kept store.force store.tables.items seen sizes images (named_taken store.merge store.force) ready.force) ready.merging
