-- What an opening finds.
use Rattle.std.proofs.Common.{◌≡◌, ◌∙◌, inl, inr, sym, ap, subst, refl, ℕ, zero, suc, ◌≤◌, List, [], ◌∷◌, ◌++◌, Option, Some, None, Result, Ok, Err, true, false, arith}
use Rattle.std.specs.Prelude.{IsSome, IfSome, unwrap_or, Contains, IfErr}
use Rattle.std.specs.BTreeMap.{is_at}
use Rattle.std.specs.Map.{lookup}
use Rattle.frame_pool.specs.Frames.{Frames, free_frames}
use Rattle.mds_base.specs.declared.attr.Attr.{Attr}
use Rattle.mds_base.specs.declared.row_key.RowKey.{RowKey}
use Rattle.mds_base.specs.RowKeys.{row_key_cmp}
use Rattle.sorted_table.specs.TableRows.{IsMarked}
use Rattle.gate_log.specs.Calls.{IsOpenAnswer}
use Rattle.gate_log.specs.Log.{IsCutShort}
use Rattle.gate_log.specs.LogState.{LogState, IsLogOf}
use Rattle.gate_log.specs.LogState as logs
use Rattle.gate_log.specs.declared.gate_log.LogFault.{LogFault}
use Rattle.gate_log.specs.declared.gate_log.LogFault.TheVariants as log
use Rattle.mds_base.specs.declared.store_fault.Damage.{Damage}
use Rattle.mds_base.specs.declared.store_fault.Damage.TheVariants as damages
use Rattle.mds_base.specs.declared.store_fault.StoreFault.{StoreFault}
use Rattle.mds_base.specs.declared.store_fault.StoreFault.TheVariants.{Device, Stopped, Damaged, Room, OutOfMemory}
use Rattle.mds_out.specs.Disk.{Image, Contents, Lengths, IsUnchanged}
use Rattle.mds_out.specs.Known.{OnTold}
use Rattle.root_slots.specs.Crash.{IsUnder}
use Rattle.root_slots.specs.declared.root.Root.{Root}
use Rattle.root_slots.specs.declared.root_slots.RootFault.{RootFault}
use Rattle.root_slots.specs.declared.root_slots.RootFault.TheVariants as root_faults
use Rattle.root_slots.specs.declared.root_slots.RootSlots.{RootSlots}
use Rattle.root_slots.specs.declared.root_slots.SlotDamage.TheVariants as slot
use Rattle.root_slots.specs.Root.{is_root, files_of}
use Rattle.root_slots.specs.Slot.{HasBadRoot, HasNoRoot, found_in, root_in}
use Rattle.root_slots.specs.declared.root_slots.Step.TheVariants.{Begun}
use Rattle.root_slots.specs.Slots.{IsKept, IsRead, HasNumber, IsReady as AreSlotsReady}
use Rattle.root_slots.proofs.Readings.{root_told, none_told}
use Rattle.row_store.specs.Caching.{IsEmpty}
use Rattle.row_store.proofs.KeptBlocks.{cached_empty}
use Rattle.row_store.specs.Answers.{root_fault_of, log_fault_of, table_fault_of}
use Rattle.row_store.specs.Damages.{IsState, IsStateBad, IsTable, IsTableBad, AreTables, IsFirstBad, IsLogBad, IsBadUnder, IsBad, IsRefusal}
use Rattle.row_store.specs.declared.merges.Pending.{Pending}
use Rattle.row_store.specs.declared.row_store.InForce.{InForce}
use Rattle.row_store.specs.Files.{named_by}
use Rattle.row_store.specs.declared.row_store.RowStore.{RowStore}
use Rattle.row_store.specs.Rows.{rows_under, laid_over, rows_of}
use Rattle.row_store.specs.Store.{Kept, TellsAll, reading, base_of}
use Rattle.row_store.specs.Value.{IsNewStore, KeepsBy, Keeps, IsAsNamed, IsForceReady, AreNumbered, IsMergeReady, IsReady, HaveRows, IsOpenOn, IsStateThere, IsTableOpen, AreOpen, AreReady, IsLogReady}
use Rattle.row_store.proofs.Keeping.{AreSameIn, files_of_tables, has_table}
use Rattle.row_store.proofs.Appends.{log_left}
use Rattle.row_store.proofs.Told.{ready_on, told_is}
use Rattle.sorted_table.specs.Answers as answers
use Rattle.sorted_table.specs.declared.fault.TableDamage.TheVariants as damage
use Rattle.sorted_table.specs.declared.fault.TableFault.{TableFault}
use Rattle.sorted_table.specs.declared.fault.TableFault.TheVariants as table
use Rattle.sorted_table.specs.declared.table_row.TableRow.{TableRow}
use Rattle.sorted_table.specs.Tables.{TableState, IsSomeTable}

-- ---- what was opened stays so while nothing changes

durable_on : (told told' : Option (List ℕ)) (images images' : Image → Type 0) (file : ℕ) → told' ≡ told → ((image : Image) → images' image → images image)
    → OnTold told (λ bytes. (image : Image) → images image → image file ≡ bytes) → OnTold told' (λ bytes. (image : Image) → images' image → image file ≡ bytes)
durable_on told told' images images' file same fewer durable = subst (λ (now : Option (List ℕ)). OnTold now (λ bytes. (image : Image) → images' image → image file ≡ bytes)) (sym same) (at told durable)
  where
    at : (told : Option (List ℕ)) → OnTold told (λ bytes. (image : Image) → images image → image file ≡ bytes) → OnTold told (λ bytes. (image : Image) → images' image → image file ≡ bytes)
    at None durable = tt
    at (Some bytes) durable = λ image now. durable image (fewer image now)

pub state_on : (file : ℕ) (seen seen' : Contents) (sizes sizes' : Lengths) (images images' : Image → Type 0) → IsUnchanged seen seen' sizes sizes' → ((image : Image) → images' image → images image) → IsStateThere file seen images → IsStateThere file seen' images'
state_on file seen seen' sizes sizes' images images' same fewer there = record {
  told = subst (λ (now : Option (List ℕ)). OnTold now IsState) (sym (same.bytes file)) there.told;
  durable = durable_on (seen file) (seen' file) images images' file (same.bytes file) fewer there.durable;
}

open_one : (t : TableState) (seen seen' : Contents) (sizes sizes' : Lengths) (images images' : Image → Type 0) → IsUnchanged seen seen' sizes sizes' → ((image : Image) → images' image → images image) → IsTableOpen t seen sizes images → IsTableOpen t seen' sizes' images'
open_one t seen seen' sizes sizes' images images' same fewer is = record {
  ready = ready_on t seen seen' sizes sizes' same is.ready;
  durable = durable_on (seen t.file) (seen' t.file) images images' t.file (same.bytes t.file) fewer is.durable;
}

pub open_on : (opened : List TableState) (seen seen' : Contents) (sizes sizes' : Lengths) (images images' : Image → Type 0) → IsUnchanged seen seen' sizes sizes' → ((image : Image) → images' image → images image) → AreOpen opened seen sizes images → AreOpen opened seen' sizes' images'
open_on [] seen seen' sizes sizes' images images' same fewer are = tt
open_on (t ∷ opened) seen seen' sizes sizes' images images' same fewer are = (open_one t seen seen' sizes sizes' images images' same fewer are.0, open_on opened seen seen' sizes sizes' images images' same fewer are.1)

pub open_more : (opened : List TableState) (t : TableState) (seen : Contents) (sizes : Lengths) (images : Image → Type 0) → AreOpen opened seen sizes images → IsTableOpen t seen sizes images → AreOpen (opened ++ t ∷ []) seen sizes images
open_more [] t seen sizes images are is = (is, tt)
open_more (first ∷ opened) t seen sizes images are is = (are.0, open_more opened t seen sizes images are.1 is)

pub files_more : (opened : List TableState) (t : TableState) (files : List ℕ) → files_of_tables (opened ++ t ∷ []) ++ files ≡ files_of_tables opened ++ (t.file ∷ files)
files_more [] t files = refl
files_more (first ∷ opened) t files = ap (λ (rest : List ℕ). first.file ∷ rest) (files_more opened t files)

pub are_ready : (opened : List TableState) (seen : Contents) (sizes : Lengths) (images : Image → Type 0) → AreOpen opened seen sizes images → AreReady opened seen sizes
are_ready [] seen sizes images are = tt
are_ready (t ∷ opened) seen sizes images are = (are.0.ready, are_ready opened seen sizes images are.1)

-- ---- what they are

some_table : (t : TableState) (told : Option (List ℕ)) → IsSome told → OnTold told (IsSomeTable t) → IsSomeTable t (unwrap_or told [])
some_table t told some is = told_is told (IsSomeTable t) some is

some_rows : (opened : List TableState) (seen : Contents) (sizes : Lengths) (images : Image → Type 0) → TellsAll seen → AreOpen opened seen sizes images → (rows : List (List TableRow)) × HaveRows opened rows (reading seen)
some_rows [] seen sizes images tells are = ([], tt)
some_rows (t ∷ opened) seen sizes images tells are =
    let here = some_table t (seen t.file) (tells t.file) are.0.ready.told in
    let rest = some_rows opened seen sizes images tells are.1 in
    (here.rows ∷ rest.0, (here.has, rest.1))

pub are_tables : (opened : List TableState) (seen : Contents) (sizes : Lengths) (images : Image → Type 0) → TellsAll seen → AreOpen opened seen sizes images → AreTables (files_of_tables opened) (reading seen)
are_tables [] seen sizes images tells are = tt
are_tables (t ∷ opened) seen sizes images tells are =
    let here = some_table t (seen t.file) (tells t.file) are.0.ready.told in
    ((here.rows, has_table t here.rows (reading seen t.file) here.has), are_tables opened seen sizes images tells are.1)

-- the store that a disk has under a root
pub some_kept : (root : Root) (state : LogState) (opened : List TableState) (seen : Contents) (sizes : Lengths) (images : Image → Type 0) → TellsAll seen → OnTold (seen 0) (λ file. root_in file ≡ Some root)
    → IsStateThere root.state seen images → files_of_tables opened ≡ root.tables → AreOpen opened seen sizes images → state.file ≡ root.log_file → IsLogReady state seen sizes images → (kept : Kept) × IsOpenOn root state opened kept (reading seen)
some_kept root state opened seen sizes images tells in_force there files are log_file ready =
    let rows = some_rows opened seen sizes images tells are in
    let kept_state = told_is (seen root.state) IsState (tells root.state) there.told in
    let bodies = told_is (seen state.file) (logs.IsKept state images) (tells state.file) ready.ready.told in (
      record { base = rows_under rows.0; state = kept_state.0; bodies = bodies.bodies },
      record {
        rows = rows.0;
        in_force = told_is (seen 0) (λ file. root_in file ≡ Some root) (tells 0) in_force;
        state = kept_state.1;
        log_file = log_file;
        bodies = subst (λ (file : ℕ). IsLogOf state bodies.bodies (reading seen file)) log_file bodies.is;
        files = files;
        hold = rows.1;
        base = refl;
      },
    )

-- ---- a crash right after it

left_as : (told : Option (List ℕ)) (images : Image → Type 0) (file : ℕ) (crashed : Image) → IsSome told → OnTold told (λ bytes. (image : Image) → images image → image file ≡ bytes) → images crashed → crashed file ≡ unwrap_or told []
left_as None images file crashed some durable left = cc
left_as (Some bytes) images file crashed some durable left = durable crashed left

pub first_left : (slots : RootSlots) (told : Option (List ℕ)) (images : Image → Type 0) (crashed : Image) → IsSome told → OnTold told (IsKept slots images) → images crashed → crashed 0 ≡ unwrap_or told []
first_left slots None images crashed some kept left = cc
first_left slots (Some file) images crashed some kept left = kept.durable crashed left

tables_left : (opened : List TableState) (seen : Contents) (sizes : Lengths) (images : Image → Type 0) (crashed : Image) → TellsAll seen → AreOpen opened seen sizes images → images crashed → AreSameIn (files_of_tables opened) (reading seen) crashed
tables_left [] seen sizes images crashed tells are left k file below at = absurd (omega arith)
tables_left (t ∷ opened) seen sizes images crashed tells are left zero file below at =
    subst (λ (f : ℕ). crashed f ≡ reading seen f) at (left_as (seen t.file) images t.file crashed (tells t.file) are.0.durable left)
tables_left (t ∷ opened) seen sizes images crashed tells are left (suc k) file below at = tables_left opened seen sizes images crashed tells are.1 left k file (omega arith) at

pub steady_opened : (root : Root) (slots : RootSlots) (state : LogState) (opened : List TableState) (seen : Contents) (sizes : Lengths) (images : Image → Type 0) → TellsAll seen → OnTold (seen 0) (λ file. root_in file ≡ Some root) → OnTold (seen 0) (IsKept slots images)
    → IsStateThere root.state seen images → files_of_tables opened ≡ root.tables → AreOpen opened seen sizes images → state.file ≡ root.log_file → IsLogReady state seen sizes images → (crashed : Image) → images crashed → IsUnder root (reading seen) crashed
steady_opened root slots state opened seen sizes images tells in_force kept there files are log_file ready crashed left = record {
  in_force = ap root_in (first_left slots (seen 0) images crashed (tells 0) kept left) ∙ told_is (seen 0) (λ file. root_in file ≡ Some root) (tells 0) in_force;
  files = λ file there_is. named file there_is;
}
  where
    log_same : crashed root.log_file ≡ reading seen root.log_file
    log_same = subst (λ (f : ℕ). crashed f ≡ reading seen f) log_file (log_left state (seen state.file) images crashed (tells state.file) ready.ready.told left)

    state_same : crashed root.state ≡ reading seen root.state
    state_same = left_as (seen root.state) images root.state crashed (tells root.state) there.durable left

    tables_same : AreSameIn root.tables (reading seen) crashed
    tables_same = let P : List ℕ → Type 0 = λ fs. AreSameIn fs (reading seen) crashed in subst P files (tables_left opened seen sizes images crashed tells are left)

    named : (file : ℕ) → Contains (files_of root) file → crashed file ≡ reading seen file
    named file (zero, below, at) = subst (λ (f : ℕ). crashed f ≡ reading seen f) at state_same
    named file (suc zero, below, at) = subst (λ (f : ℕ). crashed f ≡ reading seen f) at log_same
    named file (suc (suc k), below, at) = tables_same k file (omega arith) at

-- ---- refusals

pub refusal_more : (bad worse : ℕ → ℕ → Damage → Type 0) (fault : StoreFault) → ((file place : ℕ) (wrong : Damage) → bad file place wrong → worse file place wrong) → IsRefusal bad fault → IsRefusal worse fault
refusal_more bad worse Device more is = is
refusal_more bad worse Stopped more is = is
refusal_more bad worse (Damaged file place wrong) more is = more file place wrong is
refusal_more bad worse Room more is = is
refusal_more bad worse OutOfMemory more is = is

-- of a file that is told
abbrev pub bad_of : ℕ → (ℕ → Damage → List ℕ → Type 0) → Option (List ℕ) → ℕ → ℕ → Damage → Type 0
bad_of file bad told other place wrong = (other ≡ file) × OnTold told (bad place wrong)

pub table_refusal : (T : Type 0) (file : ℕ) (told : Option (List ℕ)) (fault : TableFault) → answers.IsOpenAnswer {T = T} told (Err fault) → IsRefusal (bad_of file IsTableBad told) (table_fault_of file fault)
table_refusal T file told table.Device answer = tt
table_refusal T file told (table.Damaged place damage.Spelling) answer = (refl, answer)
table_refusal T file told (table.Damaged place (damage.Sum kept other)) answer = (refl, answer)
table_refusal T file told table.OutOfMemory answer = tt

pub log_refusal : (T : Type 0) (file : ℕ) (told : Option (List ℕ)) (fault : LogFault) → IsOpenAnswer {T = T} told (Err fault) → IsRefusal (bad_of file IsLogBad told) (log_fault_of file fault)
log_refusal T file told log.Device answer = tt
log_refusal T file told log.Stopped answer = answer
log_refusal T file told (log.BadLog place) answer = (refl, at told answer)
  where
    at : (told : Option (List ℕ)) → OnTold told (λ bytes. IsCutShort bytes place) → OnTold told (IsLogBad place damages.Spelling)
    at None short = tt
    at (Some bytes) short = (refl, short)
log_refusal T file told log.OutOfMemory answer = tt

-- ---- the root

pub root_refusal : (seen : Contents) (fault : RootFault) → (fault ≡ root_faults.Stopped → ⊥) → OnTold (seen 0) (λ file. IsRead (found_in file) (Err fault)) → IsRefusal (λ file place wrong. TellsAll seen → IsBad file place wrong (reading seen)) (root_fault_of fault)
root_refusal seen root_faults.Device running is = tt
root_refusal seen root_faults.Stopped running is = running refl
root_refusal seen (root_faults.Bad place slot.Spelling) running is = λ tells. inl (refl, told_is (seen 0) (HasBadRoot place slot.Spelling) (tells 0) is)
root_refusal seen (root_faults.Bad place (slot.Sum kept other)) running is = λ tells. inl (refl, told_is (seen 0) (HasBadRoot place (slot.Sum kept other)) (tells 0) is)
root_refusal seen root_faults.OutOfMemory running is = tt

-- ---- under a root

pub state_bad : (root : Root) (seen : Contents) (file place : ℕ) (wrong : Damage) → bad_of root.state IsStateBad (seen root.state) file place wrong → TellsAll seen → IsBadUnder root file place wrong (reading seen)
state_bad root seen file place wrong is tells = inl (is.0, told_is (seen root.state) (IsStateBad place wrong) (tells root.state) is.1)

pub tables_bad : (root : Root) (seen seen' : Contents) (file place : ℕ) (wrong : Damage) → seen' ≡ seen → OnTold (seen' root.state) IsState → (TellsAll seen' → IsFirstBad root.tables file place wrong (reading seen'))
    → TellsAll seen → IsBadUnder root file place wrong (reading seen)
tables_bad root seen seen' file place wrong same there is =
    let P : Contents → Type 0 = λ s. TellsAll s → IsBadUnder root file place wrong (reading s) in
    subst P same (λ tells. inr (inl (told_is (seen' root.state) IsState (tells root.state) there, is tells)))

pub log_bad : (root : Root) (opened : List TableState) (seen seen' : Contents) (sizes' : Lengths) (images' : Image → Type 0) (file place : ℕ) (wrong : Damage) → seen' ≡ seen → OnTold (seen' root.state) IsState → files_of_tables opened ≡ root.tables
    → AreOpen opened seen' sizes' images' → bad_of root.log_file IsLogBad (seen' root.log_file) file place wrong → TellsAll seen → IsBadUnder root file place wrong (reading seen)
log_bad root opened seen seen' sizes' images' file place wrong same there files are is =
    let P : Contents → Type 0 = λ s. TellsAll s → IsBadUnder root file place wrong (reading s) in
    subst P same (λ tells. inr (inr (
      told_is (seen' root.state) IsState (tells root.state) there,
      subst (λ (fs : List ℕ). AreTables fs (reading seen')) files (are_tables opened seen' sizes' images' tells are),
      is.0,
      told_is (seen' root.log_file) (IsLogBad place wrong) (tells root.log_file) is.1,
    )))

pub first_bad : (first : ℕ) (files : List ℕ) (seen : Contents) (file place : ℕ) (wrong : Damage) → bad_of first IsTableBad (seen first) file place wrong → TellsAll seen → IsFirstBad (first ∷ files) file place wrong (reading seen)
first_bad first files seen file place wrong is tells = inl (is.0, told_is (seen first) (IsTableBad place wrong) (tells first) is.1)

pub later_bad : (t : TableState) (first : ℕ) (files : List ℕ) (seen seen' : Contents) (sizes' : Lengths) (images' : Image → Type 0) (file place : ℕ) (wrong : Damage) → seen' ≡ seen → t.file ≡ first → IsTableOpen t seen' sizes' images'
    → (TellsAll seen' → IsFirstBad files file place wrong (reading seen')) → TellsAll seen → IsFirstBad (first ∷ files) file place wrong (reading seen)
later_bad t first files seen seen' sizes' images' file place wrong same there opened is =
    let P : Contents → Type 0 = λ s. TellsAll s → IsFirstBad (first ∷ files) file place wrong (reading s) in
    subst P same (λ tells. (
    let here = some_table t (seen' t.file) (tells t.file) opened.ready.told in
    let table_is : IsTable (reading seen' t.file) = (here.rows, has_table t here.rows (reading seen' t.file) here.has) in
    inr (subst (λ (f : ℕ). IsTable (reading seen' f)) there table_is, is tells)))

pub more_refused : {T : Type 0} (t : TableState) (first : ℕ) (rest files : List ℕ) (seen seen' : Contents) (sizes' : Lengths) (images' : Image → Type 0) (result : Result T StoreFault) → files ≡ first ∷ rest → seen' ≡ seen → t.file ≡ first
    → IsTableOpen t seen' sizes' images' → IfErr result (IsRefusal (λ file place wrong. TellsAll seen' → IsFirstBad rest file place wrong (reading seen'))) → IfErr result (IsRefusal (λ file place wrong. TellsAll seen → IsFirstBad files file place wrong (reading seen)))
more_refused t first rest files seen seen' sizes' images' (Ok x) split same there opened is = tt
more_refused t first rest files seen seen' sizes' images' (Err fault) split same there opened is =
    let P : List ℕ → Type 0 = λ fs. IsRefusal (λ file place wrong. TellsAll seen → IsFirstBad fs file place wrong (reading seen)) fault in
    subst P (sym split) (refusal_more (λ file place wrong. TellsAll seen' → IsFirstBad rest file place wrong (reading seen')) (λ file place wrong. TellsAll seen → IsFirstBad (first ∷ rest) file place wrong (reading seen)) fault
    (λ file place wrong bad. later_bad t first rest seen seen' sizes' images' file place wrong same there opened bad) is)

-- under the root that was found
pub root_bad : (root : Root) (seen seen' : Contents) (file place : ℕ) (wrong : Damage) → seen' ≡ seen → OnTold (seen' 0) (λ bytes. root_in bytes ≡ Some root) → (TellsAll seen' → IsBadUnder root file place wrong (reading seen'))
    → TellsAll seen → IsBad file place wrong (reading seen)
root_bad root seen seen' file place wrong same in_force is =
    let P : Contents → Type 0 = λ s. TellsAll s → IsBad file place wrong (reading s) in
    subst P same (λ tells. inr (root, told_is (seen' 0) (λ bytes. root_in bytes ≡ Some root) (tells 0) in_force, is tells))

-- ---- the value of an opened store

module _ (store : RowStore) (force : InForce) (seen : Contents) (sizes : Lengths) (images : Image → Type 0) (is : store.force ≡ Some force) (in_force : OnTold (seen 0) (λ file. root_in file ≡ Some force.root)) (slots : AreSlotsReady store.slots seen sizes images)
    (there : IsStateThere force.root.state seen images) (files : files_of_tables store.tables.items ≡ force.root.tables) (are : AreOpen store.tables.items seen sizes images) (log_file : force.log.file ≡ force.root.log_file) (ready : IsLogReady force.log seen sizes images)
    (fresh : store.fresh.entries ≡ []) where
  pub ready_opened : store.merge ≡ None → store.slots.step ≡ Begun → (store.slots.made ≡ true) × HasNumber store.slots.force force.root.number → 4 ≤ free_frames store.pool → store.slots.stopped ≡ false → is_root force.root ≡ true → IsEmpty store.cache → IsReady store seen sizes images
  ready_opened none begun numbered frames running root empty = record {
    cached = cached_empty store.cache empty store.tables.items seen;
    frames = frames;
    slots_run = running;
    begun = begun;
    numbered = subst (AreNumbered store.slots) (sym is) numbered;
    merging = subst (λ (m : Option Pending). IsMergeReady m (named_by store.force) store.tables.items seen sizes) (sym none) tt;
    slots = slots;
    force = subst (λ (f : Option InForce). IsForceReady f store.tables.items seen sizes images) (sym is) (files, record { root = root; log_file = log_file; log = ready });
    tables = are_ready store.tables.items seen sizes images are;
    marked = λ key. subst (λ (entries : List (RowKey × Option Attr)). IfSome (lookup (is_at (row_key_cmp key)) entries) IsMarked) (sym fresh) tt;
    steady = λ tells crashed left. subst (λ (f : Option InForce). IsAsNamed f (reading seen) crashed) (sym is)
        (steady_opened force.root store.slots force.log store.tables.items seen sizes images tells in_force slots.told there files are log_file ready crashed left);
  }

  pub kept_opened : TellsAll seen → (kept : Option Kept) × Keeps store kept (base_of kept) (reading seen)
  kept_opened tells =
      let kept = some_kept force.root force.log store.tables.items seen sizes images tells in_force there files are log_file ready in (
        Some kept.0,
        record {
          by = subst (λ (f : Option InForce). KeepsBy f store.tables.items (Some kept.0) (reading seen)) (sym is) kept.1;
          rows_are = sym (ap (λ (entries : List (RowKey × Option Attr)). laid_over kept.0.base (rows_of entries)) fresh);
        },
      )

module _ (pool : Frames) (value : RootSlots) (store : RowStore) (new : IsNewStore pool value store) (seen : Contents) (sizes : Lengths) (images : Image → Type 0) (slots : AreSlotsReady value seen sizes images) where
  pub ready_new : value.step ≡ Begun → (value.force ≡ None) × (value.spare_open ≡ false) → 4 ≤ free_frames pool → value.stopped ≡ false → IsReady store seen sizes images
  ready_new begun numbered frames running = record {
    cached = cached_empty store.cache new.cache store.tables.items seen;
    frames = subst (λ (p : Frames). 4 ≤ free_frames p) (sym new.frames) frames;
    slots_run = subst (λ (s : RootSlots). s.stopped ≡ false) (sym new.slots_are) running;
    begun = subst (λ (s : RootSlots). s.step ≡ Begun) (sym new.slots_are) begun;
    numbered = subst (AreNumbered store.slots) (sym new.force) (subst (λ (s : RootSlots). AreNumbered s None) (sym new.slots_are) numbered);
    merging = subst (λ (m : Option Pending). IsMergeReady m (named_by store.force) store.tables.items seen sizes) (sym new.merge) tt;
    slots = subst (λ (s : RootSlots). AreSlotsReady s seen sizes images) (sym new.slots_are) slots;
    force = subst (λ (f : Option InForce). IsForceReady f store.tables.items seen sizes images) (sym new.force) new.tables;
    tables = subst (λ (t : List TableState). AreReady t seen sizes) (sym new.tables) tt;
    marked = λ key. subst (λ (entries : List (RowKey × Option Attr)). IfSome (lookup (is_at (row_key_cmp key)) entries) IsMarked) (sym new.fresh) tt;
    steady = λ tells crashed left. subst (λ (f : Option InForce). IsAsNamed f (reading seen) crashed) (sym new.force) (first_left value (seen 0) images crashed (tells 0) slots.told left);
  }

  pub kept_new : OnTold (seen 0) HasNoRoot → TellsAll seen → (kept : Option Kept) × Keeps store kept (base_of kept) (reading seen)
  kept_new none tells = (
    None,
    record {
      by = subst (λ (f : Option InForce). KeepsBy f store.tables.items None (reading seen)) (sym new.force) (told_is (seen 0) HasNoRoot (tells 0) none, new.tables);
      rows_are = sym (ap (λ (entries : List (RowKey × Option Attr)). laid_over (base_of None) (rows_of entries)) new.fresh);
    },
  )

-- ---- what the reading of the root says

pub root_read : (told told' : Option (List ℕ)) (result : Result (RootSlots × Option Root) RootFault) (slots : RootSlots) (found : Option Root) (root : Root) → told' ≡ told → result ≡ Ok (slots, found) → found ≡ Some root
    → OnTold told (λ file. IsRead (found_in file) result) → OnTold told' (λ file. root_in file ≡ Some root)
root_read told told' result slots found root same is there read =
    let P : Result (RootSlots × Option Root) RootFault → Type 0 = λ r. OnTold told (λ file. IsRead (found_in file) r) in
    let Q : Option (List ℕ) → Type 0 = λ t. OnTold t (λ file. root_in file ≡ Some root) in
    let Said : Option Root → Result (RootSlots × Option Root) RootFault = λ o. Ok (slots, o) in
    subst Q (sym same) (root_told told slots root (subst P (is ∙ ap Said there) read))

pub none_read : (told told' : Option (List ℕ)) (result : Result (RootSlots × Option Root) RootFault) (slots : RootSlots) (found : Option Root) → told' ≡ told → result ≡ Ok (slots, found) → found ≡ None
    → OnTold told (λ file. IsRead (found_in file) result) → OnTold told' HasNoRoot
none_read told told' result slots found same is there read =
    let P : Result (RootSlots × Option Root) RootFault → Type 0 = λ r. OnTold told (λ file. IsRead (found_in file) r) in
    let Q : Option (List ℕ) → Type 0 = λ t. OnTold t HasNoRoot in
    let Said : Option Root → Result (RootSlots × Option Root) RootFault = λ o. Ok (slots, o) in
    subst Q (sym same) (none_told told slots (subst P (is ∙ ap Said there) read))

pub found_refused : {T : Type 0} (root : Root) (seen seen' : Contents) (result : Result T StoreFault) → seen' ≡ seen → OnTold (seen' 0) (λ bytes. root_in bytes ≡ Some root)
    → IfErr result (IsRefusal (λ file place wrong. TellsAll seen' → IsBadUnder root file place wrong (reading seen'))) → IfErr result (IsRefusal (λ file place wrong. TellsAll seen → IsBad file place wrong (reading seen)))
found_refused root seen seen' (Ok x) same in_force is = tt
found_refused root seen seen' (Err fault) same in_force is =
    refusal_more (λ file place wrong. TellsAll seen' → IsBadUnder root file place wrong (reading seen')) (λ file place wrong. TellsAll seen → IsBad file place wrong (reading seen)) fault
    (λ file place wrong bad. root_bad root seen seen' file place wrong same in_force bad) is
