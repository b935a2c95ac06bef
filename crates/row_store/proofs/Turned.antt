-- A turn of a merge, on a store.
use Rattle.std.specs.Prelude.{IsErrOf, OnOk}
use Rattle.std.proofs.Common.{◌≡◌, ◌≢◌, ◌∙◌, sym, ap, subst, ℕ, zero, suc, ◌≤◌, ◌-◌, List, [], ◌∷◌, length, take, drop, Option, Some, None, Bool, true, false, Result, Ok, Err, arith}
use Rattle.std.proofs.lemmas.List.{take_all, length-drop}
use Rattle.frame_pool.specs.Frames.{Frames, free_frames}
use Rattle.mds_base.specs.declared.store_fault.StoreFault.{StoreFault}
use Rattle.mds_base.specs.declared.store_fault.StoreFault.TheVariants.{Device}
use Rattle.mds_out.specs.Disk.{Image, Contents, Lengths, IsElsewhereUnchanged}
use Rattle.merge_rows.proofs.Stepping.{stay_apart, tell_before}
use Rattle.merge_rows.specs.Answers.{IsMergeAnswer}
use Rattle.merge_rows.specs.declared.merge.Merge.{Merge}
use Rattle.merge_rows.specs.declared.merge.Turn.{Turn}
use Rattle.merge_rows.specs.declared.merge.Turn.TheVariants.{More, Finished}
use Rattle.merge_rows.specs.Merging.{AreApart, IsMerging}
use Rattle.merge_rows.specs.Runs.{WritesOnly}
use Rattle.merge_rows.specs.Telling.{AllTell, AreTold}
use Rattle.merge_rows.specs.Turns.{IfMore, IfFinished, HoldsMerged}
use Rattle.root_slots.specs.Root.{is_fresh, files_of}
use Rattle.root_slots.specs.declared.TheConstants.{TABLES_MOST}
use Rattle.row_store.specs.declared.merges.Pending.{Pending}
use Rattle.row_store.specs.declared.row_store.InForce.{InForce}
use Rattle.row_store.specs.declared.row_store.RowStore.{RowStore}
use Rattle.row_store.specs.Answers.{table_fault_of, IsCopyAnswer, IsStoreWriting}
use Rattle.row_store.specs.Files.{named_by}
use Rattle.row_store.specs.Steps.{IsKeeping}
use Rattle.row_store.specs.Store.{TellsAll}
use Rattle.row_store.specs.Turning.{IsTurned}
use Rattle.row_store.specs.Value.{AreNamed, AreReady, IsForceReady, IsMergeReady, IsReady}
use Rattle.row_store.proofs.Apart.{fresh_among, root_parts}
use Rattle.row_store.proofs.Merged.{files_length}
use Rattle.row_store.proofs.Pendings.{all_in}
use Rattle.row_store.proofs.Going.{keeping_leaves}
use Rattle.row_store.proofs.Joined.{cause_ok, cause_table, failed_table}
use Rattle.row_store.proofs.Leaving.{cause_as, same_refusal, leaves_writing}
use Rattle.sorted_table.specs.declared.fault.TableFault.{TableFault}
use Rattle.sorted_table.specs.declared.fault.TableFault.TheVariants as table
use Rattle.sorted_table.specs.declared.table_row.TableRow.{TableRow}
use Rattle.sorted_table.specs.Tables.{TableState, HasRows, IsDurable, IsReady as IsTableReady}

pub ready_behind : (newer : ℕ) (tables : List TableState) (seen : Contents) (sizes : Lengths) → AreReady tables seen sizes → AreReady (drop newer tables) seen sizes
ready_behind zero tables seen sizes ready = ready
ready_behind (suc newer) [] seen sizes ready = tt
ready_behind (suc newer) (first ∷ tables) seen sizes ready = ready_behind newer tables seen sizes ready.1

all_told : (tables : List TableState) (seen : Contents) → TellsAll seen → AreTold tables seen
all_told [] seen tells = tt
all_told (first ∷ tables) seen tells = (tells first.file, all_told tables seen tells)

pub merge_answer : (T U : Type 0) (file : ℕ) (tables : List TableState) (seen : Contents) (fault : TableFault) → IsMergeAnswer {T = T} tables seen (Err fault) → IsCopyAnswer {T = U} (TellsAll seen) (Err (table_fault_of file fault))
merge_answer T U file tables seen table.Device answer = tt
merge_answer T U file tables seen (table.Damaged place damage) answer = λ tells. answer (all_told tables seen tells)
merge_answer T U file tables seen table.OutOfMemory answer = tt

-- the tables behind so many, as a slice of all
pub turned_tables : (turn : Turn) (file : ℕ) (xs tables : List TableState) (newer : ℕ) (seen : Contents) (sizes : Lengths) (images : Image → Type 0) → xs ≡ tables → IsTurned turn file (take (length xs - newer) (drop newer xs)) seen sizes images
    → IsTurned turn file (drop newer tables) seen sizes images
turned_tables turn file xs tables newer seen sizes images same turned =
    let P : List TableState → Type 0 = λ t. IsTurned turn file t seen sizes images in
    let Q : List TableState → Type 0 = λ t. IsTurned turn file (drop newer t) seen sizes images in
    subst Q same (subst P (take_all (length xs - newer) (drop newer xs) (omega (arith, length-drop newer xs))) turned)

-- a file that the root does not name is none of the tables'
pub apart_of : (tables : List TableState) (force : Option InForce) (file : ℕ) → AreNamed force tables → is_fresh file (named_by force) ≡ true → AreApart tables file
apart_of tables None file named fresh = subst (λ (t : List TableState). AreApart t file) (sym named) tt
apart_of tables (Some force) file named fresh =
    all_in (λ other. other ≢ file) tables force.root.tables named.0 (λ k other below at. fresh_among file (files_of force.root) other fresh (suc (suc k), omega (arith, below), at))

pub named_of : (force : Option InForce) (tables : List TableState) (seen : Contents) (sizes : Lengths) (images : Image → Type 0) → IsForceReady force tables seen sizes images → AreNamed force tables
named_of None tables seen sizes images ready = ready
named_of (Some force) tables seen sizes images ready = (ready.0, ready.1.root)

pub few_tables : (force : Option InForce) (tables : List TableState) → AreNamed force tables → length tables ≤ TABLES_MOST
few_tables None tables named = subst (λ (t : List TableState). length t ≤ TABLES_MOST) (sym named) (omega arith)
few_tables (Some force) tables named =
    let same : length force.root.tables ≡ length tables = ap length (sym named.0) ∙ files_length tables in
    omega (arith, same, (root_parts force.root named.1).few)

-- what a turn came to
pub turned_by : (turn : Turn) (merge : Merge) (file : ℕ) (tables : List TableState) (seen seen' : Contents) (sizes sizes' : Lengths) (images' : Image → Type 0) → merge.builder.file ≡ file → AreApart tables merge.builder.file → IsElsewhereUnchanged merge.builder.file seen seen' sizes sizes'
    → IfMore (Ok turn) (λ now. now.builder.file ≡ merge.builder.file) → IfMore (Ok turn) (λ now. IsMerging now tables seen' sizes') → IfFinished (Ok turn) (λ t. t.file ≡ merge.builder.file)
    → IfFinished (Ok turn) (λ t. (lists : List (List TableRow)) → AllTell HasRows tables seen lists → HoldsMerged t seen' lists) → IfFinished (Ok turn) (λ t. IsTableReady t seen' sizes') → IfFinished (Ok turn) (λ t. IsDurable merge.builder.file seen' images')
    → IsTurned turn file tables seen' sizes' images'
turned_by (More now) merge file tables seen seen' sizes sizes' images' is apart same more_file merging file_is rows ready durable = (more_file ∙ is, merging)
turned_by (Finished t) merge file tables seen seen' sizes sizes' images' is apart same more_file merging file_is rows ready durable = (
  file_is ∙ is,
  record {
    ready = ready;
    durable = subst (λ (f : ℕ). IsDurable f seen' images') (sym file_is) durable;
    rows = λ lists tell. rows lists (tell_before HasRows tables seen seen' lists (stay_apart tables merge.builder.file seen seen' apart same.bytes) tell);
  },
)

pub turned_at : (result : Result Turn TableFault) (turn : Turn) (merge : Merge) (file : ℕ) (tables : List TableState) (seen seen' : Contents) (sizes sizes' : Lengths) (images' : Image → Type 0) → result ≡ Ok turn → merge.builder.file ≡ file → AreApart tables merge.builder.file
    → IsElsewhereUnchanged merge.builder.file seen seen' sizes sizes' → IfMore result (λ now. now.builder.file ≡ merge.builder.file) → IfMore result (λ now. IsMerging now tables seen' sizes') → IfFinished result (λ t. t.file ≡ merge.builder.file)
    → IfFinished result (λ t. (lists : List (List TableRow)) → AllTell HasRows tables seen lists → HoldsMerged t seen' lists) → IfFinished result (λ t. IsTableReady t seen' sizes') → IfFinished result (λ t. IsDurable merge.builder.file seen' images')
    → IsTurned turn file tables seen' sizes' images'
turned_at result turn merge file tables seen seen' sizes sizes' images' given is apart same more_file merging file_is rows ready durable =
    let A : Result Turn TableFault → Type 0 = λ r. IfMore r (λ now. now.builder.file ≡ merge.builder.file) in
    let B : Result Turn TableFault → Type 0 = λ r. IfMore r (λ now. IsMerging now tables seen' sizes') in
    let C : Result Turn TableFault → Type 0 = λ r. IfFinished r (λ t. t.file ≡ merge.builder.file) in
    let E : Result Turn TableFault → Type 0 = λ r. IfFinished r (λ t. (lists : List (List TableRow)) → AllTell HasRows tables seen lists → HoldsMerged t seen' lists) in
    let F : Result Turn TableFault → Type 0 = λ r. IfFinished r (λ t. IsTableReady t seen' sizes') in
    let G : Result Turn TableFault → Type 0 = λ r. IfFinished r (λ t. IsDurable merge.builder.file seen' images') in
    turned_by turn merge file tables seen seen' sizes sizes' images' is apart same (subst A given more_file) (subst B given merging) (subst C given file_is) (subst E given rows) (subst F given ready) (subst G given durable)

zero_apart : (file : ℕ) (files : List ℕ) → is_fresh file files ≡ true → 0 ≢ file
zero_apart file files fresh same =
    let wrong : true ≡ false = sym fresh ∙ ap (λ n. is_fresh n files) (sym same) in
    cc

module _ {D : Type 0} {seen : D → Contents} {sizes : D → Lengths} {images : D → Image → Type 0} {moment : D → ℕ} {since : D → ℕ → Image → Type 0} {faults : D → ℕ} {leads fails_by : D → D → Type 0} where
  pub writing_ok : {T U : Type 0} (done : T) (now : U) (file other : ℕ) (a b : D) → other ≡ file → WritesOnly seen sizes images moment since faults leads fails_by other a b (Ok done) → IsStoreWriting seen sizes images moment since faults leads fails_by file a b (Ok now)
  writing_ok done now file other a b same writes = subst (λ (f : ℕ). IsStoreWriting seen sizes images moment since faults leads fails_by f a b (Ok now)) same (record {
    elsewhere = writes.elsewhere;
    told = writes.told;
    any_moment = writes.any_moment;
    cause = cause_ok (faults a) (faults b) now writes.cause.kept;
    lasts = writes.lasts;
    failed = λ device. cc;
  })

  -- another answer
  pub writing_as : {T U : Type 0} (done : T) (now : U) (file : ℕ) (a b : D) → IsStoreWriting seen sizes images moment since faults leads fails_by file a b (Ok done) → IsStoreWriting seen sizes images moment since faults leads fails_by file a b (Ok now)
  writing_as done now file a b writes = record {
    elsewhere = writes.elsewhere;
    told = writes.told;
    any_moment = writes.any_moment;
    cause = cause_ok (faults a) (faults b) now writes.cause.kept;
    lasts = writes.lasts;
    failed = λ device. cc;
  }

  -- a refusal that is passed on
  pub writing_refused : {T U : Type 0} (fault : StoreFault) (file : ℕ) (a b : D) → IsStoreWriting {T = T} seen sizes images moment since faults leads fails_by file a b (Err fault) → IsStoreWriting {T = U} seen sizes images moment since faults leads fails_by file a b (Err fault)
  writing_refused {T = T} {U = U} fault file a b writes = record {
    elsewhere = writes.elsewhere;
    told = writes.told;
    any_moment = writes.any_moment;
    cause = cause_as {T = T} {U = U} (faults a) (faults b) fault writes.cause;
    lasts = writes.lasts;
    failed = λ is. writes.failed (same_refusal T U fault is);
  }

  pub writing_err : {T U : Type 0} (fault : TableFault) (at file other : ℕ) (a b : D) → other ≡ file → WritesOnly {T = T} seen sizes images moment since faults leads fails_by other a b (Err fault)
      → IsStoreWriting {T = U} seen sizes images moment since faults leads fails_by file a b (Err (table_fault_of at fault))
  writing_err {T = T} {U = U} fault at file other a b same writes = subst (λ (f : ℕ). IsStoreWriting {T = U} seen sizes images moment since faults leads fails_by f a b (Err (table_fault_of at fault))) same (record {
    elsewhere = writes.elsewhere;
    told = writes.told;
    any_moment = writes.any_moment;
    cause = cause_table {T = T} {U = U} (faults a) (faults b) at fault writes.cause;
    lasts = writes.lasts;
    failed = failed_table {T = T} {U = U} at fault writes.failed;
  })

  -- a step that wrote the file of a merge
  pub keeping_turned : {T : Type 0} (r : Result T StoreFault) (store : RowStore) (pool : Frames) (file : ℕ) (merge : Option Pending) (stopped : Bool) (a b : D) → ((t : ℕ) (image : Image) → t ≤ moment b → images b image → since b t image)
      → IsReady store (seen a) (sizes a) (images a) → is_fresh file (named_by store.force) ≡ true → IsStoreWriting seen sizes images moment since faults leads fails_by file a b r → free_frames pool ≡ free_frames store.pool
      → IsMergeReady merge (named_by store.force) store.tables.items (seen b) (sizes b) → OnOk r (stopped ≡ false) → (IsErrOf r Device → stopped ≡ true)
      → IsKeeping seen sizes images moment since faults leads fails_by store (record store { pool = pool; merge = merge; stopped = stopped }) a b r
  keeping_turned r store pool file merge stopped a b counts ready fresh writes frames merging runs stops =
      keeping_leaves r (λ other. other ≢ file) store pool merge stopped a b counts (zero_apart file (named_by store.force) fresh) (λ other among. fresh_among file (named_by store.force) other fresh among) ready
      (leaves_writing r (λ other. other ≢ file) file a b (λ other is. is) writes) frames merging runs stops
