-- What a merge made stands for what its tables stood for.
use Rattle.std.proofs.Common.{◌≡◌, ◌∙◌, sym, ap, subst, refl, ℕ, zero, suc, ◌+◌, ◌<◌, ◌≤◌, List, [], ◌∷◌, ◌++◌, length, take, drop, Option, Some, None, true, arith}
use Rattle.std.specs.Prelude.{Contains, IsSome, unwrap_or, slice_index_or}
use Rattle.std.specs.FinMap as map
use Rattle.gate_log.specs.LogState.{IsLogOf}
use Rattle.mds_base.proofs.RowMaps.{same_rows}
use Rattle.mds_base.specs.declared.row_key.RowKey.{RowKey}
use Rattle.mds_base.specs.RowKeys.{RowMap, row_key_cmp}
use Rattle.mds_out.specs.Disk.{Image, Contents, Lengths}
use Rattle.merge_rows.specs.Merged.{or_older, newest, live, IsMerged}
use Rattle.merge_rows.specs.Telling.{AllTell}
use Rattle.root_slots.specs.declared.root.Root.{Root}
use Rattle.root_slots.specs.declared.TheConstants.{TABLES_MOST}
use Rattle.root_slots.specs.Crash.{IsUnder}
use Rattle.root_slots.specs.Root.{is_fresh, are_apart, is_root, files_of}
use Rattle.row_store.specs.declared.row_store.InForce.{InForce}
use Rattle.row_store.specs.declared.row_store.RowStore.{RowStore}
use Rattle.row_store.specs.Rows.{laid_over, rows_under}
use Rattle.row_store.specs.Store.{Kept, HoldsState, TellsAll, reading}
use Rattle.row_store.specs.Turning.{IsMergedTable, IsRootMerged}
use Rattle.row_store.specs.Value.{HaveRows, IsOpenOn, KeepsBy, Keeps, AreReady, IsAsNamed, IsForceReady, IsReady}
use Rattle.row_store.proofs.Apart.{root_parts, root_of_parts, fresh_parts, fresh_take, fresh_end, apart_merged}
use Rattle.row_store.proofs.Entering.{IsCandidate, HasCandidate}
use Rattle.row_store.proofs.Flushing.{durable_left}
use Rattle.row_store.proofs.Keeping.{files_of_tables}
use Rattle.row_store.proofs.Maps.{held_or, get-laid_over}
use Rattle.row_store.proofs.Told.{told_is}
use Rattle.sorted_table.specs.declared.table_row.Held.{Held}
use Rattle.sorted_table.specs.declared.table_row.Held.TheVariants.{Absent, Tomb, Row}
use Rattle.sorted_table.specs.declared.table_row.TableRow.{TableRow}
use Rattle.sorted_table.specs.TableRows.{held_in}
use Rattle.sorted_table.specs.Tables.{TableState, HasRows, IsReady as IsTableReady}

-- ---- maps

older_or : (held older : Held) → held_or held (held_or older None) ≡ held_or (or_older held older) None
older_or Absent older = refl
older_or Tomb older = refl
older_or (Row attr) older = refl

live_or : (held : Held) → held_or (live held) None ≡ held_or held None
live_or Absent = refl
live_or Tomb = refl
live_or (Row attr) = refl

get-under : (tables : List (List TableRow)) (q : RowKey) → map.get (rows_under tables) q ≡ held_or (newest tables q) None
get-under [] q = map.get-empty row_key_cmp q
get-under (table ∷ older) q = get-laid_over (rows_under older) table q ∙ ap (held_or (held_in table q)) (get-under older q) ∙ older_or (held_in table q) (newest older q)

merged_all : (tables : List (List TableRow)) (rows : List TableRow) → IsMerged tables rows → rows_under (rows ∷ []) ≡ rows_under tables
merged_all tables rows merged = same_rows (rows_under (rows ∷ [])) (rows_under tables) (λ q.
    get-laid_over (rows_under []) rows q ∙ ap (held_or (held_in rows q)) (map.get-empty row_key_cmp q) ∙ ap (λ held. held_or held None) (merged.each q) ∙ live_or (newest tables q) ∙ sym (get-under tables q))

-- tables in the place of those that they were merged from
pub merged_under : (newer : ℕ) (tables : List (List TableRow)) (rows : List TableRow) → IsMerged (drop newer tables) rows → rows_under (take newer tables ++ rows ∷ []) ≡ rows_under tables
merged_under zero tables rows merged = merged_all tables rows merged
merged_under (suc newer) [] rows merged = merged_all [] rows merged
merged_under (suc newer) (table ∷ tables) rows merged = ap (λ (m : RowMap). laid_over m table) (merged_under newer tables rows merged)

-- ---- lists of tables

abbrev pub with_merged : {X : Type 0} → ℕ → List X → X → List X
with_merged newer tables table = take newer tables ++ table ∷ []

merged_files : (newer : ℕ) (tables : List TableState) (table : TableState) → files_of_tables (with_merged newer tables table) ≡ with_merged newer (files_of_tables tables) table.file
merged_files zero tables table = refl
merged_files (suc newer) [] table = refl
merged_files (suc newer) (first ∷ tables) table = ap (λ (fs : List ℕ). first.file ∷ fs) (merged_files newer tables table)

merged_ready : (newer : ℕ) (tables : List TableState) (table : TableState) (seen : Contents) (sizes : Lengths) → IsTableReady table seen sizes → AreReady tables seen sizes → AreReady (with_merged newer tables table) seen sizes
merged_ready zero tables table seen sizes ready are = (ready, tt)
merged_ready (suc newer) [] table seen sizes ready are = (ready, tt)
merged_ready (suc newer) (first ∷ tables) table seen sizes ready are = (are.0, merged_ready newer tables table seen sizes ready are.1)

-- each is one of the files, or the last
one_of_merged : (P : ℕ → Type 0) (newer : ℕ) (files : List ℕ) (last : ℕ) → ((k file : ℕ) → k < length files → slice_index_or files k file ≡ file → P file) → P last
    → (k file : ℕ) → k < length (with_merged newer files last) → slice_index_or (with_merged newer files last) k file ≡ file → P file
one_of_merged P zero files last each at_last zero file below at = subst P at at_last
one_of_merged P zero files last each at_last (suc k) file below at = absurd (omega arith)
one_of_merged P (suc newer) [] last each at_last zero file below at = subst P at at_last
one_of_merged P (suc newer) [] last each at_last (suc k) file below at = absurd (omega arith)
one_of_merged P (suc newer) (first ∷ files) last each at_last zero file below at = each zero file (omega arith) at
one_of_merged P (suc newer) (first ∷ files) last each at_last (suc k) file below at =
    one_of_merged P newer files last (λ j other less is. each (suc j) other (omega arith) is) at_last k file (omega arith) at

pub merged_length : {X : Type 0} (newer : ℕ) (xs : List X) (x : X) → newer ≤ length xs → length (with_merged newer xs x) ≡ newer + 1
merged_length zero xs x within = refl
merged_length (suc newer) [] x within = absurd (omega arith)
merged_length (suc newer) (first ∷ xs) x within = let rest = merged_length newer xs x (omega arith) in omega (arith, rest)

pub merged_rows_have : (newer : ℕ) (tables : List TableState) (rows : List (List TableRow)) (table : TableState) (merged : List TableRow) (image : Image) → HaveRows tables rows image → HasRows table merged (image table.file)
    → HaveRows (with_merged newer tables table) (with_merged newer rows merged) image
merged_rows_have zero tables rows table merged image have has = (has, tt)
merged_rows_have (suc newer) [] [] table merged image have has = (has, tt)
merged_rows_have (suc newer) [] (said ∷ rows) table merged image have has = absurd have
merged_rows_have (suc newer) (first ∷ tables) [] table merged image have has = absurd have
merged_rows_have (suc newer) (first ∷ tables) (said ∷ rows) table merged image have has = (have.0, merged_rows_have newer tables rows table merged image have.1 has)

some_is : (told : Option (List ℕ)) → IsSome told → told ≡ Some (unwrap_or told [])
some_is None some = cc
some_is (Some bytes) some = refl

all_tell : (tables : List TableState) (rows : List (List TableRow)) (seen : Contents) → TellsAll seen → HaveRows tables rows (reading seen) → AllTell HasRows tables seen rows
all_tell [] [] seen tells have = tt
all_tell [] (said ∷ rows) seen tells have = absurd have
all_tell (table ∷ tables) [] seen tells have = absurd have
all_tell (table ∷ tables) (said ∷ rows) seen tells have =
    (record { bytes = reading seen table.file; told = some_is (seen table.file) (tells table.file); has = have.0 }, all_tell tables rows seen tells have.1)

tell_behind : (newer : ℕ) (tables : List TableState) (rows : List (List TableRow)) (seen : Contents) → TellsAll seen → HaveRows tables rows (reading seen) → AllTell HasRows (drop newer tables) seen (drop newer rows)
tell_behind zero tables rows seen tells have = all_tell tables rows seen tells have
tell_behind (suc newer) [] [] seen tells have = tt
tell_behind (suc newer) [] (said ∷ rows) seen tells have = absurd have
tell_behind (suc newer) (table ∷ tables) [] seen tells have = absurd have
tell_behind (suc newer) (table ∷ tables) (said ∷ rows) seen tells have = tell_behind newer tables rows seen tells have.1

pub files_length : (tables : List TableState) → length (files_of_tables tables) ≡ length tables
files_length [] = refl
files_length (table ∷ tables) = let rest = files_length tables in omega (arith, rest)

-- ---- the root

pub merged_is_root : (old root : Root) (newer file : ℕ) → is_root old ≡ true → newer + 1 ≤ length old.tables → is_fresh file (files_of old) ≡ true → IsRootMerged old root newer file → is_root root ≡ true
merged_is_root old root newer file is within fresh merged =
    let parts = root_parts old is in
    let first = fresh_parts file old.state (old.log_file ∷ old.tables) fresh in
    let second = fresh_parts file old.log_file old.tables first.1 in
    let few = merged_length newer old.tables file (omega (arith, within)) in
    root_of_parts root (λ none. omega (arith, none, merged.number)) (record {
      few = subst (λ (fs : List ℕ). length fs ≤ TABLES_MOST) (sym merged.tables) (omega (arith, few, within, parts.few));
      state = subst (λ (fs : List ℕ). is_fresh root.state fs ≡ true) (sym merged.tables)
          (subst (λ (n : ℕ). is_fresh n (take newer old.tables ++ file ∷ []) ≡ true) (sym merged.state) (fresh_end old.state (take newer old.tables) file (fresh_take old.state old.tables newer parts.state) (λ same. first.0 (sym same))));
      log_file = subst (λ (fs : List ℕ). is_fresh root.log_file fs ≡ true) (sym merged.tables)
          (subst (λ (n : ℕ). is_fresh n (take newer old.tables ++ file ∷ []) ≡ true) (sym merged.log_file) (fresh_end old.log_file (take newer old.tables) file (fresh_take old.log_file old.tables newer parts.log_file) (λ same. second.0 (sym same))));
      apart = λ same. parts.apart (sym merged.state ∙ same ∙ merged.log_file);
      tables = subst (λ (fs : List ℕ). are_apart fs ≡ true) (sym merged.tables) (apart_merged old.tables newer file parts.tables second.1);
    })

module _ (store : RowStore) (force : InForce) (root : Root) (newer : ℕ) (table : TableState) (seen : Contents) (sizes : Lengths) (images : Image → Type 0) (was : store.force ≡ Some force) (ready : IsReady store seen sizes images)
    (some : newer + 2 ≤ length store.tables.items) (fresh : is_fresh table.file (files_of force.root) ≡ true) (merged : IsMergedTable table (drop newer store.tables.items) seen sizes images) (next : IsRootMerged force.root root newer table.file) where
  force_ready : IsForceReady (Some force) store.tables.items seen sizes images
  force_ready = subst (λ (f : Option InForce). IsForceReady f store.tables.items seen sizes images) was ready.force

  under : TellsAll seen → (crashed : Image) → images crashed → IsUnder force.root (reading seen) crashed
  under tells crashed left = subst (λ (f : Option InForce). IsAsNamed f (reading seen) crashed) was (ready.steady tells crashed left)

  pub merge_candidate : IsCandidate root force.log (take newer store.tables.items ++ table ∷ []) seen sizes images
  merge_candidate = record {
    is = merged_is_root force.root root newer table.file force_ready.1.root within fresh next;
    log_file = force_ready.1.log_file ∙ sym next.log_file;
    running = force_ready.1.log.running;
    log_ready = force_ready.1.log.ready;
    files = merged_files newer store.tables.items table ∙ ap (λ (fs : List ℕ). take newer fs ++ table.file ∷ []) force_ready.0 ∙ sym next.tables;
    tables_ready = merged_ready newer store.tables.items table seen sizes merged.ready ready.tables;
    lasting = lasting;
  }
    where
      within : newer + 1 ≤ length force.root.tables
      within =
          let same : length force.root.tables ≡ length store.tables.items = ap length (sym force_ready.0) ∙ files_length store.tables.items in
          omega (arith, same, some)

      lasting : TellsAll seen → (crashed : Image) → images crashed → (file : ℕ) → Contains (files_of root) file → crashed file ≡ reading seen file
      lasting tells crashed left file (zero, below, at) = (under tells crashed left).files file (zero, omega arith, sym next.state ∙ at)
      lasting tells crashed left file (suc zero, below, at) = (under tells crashed left).files file (suc zero, omega arith, sym next.log_file ∙ at)
      lasting tells crashed left file (suc (suc k), below, at) =
          let P : List ℕ → Type 0 = λ files. k < length files → slice_index_or files k file ≡ file → crashed file ≡ reading seen file in
          subst P (sym next.tables)
          (one_of_merged (λ f. crashed f ≡ reading seen f) newer force.root.tables table.file (λ j other less is. (under tells crashed left).files other (suc (suc j), omega arith, is))
          (durable_left table.file seen images crashed (tells table.file) merged.durable left) k file) (omega arith) at

  pub merge_has : (kept : Kept) (rows : RowMap) → TellsAll seen → Keeps store (Some kept) rows (reading seen) → HasCandidate root force.log (take newer store.tables.items ++ table ∷ []) kept (reading seen)
  merge_has kept rows tells keeps =
      let by : IsOpenOn force.root force.log store.tables.items kept (reading seen) = subst (λ (f : Option InForce). KeepsBy f store.tables.items (Some kept) (reading seen)) was keeps.by in
      let made = merged.rows (drop newer by.rows) (tell_behind newer store.tables.items by.rows seen tells by.hold) in
      record {
        rows = take newer by.rows ++ made.rows ∷ [];
        state = subst (λ (f : ℕ). HoldsState kept.state (reading seen f)) (sym next.state) by.state;
        bodies = subst (λ (f : ℕ). IsLogOf force.log kept.bodies (reading seen f)) (sym next.log_file) by.bodies;
        hold = merged_rows_have newer store.tables.items by.rows table made.rows (reading seen) by.hold (told_is (seen table.file) (HasRows table made.rows) (tells table.file) made.holds);
        base = by.base ∙ sym (merged_under newer by.rows made.rows made.are);
      }

  pub none_new : (rows : RowMap) (image : Image) → Keeps store None rows image → ⊥
  none_new rows image keeps =
      let wrong : KeepsBy (Some force) store.tables.items None image = subst (λ (f : Option InForce). KeepsBy f store.tables.items None image) was keeps.by in wrong
