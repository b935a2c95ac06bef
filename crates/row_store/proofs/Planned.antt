-- The root that a flush plans is one that a slot can have.
use Rattle.std.proofs.Common.{◌≡◌, ◌≢◌, ◌∙◌, sym, ap, subst, refl, ℕ, ◌<◌, ◌≤◌, List, ◌∷◌, length, Option, Some, None, true, arith}
use Rattle.std.specs.Prelude.{IfSome}
use Rattle.gate_log.specs.LogState.{open_log}
use Rattle.mds_out.specs.Disk.{Image, Contents, Lengths}
use Rattle.root_slots.specs.declared.root.Root.{Root}
use Rattle.root_slots.specs.declared.TheConstants.{TABLES_MOST}
use Rattle.root_slots.specs.Root.{is_fresh, are_apart, is_root, files_of}
use Rattle.row_store.specs.declared.merges.Pending.{Pending}
use Rattle.row_store.specs.declared.plans.FreeFiles.{FreeFiles}
use Rattle.row_store.specs.declared.row_store.InForce.{InForce}
use Rattle.row_store.specs.declared.row_store.RowStore.{RowStore}
use Rattle.row_store.specs.Files.{AreFree, in_use, named_by, tables_named}
use Rattle.row_store.specs.Parts.{AreBegun, IsTableOf, IsNext, IsNextNumber, in_front, file_of}
use Rattle.row_store.specs.Rows.{rows_of}
use Rattle.row_store.specs.Value.{IsForceReady, IsMergeReady, IsReady}
use Rattle.row_store.proofs.Apart.{root_parts, root_of_parts, fresh_parts, fresh_more, apart_more}
use Rattle.row_store.proofs.Flushing.{named_tables_are}
use Rattle.row_store.proofs.Merged.{files_length}
use Rattle.sorted_table.specs.declared.table_row.TableRow.{TableRow}
use Rattle.sorted_table.specs.Tables.{TableState}

tables_among : (force : Option InForce) (file : ℕ) → is_fresh file (named_by force) ≡ true → is_fresh file (tables_named force) ≡ true
tables_among None file fresh = fresh
tables_among (Some force) file fresh = (fresh_parts file force.root.log_file force.root.tables (fresh_parts file force.root.state (force.root.log_file ∷ force.root.tables) fresh).1).1

-- what is free is none of the tables
fresh_tables : (merge : Option Pending) (force : Option InForce) (file : ℕ) → is_fresh file (in_use merge force) ≡ true → is_fresh file (tables_named force) ≡ true
fresh_tables None force file fresh = tables_among force file fresh
fresh_tables (Some pending) force file fresh = tables_among force file (fresh_parts file pending.file (named_by force) fresh).1

named_apart : (force : Option InForce) (tables : List TableState) (seen : Contents) (sizes : Lengths) (images : Image → Type 0) → IsForceReady force tables seen sizes images → are_apart (tables_named force) ≡ true
named_apart None tables seen sizes images ready = refl
named_apart (Some force) tables seen sizes images ready = (root_parts force.root ready.1.root).tables

some_number : (force : Option InForce) (number : ℕ) → IsNextNumber force number → number ≢ 0
some_number None number next none = omega (arith, next, none)
some_number (Some force) number next none = omega (arith, next, none)

front_fresh : (table : Option TableState) (file own : ℕ) (rows : List TableRow) (older : List ℕ) (seen : Contents) (sizes : Lengths) (images : Image → Type 0) → IsTableOf table own rows seen sizes images → own ≢ file → is_fresh file older ≡ true
    → is_fresh file (in_front (file_of table) older) ≡ true
front_fresh None file own rows older seen sizes images made apart fresh = fresh
front_fresh (Some table) file own rows older seen sizes images made apart fresh = fresh_more file table.file older (λ same. apart (sym made.file_is ∙ same)) fresh

front_apart : (table : Option TableState) (own : ℕ) (rows : List TableRow) (older : List ℕ) (seen : Contents) (sizes : Lengths) (images : Image → Type 0) → IsTableOf table own rows seen sizes images → is_fresh own older ≡ true → are_apart older ≡ true
    → are_apart (in_front (file_of table) older) ≡ true
front_apart None own rows older seen sizes images made fresh apart = apart
front_apart (Some table) own rows older seen sizes images made fresh apart = apart_more table.file older (subst (λ (f : ℕ). is_fresh f older ≡ true) (sym made.file_is) fresh) apart

front_few : (table : Option TableState) (older : List ℕ) → length older < TABLES_MOST → length (in_front (file_of table) older) ≤ TABLES_MOST
front_few None older few = omega (arith, few)
front_few (Some table) older few = omega (arith, few)

-- the root of a flush
abbrev pub planned_root : FreeFiles → ℕ → Option TableState → Option InForce → Root
planned_root files number table force = record { number = number; state = files.state; log_file = files.log_file; tables = in_front (file_of table) (tables_named force) }

module _ (store : RowStore) (files : FreeFiles) (number : ℕ) (table : Option TableState) (state : List ℕ) (before seen : Contents) (sizes_before sizes : Lengths) (images_before images : Image → Type 0) (ready : IsReady store before sizes_before images_before)
    (few : length store.tables.items < TABLES_MOST) (free : AreFree files (in_use store.merge store.force)) (next : IsNextNumber store.force number) (begun : AreBegun files.state files.log_file state seen sizes images)
    (made : IsTableOf table files.table (rows_of store.fresh.entries) seen sizes images) where
  abbrev older : List ℕ
  older = tables_named store.force

  is : is_root (planned_root files number table store.force) ≡ true
  is =
      let same : length older ≡ length store.tables.items = ap length (sym (named_tables_are store.force store.tables.items before sizes_before images_before ready.force)) ∙ files_length store.tables.items in
      root_of_parts (planned_root files number table store.force) (some_number store.force number next) (record {
        few = front_few table older (omega (arith, same, few));
        state = front_fresh table files.state files.table (rows_of store.fresh.entries) older seen sizes images made free.table_apart (fresh_tables store.merge store.force files.state free.state);
        log_file = front_fresh table files.log_file files.table (rows_of store.fresh.entries) older seen sizes images made free.tables_apart (fresh_tables store.merge store.force files.log_file free.log_file);
        apart = λ same. free.log_apart (sym same);
        tables = front_apart table files.table (rows_of store.fresh.entries) older seen sizes images made (fresh_tables store.merge store.force files.table free.table)
            (named_apart store.force store.tables.items before sizes_before images_before ready.force);
      })

  merge_apart : IfSome store.merge (λ pending. is_fresh pending.file (files_of (planned_root files number table store.force)) ≡ true)
  merge_apart = at store.merge ready.merging free
    where
      at : (merge : Option Pending) → IsMergeReady merge (named_by store.force) store.tables.items before sizes_before → AreFree files (in_use merge store.force) → IfSome merge (λ pending. is_fresh pending.file (files_of (planned_root files number table store.force)) ≡ true)
      at None merging free' = tt
      at (Some pending) merging free' =
          let first = (fresh_parts files.state pending.file (named_by store.force) free'.state).0 in
          let second = (fresh_parts files.log_file pending.file (named_by store.force) free'.log_file).0 in
          let third = (fresh_parts files.table pending.file (named_by store.force) free'.table).0 in
          fresh_more pending.file files.state (files.log_file ∷ in_front (file_of table) older) (λ same. first (sym same))
          (fresh_more pending.file files.log_file (in_front (file_of table) older) (λ same. second (sym same))
          (front_fresh table pending.file files.table (rows_of store.fresh.entries) older seen sizes images made (λ same. third (sym same)) (tables_among store.force pending.file merging.apart)))

  pub next_planned : IsNext store (planned_root files number table store.force) (open_log files.log_file 1) table seen sizes images
  next_planned = record {
    is = is;
    number = next;
    log_is = refl;
    files = refl;
    apart = merge_apart;
    state_durable = begun.state_durable;
    log_ready = begun.log_ready;
    empty = begun.empty;
    table_file = files.table;
    made = made;
  }
