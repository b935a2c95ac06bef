-- What a flush wrote is what it brings into force.
use Rattle.std.proofs.Common.{◌≡◌, ◌∙◌, sym, ap, subst, refl, ℕ, zero, suc, ◌<◌, List, [], ◌∷◌, length, Option, Some, None, true, arith}
use Rattle.std.specs.Prelude.{Contains, IfSome, IsSome, unwrap_or, slice_index_or}
use Rattle.gate_log.specs.LogState.{LogState, IsLogOf, open_log}
use Rattle.mds_base.specs.RowKeys.{RowMap}
use Rattle.mds_out.specs.Disk.{Image, Contents, Lengths}
use Rattle.mds_out.specs.Known.{OnTold}
use Rattle.root_slots.specs.declared.root.Root.{Root}
use Rattle.root_slots.specs.Root.{is_fresh, files_of}
use Rattle.row_store.specs.declared.merges.Pending.{Pending}
use Rattle.row_store.specs.declared.row_store.InForce.{InForce}
use Rattle.row_store.specs.declared.row_store.RowStore.{RowStore}
use Rattle.row_store.specs.Files.{named_by, tables_named}
use Rattle.row_store.specs.Parts.{IsTableOf, IsNext, in_front, file_of, shifted}
use Rattle.row_store.specs.Rows.{laid_over, rows_of, rows_under}
use Rattle.row_store.specs.Store.{Kept, HoldsState, TellsAll, reading, flushed, base_of}
use Rattle.row_store.specs.Value.{HaveRows, Keeps, AreReady, IsAsNamed, IsForceReady, IsMergeReady, IsReady}
use Rattle.row_store.proofs.Appends.{log_left}
use Rattle.row_store.proofs.Entering.{IsCandidate, HasCandidate}
use Rattle.row_store.proofs.Keeping.{files_of_tables}
use Rattle.row_store.proofs.Maps.{some_under}
use Rattle.row_store.proofs.Told.{told_is}
use Rattle.sorted_table.specs.declared.table_row.TableRow.{TableRow}
use Rattle.sorted_table.specs.Tables.{TableState, HasRows, IsDurable}

pub durable_left : (file : ℕ) (seen : Contents) (images : Image → Type 0) (crashed : Image) → IsSome (seen file) → IsDurable file seen images → images crashed → crashed file ≡ reading seen file
durable_left file seen images crashed some durable left = at (seen file) some durable
  where
    at : (told : Option (List ℕ)) → IsSome told → OnTold told (λ bytes. (image : Image) → images image → image file ≡ bytes) → crashed file ≡ unwrap_or told []
    at None some durable = cc
    at (Some bytes) some durable = durable crashed left

-- the tables of the root in force
pub named_tables_are : (force : Option InForce) (tables : List TableState) (seen : Contents) (sizes : Lengths) (images : Image → Type 0) → IsForceReady force tables seen sizes images → files_of_tables tables ≡ tables_named force
named_tables_are None tables seen sizes images ready = ap files_of_tables ready
named_tables_are (Some force) tables seen sizes images ready = ready.0

pub named_tables_left : (force : Option InForce) (image crashed : Image) → IsAsNamed force image crashed → (k file : ℕ) → k < length (tables_named force) → slice_index_or (tables_named force) k file ≡ file → crashed file ≡ image file
named_tables_left None image crashed named k file below at = absurd (omega arith)
named_tables_left (Some force) image crashed named k file below at = named.files file (suc (suc k), omega arith, at)

front_files : (table : Option TableState) (tables : List TableState) → files_of_tables (in_front table tables) ≡ in_front (file_of table) (files_of_tables tables)
front_files None tables = refl
front_files (Some table) tables = refl

front_ready : (table : Option TableState) (file : ℕ) (rows : List TableRow) (tables : List TableState) (seen : Contents) (sizes : Lengths) (images : Image → Type 0) → IsTableOf table file rows seen sizes images → AreReady tables seen sizes → AreReady (in_front table tables) seen sizes
front_ready None file rows tables seen sizes images made ready = ready
front_ready (Some table) file rows tables seen sizes images made ready = (made.ready, ready)

front_left : (table : Option TableState) (table_file : ℕ) (rows : List TableRow) (older : List ℕ) (seen : Contents) (sizes : Lengths) (images : Image → Type 0) (crashed : Image) → TellsAll seen → images crashed → IsTableOf table table_file rows seen sizes images
    → ((k file : ℕ) → k < length older → slice_index_or older k file ≡ file → crashed file ≡ reading seen file)
    → (k file : ℕ) → k < length (in_front (file_of table) older) → slice_index_or (in_front (file_of table) older) k file ≡ file → crashed file ≡ reading seen file
front_left None table_file rows older seen sizes images crashed tells left made old k file below at = old k file below at
front_left (Some table) table_file rows older seen sizes images crashed tells left made old zero file below at =
    subst (λ (f : ℕ). crashed f ≡ reading seen f) at (durable_left table.file seen images crashed (tells table.file) made.durable left)
front_left (Some table) table_file rows older seen sizes images crashed tells left made old (suc k) file below at = old k file (omega arith) at

module _ (store : RowStore) (root : Root) (log : LogState) (table : Option TableState) (seen : Contents) (sizes : Lengths) (images : Image → Type 0) (next : IsNext store root log table seen sizes images) (ready : IsReady store seen sizes images) where
  pub flush_candidate : IsCandidate root log (in_front table store.tables.items) seen sizes images
  flush_candidate = subst (λ (l : LogState). IsCandidate root l (in_front table store.tables.items) seen sizes images) (sym next.log_is) (record {
    is = next.is;
    log_file = refl;
    running = refl;
    log_ready = next.log_ready;
    files = front_files table store.tables.items ∙ ap (in_front (file_of table)) (named_tables_are store.force store.tables.items seen sizes images ready.force) ∙ sym next.files;
    tables_ready = front_ready table next.table_file (rows_of store.fresh.entries) store.tables.items seen sizes images next.made ready.tables;
    lasting = lasting;
  })
    where
      lasting : TellsAll seen → (crashed : Image) → images crashed → (file : ℕ) → Contains (files_of root) file → crashed file ≡ reading seen file
      lasting tells crashed left file (zero, below, at) =
          subst (λ (f : ℕ). crashed f ≡ reading seen f) at (durable_left root.state seen images crashed (tells root.state) next.state_durable left)
      lasting tells crashed left file (suc zero, below, at) =
          subst (λ (f : ℕ). crashed f ≡ reading seen f) at (log_left (open_log root.log_file 1) (seen root.log_file) images crashed (tells root.log_file) next.log_ready.told left)
      lasting tells crashed left file (suc (suc k), below, at) =
          let P : List ℕ → Type 0 = λ files. k < length files → slice_index_or files k file ≡ file → crashed file ≡ reading seen file in
          subst P (sym next.files)
          (front_left table next.table_file (rows_of store.fresh.entries) (tables_named store.force) seen sizes images crashed tells left next.made
          (named_tables_left store.force (reading seen) crashed (ready.steady tells crashed left)) k file) (omega arith) at

  pub flush_has : (state : List ℕ) (held : Option Kept) (rows : RowMap) → TellsAll seen → OnTold (seen root.state) (HoldsState state) → Keeps store held rows (reading seen) → HasCandidate root log (in_front table store.tables.items) (flushed rows state) (reading seen)
  flush_has state held rows tells written keeps =
      let under = some_under store.force store.tables.items held (reading seen) keeps.by in
      let front = fronted table next.table_file next.made (base_of held) under.0 rows under.1 under.2 keeps.rows_are in
      record {
        rows = front.0;
        state = told_is (seen root.state) (HoldsState state) (tells root.state) written;
        bodies = subst (λ (l : LogState). IsLogOf l [] (reading seen root.log_file)) (sym next.log_is) (told_is (seen root.log_file) (IsLogOf (open_log root.log_file 1) []) (tells root.log_file) next.empty);
        hold = front.1;
        base = front.2;
      }
    where
      fronted : (table : Option TableState) (file : ℕ) → IsTableOf table file (rows_of store.fresh.entries) seen sizes images → (base : RowMap) (olds : List (List TableRow)) (rows : RowMap) → HaveRows store.tables.items olds (reading seen) → base ≡ rows_under olds
          → rows ≡ laid_over base (rows_of store.fresh.entries) → (lists : List (List TableRow)) × HaveRows (in_front table store.tables.items) lists (reading seen) × (rows ≡ rows_under lists)
      fronted None file made base olds rows have under is = (olds, have, is ∙ ap (laid_over base) made ∙ under)
      fronted (Some t) file made base olds rows have under is = (
        rows_of store.fresh.entries ∷ olds,
        (told_is (seen t.file) (HasRows t (rows_of store.fresh.entries)) (tells t.file) made.holds, have),
        is ∙ ap (λ (m : RowMap). laid_over m (rows_of store.fresh.entries)) under,
      )

  pub flush_pending : IsMergeReady (shifted table store.merge) (files_of root) (in_front table store.tables.items) seen sizes
  flush_pending = shift table store.merge ready.merging next.apart
    where
      shift : (table : Option TableState) (merge : Option Pending) → IsMergeReady merge (named_by store.force) store.tables.items seen sizes → IfSome merge (λ pending. is_fresh pending.file (files_of root) ≡ true)
          → IsMergeReady (shifted table merge) (files_of root) (in_front table store.tables.items) seen sizes
      shift None None merging apart = tt
      shift None (Some pending) merging apart = record { file_is = merging.file_is; apart = apart; some = merging.some; merging = merging.merging }
      shift (Some t) None merging apart = tt
      shift (Some t) (Some pending) merging apart = record { file_is = merging.file_is; apart = apart; some = omega (arith, merging.some); merging = merging.merging }
