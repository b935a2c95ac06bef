-- Another root comes into force: the root decides.
use Rattle.std.proofs.Common.{◌≡◌, ◌≢◌, ◌⊎◌, inl, inr, ⊎_elim, ◌∙◌, sym, ap, subst, refl, ℕ, suc, ◌≤◌, List, [], Option, Some, None, true, false, arith}
use Rattle.std.specs.Prelude.{Contains, IfSome, unwrap_or}
use Rattle.std.specs.BTreeMap as tree
use Rattle.frame_pool.specs.Frames.{free_frames}
use Rattle.gate_log.specs.Log.{HoldsLog}
use Rattle.gate_log.specs.LogState.{LogState, IsLogOf, IsElsewhereOld}
use Rattle.gate_log.specs.LogState as logs
use Rattle.mds_base.specs.declared.row_key.RowKey.{RowKey}
use Rattle.mds_base.specs.RowKeys.{RowMap, row_key_cmp}
use Rattle.mds_out.specs.Disk.{Image, Contents, Lengths, IsElsewhereUnchanged, LeavesOnly}
use Rattle.mds_out.specs.Known.{OnTold}
use Rattle.root_slots.proofs.Crashes.{decides, names_no_zero}
use Rattle.root_slots.specs.Crash.{IsUnder}
use Rattle.root_slots.specs.declared.root.Root.{Root}
use Rattle.root_slots.specs.declared.root_slots.RootSlots.{RootSlots}
use Rattle.root_slots.specs.Root.{is_root, files_of}
use Rattle.root_slots.specs.declared.root_slots.Step.TheVariants.{Begun}
use Rattle.root_slots.specs.Slot.{root_in, root_of}
use Rattle.root_slots.specs.Slots.{IsReady as AreSlotsReady}
use Rattle.row_store.specs.Caching.{AreCached}
use Rattle.row_store.proofs.KeptBlocks.{cached_kept}
use Rattle.row_store.specs.declared.row_store.InForce.{InForce}
use Rattle.row_store.specs.declared.row_store.RowStore.{RowStore}
use Rattle.row_store.specs.Files.{named_by}
use Rattle.row_store.specs.Leaving.{IsOldIn}
use Rattle.row_store.specs.RootSteps.{IsRootOr, IsInForce}
use Rattle.row_store.specs.Rows.{laid_over, rows_of, rows_under}
use Rattle.row_store.specs.Store.{Kept, HoldsState, HoldTables, StandsFor, TellsAll, reading}
use Rattle.row_store.specs.Value.{HaveRows, IsOpenOn, KeepsBy, Keeps, AreReady, IsAsNamed, AreNumbered, IsForceReady, IsMergeReady, IsReady}
use Rattle.row_store.proofs.Appends.{leaves_both}
use Rattle.row_store.proofs.Free.{log_kept, tables_kept}
use Rattle.row_store.proofs.Keeping.{AreSameIn, files_of_tables, tables_hold, rows_on, stands}
use Rattle.row_store.proofs.Opens.{first_left}
use Rattle.row_store.proofs.Pendings.{AllIn, all_in}
use Rattle.row_store.proofs.Told.{told_is}
use Rattle.sorted_table.specs.declared.table_row.TableRow.{TableRow}
use Rattle.sorted_table.specs.TableRows.{IsMarked}
use Rattle.sorted_table.specs.Tables.{TableState}

-- the log and the tables of a root are open on the disk, and a crash leaves the files that it names
pub record IsCandidate (root : Root) (log : LogState) (tables : List TableState) (seen : Contents) (sizes : Lengths) (images : Image → Type 0) : Type 0 where
  pub is : is_root root ≡ true
  pub log_file : log.file ≡ root.log_file
  pub running : log.stopped ≡ false
  pub log_ready : logs.IsReady log seen sizes images
  pub files : files_of_tables tables ≡ root.tables
  pub tables_ready : AreReady tables seen sizes
  pub lasting : TellsAll seen → (crashed : Image) → images crashed → (file : ℕ) → Contains (files_of root) file → crashed file ≡ reading seen file

-- and they hold what is kept
pub record HasCandidate (root : Root) (log : LogState) (tables : List TableState) (kept : Kept) (image : Image) : Type 0 where
  pub rows : List (List TableRow)
  pub state : HoldsState kept.state (image root.state)
  pub bodies : IsLogOf log kept.bodies (image root.log_file)
  pub hold : HaveRows tables rows image
  pub base : kept.base ≡ rows_under rows

-- ---- an image

under_new : (root : Root) (log : LogState) (tables : List TableState) (kept : Kept) (image crashed : Image) → files_of_tables tables ≡ root.tables → HasCandidate root log tables kept image
    → root_in (crashed 0) ≡ Some root → ((file : ℕ) → Contains (files_of root) file → crashed file ≡ image file) → StandsFor (Some kept) crashed
under_new root log tables kept image crashed files has in_force same = (
  root,
  record {
    tables = has.rows;
    in_force = in_force;
    state = subst (HoldsState kept.state) (sym (same root.state (0, omega arith, refl))) has.state;
    log = subst (HoldsLog kept.bodies) (sym (same root.log_file (1, omega arith, refl))) has.bodies.holds;
    hold = (let P : List ℕ → Type 0 = λ fs. AreSameIn fs image crashed → HoldTables fs has.rows crashed in
        subst P files (tables_hold tables has.rows image crashed has.hold) (λ k file below at. same file (suc (suc k), omega arith, at)));
    base = has.base;
  },
)

-- the root that was, or the other one
module _ (root : Root) (log : LogState) (tables : List TableState) (seen : Contents) (sizes : Lengths) (images : Image → Type 0) (next : IsCandidate root log tables seen sizes images) where
  old_or_new : (force : Option InForce) (opened : List TableState) (held : Option Kept) (kept : Kept) (image : Image) → TellsAll seen → IsForceReady force opened seen sizes images → KeepsBy force opened held (reading seen)
      → HasCandidate root log tables kept (reading seen) → (e : IsElsewhereOld 0 images image) → IsAsNamed force (reading seen) e.before → IsRootOr root (reading seen 0) (image 0)
      → ((named : IsAsNamed force (reading seen) image) → StandsFor held image) → StandsFor held image ⊎ StandsFor (Some kept) image
  old_or_new None opened None kept image tells ready by has e named (inl same) old = inl (same ∙ by.0)
  old_or_new None opened None kept image tells ready by has e named (inr new) old = inr (under_new root log tables kept (reading seen) image next.files has new
      (λ file there. e.others file (names_no_zero root next.is file there) ∙ next.lasting tells e.before e.was file there))
  old_or_new None opened (Some held) kept image tells ready by has e named choice old = absurd by
  old_or_new (Some force) opened None kept image tells ready by has e named choice old = absurd by
  old_or_new (Some force) opened (Some held) kept image tells ready by has e named choice old = ⊎_elim
      (λ under. inl (old (record { in_force = under.in_force; files = λ file there. under.files file there ∙ named.files file there })))
      (λ under. inr (under_new root log tables kept (reading seen) image next.files has under.in_force (λ file there. under.files file there ∙ next.lasting tells e.before e.was file there)))
      (decides force.root root e.before image (names_no_zero force.root ready.1.root) (names_no_zero root next.is) e.others (which choice))
    where
      which : IsRootOr root (reading seen 0) (image 0) → (root_in (image 0) ≡ Some force.root) ⊎ (root_in (image 0) ≡ Some root)
      which (inl same) = inl (ap root_of same ∙ by.in_force)
      which (inr new) = inr new

  -- each moment of it
  pub moments_entered : {D : Type 0} (moment : D → ℕ) (since : D → ℕ → Image → Type 0) (old new : D) (store : RowStore) (held : Option Kept) (kept : Kept) (rows : RowMap) → TellsAll seen → IsReady store seen sizes images → Keeps store held rows (reading seen)
      → HasCandidate root log tables kept (reading seen) → LeavesOnly moment since old new (IsElsewhereOld 0 images) → OnTold (seen 0) (λ file. LeavesOnly moment since old new (λ image. IsRootOr root file (image 0)))
      → LeavesOnly moment since old new (λ image. StandsFor held image ⊎ StandsFor (Some kept) image)
  moments_entered moment since old new store held kept rows tells ready keeps has others said =
      leaves_both moment since old new (IsElsewhereOld 0 images) (λ image. IsRootOr root (reading seen 0) (image 0)) (λ image. StandsFor held image ⊎ StandsFor (Some kept) image) others
      (told_is (seen 0) (λ file. LeavesOnly moment since old new (λ image. IsRootOr root file (image 0))) (tells 0) said)
      (λ image e choice. old_or_new store.force store.tables.items held kept image tells ready.force keeps.by has e (ready.steady tells e.before e.was) choice (λ named. stands store held rows (reading seen) image keeps named))

  module _ (seen' : Contents) (sizes' : Lengths) (images' : Image → Type 0) (elsewhere : IsElsewhereUnchanged 0 seen seen' sizes sizes') (slots : RootSlots) (in_force : IsInForce slots root seen' sizes' images') where
    apart : (file : ℕ) → Contains (files_of root) file → file ≢ 0
    apart = names_no_zero root next.is

    same : (file : ℕ) → Contains (files_of root) file → reading seen' file ≡ reading seen file
    same file there = ap (λ (told : Option (List ℕ)). unwrap_or told []) (elsewhere.bytes file (apart file there))

    -- what is kept then
    pub keeps_entered : (store : RowStore) (kept : Kept) (rows : RowMap) → TellsAll seen' → store.force ≡ Some (record { root = root; log = log }) → store.tables.items ≡ tables → HasCandidate root log tables kept (reading seen)
        → rows ≡ laid_over kept.base (rows_of store.fresh.entries) → Keeps store (Some kept) rows (reading seen')
    keeps_entered store kept rows tells force_is tables_are has rows_are = record {
      by = (let P : Option InForce → Type 0 = λ f. KeepsBy f store.tables.items (Some kept) (reading seen') in
          let Q : List TableState → Type 0 = λ t. IsOpenOn root log t kept (reading seen') in
          subst P (sym force_is) (subst Q (sym tables_are) by_now));
      rows_are = rows_are;
    }
      where
        by_now : IsOpenOn root log tables kept (reading seen')
        by_now = record {
          rows = has.rows;
          in_force = told_is (seen' 0) (λ file. root_in file ≡ Some root) (tells 0) in_force.in_force;
          state = subst (HoldsState kept.state) (sym (same root.state (0, omega arith, refl))) has.state;
          log_file = next.log_file;
          bodies = subst (IsLogOf log kept.bodies) (sym (same root.log_file (1, omega arith, refl))) has.bodies;
          files = next.files;
          hold = rows_on tables has.rows (reading seen) (reading seen') has.hold
              (let R : List ℕ → Type 0 = λ fs. AreSameIn fs (reading seen) (reading seen') in subst R (sym next.files) (λ k file below at. same file (suc (suc k), omega arith, at)));
          base = has.base;
        }

    -- the disk is ready then
    pub ready_entered : (store : RowStore) → ((crashed : Image) → images' crashed → IsElsewhereOld 0 images crashed) → (TellsAll seen' → TellsAll seen) → store.slots ≡ slots → store.force ≡ Some (record { root = root; log = log }) → store.tables.items ≡ tables
        → 4 ≤ free_frames store.pool → AreCached store.cache tables seen → IsMergeReady store.merge (files_of root) tables seen' sizes' → ((key : RowKey) → IfSome (tree.get row_key_cmp store.fresh key) IsMarked) → IsReady store seen' sizes' images'
    ready_entered store left back slots_are force_is tables_are frames cached merging marked = record {
      cached = subst (λ (t : List TableState). AreCached store.cache t seen') (sym tables_are) (cached_kept kept seen seen' elsewhere.bytes store.cache tables all cached);
      frames = frames;
      slots_run = subst (λ (s : RootSlots). s.stopped ≡ false) (sym slots_are) in_force.running;
      begun = subst (λ (s : RootSlots). s.step ≡ Begun) (sym slots_are) in_force.begun;
      numbered = subst (AreNumbered store.slots) (sym force_is) (subst (λ (s : RootSlots). AreNumbered s (Some (record { root = root; log = log }))) (sym slots_are) (in_force.made, in_force.number));
      slots = subst (λ (s : RootSlots). AreSlotsReady s seen' sizes' images') (sym slots_are) in_force.ready;
      force = (let P : Option InForce → Type 0 = λ f. IsForceReady f store.tables.items seen' sizes' images' in
          let Q : List TableState → Type 0 = λ t. IsForceReady (Some (record { root = root; log = log })) t seen' sizes' images' in
          subst P (sym force_is) (subst Q (sym tables_are) force_now));
      tables = subst (λ (t : List TableState). AreReady t seen' sizes') (sym tables_are)
          (tables_kept kept seen seen' sizes sizes' images images' elsewhere.bytes elsewhere.lengths left_in tables all next.tables_ready);
      merging = (let P : Option InForce → Type 0 = λ f. IsMergeReady store.merge (named_by f) store.tables.items seen' sizes' in
          let Q : List TableState → Type 0 = λ t. IsMergeReady store.merge (files_of root) t seen' sizes' in
          subst P (sym force_is) (subst Q (sym tables_are) merging));
      marked = marked;
      steady = λ tells crashed now. subst (λ (f : Option InForce). IsAsNamed f (reading seen') crashed) (sym force_is) (under tells crashed now);
    }
      where
        kept : ℕ → Type 0
        kept file = file ≢ 0

        left_in : (crashed : Image) → images' crashed → IsOldIn kept images crashed
        left_in crashed now = record { before = (left crashed now).before; was = (left crashed now).was; same = (left crashed now).others }

        all : AllIn kept tables
        all = all_in kept tables root.tables next.files (λ k file below at. apart file (suc (suc k), omega arith, at))

        force_now : IsForceReady (Some (record { root = root; log = log })) tables seen' sizes' images'
        force_now = (
          next.files,
          record {
            root = next.is;
            log_file = next.log_file;
            log = record {
              running = next.running;
              ready = log_kept kept seen seen' sizes sizes' images images' elsewhere.bytes elsewhere.lengths left_in log (subst kept (sym next.log_file) (apart root.log_file (1, omega arith, refl))) next.log_ready;
            };
          },
        )

        under : TellsAll seen' → (crashed : Image) → images' crashed → IsUnder root (reading seen') crashed
        under tells crashed now = record {
          in_force = ap root_in (first_left slots (seen' 0) images' crashed (tells 0) in_force.ready.told now) ∙ told_is (seen' 0) (λ file. root_in file ≡ Some root) (tells 0) in_force.in_force;
          files = λ file there. (left crashed now).others file (apart file there) ∙ next.lasting (back tells) (left crashed now).before (left crashed now).was file there ∙ sym (same file there);
        }
