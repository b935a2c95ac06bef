-- A merge that is under way goes on where its file and those of its tables stay.
use Rattle.std.proofs.Common.{◌≡◌, sym, subst, refl, ℕ, zero, suc, ◌<◌, List, [], ◌∷◌, length, drop, Option, Some, None, arith}
use Rattle.std.specs.Prelude.{slice_index_or}
use Rattle.std.specs.List.{AllByRecursion}
use Rattle.mds_out.specs.Disk.{Contents, Lengths}
use Rattle.mds_out.specs.Known.{OnTold}
use Rattle.merge_rows.proofs.Stepping.{StayTold, merging_on}
use Rattle.row_store.specs.declared.merges.Pending.{Pending}
use Rattle.row_store.specs.Value.{IsMergeReady}
use Rattle.row_store.proofs.Keeping.{files_of_tables}
use Rattle.sorted_table.specs.Tables.{TableState}

-- ---- files that a predicate has

abbrev pub AllIn : (ℕ → Type 0) → List TableState → Type 0
AllIn kept tables = AllByRecursion (λ table. kept table.file) tables

pub all_in : (kept : ℕ → Type 0) (tables : List TableState) (files : List ℕ) → files_of_tables tables ≡ files → ((k file : ℕ) → k < length files → slice_index_or files k file ≡ file → kept file) → AllIn kept tables
all_in kept tables files are each = let P : List ℕ → Type 0 = λ fs. (k file : ℕ) → k < length fs → slice_index_or fs k file ≡ file → kept file in here kept tables (subst P (sym are) each)
  where
    here : (kept : ℕ → Type 0) (tables : List TableState) → ((k file : ℕ) → k < length (files_of_tables tables) → slice_index_or (files_of_tables tables) k file ≡ file → kept file) → AllIn kept tables
    here kept [] each = tt
    here kept (table ∷ tables) each = (each zero table.file (omega arith) refl, here kept tables (λ k file below at. each (suc k) file (omega arith) at))

pub all_behind : (kept : ℕ → Type 0) (tables : List TableState) (newer : ℕ) → AllIn kept tables → AllIn kept (drop newer tables)
all_behind kept [] zero all = tt
all_behind kept [] (suc newer) all = tt
all_behind kept (table ∷ tables) zero all = all
all_behind kept (table ∷ tables) (suc newer) all = all_behind kept tables newer all.1

module _ (kept : ℕ → Type 0) (seen seen' : Contents) (sizes sizes' : Lengths) (bytes : (file : ℕ) → kept file → seen' file ≡ seen file)
    (lengths : (file : ℕ) → kept file → OnTold (sizes file) (λ size. sizes' file ≡ Some size)) where
  pub stay_kept : (tables : List TableState) → AllIn kept tables → StayTold tables seen seen'
  stay_kept [] all = tt
  stay_kept (table ∷ tables) all = (bytes table.file all.0, stay_kept tables all.1)

  pub pending_kept : (merge : Option Pending) (named : List ℕ) (tables : List TableState) → (file : (pending : Pending) → merge ≡ Some pending → kept pending.file) → AllIn kept tables → IsMergeReady merge named tables seen sizes → IsMergeReady merge named tables seen' sizes'
  pending_kept None named tables file all ready = tt
  pending_kept (Some pending) named tables file all ready =
      let here : kept pending.merge.builder.file = subst kept (sym ready.file_is) (file pending refl) in
      record {
        file_is = ready.file_is;
        apart = ready.apart;
        some = ready.some;
        merging = merging_on (drop pending.newer tables) pending.merge seen seen' sizes sizes' (stay_kept (drop pending.newer tables) (all_behind kept tables pending.newer all))
            (bytes pending.merge.builder.file here) (lengths pending.merge.builder.file here) ready.merging;
      }
