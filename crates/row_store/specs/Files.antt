-- Numbers of files: those in use, and those that a flush may write.
use Rattle.std.specs.Prelude.{◌≡◌, ◌≢◌, ◌<◌, ℕ, List, [], ◌∷◌, ◌++◌, Option, None, Some, true, false}
use Rattle.root_slots.specs.Root.{is_fresh, files_of}
use Rattle.row_store.specs.declared.merges.Pending.{Pending}
use Rattle.row_store.specs.declared.plans.FreeFiles.{FreeFiles}
use Rattle.row_store.specs.declared.row_store.InForce.{InForce}

-- The least number of a file, from 1 up, that is none of these.
pub record IsLeastFree (file : ℕ) (taken : List ℕ) : Type 0 where
  pub free : is_fresh file taken ≡ true
  pub least : (other : ℕ) → other < file → is_fresh other taken ≡ false

-- ---- files in use

-- the files that the root in force names
abbrev pub named_by : Option InForce → List ℕ
named_by None = []
named_by (Some force) = files_of force.root

-- its tables, newest first
abbrev pub tables_named : Option InForce → List ℕ
tables_named None = []
tables_named (Some force) = force.root.tables

-- the file of a merge that is under way
abbrev pub merged_into : Option Pending → List ℕ
merged_into None = []
merged_into (Some pending) = pending.file ∷ []

abbrev pub in_use : Option Pending → Option InForce → List ℕ
in_use merge force = merged_into merge ++ named_by force

-- the file is 0 or one of these
abbrev pub IsTaken : List ℕ → ℕ → Type 0
IsTaken taken file = is_fresh file taken ≡ false

-- ---- files that a flush writes

-- none of them is 0 or taken, and no two are the same
pub record AreFree (files : FreeFiles) (taken : List ℕ) : Type 0 where
  pub state : is_fresh files.state taken ≡ true
  pub log_file : is_fresh files.log_file taken ≡ true
  pub table : is_fresh files.table taken ≡ true
  pub log_apart : files.log_file ≢ files.state
  pub table_apart : files.table ≢ files.state
  pub tables_apart : files.table ≢ files.log_file

-- the file is none of these three
pub record IsNoneOf (files : FreeFiles) (file : ℕ) : Type 0 where
  pub state : file ≢ files.state
  pub log_file : file ≢ files.log_file
  pub table : file ≢ files.table
