-- What is kept, in an image in which the root in force and its files are as in another.
use Rattle.std.proofs.Common.{◌≡◌, sym, subst, refl, ℕ, zero, suc, ◌<◌, List, [], ◌∷◌, length, Option, Some, None, arith}
use Rattle.std.specs.Prelude.{map, slice_index_or}
use Rattle.gate_log.specs.Log.{HoldsLog}
use Rattle.mds_out.specs.Disk.{Image}
use Rattle.root_slots.specs.Crash.{IsUnder}
use Rattle.root_slots.specs.declared.root.Root.{Root}
use Rattle.root_slots.specs.Slot.{HasNoRoot, root_in}
use Rattle.row_store.specs.declared.row_store.InForce.{InForce}
use Rattle.row_store.specs.Store.{Kept, HoldsState, HoldTables, StandsFor}
use Rattle.row_store.specs.Value.{HaveRows, IsOpenOn, KeepsBy, IsAsNamed, KeptStands}
use Rattle.sorted_table.specs.declared.table_row.TableRow.{TableRow}
use Rattle.sorted_table.specs.TableFiles.{HoldsTable}
use Rattle.sorted_table.specs.Tables.{TableState, HasRows}

-- these files are in the one image as in the other
abbrev pub AreSameIn : List ℕ → Image → Image → Type 0
AreSameIn files image other = (k file : ℕ) → k < length files → slice_index_or files k file ≡ file → other file ≡ image file

abbrev pub files_of_tables : List TableState → List ℕ
files_of_tables tables = map (λ table. table.file) tables

rest_same : (file : ℕ) (files : List ℕ) (image other : Image) → AreSameIn (file ∷ files) image other → AreSameIn files image other
rest_same file files image other same k named below at = same (suc k) named (omega arith) at

first_same : (file : ℕ) (files : List ℕ) (image other : Image) → AreSameIn (file ∷ files) image other → other file ≡ image file
first_same file files image other same = same zero file (omega arith) refl

-- an open table's file is a table
pub has_table : (table : TableState) (rows : List TableRow) (file : List ℕ) → HasRows table rows file → HoldsTable rows file
has_table table rows file has = record { blocks = has.blocks; are = has.has.are; rows_are = has.rows_are; bytes = has.has.bytes_are }

pub tables_hold : (tables : List TableState) (rows : List (List TableRow)) (image other : Image) → HaveRows tables rows image → AreSameIn (files_of_tables tables) image other → HoldTables (files_of_tables tables) rows other
tables_hold [] [] image other have same = tt
tables_hold [] (said ∷ more) image other have same = absurd have
tables_hold (table ∷ tables) [] image other have same = absurd have
tables_hold (table ∷ tables) (said ∷ more) image other have same = (
  subst (HoldsTable said) (sym (first_same table.file (files_of_tables tables) image other same)) (has_table table said (image table.file) have.0),
  tables_hold tables more image other have.1 (rest_same table.file (files_of_tables tables) image other same),
)

pub rows_on : (tables : List TableState) (rows : List (List TableRow)) (image other : Image) → HaveRows tables rows image → AreSameIn (files_of_tables tables) image other → HaveRows tables rows other
rows_on [] [] image other have same = tt
rows_on [] (said ∷ more) image other have same = absurd have
rows_on (table ∷ tables) [] image other have same = absurd have
rows_on (table ∷ tables) (said ∷ more) image other have same = (
  subst (HasRows table said) (sym (first_same table.file (files_of_tables tables) image other same)) have.0,
  rows_on tables more image other have.1 (rest_same table.file (files_of_tables tables) image other same),
)

-- the files of a root
pub named_state : (root : Root) (image crashed : Image) → IsUnder root image crashed → crashed root.state ≡ image root.state
named_state root image crashed under = under.files root.state (zero, omega arith, refl)

pub named_log : (root : Root) (image crashed : Image) → IsUnder root image crashed → crashed root.log_file ≡ image root.log_file
named_log root image crashed under = under.files root.log_file (suc zero, omega arith, refl)

pub named_tables : (root : Root) (image crashed : Image) → IsUnder root image crashed → AreSameIn root.tables image crashed
named_tables root image crashed under k file below at = under.files file (suc (suc k), omega arith, at)

-- what is kept with other bodies, in an image whose log has these
pub stands_with : (force : InForce) (tables : List TableState) (kept : Kept) (bodies : List (List ℕ)) (image crashed : Image) → IsOpenOn force.root force.log tables kept image
    → root_in (crashed 0) ≡ Some force.root → crashed force.root.state ≡ image force.root.state → AreSameIn force.root.tables image crashed → HoldsLog bodies (crashed force.root.log_file)
    → StandsFor (Some (record kept { bodies = bodies })) crashed
stands_with force tables kept bodies image crashed by in_force state same log = (
  force.root,
  record {
    tables = by.rows;
    in_force = in_force;
    state = subst (HoldsState kept.state) (sym state) by.state;
    log = log;
    hold = (let P : List ℕ → Type 0 = λ files. AreSameIn files image crashed → HoldTables files by.rows crashed in
        subst P by.files (tables_hold tables by.rows image crashed by.hold) same);
    base = by.base;
  },
)

stands_by : (force : Option InForce) (tables : List TableState) (kept : Option Kept) (image crashed : Image) → KeepsBy force tables kept image → IsAsNamed force image crashed → StandsFor kept crashed
stands_by None tables None image crashed by named = subst HasNoRoot (sym named) by.0
stands_by None tables (Some kept) image crashed by named = absurd by
stands_by (Some force) tables None image crashed by named = absurd by
stands_by (Some force) tables (Some kept) image crashed by named =
    stands_with force tables kept kept.bodies image crashed by named.in_force (named_state force.root image crashed named) (named_tables force.root image crashed named)
    (subst (HoldsLog kept.bodies) (sym (named_log force.root image crashed named)) by.bodies.holds)

pub stands : KeptStands
stands store kept rows image crashed keeps named = stands_by store.force store.tables.items kept image crashed keeps.by named
