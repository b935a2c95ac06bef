-- The root decides.
use Rattle.std.proofs.Common.{◌≡◌, ◌≢◌, inl, inr, ⊎_elim, refl, ap, ◌∙◌, sym, subst, ℕ, zero, suc, ◌<◌, List, [], ◌∷◌, length, Bool, true, false, arith}
use Rattle.std.specs.Prelude.{Contains, ◌&&◌, ◌||◌, ◌==◌, not, nat_le, slice_index_or}
use Rattle.std.specs.List.{list_any}
use Rattle.std.proofs.lemmas.Bool.{and_parts, eq-eqb}
use Rattle.root_slots.specs.declared.root.Root.{Root}
use Rattle.root_slots.specs.declared.TheConstants.{TABLES_MOST}
use Rattle.root_slots.specs.Root.{is_fresh, are_apart, is_root, files_of}
use Rattle.root_slots.specs.Slot.{root_in}
use Rattle.root_slots.specs.Crash.{NamesNoZero, OtherFilesAreFree, RootDecides}

pub others_free : OtherFilesAreFree
others_free root file before image apart not_named kept is = record {
  in_force = ap root_in (kept 0 (λ first. apart (sym first))) ∙ is;
  files = λ named there. kept named (λ same. not_named (let P : ℕ → Type 0 = λ n. Contains (files_of root) n in subst P same there));
}

pub decides : RootDecides
decides old new before image old_names new_names kept is = ⊎_elim
    (λ first. inl (record { in_force = first; files = λ file there. kept file (old_names file there) }))
    (λ second. inr (record { in_force = second; files = λ file there. kept file (new_names file there) })) is

-- ---- the files of a root that a slot can have

not_zero : (file : ℕ) (files : List ℕ) → is_fresh file files ≡ true → file ≢ 0
not_zero file files fresh none =
    let tested : not (file == 0) ≡ true = (and_parts (not (file == 0)) (not (list_any (λ other. other == file) files)) fresh).0 in
    let is : (file == 0) ≡ true = eq-eqb file 0 none in
    let wrong : false ≡ true = rw is at tested in
    cc

tables_not_zero : (files : List ℕ) → are_apart files ≡ true → (k file : ℕ) → k < length files → slice_index_or files k file ≡ file → file ≢ 0
tables_not_zero [] apart k file below at = absurd (omega arith)
tables_not_zero (first ∷ files) apart zero file below at = subst (λ n. n ≢ 0) at (not_zero first files (and_parts (is_fresh first files) (are_apart files) apart).0)
tables_not_zero (first ∷ files) apart (suc k) file below at = tables_not_zero files (and_parts (is_fresh first files) (are_apart files) apart).1 k file (omega arith) at

six : (a b c d e f : Bool) → (((((a && b) && c) && d) && e) && f) ≡ true → (c ≡ true) × (d ≡ true) × (e ≡ true) × (f ≡ true)
six false b c d e f is = cc
six true false c d e f is = cc
six true true false d e f is = cc
six true true true false e f is = cc
six true true true true false f is = cc
six true true true true true false is = cc
six true true true true true true is = (refl, refl, refl, refl)

parts_of : (root : Root) → is_root root ≡ true → (is_fresh root.state root.tables ≡ true) × (is_fresh root.log_file root.tables ≡ true) × (not (root.state == root.log_file) ≡ true) × (are_apart root.tables ≡ true)
parts_of root is = six (not (root.number == 0)) (nat_le (length root.tables) TABLES_MOST) (is_fresh root.state root.tables) (is_fresh root.log_file root.tables) (not (root.state == root.log_file)) (are_apart root.tables) is

pub names_no_zero : (root : Root) → is_root root ≡ true → NamesNoZero root
names_no_zero root is file (zero, below, at) = subst (λ n. n ≢ 0) at (not_zero root.state root.tables (parts_of root is).0)
names_no_zero root is file (suc zero, below, at) = subst (λ n. n ≢ 0) at (not_zero root.log_file root.tables (parts_of root is).1)
names_no_zero root is file (suc (suc k), below, at) = tables_not_zero root.tables (parts_of root is).3 k file (omega arith) at

-- numbers that a test tells apart
differ : (a b : ℕ) → not (a == b) ≡ true → a ≢ b
differ a b tested same =
    let is : (a == b) ≡ true = eq-eqb a b same in
    let wrong : false ≡ true = rw is at tested in
    cc

nor : (a b : Bool) → not (a || b) ≡ true → (not a ≡ true) × (not b ≡ true)
nor true b is = cc
nor false true is = cc
nor false false is = (refl, refl)

none_of : (files : List ℕ) (file : ℕ) → not (list_any (λ other. other == file) files) ≡ true → (k other : ℕ) → k < length files → slice_index_or files k other ≡ other → other ≢ file
none_of [] file none k other below at = absurd (omega arith)
none_of (first ∷ files) file none zero other below at = subst (λ n. n ≢ file) at (differ first file (nor (first == file) (list_any (λ other. other == file) files) none).0)
none_of (first ∷ files) file none (suc k) other below at = none_of files file (nor (first == file) (list_any (λ other. other == file) files) none).1 k other (omega arith) at

-- the log of a root is another file than its state and its tables
pub state_apart : (root : Root) → is_root root ≡ true → root.state ≢ root.log_file
state_apart root is = differ root.state root.log_file (parts_of root is).2

pub tables_apart : (root : Root) → is_root root ≡ true → (k file : ℕ) → k < length root.tables → slice_index_or root.tables k file ≡ file → file ≢ root.log_file
tables_apart root is = none_of root.tables root.log_file (and_parts (not (root.log_file == 0)) (not (list_any (λ other. other == root.log_file) root.tables)) (parts_of root is).1).1
