-- Roots: which files a store is made of.
use Rattle.std.specs.Prelude.{ℕ, List, [], ◌∷◌, length, Bool, true, not, ◌==◌, ◌&&◌, nat_le}
use Rattle.std.specs.List.{list_any}
use Rattle.root_slots.specs.declared.root.Root.{Root}
use Rattle.root_slots.specs.declared.TheConstants.{TABLES_MOST}

-- a file is not 0 and none of these
abbrev pub is_fresh : ℕ → List ℕ → Bool
is_fresh file files = not (file == 0) && not (list_any (λ other. other == file) files)

-- no file is 0, and no two are the same
abbrev pub are_apart : List ℕ → Bool
are_apart [] = true
are_apart (file ∷ files) = is_fresh file files && are_apart files

-- A slot can have this root: its number is at least 1, its tables are no more than a slot has room for, and its files
-- are not 0 and differ from one another.
abbrev pub is_root : Root → Bool
is_root root = not (root.number == 0) && nat_le (length root.tables) TABLES_MOST
    && is_fresh root.state root.tables && is_fresh root.log_file root.tables && not (root.state == root.log_file)
    && are_apart root.tables

-- the files that a root names
abbrev pub files_of : Root → List ℕ
files_of root = root.state ∷ root.log_file ∷ root.tables
