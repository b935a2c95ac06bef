-- Trees: the objects of a value by their numbers, each as a finite map from the places of a scan to its members.
use Rattle.std.specs.Prelude.{ℕ, ◌+◌, ◌≤◌, List, [], ◌∷◌, ◌++◌, map, length}
use Rattle.std.specs.Prelude.{if◌then◌else◌, Option, Some, None, option_and_then, unwrap_or}
use Rattle.std.specs.List.{slice_index_or, All}
use Rattle.std.specs.FinMap as map
use Rattle.serde_json.specs.Data.{Data, null, boolean, number, string, array, object, Members, no_members, member}
use Rattle.serde_json.specs.Find.{as_u64}
use Rattle.serde_json.specs.Read.{read}
use Rattle.mds_base.specs.declared.attr.Attr.{Attr}
use Rattle.mds_base.specs.declared.row.Row.{Row}
use Rattle.mds_base.specs.Entries.{Place, place_cmp, new_file, new_directory}
use Rattle.name_hash.specs.ScanOrder.{place_of}
use Rattle.mds_base.specs.declared.limits.TheConstants.{BULK_DEPTH, BULK_DIRECTORIES, BULK_ENTRIES}
use Rattle.bulk.specs.declared.object.Kind.{Kind}
use Rattle.bulk.specs.declared.object.Kind.TheVariants.{File, Dir}
use Rattle.bulk.specs.Grammar.{nests_within, is_tree, objects_in}

-- the members of an object, in the order in which a scan gives their names
abbrev pub ObjectMap : Type 0
ObjectMap = map.FinMap place_cmp Kind

-- an object has at most so many members
abbrev pub HasAtMost : ℕ → ObjectMap → Type 0
HasAtMost most members = map.len members ≤ most

-- what a grab and loads of a tree may count on: its objects are some and not too many, nor are the members of each
pub record IsBounded (tree : List ObjectMap) : Type 0 where
  pub some : 1 ≤ length tree
  pub few : length tree ≤ BULK_DIRECTORIES
  pub small : All (HasAtMost BULK_ENTRIES) tree

abbrev pub place : List ℕ → Place
place name = (place_of name, name)

-- what a member is, where its object would be the next one
abbrev pub kind_of : ℕ → Data → Kind
kind_of next null = File 0
kind_of next (boolean b) = File 0
kind_of next (number n) = File (unwrap_or (as_u64 n) 0)
kind_of next (string s) = File 0
kind_of next (array ds) = File 0
kind_of next (object ms) = Dir next

-- the members that were found and these, whose objects are numbered from the next one on
abbrev pub members_from : ObjectMap → ℕ → Members → ObjectMap
members_from found next no_members = found
members_from found next (member key d ms) =
    members_from (map.insert found (place key) (kind_of next d)) (next + objects_in d) ms

-- the objects of a value, numbered from the next one on: each before those in it, in the order of the members
abbrev mutual
  pub objects_of : ℕ → Data → List ObjectMap
  objects_of next null = []
  objects_of next (boolean b) = []
  objects_of next (number n) = []
  objects_of next (string s) = []
  objects_of next (array ds) = []
  objects_of next (object ms) = members_from map.empty (next + 1) ms ∷ objects_from (next + 1) ms

  pub objects_from : ℕ → Members → List ObjectMap
  objects_from next no_members = []
  objects_from next (member key d ms) = objects_of next d ++ objects_from (next + objects_in d) ms

abbrev pub tree_of_data : Data → Option (List ObjectMap)
tree_of_data d = if is_tree d then Some (objects_of 0 d) else None

-- the tree that a text is
abbrev pub tree_of : List ℕ → Option (List ObjectMap)
tree_of text = if nests_within BULK_DEPTH text then option_and_then tree_of_data (read text) else None

-- the attributes of a member, where the objects have the directory numbers from `first` on
abbrev pub attr_of : ℕ → Kind → Attr
attr_of first (File size) = record new_file { size = size }
attr_of first (Dir index) = new_directory (first + index)

abbrev pub row_of : ℕ → Place × Kind → Row
row_of first entry = record { name = entry.0.1; attr = attr_of first entry.1 }

-- the rows of an object, in the scan order
abbrev pub rows_from : ℕ → ObjectMap → List Row
rows_from first members = map (row_of first) (map.entries members)

-- the rows of the object of this number
abbrev pub rows_of : List ObjectMap → ℕ → ℕ → List Row
rows_of tree index first = rows_from first (slice_index_or tree index map.empty)
