-- The tree grammar: which JSON values are trees.
use Rattle.std.specs.Prelude.{ℕ, ◌+◌, List, Bool, true, false, ◌&&◌, nat_le, is_some, option_and_then}
use Rattle.json.specs.Lex.{tokens}
use Rattle.json.specs.Json as json
use Rattle.serde_json.specs.Data.{Data, null, boolean, number, string, array, object, Members, no_members, member}
use Rattle.serde_json.specs.Find.{as_object, as_u64}
use Rattle.mds_base.specs.Name.{is_name}
use Rattle.mds_base.specs.declared.limits.TheConstants.{BULK_DIRECTORIES, BULK_ENTRIES}

-- the text is one JSON value, whose arrays and objects nest at most this deep
abbrev pub nests_within : ℕ → List ℕ → Bool
nests_within depth text = is_some (option_and_then (λ p. json.if_last p.0 p.1) (json.value depth (tokens text)))

-- the size of a file, or an object of entries, each under a name
abbrev mutual
  pub is_entry : Data → Bool
  is_entry null = false
  is_entry (boolean b) = false
  is_entry (number n) = is_some (as_u64 n)
  is_entry (string s) = false
  is_entry (array ds) = false
  is_entry (object ms) = are_entries ms

  pub are_entries : Members → Bool
  are_entries no_members = true
  are_entries (member key d ms) = is_name key && (is_entry d && are_entries ms)

-- how many objects an entry is, with those in it
abbrev mutual
  pub objects_in : Data → ℕ
  objects_in null = 0
  objects_in (boolean b) = 0
  objects_in (number n) = 0
  objects_in (string s) = 0
  objects_in (array ds) = 0
  objects_in (object ms) = objects_within ms + 1

  pub objects_within : Members → ℕ
  objects_within no_members = 0
  objects_within (member key d ms) = objects_in d + objects_within ms

-- how many members the objects of an entry have
abbrev mutual
  pub entries_in : Data → ℕ
  entries_in null = 0
  entries_in (boolean b) = 0
  entries_in (number n) = 0
  entries_in (string s) = 0
  entries_in (array ds) = 0
  entries_in (object ms) = entries_within ms

  pub entries_within : Members → ℕ
  entries_within no_members = 0
  entries_within (member key d ms) = entries_in d + entries_within ms + 1

-- a tree: an object of entries, with no more objects and members than a tree may have
abbrev pub is_tree : Data → Bool
is_tree d =
    (is_some (as_object d) && is_entry d)
    && (nat_le (objects_in d) BULK_DIRECTORIES && nat_le (entries_in d) BULK_ENTRIES)
