-- Row keys in their order, the rows of a server as a finite map, and what a page of a partition lists.
use Rattle.std.specs.Prelude.{ℕ, ◌+◌, ◌-◌, ◌==◌, Bool, true, List, map, take, refl, Option, Some, None, nat_lt, nat_le}
use Rattle.std.specs.Prelude.{◌&&◌, ◌||◌, not, unwrap_or, [], ◌∷◌, IsTrue}
use Rattle.std.specs.declared.cmp.Ordering.{Ordering}
use Rattle.std.specs.List.{AllByRecursion}
use Rattle.std.specs.Ordering.{nat_cmp, ordering_then, is_lt}
use Rattle.std.specs.Cmp.Lexicographic.{slice_cmp}
use Rattle.std.specs.Coded.{Coded, code_by, coded×, coded_list, coded_ℕ}
use Rattle.std.specs.FinMap as map
use Rattle.mds_base.specs.declared.attr.Attr.{Attr}
use Rattle.mds_base.specs.declared.cursor.Cursor.{Cursor}
use Rattle.mds_base.specs.declared.edit.Edit.{Edit}
use Rattle.mds_base.specs.declared.edit.Edit.TheVariants.{Keep, Put, Take}
use Rattle.mds_base.specs.declared.row.Row.{Row}
use Rattle.mds_base.specs.declared.row_key.RowKey.{RowKey}
use Rattle.mds_base.specs.Name.{is_name}

-- by directory, partition, reversed hash, and then by the bytes of the name
abbrev pub row_key_cmp : RowKey → RowKey → Ordering
row_key_cmp a b = ordering_then (nat_cmp a.dir b.dir)
    (ordering_then (nat_cmp a.part b.part) (ordering_then (nat_cmp a.rev b.rev) (slice_cmp nat_cmp a.name b.name)))

-- the rows of a server: a finite map from keys to attributes
abbrev pub RowMap : Type 0
RowMap = map.FinMap row_key_cmp Attr

-- the rows after an edit of the one at a key
abbrev pub edited_rows : RowMap → RowKey → Edit → RowMap
edited_rows rows key Keep = rows
edited_rows rows key (Put attr) = map.insert rows key attr
edited_rows rows key Take = map.remove rows key

-- how many rows there are after an edit of one, by what stood there; a number that would fall below 0 stays at 0
abbrev pub edited_count : ℕ → Edit → Option Attr → ℕ
edited_count count (Put attr) None = count + 1
edited_count count Take (Some before) = count - 1
edited_count count edit before = count

-- whether a name stands behind the one of a cursor
abbrev pub is_after : Option (List ℕ) → List ℕ → Bool
is_after None name = true
is_after (Some before) name = is_lt (slice_cmp nat_cmp before name)

-- whether a row is past the cursor: its reversed hash is above the cursor's, or equals it, and its name is after the
-- cursor's
abbrev pub is_past : Cursor → RowKey → Bool
is_past cursor key = nat_lt cursor.at key.rev || ((cursor.at == key.rev) && is_after cursor.after key.name)

-- whether a row is one of the partition, past the cursor, with reversed hash at most `last`
abbrev pub is_in_page : ℕ → ℕ → Cursor → ℕ → RowKey → Bool
is_in_page dir part from last key =
    ((key.dir == dir) && (key.part == part)) && (is_past from key && nat_le key.rev last)

-- a row as a page lists it
abbrev pub row_of : RowKey × Attr → Row
row_of entry = record { name = entry.0.name; attr = entry.1 }

-- the first `limit` rows of the partition past the cursor with reversed hash at most `last`, in order
abbrev pub page_of : RowMap → ℕ → ℕ → Cursor → ℕ → ℕ → List Row
page_of rows dir part from last limit =
    take limit (map row_of (map.entries (map.retain_keys rows (is_in_page dir part from last))))

-- the keys have names
abbrev pub AreNamed : List (RowKey × Attr) → Type 0
AreNamed = AllByRecursion (λ row. IsTrue (is_name row.0.name))

-- the code by which a map of rows can be a model's value
abbrev pub coded_row_key : Coded RowKey
coded_row_key = code_by (ℕ × (ℕ × (ℕ × List ℕ))) (coded× coded_ℕ (coded× coded_ℕ (coded× coded_ℕ (coded_list coded_ℕ))))
    (λ k. (k.dir, (k.part, (k.rev, k.name)))) (λ p. record { dir = p.0; part = p.1.0; rev = p.1.1.0; name = p.1.1.1 })
    (λ _. refl)

-- whether a row of a partition from a cursor on is past the end of a page
abbrev pub is_outside : ℕ → ℕ → ℕ → RowKey → Bool
is_outside dir part last key = (not (key.dir == dir) || not (key.part == part)) || nat_lt last key.rev

-- the least key of the partition at or past the cursor that has a name
abbrev pub first_key : ℕ → ℕ → Cursor → RowKey
first_key dir part from = record { dir = dir; part = part; rev = from.at; name = unwrap_or from.after (1 ∷ []) }
