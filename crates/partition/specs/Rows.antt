-- What lists of edits make of the rows of a partition.
use Rattle.std.specs.Prelude.{ℕ, ◌+◌, ◌-◌, List, [], ◌∷◌, Option, Some, None, is_some, if◌then◌else◌}
use Rattle.std.specs.FinMap as map
use Rattle.mds_base.specs.declared.attr.Attr.{Attr}
use Rattle.mds_base.specs.declared.row.Row.{Row}
use Rattle.mds_base.specs.declared.row_key.RowKey.{RowKey}
use Rattle.mds_base.specs.declared.edit.Edit.{Edit}
use Rattle.mds_base.specs.declared.edit.Edit.TheVariants.{Keep, Put, Take}
use Rattle.mds_base.specs.RowKeys.{RowMap, edited_rows}
use Rattle.name_hash.specs.RowPlace.{row_key}
use Rattle.partition.specs.declared.edits.RowEdit.{RowEdit}

-- the rows after a list of edits
abbrev pub written : RowMap → List RowEdit → RowMap
written rows [] = rows
written rows (edit ∷ edits) = written (edited_rows rows edit.key edit.edit) edits

-- the edit of a row as a list: a row that stays is not written
abbrev pub edits_of : RowKey → Edit → List RowEdit
edits_of key Keep = []
edits_of key (Put attr) = record { key = key; edit = Put attr } ∷ []
edits_of key Take = record { key = key; edit = Take } ∷ []

-- what a load adds: each of its rows whose name is absent, after the ones before it were added
abbrev pub load_edits : RowMap → ℕ → ℕ → List Row → List RowEdit
load_edits rows dir part [] = []
load_edits rows dir part (row ∷ more) =
    if is_some (map.get rows (row_key dir part row.name))
    then load_edits rows dir part more
    else (record { key = row_key dir part row.name; edit = Put row.attr }
    ∷ load_edits (map.insert rows (row_key dir part row.name) row.attr) dir part more)
