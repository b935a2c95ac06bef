-- A row as it stands in a block, seen as the row.
use Rattle.mds_base.specs.declared.row_key.RowKey.{RowKey}
use Rattle.sorted_table.specs.declared.reading.KeyLine.{KeyLine}
use Rattle.sorted_table.specs.declared.reading.Line.{Line}
use Rattle.sorted_table.specs.declared.table_row.TableRow.{TableRow}

abbrev pub key_in : KeyLine → RowKey
key_in line = record { dir = line.dir; part = line.part; rev = line.rev; name = line.name.now }

abbrev pub row_in : Line → TableRow
row_in line = record { key = key_in line.key; attr = line.attr }
