-- Where the row of a name stands.
use Rattle.std.specs.Prelude.{ℕ, List}
use Rattle.mds_base.specs.declared.row_key.RowKey.{RowKey}
use Rattle.name_hash.specs.ScanOrder.{place_of}

-- in a partition of a directory, by its place in a scan and its bytes
abbrev pub row_key : ℕ → ℕ → List ℕ → RowKey
row_key dir part name = record { dir = dir; part = part; rev = place_of name; name = name }
