use Rattle.std.proofs.Common.{◌≡◌}
use Rattle.sorted_table.specs.Starts.{is_before}
use Rattle.sorted_table.specs.TableRows.{row_behind, key_of}
use Rattle.sorted_table.specs.Tables.{HasRows}
use Rattle.row_store.proofs.Told.{when_told}
use Rattle.row_store.proofs.seeking.key_of.Goals as goal

pub returns-in-Ok-clause-found : goal.returns-in-Ok-clause-found
returns-in-Ok-clause-found g c = λ tells rows has.
    when_told (g.D.Disk.seen c.args.disk.now c.args.table.now.file) (HasRows c.args.table.now rows) (c.in-Ok.found ≡ key_of (row_behind (is_before c.args.start.now) rows)) (tells c.args.table.now.file) has (c.in-Ok.ensures.found rows)
