use Rattle.sorted_table.specs.Starts.{is_before}
use Rattle.row_store.proofs.Passing.{IsPassing}
use Rattle.row_store.proofs.seeking.first_row.Given as goal

abbrev pub invariant-loop-step : goal.invariant-loop-step
invariant-loop-step g l = IsPassing g.D.Disk.seen g.D.Disk.sizes g.D.Disk.images g.D.Disk.moment g.D.Disk.images_since g.D.Disk.faults g.D.Disk.lasts g.D.Disk.fails l.fn.disk l.disk l.fn.pool l.pool l.tables l.fresh.entries (is_before l.start) l.key
