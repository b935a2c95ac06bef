use Rattle.row_store.proofs.Paging.{IsPaging}
use Rattle.row_store.proofs.ranges.page.Given as goal

abbrev pub invariant-loop-row : goal.invariant-loop-row
invariant-loop-row g l = IsPaging l.tables l.fresh.entries l.span.dir l.span.part l.from l.span.last l.span.limit g.D.Disk.seen g.D.Disk.sizes g.D.Disk.images g.D.Disk.moment g.D.Disk.images_since g.D.Disk.faults g.D.Disk.lasts g.D.Disk.fails l.fn.disk l.disk l.fn.pool l.pool l.rev l.page l._row
