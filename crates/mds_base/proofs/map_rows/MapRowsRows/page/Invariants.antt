use Rattle.mds_base.proofs.RowMaps.{Walks}
use Rattle.mds_base.proofs.map_rows.MapRowsRows.page.Given as goal

abbrev pub invariant-loop-key : goal.invariant-loop-key
invariant-loop-key l = Walks l.dir l.part l.from l.last l.limit l.page l.key-iterator l.initial.key-iterator
