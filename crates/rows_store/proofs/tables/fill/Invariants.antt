use Rattle.sorted_table.specs.Building.{IsGrowing}
use Rattle.rows_store.proofs.tables.fill.Given as goal

abbrev pub invariant-loop-rev : goal.invariant-loop-rev
invariant-loop-rev g l = IsGrowing l.builder (g.D.Disk.sizes l.disk)
