use Rattle.sorted_table.specs.Building.{IsGrowing}
use Rattle.rows_store.proofs.tables.make.Given as goal

abbrev pub invariant-loop-row : goal.invariant-loop-row
invariant-loop-row g l = IsGrowing l.builder (g.D.Disk.sizes l.disk)
