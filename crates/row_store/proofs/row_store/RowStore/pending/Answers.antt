use Rattle.std.proofs.Common.{subst, List}
use Rattle.mds_out.specs.Disk.{Contents, Lengths}
use Rattle.row_store.specs.Files.{named_by}
use Rattle.row_store.specs.Value.{IsPending}
use Rattle.sorted_table.specs.Tables.{TableState}
use Rattle.row_store.proofs.row_store.RowStore.pending.Goals as goal

pub returns-clause-pending : goal.returns-clause-pending
returns-clause-pending c = λ seen sizes ready.
    let P : List TableState → Type 0 = λ tables. (seen : Contents) (sizes : Lengths) → IsPending c.in_ok-pending.pending (named_by c.args.self.now.force) tables seen sizes in
    subst P c.deref.ensures.value c.in_ok-pending.ensures seen sizes
