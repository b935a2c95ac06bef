use Rattle.std.proofs.Common.{sym, subst}
use Rattle.mds_base.specs.declared.store_fault.StoreFault.{StoreFault}
use Rattle.node_store.specs.Reading.{IsRefusal, IsBadAtRestart}
use Rattle.node_store.proofs.Restarting.{log_refused}
use Rattle.node_store.proofs.restart.reopened.Goals as goal

pub returns-in-Err-open_file-clause-refused : goal.returns-in-Err-open_file-clause-refused
returns-in-Err-open_file-clause-refused g c =
    subst (λ (f : StoreFault). IsRefusal (IsBadAtRestart c.args.server c.args.setup) (g.D.Disk.seen c.open_file.new.disk 1) f) (sym c.store_fault.ensures)
    (log_refused _ _ (c.open_file.ensures.unchanged.bytes 1) c.args.server c.args.setup c.in-Err-open_file.fault c.in-Err-open_file.ensures.answer)
