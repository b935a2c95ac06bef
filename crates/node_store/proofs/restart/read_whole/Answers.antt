use Rattle.node_store.specs.Reading.{IsRefusal, IsBadAtRestart}
use Rattle.node_store.proofs.Restarting.{err_at, read_refused}
use Rattle.node_store.proofs.restart.read_whole.Goals as goal

pub returns-in_err-node-clause-refused : goal.returns-in_err-node-clause-refused
returns-in_err-node-clause-refused g c =
    err_at _ c.in_err-node.field-0.0 (IsRefusal (IsBadAtRestart c.args.server c.args.setup) (g.D.Disk.seen c.read_log.new.disk 1)) c.from_residual.ensures.1
    (read_refused _ _ (c.read_log.ensures.call.unchanged.bytes 1) c.args.server c.args.setup c.in_err-node.field-0.0 c.in_err-node.ensures.refused)
