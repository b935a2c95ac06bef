use Rattle.partition.proofs.Undone.{part_back}
use Rattle.partition.proofs.partition.Partition.note.Goals as goal

pub returns-in-Err-clause-err : goal.returns-in-Err-clause-err
returns-in-Err-clause-err g c = part_back c.args.self.now c.args.session.client c.args.session.seq c.args.session.said c.kept-kept.result c.note.new.self c.restore.new.self c.kept-kept.ensures c.in_ok-note.ensures.ok c.restore.ensures
