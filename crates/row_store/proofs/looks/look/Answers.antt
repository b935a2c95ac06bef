use Rattle.std.proofs.Common.{sym}
use Rattle.row_store.specs.Store.{reading}
use Rattle.row_store.proofs.looks.look.Goals as goal

pub returns-in_default-clause-held : goal.returns-in_default-clause-held
returns-in_default-clause-held g c = λ tells rows has. sym (c.in_default.ensures.none rows (reading (g.D.Disk.seen c.args.disk.now) c.args.table.now.file) has)
