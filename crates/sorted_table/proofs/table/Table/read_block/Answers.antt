use Rattle.std.proofs.Common.{◌*◌, List, take, drop, ap, sym, refl}
use Rattle.sorted_table.specs.Tables.{TableState}
use Rattle.sorted_table.proofs.Looking.{told_at}
use Rattle.sorted_table.proofs.table.Table.read_block.Goals as goal

pub returns-clause-block : goal.returns-clause-block
returns-clause-block g c =
    told_at (g.D.Disk.seen c.args.disk.now) c.self.inside.file c.args.self.now.file c.read_block.new.frame.bytes c.read_block.new.frame.bytes (λ bytes. take 4096 (drop (4096 * c.args.place) bytes)) (ap (λ (t : TableState). t.file) c.self.view_is) refl c.in_ok-read_block.ensures.bytes
