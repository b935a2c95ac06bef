use Rattle.std.proofs.Common.{◌≡◌, ◌∙◌, ◌*◌, ◌<◌, List, Ok, ℕ, length, take, drop, ap, subst, sym}
use Rattle.std.proofs.lemmas.Result.{IfOk-weaker}
use Rattle.mds_out.specs.Known.{OnTold}
use Rattle.sorted_table.specs.Tables.{TableState}
use Rattle.sorted_table.proofs.Looking.{told_at}
use Rattle.sorted_table.proofs.BlockThere.{block_rows_are, block_answer}
use Rattle.sorted_table.proofs.table.Table.block_rows.Goals as goal

pub returns-clause-block : goal.returns-clause-block
returns-clause-block g c =
    let table = c.args.self.now in
    let file : c.self.inside.file ≡ table.file = ap (λ (t : TableState). t.file) c.self.view_is in
    let lent = told_at (g.D.Disk.seen c.args.disk.now) c.self.inside.file table.file c.read_block.new.frame.bytes c.bytes.result.now (λ bytes. take 4096 (drop (4096 * c.args.place) bytes)) file c.bytes.ensures.bytes c.in_ok-read_block.ensures.bytes in
    IfOk-weaker c.rows_of.result _ _ (λ rows read. block_rows_are table (g.D.Disk.seen c.args.disk.now table.file) c.bytes.result.now c.args.place rows.items c.requires.within lent read) c.rows_of.ensures.read

pub returns-clause-answer : goal.returns-clause-answer
returns-clause-answer g c =
    let table = c.args.self.now in
    let file : c.self.inside.file ≡ table.file = ap (λ (t : TableState). t.file) c.self.view_is in
    block_answer table (g.D.Disk.seen c.args.disk.now table.file) c.bytes.result.now c.args.place c.rows_of.result c.requires.within
    (told_at (g.D.Disk.seen c.args.disk.now) c.self.inside.file table.file c.read_block.new.frame.bytes c.bytes.result.now (λ bytes. take 4096 (drop (4096 * c.args.place) bytes)) file c.bytes.ensures.bytes c.in_ok-read_block.ensures.bytes)
    c.requires.ready.told c.rows_of.ensures.plain
