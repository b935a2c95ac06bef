use Rattle.std.proofs.Common.{arith}
use Rattle.std.proofs.lemmas.Result.{on_ok_weaker}
use Rattle.sorted_table.proofs.Builds.{last_some}
use Rattle.sorted_table.proofs.builder.Builder.write_last.Goals as goal

pub returns-clause-written : goal.returns-clause-written
returns-clause-written g c =
    let old = c.args.self.now in
    on_ok_weaker c.write_block.result
    (λ written full present rows builds. last_some old c.write_block.new.self full present rows (g.D.Disk.seen c.args.disk.now old.file) (g.D.Disk.seen c.write_block.new.disk old.file) builds (omega arith) (λ some. written full present rows builds some))
    c.write_block.ensures.written
