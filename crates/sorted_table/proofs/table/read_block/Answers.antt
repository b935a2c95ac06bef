use Rattle.std.proofs.Common.{◌≡◌, ◌∙◌, List, ℕ, Option, subst, sym, length, take, drop, arith, rules, ◌*◌}
use Rattle.std.specs.List.{refill}
use Rattle.std.proofs.lemmas.Result.{on_ok_weaker}
use Rattle.mds_out.specs.Known.{OnTold}
use Rattle.mds_out.proofs.Rooms.{lent_whole}
use Rattle.sorted_table.proofs.Looking.{block_lent}
use Rattle.sorted_table.proofs.table.read_block.Goals as goal

pub returns-clause-bytes : goal.returns-clause-bytes
returns-clause-bytes g c =
    on_ok_weaker c.read_at.result
    (block_lent (g.D.Disk.seen c.args.disk.now c.args.file) c.args.frame.now.bytes c.bytes_mut.result.now c.read_at.new.into (4096 * c.args.place) c.bytes_mut.ensures.bytes c.bytes_mut.ensures.size (search rules))
    c.read_at.ensures.bytes
