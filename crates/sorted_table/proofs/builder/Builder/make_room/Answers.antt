use Rattle.std.proofs.Common.{length, ap, arith}
use Rattle.sorted_table.proofs.Builds.{room_there, room_made, on_ok_two}
use Rattle.sorted_table.proofs.builder.Builder.make_room.Goals as goal

pub returns-clause-room : goal.returns-clause-room
returns-clause-room g c =
    let old = c.args.self.now in
    let seen = g.D.Disk.seen c.args.disk.now old.file in
    let seen' = g.D.Disk.seen c.write_block.new.disk old.file in
    on_ok_two c.write_block.result
    (λ written empty rows built. room_made old c.write_block.new.self c.args.size rows seen seen' built c.requires.small (omega (arith, ap length c.as_slice.ensures.value)) empty (λ some. written built.full built.present rows built.builds some))
    c.write_block.ensures.written c.write_block.ensures.empty
