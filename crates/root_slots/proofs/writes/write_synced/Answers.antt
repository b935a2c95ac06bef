use Rattle.std.proofs.Common.{length}
use Rattle.gate_log.proofs.Appends.{write_moment, sync_moment}
use Rattle.root_slots.proofs.writes.write_synced.Goals as goal

pub returns-in_err-write_at-clause-any_moment : goal.returns-in_err-write_at-clause-any_moment
returns-in_err-write_at-clause-any_moment g c =
    write_moment g.D.Disk.moment g.D.Disk.images_since 0 c.args.at (length c.args.bytes.now) c.args.disk.now c.write_at.new.self (g.D.Disk.images c.args.disk.now) (g.D.Disk.images c.write_at.new.self)
    (g.met.D.Disk.only_now c.args.disk.now) c.write_at.ensures.time c.write_at.ensures.crash

pub returns-clause-any_moment : goal.returns-clause-any_moment
returns-clause-any_moment g c =
    let first = write_moment g.D.Disk.moment g.D.Disk.images_since 0 c.args.at (length c.args.bytes.now) c.args.disk.now c.write_at.new.self (g.D.Disk.images c.args.disk.now) (g.D.Disk.images c.write_at.new.self)
    (g.met.D.Disk.only_now c.args.disk.now) c.write_at.ensures.time c.write_at.ensures.crash in
    sync_moment g.D.Disk.moment g.D.Disk.images_since 0 c.args.at (length c.args.bytes.now) c.args.disk.now c.write_at.new.self c.sync.new.self (g.D.Disk.images c.args.disk.now) (g.D.Disk.images c.write_at.new.self) (g.D.Disk.images c.sync.new.self)
    first c.sync.ensures.time c.write_at.ensures.crash c.sync.ensures.crash
