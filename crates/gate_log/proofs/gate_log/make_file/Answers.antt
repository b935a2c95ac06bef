use Rattle.gate_log.proofs.Makes.{cut_moment, made_moment}
use Rattle.gate_log.proofs.gate_log.make_file.Goals as goal

pub returns-in_err-cut-clause-any_moment : goal.returns-in_err-cut-clause-any_moment
returns-in_err-cut-clause-any_moment g c = cut_moment g.D.Disk.moment g.D.Disk.images_since c.args.file c.args.disk.now c.cut.new.self (g.D.Disk.images c.args.disk.now) (g.D.Disk.images c.cut.new.self) (g.met.D.Disk.only_now c.args.disk.now) c.cut.ensures.time c.cut.ensures.crash

pub returns-clause-any_moment : goal.returns-clause-any_moment
returns-clause-any_moment g c =
    let first = cut_moment g.D.Disk.moment g.D.Disk.images_since c.args.file c.args.disk.now c.cut.new.self (g.D.Disk.images c.args.disk.now) (g.D.Disk.images c.cut.new.self) (g.met.D.Disk.only_now c.args.disk.now) c.cut.ensures.time c.cut.ensures.crash in
    made_moment g.D.Disk.moment g.D.Disk.images_since c.args.file c.args.disk.now c.cut.new.self c.write_synced.new.disk (g.D.Disk.images c.args.disk.now) (g.D.Disk.images c.cut.new.self) first c.cut.ensures.crash c.write_synced.ensures.any_moment
