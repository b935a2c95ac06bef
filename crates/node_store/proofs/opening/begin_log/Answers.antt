use Rattle.std.proofs.Common.{ap}
use Rattle.gate_log.specs.LogState.{LogState}
use Rattle.node_store.proofs.OpeningMoments.{first_kept, first_moments, first_stands}
use Rattle.node_store.proofs.opening.begin_log.Goals as goal

pub returns-in-Ok-clause-kept : goal.returns-in-Ok-clause-kept
returns-in-Ok-clause-kept g c =
    let e = c.in-Ok.ensures in
    first_kept c.args.server c.args.setup c.in_ok-piece.piece c.in_ok-piece.ensures (g.D.Disk.seen c.args.disk.now) (g.D.Disk.seen c.append.new.disk) (g.D.Disk.sizes c.args.disk.now) (g.D.Disk.sizes c.append.new.disk) (g.D.Disk.images c.args.disk.now) (g.D.Disk.images c.append.new.disk) c.args.log.now c.append.new.self
    c.requires.is_open c.requires.empty (ap (λ (l : LogState). l.file) e.length) (ap (λ (l : LogState). l.stopped) e.length) e.ready e.told e.appended c.new.result c.new-in-Ok.result c.new.ensures c.new-in-Ok.ensures

pub returns-in-Ok-clause-stands : goal.returns-in-Ok-clause-stands
returns-in-Ok-clause-stands g c = first_stands c.args.server c.args.setup (g.D.Disk.seen c.args.disk.now) (g.D.Disk.sizes c.args.disk.now) (g.D.Disk.images c.args.disk.now) c.args.log.now c.requires.is_open c.requires.empty c.new.result c.new-in-Ok.result c.new.ensures c.new-in-Ok.ensures

pub returns-in-Ok-clause-any_moment : goal.returns-in-Ok-clause-any_moment
returns-in-Ok-clause-any_moment g c =
    first_moments c.args.server c.args.setup c.in_ok-piece.piece c.in_ok-piece.ensures g.D.Disk.moment g.D.Disk.images_since c.args.disk.now c.append.new.disk (g.D.Disk.seen c.args.disk.now) (g.D.Disk.sizes c.args.disk.now) (g.D.Disk.images c.args.disk.now) c.args.log.now c.requires.is_open c.requires.empty (c.append.ensures.any_moment c.requires.is_open.running)

pub returns-clause-any_moment : goal.returns-clause-any_moment
returns-clause-any_moment g c =
    first_moments c.args.server c.args.setup c.in_ok-piece.piece c.in_ok-piece.ensures g.D.Disk.moment g.D.Disk.images_since c.args.disk.now c.append.new.disk (g.D.Disk.seen c.args.disk.now) (g.D.Disk.sizes c.args.disk.now) (g.D.Disk.images c.args.disk.now) c.args.log.now c.requires.is_open c.requires.empty (c.append.ensures.any_moment c.requires.is_open.running)
