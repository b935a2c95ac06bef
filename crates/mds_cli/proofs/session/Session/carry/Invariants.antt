use Rattle.std.proofs.Common.{◌-◌, ◌^◌}
use Rattle.mds_cli.specs.Streams.{moment}
use Rattle.mds_cli.proofs.LinesCarried.{Carrying}
use Rattle.mds_cli.proofs.session.Session.carry.Given as goal

-- the lines before were carried out
abbrev pub invariant-lines : goal.invariant-lines
invariant-lines g l =
    let at = moment g.S.Source.left g.S.Source.faults g.K.Sink.taken g.K.Sink.faults in
    Carrying g.D.Disk.faults g.D.Disk.lasts g.D.Disk.seen g.D.Disk.images
    (at l.fn.input l.fn.output l.fn.self.reader l.fn.self.interpreter.pending.items)
    (at l.input l.output l.self.reader l.self.interpreter.pending.items)
    l.fn.self.interpreter.simulation l.self.interpreter.simulation l.number

abbrev pub decreases-lines : goal.decreases-lines
decreases-lines g l = 2 ^ 22 - l.number
