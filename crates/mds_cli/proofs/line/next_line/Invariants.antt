use Rattle.std.proofs.Common.{◌-◌, ◌*◌, ◌+◌, ◌^◌, length}
use Rattle.mds_cli.specs.Streams.{streams}
use Rattle.mds_cli.proofs.LineRead.{IsReading}
use Rattle.mds_cli.proofs.line.next_line.Given as goal

-- the line so far was read
abbrev pub invariant-parts : goal.invariant-parts
invariant-parts g l =
    let left = g.S.Source.left in
    let taken = g.K.Sink.taken in
    IsReading
    (streams l.fn.reader (left l.fn.input) (taken l.fn.output) l.fn.pending.items (g.S.Source.faults l.fn.input) (g.K.Sink.faults l.fn.output))
    (streams l.reader (left l.input) (taken l.output) l.pending.items (g.S.Source.faults l.input) (g.K.Sink.faults l.output))
    l.line.items

-- each turn but the first takes a byte at least
abbrev pub decreases-parts : goal.decreases-parts
decreases-parts g l = (2 ^ 20 + 1 - length l.line.items) * 2 + (1 - length l.reader)
