use Rattle.std.proofs.Common.{◌∙◌, ap, arith}
use Rattle.simulation.specs.Places.{places_of}
use Rattle.simulation.proofs.MessageMarks.{unmarked_more}
use Rattle.simulation.proofs.places.make_room.Goals as goal

pub returns-in_ok-resize-clause-same : goal.returns-in_ok-resize-clause-same
returns-in_ok-resize-clause-same c =
    ap places_of c.in_ok-resize.ensures.items ∙ unmarked_more c.args.marks.now.items c.args.len _ (omega (arith, c.if-len.true, c.len.ensures))
