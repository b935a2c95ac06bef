use Rattle.std.proofs.Common.{ap, ◌+◌}
use Rattle.gate_log.proofs.Frames.{longer}
use Rattle.gate_log.proofs.Lengths.{gate_place_is, body_stands}
use Rattle.gate_log.proofs.gate_log.log_places_law.Goals as goal

pub returns-clause-lengths : goal.returns-clause-lengths
returns-clause-lengths c = λ bodies. ap (λ k. k + 1) (gate_place_is bodies)

pub returns-clause-longer : goal.returns-clause-longer
returns-clause-longer c = longer

pub returns-clause-bodies : goal.returns-clause-bodies
returns-clause-bodies c = body_stands
