use Rattle.gate_log.proofs.Unique.{one_log, no_log, one_place}
use Rattle.gate_log.proofs.gate_log.one_log_law.Goals as goal

pub returns-clause-one_log : goal.returns-clause-one_log
returns-clause-one_log c = one_log

pub returns-clause-either : goal.returns-clause-either
returns-clause-either c = no_log

pub returns-clause-one_place : goal.returns-clause-one_place
returns-clause-one_place c = one_place
