use Rattle.node_core.proofs.Durably.{replays_durably, served_durably}
use Rattle.node_core.proofs.law.laws_of_replay.Goals as goal

pub returns-clause-served : goal.returns-clause-served
returns-clause-served c = served_durably

pub returns-clause-replayed : goal.returns-clause-replayed
returns-clause-replayed c = replays_durably
