use Rattle.node_store.proofs.OpeningLaws.{one_store, not_damaged}
use Rattle.node_store.proofs.StandingOn.{file_stands_on}
use Rattle.node_store.proofs.Restarting.{at_restart_stands_not}
use Rattle.node_store.proofs.laws.laws_of_disks.Goals as goal

pub returns-clause-one : goal.returns-clause-one
returns-clause-one c = one_store

pub returns-clause-sound : goal.returns-clause-sound
returns-clause-sound c = not_damaged

pub returns-clause-terms : goal.returns-clause-terms
returns-clause-terms c = file_stands_on

pub returns-clause-none : goal.returns-clause-none
returns-clause-none c = at_restart_stands_not
