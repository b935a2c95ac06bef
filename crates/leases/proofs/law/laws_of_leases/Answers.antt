use Rattle.leases.proofs.Held.{granted_here, granted_apart, swept_held, swept_upto, bounded, least, top_granted, top_swept, unleased_held, unleased_top}
use Rattle.leases.proofs.law.laws_of_leases.Goals as goal

pub returns-clause-granted_here : goal.returns-clause-granted_here
returns-clause-granted_here c = granted_here

pub returns-clause-granted_apart : goal.returns-clause-granted_apart
returns-clause-granted_apart c = granted_apart

pub returns-clause-swept_held : goal.returns-clause-swept_held
returns-clause-swept_held c = swept_held

pub returns-clause-swept_upto : goal.returns-clause-swept_upto
returns-clause-swept_upto c = swept_upto

pub returns-clause-bounded : goal.returns-clause-bounded
returns-clause-bounded c = bounded

pub returns-clause-least : goal.returns-clause-least
returns-clause-least c = least

pub returns-clause-top_granted : goal.returns-clause-top_granted
returns-clause-top_granted c = top_granted

pub returns-clause-top_swept : goal.returns-clause-top_swept
returns-clause-top_swept c = top_swept

pub returns-clause-unleased_held : goal.returns-clause-unleased_held
returns-clause-unleased_held c = unleased_held

pub returns-clause-unleased_top : goal.returns-clause-unleased_top
returns-clause-unleased_top c = unleased_top
