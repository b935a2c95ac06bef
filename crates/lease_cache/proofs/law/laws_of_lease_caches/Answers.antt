use Rattle.lease_cache.proofs.Contained.{answered_kept, kept_answered, from_kept, from_used, from_dropped}
use Rattle.lease_cache.proofs.law.laws_of_lease_caches.Goals as goal

pub returns-clause-answered_kept : goal.returns-clause-answered_kept
returns-clause-answered_kept c = answered_kept

pub returns-clause-kept_answered : goal.returns-clause-kept_answered
returns-clause-kept_answered c = kept_answered

pub returns-clause-from_kept : goal.returns-clause-from_kept
returns-clause-from_kept c = from_kept

pub returns-clause-from_used : goal.returns-clause-from_used
returns-clause-from_used c = from_used

pub returns-clause-from_dropped : goal.returns-clause-from_dropped
returns-clause-from_dropped c = from_dropped
