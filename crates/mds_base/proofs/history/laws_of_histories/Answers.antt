use Rattle.mds_base.proofs.Histories.{leads_on, legal_front, legal_rest, one_more, more_legal, history_spares, dropped_legal, dropped_end}
use Rattle.mds_base.proofs.Places.{same_entries}
use Rattle.mds_base.proofs.history.laws_of_histories.Goals as goal

pub returns-clause-front : goal.returns-clause-front
returns-clause-front c = legal_front

pub returns-clause-leads_on : goal.returns-clause-leads_on
returns-clause-leads_on c = leads_on

pub returns-clause-rest : goal.returns-clause-rest
returns-clause-rest c = legal_rest

pub returns-clause-stays : goal.returns-clause-stays
returns-clause-stays c = history_spares

pub returns-clause-same : goal.returns-clause-same
returns-clause-same c = same_entries

pub returns-clause-dropped : goal.returns-clause-dropped
returns-clause-dropped c = dropped_legal

pub returns-clause-same_end : goal.returns-clause-same_end
returns-clause-same_end c = dropped_end

pub returns-clause-one_more : goal.returns-clause-one_more
returns-clause-one_more c = one_more

pub returns-clause-more_legal : goal.returns-clause-more_legal
returns-clause-more_legal c = more_legal
