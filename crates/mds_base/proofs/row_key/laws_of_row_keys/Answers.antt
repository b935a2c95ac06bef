use Rattle.mds_base.proofs.RowMaps.{row_keys_total, exact_row_keys, past_up, kept_rows, same_rows}
use Rattle.mds_base.proofs.row_key.laws_of_row_keys.Goals as goal

pub returns-clause-total : goal.returns-clause-total
returns-clause-total c = row_keys_total

pub returns-clause-exact : goal.returns-clause-exact
returns-clause-exact c = exact_row_keys

pub returns-clause-past_up : goal.returns-clause-past_up
returns-clause-past_up c = past_up

pub returns-clause-kept : goal.returns-clause-kept
returns-clause-kept c = kept_rows

pub returns-clause-same : goal.returns-clause-same
returns-clause-same c = same_rows
