use Rattle.row_store.proofs.Keeping.{stands}
use Rattle.row_store.proofs.row_store.stands_law.Goals as goal

pub returns : goal.returns
returns c = stands
