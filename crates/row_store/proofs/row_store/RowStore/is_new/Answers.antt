use Rattle.std.proofs.Common.{◌∙◌, ap}
use Rattle.std.specs.Prelude.{not}
use Rattle.row_store.proofs.row_store.RowStore.is_new.Goals as goal

pub returns-clause-root : goal.returns-clause-root
returns-clause-root c = λ known. c.is_none.ensures ∙ ap not known
