use Rattle.std.proofs.Common.{◌∙◌, sym}
use Rattle.std.proofs.lemmas.Result.{IfOk-weaker}
use Rattle.row_store.proofs.Passing.{map_said, map_under}
use Rattle.row_store.specs.Store.{reading}
use Rattle.row_store.proofs.seeking.row_at.Goals as goal

pub returns-in-Some-clause-found : goal.returns-in-Some-clause-found
returns-in-Some-clause-found g c = λ tells rows m.
    map_said c.args.tables.now c.args.fresh.now.entries rows (reading (g.D.Disk.seen c.args.disk.now)) c.args.key.now c.in-Some.attr (sym c.last_said.ensures ∙ c.in-Some.is) m

pub returns-clause-found : goal.returns-clause-found
returns-clause-found g c =
    IfOk-weaker c.row_in.result _ _ (λ found finds tells rows m. map_under c.args.tables.now c.args.fresh.now.entries rows (g.D.Disk.seen c.args.disk.now) c.args.key.now found (sym c.last_said.ensures ∙ c.in_default.is) finds tells m) c.row_in.ensures.found
