use Rattle.std.proofs.Common.{sym, subst, refl, Option, None}
use Rattle.std.specs.Prelude.{IfOk}
use Rattle.mds_base.specs.declared.ask.Ask.{Ask}
use Rattle.node_core.specs.Nodes.{NodeAndRows}
use Rattle.node_core.specs.Planning.{IsPlanOf}
use Rattle.node_core.specs.Ranges.{RequestFits}
use Rattle.node_core.specs.Serving.{serve, serve_request}
use Rattle.node_core.proofs.Planned.{plans_nothing}
use Rattle.node_core.proofs.node.Node.plan.Goals as goal

pub plan_ask-requires-clause-fits : goal.plan_ask-requires-clause-fits
plan_ask-requires-clause-fits g c = subst RequestFits (sym c.in-Some.ensures) c.requires.fits

pub returns-in-Some-clause-ok : goal.returns-in-Some-clause-ok
unfolding serve
returns-in-Some-clause-ok g c =
    let store : NodeAndRows = record { node = c.args.self.now; rows = g.R.Rows.contents c.args.rows.now } in
    subst (λ (request : Option Ask). IfOk c.plan_ask.result (λ plan. IsPlanOf store (serve_request store request c.args.now) plan)) c.in-Some.ensures c.plan_ask.ensures.ok

pub returns-in-None-clause-ok : goal.returns-in-None-clause-ok
unfolding serve
returns-in-None-clause-ok g c =
    let store : NodeAndRows = record { node = c.args.self.now; rows = g.R.Rows.contents c.args.rows.now } in
    subst (λ (request : Option Ask). IsPlanOf store (serve_request store request c.args.now) c.idle.result) c.in-None.ensures
    (plans_nothing store (serve_request store None c.args.now) c.idle.result c.idle.ensures.change refl c.idle.ensures.records c.idle.ensures.outputs)
