use Rattle.std.proofs.Common.{◌≡◌, sym, subst}
use Rattle.std.specs.Prelude.{◌⊎◌}
use Rattle.std.proofs.lemmas.Result.{IfOk-weaker, on_err_weaker}
use Rattle.mds_out.specs.Disk.{LeavesOnly}
use Rattle.mds_out.specs.Known.{OnTold}
use Rattle.records.specs.declared.msg.Msg.{Msg}
use Rattle.node_core.specs.Serving.{serve}
use Rattle.node_store.specs.Serve.{IsMessage, HasServed, HasStopped}
use Rattle.node_store.specs.Store.{StandsForEither}
use Rattle.node_store.proofs.node_store.NodeStore.serve_batch.Goals as goal

pub serve-requires-clause-made : goal.serve-requires-clause-made
serve-requires-clause-made g c = subst IsMessage (sym (c.one_of-msg.ensures c.requires.one.0 c.requires.one.1)) c.requires.one.1.made

pub returns-clause-served : goal.returns-clause-served
returns-clause-served g c =
    IfOk-weaker c.serve.result _ _
    (λ handled is msg store one up. subst (λ (m : Msg). HasServed (serve store m c.args.now) c.serve.new.self.up handled) (c.one_of-msg.ensures msg one) (is store up)) c.serve.ensures.served

pub returns-clause-any_moment : goal.returns-clause-any_moment
returns-clause-any_moment g c = λ msg store one up.
    subst
    (λ (m : Msg). OnTold (g.D.Disk.seen c.args.self.now.disk 1)
    (λ _. LeavesOnly g.D.Disk.moment g.D.Disk.images_since c.args.self.now.disk c.serve.new.self.disk (StandsForEither c.args.self.now.server c.args.self.now.setup store (serve store m c.args.now).store)))
    (c.one_of-msg.ensures msg one) (c.serve.ensures.any_moment store up)

pub returns-clause-refused : goal.returns-clause-refused
returns-clause-refused g c =
    on_err_weaker c.serve.result
    (λ refused msg store one up.
    subst (λ (m : Msg). (c.serve.new.self ≡ c.args.self.now) ⊎ HasStopped g.D.Disk.seen g.D.Disk.images c.serve.new.self store (serve store m c.args.now).records) (c.one_of-msg.ensures msg one) (refused store up))
    c.serve.ensures.refused
