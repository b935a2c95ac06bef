use Rattle.std.proofs.Common.{◌≡◌, ◌∙◌, List, ℕ, Some, arith}
use Rattle.std.proofs.lemmas.Result.{IfErr-weaker}
use Rattle.node_store.proofs.Damages.{on_damage, no_damage, stays_same, on_each_err}
use Rattle.node_store.proofs.opening.bring_store.Goals as goal

pub returns-then-length-eq1-clause-still : goal.returns-then-length-eq1-clause-still
returns-then-length-eq1-clause-still g c =
    IfErr-weaker c.begin_log.result _ _ (λ fault refused. no_damage (g.D.Disk.seen c.args.disk.now 1) _ fault _ (stays_same (g.D.Disk.seen c.args.disk.now 1)) refused) c.begin_log.ensures.refused

pub returns-else-length-eq1-clause-still : goal.returns-else-length-eq1-clause-still
returns-else-length-eq1-clause-still g c =
    on_each_err c.read_log.result _
    (λ fault. on_damage (g.D.Disk.seen c.args.disk.now 1) fault _ (λ bytes is. (λ one. c.if-length-eq1.false (c.length.ensures ∙ one), c.read_log.ensures.call.unchanged.bytes 1 ∙ is)))
