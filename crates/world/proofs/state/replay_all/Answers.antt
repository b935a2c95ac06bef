use Rattle.std.proofs.Common.{◌∙◌, sym, ap, arith}
use Rattle.node_core.specs.Nodes.{NodeAndRows}
use Rattle.mds_base.proofs.Results.{if_ok_from}
use Rattle.world.proofs.Stepped.{replay_step}
use Rattle.world.proofs.state.replay_all.Goals as goal

pub loop-item-preserved : goal.loop-item-preserved
loop-item-preserved c =
    let start : NodeAndRows = record { node = c.args.node.now; rows = c.args.rows.now } in
    let before : NodeAndRows = record { node = c.loop-item.node; rows = c.loop-item.rows } in
    let done = if_ok_from c.replay.result _ (sym c.is_err.ensures.value ∙ c.if-is_err.false) c.replay.ensures.ok in
    let step = replay_step c.args.items.now c.loop-item.item-index start before c.item-item.result (omega arith) c.item-item.is c.loop-item.invariant.0 c.loop-item.invariant.1 in
    (done.1.node' ∙ ap (λ (s : NodeAndRows). s.node) step, done.1.rows' ∙ ap (λ (s : NodeAndRows). s.rows) step)
