use Rattle.std.proofs.Common.{◌≡◌, take}
use Rattle.node_core.specs.Nodes.{NodeAndRows}
use Rattle.node_core.specs.Serving.{replayed_all}
use Rattle.world.proofs.state.replay_all.Given as goal

abbrev pub invariant-loop-item : goal.invariant-loop-item
invariant-loop-item l =
    let start : NodeAndRows = record { node = l.fn.node; rows = l.fn.rows } in
    (l.node ≡ (replayed_all start (take l.item-index l.items)).node) × (l.rows ≡ (replayed_all start (take l.item-index l.items)).rows)
