-- What a log can bring back of a server.
use Rattle.std.specs.Prelude.{◌≡◌}
use Rattle.records.specs.declared.record.Record.{Record}
use Rattle.node_core.specs.Nodes.{NodeAndRows}
use Rattle.node_core.specs.Serving.{may_follow, replayed}

-- what a log can bring back of a store: all of it, since a server keeps nothing yet of which its records don't tell
unfoldable pub durable : NodeAndRows → NodeAndRows
durable store = store

-- a record may follow at a store where it may follow at what a log brings back of it, and leads on from there to what a
-- log brings back
pub record ReplaysDurably (store : NodeAndRows) (item : Record) : Type 0 where
  pub follows : may_follow (durable store) item ≡ may_follow store item
  pub leads : replayed (durable store) item ≡ durable (replayed store item)
