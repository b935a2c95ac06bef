-- The terms of a run, which a setup says, and a server on the terms of another run.
use Rattle.std.specs.Prelude.{◌≡◌}
use Rattle.mds_base.specs.declared.setup.Setup.{Setup}
use Rattle.records.specs.declared.record.Record.{Record}
use Rattle.node_core.specs.Nodes.{NodeV, NodeAndRows}
use Rattle.node_core.specs.Serving.{may_follow, replayed}

-- two setups share what the head of a log says: how many servers there are, and the threshold
pub record SharesHead (old new : Setup) : Type 0 where
  pub servers : new.servers ≡ old.servers
  pub threshold : new.threshold ≡ old.threshold

-- the node, and the store, on other terms
abbrev pub node_on : Setup → NodeV → NodeV
node_on terms node = record node { setup = terms }

abbrev pub store_on : Setup → NodeAndRows → NodeAndRows
store_on terms store = record store { node = node_on terms store.node }

-- a record may follow on these terms where it may on those of the store, and leads to the same store but for the terms
pub record ReplaysOn (terms : Setup) (store : NodeAndRows) (item : Record) : Type 0 where
  pub follows : may_follow (store_on terms store) item ≡ may_follow store item
  pub leads : replayed (store_on terms store) item ≡ store_on terms (replayed store item)

-- the law on terms: so it is of every record, on all terms that share the head
abbrev pub ReplaysOnAllTerms : Type 0
ReplaysOnAllTerms =
    (store : NodeAndRows) (terms : Setup) → SharesHead store.node.setup terms → (item : Record)
    → ReplaysOn terms store item
