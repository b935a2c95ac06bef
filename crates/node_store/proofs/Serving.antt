-- The node stays its server's by serving, and what the records of a Serve lead to.
use Rattle.std.proofs.Common.{◌≡◌, ◌∙◌, sym, ap, subst, ℕ, ◌<◌, ◌≤◌, List, [], true}
use Rattle.mds_base.specs.declared.limits.TheConstants.{SERVERS_MOST}
use Rattle.mds_base.specs.declared.setup.Setup.{Setup}
use Rattle.mds_base.specs.RowKeys.{RowMap}
use Rattle.records.specs.declared.msg.Msg.{Msg}
use Rattle.records.specs.declared.record.Record.{Record}
use Rattle.node_core.specs.Nodes.{NodeV, NodeAndRows, has_numbers}
use Rattle.node_core.specs.Serving.{serve, replayed_all}
use Rattle.node_core.specs.Durable.{durable}
use Rattle.node_core.proofs.Durably.{replayed_all_durably, served_durably}
use Rattle.node_core.proofs.ToldRecords.{serve_records}
use Rattle.node_store.proofs.ReadingNodes.{still_all}
use Rattle.node_store.proofs.StandingAlike.{node_of_durably, node_of_store}
use Rattle.node_store.specs.Parts.{IsNodeOf}
use Rattle.node_store.specs.Serve.{IsMessage}
use Rattle.node_store.specs.Stands.{all_follow, IsBody}

-- ---- the node stays its server's

pub serve_stays : (server : ℕ) (setup : Setup) (store : NodeAndRows) (msg : Msg) (now : ℕ) → has_numbers store.node ≡ true → IsNodeOf server setup store.node → IsNodeOf server setup (serve store msg now).store.node
serve_stays server setup store msg now numbers is =
    node_of_store server setup (serve store msg now).store
    (subst (λ (s : NodeAndRows). IsNodeOf server setup s.node) (served_durably store msg now numbers) (still_all server setup (durable store) (serve store msg now).records (node_of_durably server setup store is)))

-- ---- a body of a Serve's records

-- the records of the body are those of the Serve, and lead to what a log can bring back of the store that it makes
pub record IsServedBody (store : NodeAndRows) (msg : Msg) (now : ℕ) (body : List ℕ) : Type 0 where
  pub is : IsBody body (serve store msg now).records
  pub follow : all_follow store (serve store msg now).records ≡ true
  pub leads : durable (replayed_all store (serve store msg now).records) ≡ durable (serve store msg now).store

pub served_body : (store : NodeAndRows) (msg : Msg) (now : ℕ) (body : List ℕ) (items : List Record) → IsMessage msg → has_numbers store.node ≡ true → store.node.server < SERVERS_MOST → 2 ≤ store.node.next → items ≡ (serve store msg now).records → IsBody body items → IsServedBody store msg now body
served_body store msg now body items made numbers few from_two same is = record {
  is = subst (λ (i : List Record). IsBody body i) same is;
  follow = (serve_records store msg now made numbers few from_two).follow;
  leads = sym (replayed_all_durably store (serve store msg now).records) ∙ served_durably store msg now numbers;
}

-- a Serve without records leaves what a log can bring back
pub bare_leads : (store : NodeAndRows) (msg : Msg) (now : ℕ) (items : List Record) → has_numbers store.node ≡ true → items ≡ (serve store msg now).records → items ≡ [] → durable store ≡ durable (serve store msg now).store
bare_leads store msg now items numbers same none = ap (replayed_all (durable store)) (sym none ∙ same) ∙ served_durably store msg now numbers

pub same_store : (store : NodeAndRows) (node : NodeV) (rows : RowMap) → node ≡ store.node → rows ≡ store.rows → record { node = node; rows = rows } ≡ store
same_store store node rows n r = ap (λ (x : NodeV). record { node = x; rows = rows }) n ∙ ap (λ (x : RowMap). record { node = store.node; rows = x }) r
