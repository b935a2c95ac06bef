-- What a log can bring back of a store goes the ways of the store. Only these lemmas unfold `durable`.
use Rattle.std.proofs.Common.{◌≡◌, ◌∙◌, ap, refl, ℕ, true, List, [], ◌∷◌}
use Rattle.std.specs.FinMap as map
use Rattle.mds_base.specs.declared.setup.Setup.{Setup}
use Rattle.records.specs.declared.msg.Msg.{Msg}
use Rattle.records.specs.declared.record.Record.{Record}
use Rattle.records.specs.declared.record.Record.TheVariants.{Opened}
use Rattle.node_core.specs.Nodes.{NodeAndRows, has_numbers, new_node}
use Rattle.node_core.specs.Serving.{replayed, replayed_all, restarted, serve}
use Rattle.node_core.specs.Durable.{durable, ReplaysDurably}
use Rattle.node_core.specs.Terms.{store_on}
use Rattle.node_core.proofs.ReplayLaw.{replay_law}

pub replays_durably : (store : NodeAndRows) (item : Record) → ReplaysDurably store item
unfolding durable
replays_durably store item = record { follows = refl; leads = refl }

pub served_durably : (store : NodeAndRows) (msg : Msg) (now : ℕ) → has_numbers store.node ≡ true → replayed_all (durable store) (serve store msg now).records ≡ durable (serve store msg now).store
unfolding durable
served_durably store msg now numbers = replay_law store msg now numbers

pub replayed_all_durably : (store : NodeAndRows) (items : List Record) → replayed_all (durable store) items ≡ durable (replayed_all store items)
replayed_all_durably store [] = refl
replayed_all_durably store (item ∷ items) = ap (λ s. replayed_all s items) (replays_durably store item).leads ∙ replayed_all_durably (replayed store item) items

-- a new store has nothing that a log could not bring back
pub new_durably : (server : ℕ) (setup : Setup) → let new : NodeAndRows = record { node = new_node server setup; rows = map.empty } in durable new ≡ new
unfolding durable
new_durably server setup = refl

-- .. and an opening and a restart leave nothing of it
pub opened_durably : (store : NodeAndRows) → replayed (durable store) Opened ≡ replayed store Opened
unfolding durable
opened_durably store = refl

pub restarted_durably : (store : NodeAndRows) (now : ℕ) → restarted (durable store) now ≡ restarted store now
unfolding durable
restarted_durably store now = refl

-- the node that is brought back is that of its server
pub record IsNodeAlike (a b : NodeAndRows) : Type 0 where
  pub server : a.node.server ≡ b.node.server
  pub setup : a.node.setup ≡ b.node.setup
  pub next : a.node.next ≡ b.node.next

pub alike_durably : (store : NodeAndRows) → IsNodeAlike (durable store) store
unfolding durable
alike_durably store = record { server = refl; setup = refl; next = refl }

pub on_durably : (store : NodeAndRows) (terms : Setup) → durable (store_on terms store) ≡ store_on terms (durable store)
unfolding durable
on_durably store terms = refl
