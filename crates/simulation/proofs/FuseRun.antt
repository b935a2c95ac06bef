-- A fuse that is armed changes nothing that a run tells.
use Rattle.std.proofs.Common.{◌≡◌, ◌∙◌, sym, ap, subst, ℕ, Bool, true, false, List, Some, inl, inr}
use Rattle.std.specs.Prelude.{slice_set}
use Rattle.std.specs.List.{slice_get}
use Rattle.mds_base.specs.declared.setup.Setup.{Setup}
use Rattle.mds_out.specs.Disk.{Image, Contents}
use Rattle.mds_out.specs.Fused.{Fused}
use Rattle.node_store.specs.Store.{Store}
use Rattle.world.specs.declared.state.ServerState.{ServerState}
use Rattle.mds_base.proofs.Grow.{get_set, length_set}
use Rattle.pasts.specs.Fuses.{seen_by, images_by}
use Rattle.simulation.specs.Moves.{armed}
use Rattle.simulation.specs.Shows.{SimulationV, ShowsSame}
use Rattle.pasts.specs.Servers.{IsServerAt, IsServer, AreServers}

module _ {D : Type 0} (seen : D → Contents) (images : D → Image → Type 0) where
  armed_at : (store : Store (Fused D)) (state : ServerState) (calls : ℕ) (b : Bool) → IsServerAt (seen_by seen) (images_by images) store state b → IsServerAt (seen_by seen) (images_by images) (armed store calls) state b
  armed_at store state calls true at = at
  armed_at store state calls false at = (record { down = at.0.down; told = at.0.told }, at.1)

  armed_server : (setup : Setup) (s calls : ℕ) (store : Store (Fused D)) (state : ServerState) → IsServer (seen_by seen) (images_by images) setup s store state → IsServer (seen_by seen) (images_by images) setup s (armed store calls) state
  armed_server setup s calls store state h = record { told = h.told; server = h.server; setup' = h.setup'; at = armed_at store state calls state.up h.at }

  servers_armed : (setup : Setup) (stores : List (Store (Fused D))) (servers : List ServerState) (s calls : ℕ) (store : Store (Fused D)) → slice_get stores s ≡ Some store → AreServers (seen_by seen) (images_by images) setup stores servers
      → AreServers (seen_by seen) (images_by images) setup (slice_set stores s (armed store calls)) servers
  servers_armed setup stores servers s calls store is a = record {
    count = length_set stores s (armed store calls) ∙ a.count;
    each = record {
      at = λ k state there other e. elim (get_set stores s (armed store calls) k other e) [
        | inl h ↦ subst (λ v. IsServer (seen_by seen) (images_by images) setup k v state) h.1
            (armed_server setup k calls store state (a.each.at k state there store (ap (slice_get stores) h.0 ∙ is)))
        | inr h ↦ a.each.at k state there other h.1
      ];
    };
  }

  arm_shows : (was : SimulationV (Fused D)) (s calls : ℕ) (store : Store (Fused D)) → slice_get was.stores s ≡ Some store → ShowsSame (seen_by seen) (images_by images) was (record was { stores = slice_set was.stores s (armed store calls) })
  arm_shows was s calls store is run shows = record {
    setup = shows.setup;
    moment = shows.moment;
    count = shows.count;
    few = shows.few;
    servers = servers_armed was.setup was.stores run.trace.world.servers s calls store is shows.servers;
    clients = shows.clients;
    going_on = shows.going_on;
    sent = shows.sent;
    named = shows.named;
    waiting = shows.waiting;
    made = shows.made;
    taken = shows.taken;
  }

  pub arm_same : {was old : SimulationV (Fused D)} (same : was ≡ old) (s calls : ℕ) (store store' : Store (Fused D)) → slice_get was.stores s ≡ Some store → store' ≡ armed store calls
      → ShowsSame (seen_by seen) (images_by images) old (record was { stores = slice_set was.stores s store' })
  arm_same {was = was} {old = old} same s calls store store' is after =
      subst (λ v. ShowsSame (seen_by seen) (images_by images) old (record was { stores = slice_set was.stores s v })) (sym after)
      (subst (λ v. ShowsSame (seen_by seen) (images_by images) v (record was { stores = slice_set was.stores s (armed store calls) })) same (arm_shows was s calls store is))
