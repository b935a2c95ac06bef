-- A simulation in which nothing happened yet: its numbers are within their ranges, and it begins a run.
use Rattle.std.proofs.Common.{◌≡◌, ◌∙◌, sym, ap, subst, refl, ℕ, ◌+◌, ◌&&◌, not, true, false, List, [], ◌∷◌, length, arith}
use Rattle.std.specs.Prelude.{map as list_map}
use Rattle.std.specs.List.{slice_get, range_with_len}
use Rattle.std.proofs.lemmas.List.FromFn.{length-map-range_with_len}
use Rattle.std.specs.FinSet as set
use Rattle.std.specs.Ordering.{nat_cmp}
use Rattle.mds_base.specs.declared.setup.Setup.{Setup}
use Rattle.mds_base.specs.Entries.{Entries}
use Rattle.mds_out.specs.Disk.{Image, Contents}
use Rattle.mds_out.specs.Fused.{Fused}
use Rattle.client_core.specs.Clients.{ClientV, new_client}
use Rattle.node_store.specs.Store.{Store}
use Rattle.mds_base.proofs.Grow.{within}
use Rattle.world.specs.declared.state.ServerState.{ServerState}
use Rattle.world.specs.declared.state.ClientState.{ClientState}
use Rattle.world.specs.Events.{is_for_server}
use Rattle.world.specs.Law.{PastRun}
use Rattle.world.specs.Worlds.{new_seat}
use Rattle.mds_base.proofs.Lists.{get_below, get_mapped, ranged}
use Rattle.pasts.specs.Openings.{OpensFrom, Paired, IsUpOn}
use Rattle.pasts.specs.Servers.{AreServers}
use Rattle.pasts.specs.Starts.{AreReached}
use Rattle.mds_base.specs.Setups.{IsSetup}
use Rattle.simulation.specs.Openings.{BeginsFrom, IsFresh}
use Rattle.simulation.specs.Ranges.{IsSeat, IsRanged}
use Rattle.simulation.specs.Runs.{start_run, is_named}
use Rattle.simulation.specs.Shows.{SimulationV, Shows, waiting_cmp}
use Rattle.pasts.proofs.ListPairs.{paired_length, paired_at}

fresh_seat : (setup : Setup) (k : ℕ) → IsSeat setup 0 k (new_client (1 + k) setup)
fresh_seat setup k = record { number = omega arith; setup' = refl; seq = omega arith; pending = tt }

pub fresh_ranges : {D : Type 0} (lasts : D → D → Type 0) (seen : D → Contents) (images : D → Image → Type 0) (setup : Setup) (disks : List D) (stores : List (Store (Fused D))) (clients : List ClientV) → IsSetup setup → length disks ≡ setup.servers
    → Paired (IsUpOn lasts seen images setup) 0 disks stores → clients ≡ list_map (λ k. new_client k setup) (range_with_len 1 setup.clients) → IsRanged setup 0 0 stores clients []
fresh_ranges lasts seen images setup disks stores clients is count up new = record {
  ranges = record {
    setup' = is;
    moment = omega arith;
    seats' = record {
      at = λ k client at.
          subst (IsSeat setup 0 k) (ranged (λ k. new_client k setup) 1 setup.clients k client (ap (λ cs. slice_get cs k) (sym new) ∙ at)) (fresh_seat setup k);
    };
    sent' = record { at = λ k msg at. cc };
  };
  all = ap length new ∙ length-map-range_with_len (λ k. new_client k setup) 1 setup.clients;
  events = omega arith;
  stores' = record {
    all = paired_length (IsUpOn lasts seen images setup) 0 disks stores up ∙ count;
    each = record {
      at = λ s store at.
          let n = paired_length (IsUpOn lasts seen images setup) 0 disks stores up in
          let w = within stores s store at in
          let g = get_below disks s (omega arith) in
          let u : IsUpOn lasts seen images setup s g.0 store = paired_at (IsUpOn lasts seen images setup) disks stores up s g.0 store g.1 at in
          (u.server, u.setup');
    };
  };
}

-- ---- it begins a run

seats_are : (setup : Setup) (ks : List ℕ) → list_map (λ (seat : ClientState). seat.client) (list_map (new_seat setup) ks) ≡ list_map (λ k. new_client k setup) ks
seats_are setup [] = refl
seats_are setup (k ∷ ks) = ap (λ cs. new_client k setup ∷ cs) (seats_are setup ks)

shows_fresh : {X : Type 0} (seen : X → Contents) (images : X → Image → Type 0) (setup : Setup) (servers : List ServerState) (entries : Entries) (sim : SimulationV X) → IsFresh setup sim
    → AreServers seen images setup sim.stores servers → Shows seen images sim (start_run setup servers entries)
shows_fresh seen images setup servers entries sim fresh are = record {
  setup = sym fresh.setup';
  moment = sym fresh.moment;
  count = sym fresh.count;
  few = omega arith;
  servers = subst (λ x. AreServers seen images x sim.stores servers) (sym fresh.setup') are;
  clients = seats_are setup (range_with_len 1 setup.clients) ∙ sym fresh.clients;
  going_on = record {
    at = λ k seat e.
        let g = get_mapped (new_seat setup) (range_with_len 1 setup.clients) k seat e in
        ap (λ (s : ClientState). s.quit) (sym g.2);
  };
  sent = sym fresh.sent;
  waiting = λ s k.
      ap (λ (w : set.FinSet waiting_cmp). set.contains w (s, k)) fresh.waiting ∙ set.contains-empty waiting_cmp (s, k)
      ∙ no_msg s k;
  named = λ message named. absurd (let n : false ≡ true = named in cc);
  made = sym fresh.made;
  taken = λ message. ap (λ (t : set.FinSet nat_cmp). set.contains t message) fresh.taken ∙ set.contains-empty nat_cmp message;
} where
  no_msg : (s k : ℕ) → false ≡ (is_for_server s (slice_get sim.sent k) && not (is_named [] k))
  no_msg s k = ap (λ msgs. is_for_server s (slice_get msgs k) && not (is_named [] k)) (sym fresh.sent)

-- a fresh simulation over servers to which a past leads begins a run there
pub begins_from : {D X : Type 0} (seen : D → Contents) (images : D → Image → Type 0) (seen' : X → Contents) (images' : X → Image → Type 0) (setup : Setup) (disks : List D) (sim : SimulationV X) → IsFresh setup sim
    → ((past : List PastRun) → AreReached seen images setup disks past → OpensFrom seen' images' setup past sim.stores) → (past : List PastRun) → AreReached seen images setup disks past → BeginsFrom seen' images' setup past sim
begins_from seen images seen' images' setup disks sim fresh opens past reached =
    let o : OpensFrom seen' images' setup past sim.stores = opens past reached in
    record { keep = o.keep; servers = o.servers; entries = o.entries; reached = o.reached; shows = shows_fresh seen' images' setup o.servers o.entries sim fresh o.are }
