-- Servers that were opened are those to which the past of their disks leads.
use Rattle.std.proofs.Common.{◌≡◌, ◌∙◌, sym, ap, subst, refl, ℕ, ◌<◌, Bool, true, false, cond, List, [], ◌∷◌, length, Option, Some, is_some, arith}
use Rattle.std.specs.Prelude.{map as list_map}
use Rattle.std.specs.List.{slice_get, range_with_len}
use Rattle.std.proofs.lemmas.List.{length-map}
use Rattle.std.specs.FinMap as maps
use Rattle.std.proofs.lemmas.Option.{same_Some}
use Rattle.mds_base.specs.declared.setup.Setup.{Setup}
use Rattle.mds_out.specs.Disk.{Image, Contents}
use Rattle.mds_out.specs.Fused.{Fused}
use Rattle.node_core.specs.Nodes.{NodeAndRows}
use Rattle.node_core.specs.Serving.{replayed_all}
use Rattle.node_core.specs.Terms.{SharesHead}
use Rattle.node_store.specs.Stands.{new_store, opened_store}
use Rattle.node_store.specs.Store.{Store}
use Rattle.world.specs.declared.state.ServerState.{ServerState}
use Rattle.world.specs.Histories.{Trace, run}
use Rattle.world.specs.Law.{PastRun, IsSettled, new_servers, opened, ended, start_trace}
use Rattle.mds_base.specs.Lists.{Each}
use Rattle.world.specs.Worlds.{store_of, new_server}
use Rattle.mds_base.proofs.Grow.{within}
use Rattle.mds_base.proofs.Lists.{choose, get_below, get_mapped}
use Rattle.world.proofs.Ends.{run_setup}
use Rattle.world.proofs.Happens.{run_keeps}
use Rattle.world.proofs.Invariant.{Inv}
use Rattle.world.proofs.Starts.{start_inv}
use Rattle.world.proofs.Theorem.{reached_start, holds_of_runs}
use Rattle.pasts.specs.Fuses.{seen_by, images_by}
use Rattle.pasts.specs.Openings.{OpensFrom, Paired, IsUpOn}
use Rattle.pasts.specs.Servers.{AreServers, IsServer, IsServerAt}
use Rattle.pasts.specs.Starts.{EndsAt, AreFound, AreReached, server_on}
use Rattle.pasts.proofs.NodeCleared.{opened_new}
use Rattle.pasts.proofs.PastClosed.{closed_state, ClosesAs, closes_as}
use Rattle.pasts.proofs.PastOnTerms.{sure_on, closed_on, mapped_at}
use Rattle.pasts.proofs.PastFound.{StandsForOne, ReadsAs, found, closed_store, closed_up, closed_sure}
use Rattle.pasts.proofs.ListPairs.{paired_length, paired_at}

-- a server of a run that begins: it is up, with nothing in doubt, and its store is up with its node and rows
record Begins (up : Option NodeAndRows) (state : ServerState) : Type 0 where
  pub is_up : state.up ≡ true
  pub sure : state.doubt ≡ []
  pub store : up ≡ Some (store_of state)

module _ {D : Type 0} (lasts : D → D → Type 0) (seen : D → Contents) (images : D → Image → Type 0) (reads : ReadsAs seen images) (one : StandsForOne) (setup : Setup) (stores : List (Store (Fused D))) (disks : List D) (up : Paired (IsUpOn lasts seen images setup) 0 disks stores) where
  server_at : (s : ℕ) (disk : D) (store : Store (Fused D)) (state : ServerState) → is_some (seen disk 1) ≡ true → IsUpOn lasts seen images setup s disk store → Begins store.up state → IsServer (seen_by seen) (images_by images) setup s store state
  server_at s disk store state told is begins = record {
    told = is.back.told told;
    server = is.server;
    setup' = is.setup';
    at = subst (IsServerAt (seen_by seen) (images_by images) store state) (sym begins.is_up) (begins.store, begins.sure);
  }

  -- where each store is up with the node and rows of a server that begins, they are the servers of a world
  are_servers : (left servers : List ServerState) → AreFound seen images setup disks left → length servers ≡ length left
      → Each servers (λ s state. (store : Store (Fused D)) → slice_get stores s ≡ Some store → Begins store.up state) → AreServers (seen_by seen) (images_by images) setup stores servers
  are_servers left servers are same begins = record {
    count = paired_length (IsUpOn lasts seen images setup) 0 disks stores up ∙ are.count ∙ sym same;
    each = record {
      at = λ s state is store at.
          let w = within servers s state is in
          let c = are.count in
          let g = get_below disks s (omega arith) in
          server_at s g.0 store state (are.told.at s g.0 g.1) (paired_at (IsUpOn lasts seen images setup) disks stores up s g.0 store g.1 at) (begins.at s state is store at);
    };
  }

  -- what an opening found on the disk of each server that a run left
  found_at : (left : List ServerState) → AreFound seen images setup disks left → (s : ℕ) (state : ServerState) → slice_get left s ≡ Some state → (store : Store (Fused D)) → slice_get stores s ≡ Some store
      → (keep : Bool) × (store.up ≡ Some (opened_store (cond keep (replayed_all (store_of state) state.doubt) (store_of state))))
  found_at left are s state is store at =
      let w = within left s state is in
      let c = are.count in
      let g = get_below disks s (omega arith) in
      let o : IsUpOn lasts seen images setup s g.0 store = paired_at (IsUpOn lasts seen images setup) disks stores up s g.0 store g.1 at in
      found seen images reads one g.0 s setup state store.up (seen g.0 1) refl (are.told.at s g.0 g.1) o.opened (are.left.at s state is g.0 g.1)

  -- New disks

  both_same : {X : Type 0} (b : Bool) (x : X) → cond b x x ≡ x
  both_same true x = refl
  both_same false x = refl

  begins_new : (number : ℕ) (up : Option NodeAndRows) → (keep : Bool) × (up ≡ Some (opened_store (cond keep (new_store number setup) (new_store number setup)))) → Begins up (new_server setup number)
  begins_new number up f = record {
    is_up = refl;
    sure = refl;
    store = f.1 ∙ ap (λ x. Some (opened_store x)) (both_same f.0 (new_store number setup)) ∙ ap (λ x. Some x) (opened_new number setup);
  }

  opens_new : AreFound seen images setup disks (new_servers setup) → OpensFrom (seen_by seen) (images_by images) setup [] stores
  opens_new are = record {
    keep = λ s. false;
    servers = new_servers setup;
    entries = maps.empty;
    reached = (refl, refl);
    are = are_servers (new_servers setup) (new_servers setup) are refl (record {
      at = λ s state is store at.
          let g = get_mapped (new_server setup) (range_with_len 0 setup.servers) s state is in
          let f = found_at (new_servers setup) are s state is store at in
          subst (Begins store.up) g.2 (begins_new g.0 store.up (subst (λ (x : ServerState). (keep : Bool) × (store.up ≡ Some (opened_store (cond keep (replayed_all (store_of x) x.doubt) (store_of x))))) (sym g.2) f));
    });
  }

  -- Disks that a run left

  -- the store of a server is up with what it is after the restarts at the end of the run, opened
  abbrev IsFoundAs : ℕ → ServerState → Bool → Type 0
  IsFoundAs s state keep = (store : Store (Fused D)) → slice_get stores s ≡ Some store → store.up ≡ Some (opened_store (store_of (closed_state keep state)))

  found_as : (left : List ServerState) → AreFound seen images setup disks left → Each left IsSettled → (s : ℕ) (state : ServerState) → slice_get left s ≡ Some state → (keep : Bool) × IsFoundAs s state keep
  found_as left are sure s state is =
      let w = within left s state is in
      let c = are.count in
      let n = paired_length (IsUpOn lasts seen images setup) 0 disks stores up in
      let g = get_below stores s (omega arith) in
      let f = found_at left are s state is g.0 g.1 in
      let closed : opened_store (cond f.0 (replayed_all (store_of state) state.doubt) (store_of state)) ≡ opened_store (store_of (closed_state f.0 state)) = ap opened_store (sym (closed_store f.0 state (sure.at s state is))) in
      (f.0, λ store at. ap (λ (x : Store (Fused D)). x.up) (same_Some store g.0 (sym at ∙ g.1)) ∙ f.1 ∙ ap (λ x. Some x) closed)

  begins_closed : (keep : Bool) (state next : ServerState) (up : Option NodeAndRows) → SharesHead state.node.setup setup → (state.up ≡ true → state.doubt ≡ []) → up ≡ Some (opened_store (store_of (closed_state keep (server_on setup state)))) → closed_state keep state ≡ next → Begins up (opened setup next)
  begins_closed keep state next up share sure is e = subst (λ (x : ServerState). Begins up (opened setup x)) e (record {
    is_up = closed_up keep state;
    sure = closed_sure keep state sure;
    store = is ∙ ap (λ (x : ServerState). Some (opened_store (store_of x))) (closed_on setup keep state share);
  })

  -- the servers after the restarts at the end of a run, opened on the terms that come now
  begins_again : (t : Trace) (keep : ℕ → Bool) → Each t.world.servers IsSettled → Each t.world.servers (λ s state. SharesHead state.node.setup setup)
      → Each (list_map (server_on setup) t.world.servers) (λ s state. IsFoundAs s state (keep s))
      → Each (list_map (opened setup) (ended t keep).world.servers) (λ s state. (store : Store (Fused D)) → slice_get stores s ≡ Some store → Begins store.up state)
  begins_again t keep sure share all = record {
    at = λ s state is store at.
        let c : ClosesAs keep t.world.servers (ended t keep).world.servers = closes_as t keep in
        let x = get_mapped (opened setup) (ended t keep).world.servers s state is in
        let w = within (ended t keep).world.servers s x.0 x.1 in
        let n = c.count in
        let y = get_below t.world.servers s (omega arith) in
        let e : closed_state (keep s) y.0 ≡ x.0 = same_Some (closed_state (keep s) y.0) x.0 (sym (c.each.at s y.0 y.1) ∙ x.1) in
        let f : store.up ≡ Some (opened_store (store_of (closed_state (keep s) (server_on setup y.0)))) = all.at s (server_on setup y.0) (mapped_at (server_on setup) t.world.servers s y.0 y.1) store at in
        subst (Begins store.up) x.2 (begins_closed (keep s) y.0 x.0 store.up (share.at s y.0 y.1) (sure.at s y.0 y.1) f e);
  }

  opens_again : 0 < setup.servers → (past : PastRun) (older : List PastRun) → SharesHead past.setup setup → (left : List ServerState) → EndsAt (record { setup = past.setup; events = past.events; older = older }) left
      → AreFound seen images setup disks (list_map (server_on setup) left) → OpensFrom (seen_by seen) (images_by images) setup (past ∷ older) stores
  opens_again some past older share left ends are =
      let t : Trace = run (start_trace past.setup ends.from ends.there) past.events in
      let start = reached_start past.setup (subst (λ n. 0 < n) share.servers some) older ends.from ends.there ends.reached in
      let inv : Inv t = run_keeps past.events (start_trace past.setup ends.from ends.there) (start_inv past.setup ends.from ends.there start) ends.may in
      let setup_is : t.world.setup ≡ past.setup = run_setup past.events (start_trace past.setup ends.from ends.there) in
      let now : List ServerState = list_map (server_on setup) t.world.servers in
      let are : AreFound seen images setup disks now = subst (λ servers. AreFound seen images setup disks (list_map (server_on setup) servers)) ends.ends are in
      let sure : Each t.world.servers IsSettled = (holds_of_runs past.setup (subst (λ n. 0 < n) share.servers some) older ends.from ends.there ends.reached past.events ends.may).settled in
      let shares : Each t.world.servers (λ s state. SharesHead state.node.setup setup) = record {
        at = λ s state is. subst (λ x. SharesHead x setup) (sym ((inv.sizes.servers_are.at s state is).setup' ∙ setup_is)) share;
      } in
      let chosen = choose IsFoundAs now (record { at = found_as now are (sure_on setup t.world.servers sure) }) in
      let keep : ℕ → Bool = chosen.0 in
      let last : Trace = ended t keep in
      let count : length last.world.servers ≡ length t.world.servers = (closes_as t keep).count in
      record {
        keep = keep;
        servers = list_map (opened setup) last.world.servers;
        entries = last.past.entries;
        reached = (share, ends.from, ends.there, ends.reached, ends.may, refl, refl);
        are = are_servers now (list_map (opened setup) last.world.servers) are (length-map last.world.servers (opened setup) ∙ count ∙ sym (length-map t.world.servers (server_on setup))) (begins_again t keep sure shares chosen.1);
      }

  pub opens_from : 0 < setup.servers → (past : List PastRun) → AreReached seen images setup disks past → OpensFrom (seen_by seen) (images_by images) setup past stores
  opens_from some [] r = opens_new r
  opens_from some (past ∷ older) r = opens_again some past older r.0 r.1 r.2 r.3
