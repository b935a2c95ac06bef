-- Starts of runs: the invariant holds of a run that begins with them, new servers are one, and what an opening makes of
-- the end of a run is one again.
use Rattle.std.proofs.Common.{◌≡◌, ◌∙◌, sym, ap, subst, refl, ℕ, zero, suc, ◌+◌, ◌<◌, true, false, List, [], ◌∷◌, length, Option, Some, None, inl, inr, arith, unwrap_or}
use Rattle.std.specs.Prelude.{map as list_map}
use Rattle.std.specs.List.{slice_get, range_with_len, IsDistinct}
use Rattle.std.specs.FinMap as map
use Rattle.std.specs.FinSet as set
use Rattle.std.specs.Ordering.{nat_cmp, eq_by_cmp}
use Rattle.std.specs.Cmp.{nat_cmp_total}
use Rattle.mds_base.specs.declared.setup.Setup.{Setup}
use Rattle.mds_base.specs.Entries.{Entries, place_cmp}
use Rattle.mds_base.specs.RowKeys.{row_key_cmp}
use Rattle.mds_base.specs.History.{IsLegal}
use Rattle.bitmap.specs.Bits.{has}
use Rattle.node_core.specs.Nodes.{new_node, server_for, session_in, row_in}
use Rattle.node_core.specs.Terms.{SharesHead, node_on}
use Rattle.name_hash.specs.RowPlace.{row_key}
use Rattle.node_core.proofs.Views.{session_cleared, session_new}
use Rattle.client_core.specs.declared.client.Pending.{Pending}
use Rattle.client_core.specs.Clients.{new_client, zero_bits}
use Rattle.world.specs.declared.state.ServerState.{ServerState}
use Rattle.world.specs.declared.state.ClientState.{ClientState}
use Rattle.mds_base.specs.Lists.{Each}
use Rattle.world.specs.Worlds.{store_of, new_server, new_seat, fresh_world}
use Rattle.world.specs.Histories.{Trace}
use Rattle.world.specs.Law.{row_or, row_at, start_trace, new_servers, opened}
use Rattle.world.proofs.Known.{same_key}
use Rattle.std.proofs.lemmas.Bool.{or_cases}
use Rattle.world.proofs.Keepers.{keepers, IsKept, root_kept, zero_holder, KeepsBits, new_knows}
use Rattle.world.proofs.Invariant.{Inv, IsServer, IsClient, AreKept, IsWithinRange, Follows, store_in, store_or}
use Rattle.mds_base.proofs.Grow.{within}
use Rattle.mds_base.proofs.Lists.{get_below, get_mapped, ranged, ranged_length, mapped_length, each_none, once_none}
use Rattle.world.proofs.Stores.{store_was}

pub record IsStartServer (setup : Setup) (s : ℕ) (state : ServerState) : Type 0 where
  pub is_server : IsServer setup s state
  pub up : state.up ≡ true
  pub doubt : state.doubt ≡ []
  pub sessions : (dir part client : ℕ) → session_in state.node dir part client ≡ None
  pub next : IsWithinRange s (store_of state)
  pub knows : KeepsBits keepers state.node

pub record IsStart (setup : Setup) (servers : List ServerState) (entries : Entries) : Type 0 where
  pub some_servers : 0 < setup.servers
  pub count : length servers ≡ setup.servers
  pub each : Each servers (λ s state. IsStartServer setup s state)
  pub rows : (dir : ℕ) (name : List ℕ) → map.get entries (dir, name) ≡ row_at setup servers dir name

-- What an absent server keeps

no_row : (dir : ℕ) (name : List ℕ) → row_in map.empty dir 0 name ≡ None
unfolding row_in
no_row dir name = map.get-empty row_key_cmp (row_key dir 0 name)

row_of_store : (o : Option ServerState) (dir : ℕ) (name : List ℕ) → row_in (store_or o).rows dir 0 name ≡ row_or o dir name
row_of_store None dir name = no_row dir name
row_of_store (Some state) dir name = refl

pub row_in_store : (servers : List ServerState) (k dir : ℕ) (name : List ℕ) → row_in (store_in servers k).rows dir 0 name ≡ row_or (slice_get servers k) dir name
unfolding store_in
row_in_store servers k dir name = row_of_store (slice_get servers k) dir name

-- The invariant at the start

nothing_legal : (entries : Entries) → IsLegal entries []
unfolding IsDistinct
nothing_legal entries = record { allowed = tt; from_two = tt; once = tt }

module _ (setup : Setup) (servers : List ServerState) (entries : Entries) (start : IsStart setup servers entries) where
  session_none : (o : Option ServerState) (k : ℕ) → slice_get servers k ≡ o → (dir part client : ℕ) → session_in (store_or o).node dir part client ≡ None
  session_none None k is dir part client = session_new 0 _ dir part client
  session_none (Some state) k is dir part client = (start.each.at k state is).sessions dir part client

  session_at : (k dir part client : ℕ) → session_in (store_in servers k).node dir part client ≡ None
  unfolding store_in
  session_at k dir part client = session_none (slice_get servers k) k refl dir part client

  within_at : (s : ℕ) → s < setup.servers → IsWithinRange s (store_in servers s)
  unfolding store_in
  within_at s lt =
      let c = start.count in
      let g = get_below servers s (omega arith) in
      subst (λ o. IsWithinRange s (store_or o)) (sym g.1) (start.each.at s g.0 g.1).next

  seats : (k : ℕ) (seat : ClientState) → slice_get (fresh_world setup servers).clients k ≡ Some seat → new_seat setup (1 + k) ≡ seat
  seats k seat e = ranged (new_seat setup) 1 setup.clients k seat e

  is_client : (k : ℕ) (seat : ClientState) → slice_get (fresh_world setup servers).clients k ≡ Some seat → IsClient setup k seat
  is_client k seat e = let n : 1 + k ≡ suc k = omega arith in subst (IsClient setup k) (seats k seat e) (record { number = n; setup' = refl })

  none_open : (k : ℕ) (seat : ClientState) (pending : Pending) → slice_get (fresh_world setup servers).clients k ≡ Some seat → seat.client.pending ≡ Some pending → ⊥
  none_open k seat pending e busy = let idle : None ≡ seat.client.pending = ap (λ (s : ClientState). s.client.pending) (seats k seat e) in cc

  zero_kept : (number : ℕ) → AreKept keepers (new_client number setup)
  zero_kept number dir part e =
      let at_zero : has zero_bits part ≡ true = sym (ap (λ o. has (unwrap_or o zero_bits) part) (map.get-empty nat_cmp dir)) ∙ e in
      elim (or_cases (eq_by_cmp nat_cmp part 0) (has set.empty part) (sym (set.contains-insert nat_cmp_total set.empty 0 part) ∙ at_zero)) [
        | inl h ↦ subst (IsKept keepers dir) (sym (same_key part 0 h)) (root_kept dir)
        | inr h ↦ let n : has (set.empty {R = nat_cmp}) part ≡ false = set.contains-empty nat_cmp part in cc
      ]

  pub start_inv : Inv (start_trace setup servers entries)
  start_inv = record {
    sizes = record {
      some_servers = start.some_servers;
      server_count = start.count;
      servers_are = record { at = λ k state is. (start.each.at k state is).is_server };
      clients_are = record { at = is_client };
    };
    rows = record {
      map_rows = λ dir name.
          start.rows dir name
          ∙ sym (row_in_store servers (server_for setup.servers dir 0) dir name)
          ∙ sym (ap (λ p. row_in (store_in servers (server_for setup.servers dir p)).rows dir p name) (zero_holder dir name));
    };
    calls = record {
      issued_below = each_none;
      issued_once = once_none;
      open_issued = λ k seat pending at busy. absurd (none_open k seat pending at busy);
      open_unanswered = λ k seat pending at busy. each_none;
      answered_below = each_none;
      answered_once = once_none;
    };
    made = record { made_issued = each_none; made_now = each_none; made_kind = each_none; looked_sent = each_none; looked_once = once_none; change_once = once_none };
    legal = record { legal = nothing_legal entries; now = refl };
    sessions = record {
      session_true = λ dir part client kept e. let n = session_at (server_for setup.servers dir part) dir part client in cc;
      session_covers = λ k e at kind dir name asked. cc;
    };
    messages = record { request_true = each_none; answer_true = each_none };
    answers = record { answered_taken = each_none; answered_made = each_none };
    numbers = record { next_within = within_at; given_below = tt };
    doubt = record {
      doubt_down = record { at = λ k state is up. (start.each.at k state is).doubt };
      doubt_follows = record { at = λ k state is. subst (Follows setup.servers [] k (store_of state)) (sym (start.each.at k state is).doubt) tt };
    };
    bits = record { own_kept = record { at = λ k state is. (start.each.at k state is).knows }; sent_kept = each_none; bits_kept = record { at = λ k seat at. subst (λ (s : ClientState). AreKept keepers s.client) (seats k seat at) (zero_kept (1 + k)) } };
  }

-- New servers are a start

row_of_new : (setup : Setup) (a n k dir : ℕ) (name : List ℕ) → row_or (slice_get (list_map (new_server setup) (range_with_len a n)) k) dir name ≡ None
row_of_new setup a zero k dir name = refl
row_of_new setup a (suc n) zero dir name = no_row dir name
row_of_new setup a (suc n) (suc k) dir name = row_of_new setup (a + 1) n k dir name

pub start_new : (setup : Setup) → 0 < setup.servers → IsStart setup (new_servers setup) map.empty
start_new setup some = record {
  some_servers = some;
  count = ranged_length (new_server setup) 0 setup.servers;
  each = record {
    at = λ k state e.
        let n : 0 + k ≡ k = omega arith in
        let is : new_server setup k ≡ state = ap (new_server setup) (sym n) ∙ ranged (new_server setup) 0 setup.servers k state e in
        subst (IsStartServer setup k) is (record {
          is_server = record { server = refl; setup' = refl };
          up = refl;
          doubt = refl;
          sessions = session_new k setup;
          next = record { from = omega arith; to = omega arith };
          knows = new_knows k setup;
        });
  };
  rows = λ dir name. map.get-empty place_cmp (dir, name) ∙ sym (row_of_new setup 0 setup.servers (server_for setup.servers dir 0) dir name);
}

-- What an opening on terms that share the head makes of servers that are up is a start

opened_row : (terms : Setup) (servers : List ServerState) (k dir : ℕ) (name : List ℕ) → row_or (slice_get (list_map (opened terms) servers) k) dir name ≡ row_or (slice_get servers k) dir name
opened_row terms [] k dir name = refl
opened_row terms (state ∷ servers) zero dir name = refl
opened_row terms (state ∷ servers) (suc k) dir name = opened_row terms servers k dir name

pub start_again : (t : Trace) → Inv t → ((k : ℕ) (state : ServerState) → slice_get t.world.servers k ≡ Some state → state.up ≡ true) → (terms : Setup) → SharesHead t.world.setup terms → IsStart terms (list_map (opened terms) t.world.servers) t.past.entries
start_again t inv up terms share = record {
  some_servers = subst (λ n. 0 < n) (sym share.servers) inv.sizes.some_servers;
  count = mapped_length (opened terms) t.world.servers ∙ inv.sizes.server_count ∙ sym share.servers;
  each = record {
    at = λ k state e.
        let g = get_mapped (opened terms) t.world.servers k state e in
        let c = inv.sizes.server_count in
        let w = within t.world.servers k g.0 g.1 in
        let old = inv.sizes.servers_are.at k g.0 g.1 in
        let range : IsWithinRange k (store_of g.0) = subst (IsWithinRange k) (store_was t.world.servers k g.0 g.1) (inv.numbers.next_within k (omega arith)) in
        subst (IsStartServer terms k) g.2 (record {
          is_server = record { server = old.server; setup' = refl };
          up = up k g.0 g.1;
          doubt = inv.doubt.doubt_down.at k g.0 g.1 (up k g.0 g.1);
          sessions = session_cleared (node_on terms g.0.node);
          next = record { from = range.from; to = range.to };
          knows = inv.bits.own_kept.at k g.0 g.1;
        });
  };
  rows = λ dir name.
      inv.rows.map_rows dir name
      ∙ ap (λ p. row_in (store_in t.world.servers (server_for t.world.setup.servers dir p)).rows dir p name) (zero_holder dir name)
      ∙ row_in_store t.world.servers (server_for t.world.setup.servers dir 0) dir name
      ∙ ap (λ n. row_or (slice_get t.world.servers (server_for n dir 0)) dir name) (sym share.servers)
      ∙ sym (opened_row terms t.world.servers (server_for terms.servers dir 0) dir name);
}
