-- A server is restarted.
use Rattle.std.proofs.Common.{◌≡◌, ◌∙◌, sym, ap, subst, refl, ℕ, ◌+◌, ◌<◌, not, Bool, true, false, is_some, List, [], ◌∷◌, ◌++◌, length, take, Option, Some, None, inl, inr, append_assoc}
use Rattle.std.specs.Prelude.{◌||◌, slice_set}
use Rattle.std.specs.Prelude.{map as list_map}
use Rattle.std.specs.List.{slice_get}
use Rattle.std.proofs.lemmas.Bool.{and_from, and_parts, eq-eqb}
use Rattle.std.proofs.lemmas.List.{append-nil}
use Rattle.std.proofs.lemmas.List.Elements.{filter_map-append}
use Rattle.mds_base.specs.declared.limits.TheConstants.{EVENTS}
use Rattle.mds_base.specs.declared.setup.Setup.{Setup}
use Rattle.mds_out.specs.Disk.{Image, Contents}
use Rattle.mds_out.specs.Known.{OnTold}
use Rattle.records.specs.declared.record.Record.{Record}
use Rattle.node_core.specs.Nodes.{NodeAndRows}
use Rattle.node_core.specs.Serving.{may_follow, replayed, replayed_all, restarted}
use Rattle.node_store.specs.Serve.{IsAllOrNone}
use Rattle.node_store.specs.Stands.{all_follow}
use Rattle.node_store.specs.Store.{Store}
use Rattle.world.specs.declared.event.Event.{Event}
use Rattle.world.specs.declared.event.Event.TheVariants.{Restart, Stop}
use Rattle.world.specs.declared.event.StopCause.TheVariants.{Device}
use Rattle.world.specs.declared.state.ServerState.{ServerState}
use Rattle.world.specs.Events as events
use Rattle.world.specs.Events.{set_server, can_restart, up_with}
use Rattle.world.specs.Histories as past
use Rattle.world.specs.Histories.{History}
use Rattle.world.specs.Worlds.{store_of}
use Rattle.mds_base.proofs.Grow.{set_same}
use Rattle.simulation.specs.Entries.{change_of, changes_of}
use Rattle.simulation.specs.Moves.{restarted_by}
use Rattle.simulation.specs.Stores.{IsRestarted, IsDownStill}
use Rattle.simulation.specs.Shows.{SimulationV, Shows, Happens, StaysNear, made_of}
use Rattle.pasts.specs.Servers.{IsServer, AreServers}
use Rattle.simulation.proofs.ServeEntries.{one_made, one_answered}
use Rattle.simulation.proofs.EventRun.{goes_on, quiet_shows}
use Rattle.pasts.proofs.ServersStand.{IsDownAs, as_down, server_of, servers_set}

-- The entries of the records that were kept

pub kept_made : (h : History) (store : NodeAndRows) (items : List Record) → all_follow store items ≡ true → list_map made_of (past.replayed_all h store items).made ≡ list_map made_of h.made ++ changes_of items
kept_made h store [] follow = sym (append-nil (list_map made_of h.made))
kept_made h store (item ∷ items) follow =
    let parts = and_parts (may_follow store item) (all_follow (replayed store item) items) follow in
    kept_made (past.replayed_one h item (may_follow store item)) (replayed store item) items parts.1
    ∙ ap (λ b. list_map made_of (past.replayed_one h item b).made ++ changes_of items) parts.0
    ∙ ap (λ l. l ++ changes_of items) (one_made h item)
    ∙ append_assoc (list_map made_of h.made) (changes_of (item ∷ [])) (changes_of items)
    ∙ ap (λ l. list_map made_of h.made ++ l) (sym (filter_map-append change_of (item ∷ []) items))

pub kept_answered : (h : History) (store : NodeAndRows) (items : List Record) → (past.replayed_all h store items).answered ≡ h.answered
kept_answered h store [] = refl
kept_answered h store (item ∷ items) = kept_answered (past.replayed_one h item (may_follow store item)) (replayed store item) items ∙ one_answered h item (may_follow store item)

-- The server

pub known : {X : Type 0} (o : Option X) (P : Type 0) → is_some o ≡ true → OnTold o (λ _. P) → P
known None P e h = cc
known (Some x) P e h = h

take_none : (store : NodeAndRows) (items : List Record) → all_follow store (take 0 items) ≡ true
take_none store items = refl

pub take_all : (items : List Record) → take (length items) items ≡ items
take_all [] = refl
take_all (x ∷ items) = ap (λ l. x ∷ l) (take_all items)

-- none of the records in doubt, or all, may follow
pub kept_follow : (store : NodeAndRows) (items : List Record) (kept : ℕ) → IsAllOrNone kept (length items) → all_follow store items ≡ true → all_follow store (take kept items) ≡ true
kept_follow store items kept (inl none) follow = ap (λ k. all_follow store (take k items)) none ∙ take_none store items
kept_follow store items kept (inr all) follow = ap (λ k. all_follow store (take k items)) all ∙ ap (all_follow store) (take_all items) ∙ follow

or_second : (a b : Bool) → b ≡ true → (a || b) ≡ true
or_second true b e = refl
or_second false b e = e

or_first : (a b : Bool) → a ≡ true → (a || b) ≡ true
or_first true b e = refl
or_first false b e = cc

may_restart : (state : ServerState) (kept : ℕ) → state.up ≡ false → IsAllOrNone kept (length state.doubt) → can_restart (Some state) kept ≡ true
may_restart state kept down (inl none) = and_from _ _ (ap not down) (or_first _ _ (eq-eqb kept 0 none))
may_restart state kept down (inr all) = and_from _ _ (ap not down) (or_second _ _ (eq-eqb kept (length state.doubt) all))

module _ {X : Type 0} (seen : X → Contents) (images : X → Image → Type 0) (setup : Setup) (number : ℕ) (old new : Store X) (state : ServerState) (i : IsServer seen images setup number old state) (d : IsDownAs seen images old state) where
  restarted_server : (kept now : ℕ) → IsRestarted seen images old new kept now → IsServer seen images setup number new (up_with state (restarted (replayed_all (store_of state) (take kept state.doubt)) now))
  restarted_server kept now s = record {
    told = s.told i.told;
    server = s.server ∙ i.server;
    setup' = s.setup ∙ i.setup';
    at = (known (seen new.disk 1) _ (s.told i.told) (s.up (store_of state) d.at) ∙ ap (λ l. Some (restarted (replayed_all (store_of state) (take kept l)) now)) d.doubt, refl);
  }

  -- its records in doubt may follow
  doubt_follows : all_follow (store_of state) old.doubt ≡ true
  doubt_follows = (known (seen old.disk 1) _ i.told d.at.told).follow

  down_server : IsDownStill seen images old new → IsServer seen images setup number new (record { node = state.node; rows = state.rows; up = false; doubt = state.doubt })
  down_server s = record {
    told = s.told i.told;
    server = s.server ∙ i.server;
    setup' = s.setup ∙ i.setup';
    at = (s.at (store_of state) d.at, s.doubt ∙ d.doubt);
  }

module _ {X : Type 0} (seen : X → Contents) (images : X → Image → Type 0) (old : SimulationV X) (server : ℕ) (store new : Store X) (is : slice_get old.stores server ≡ Some store) (is_down : store.up ≡ None) where
  pub restart_happens : old.count < EVENTS → (kept : ℕ) → IsRestarted seen images store new kept old.moment → Happens seen images old (restarted_by old server new (old.made ++ changes_of (take kept store.doubt))) (Restart server kept)
  restart_happens room kept s run shows =
      let h = server_of seen images old.setup old.stores run.trace.world.servers server store shows.servers is in
      let d = as_down seen images old.setup server store h.state h.good is_down in
      let up : ServerState = up_with h.state (restarted (replayed_all (store_of h.state) (take kept h.state.doubt)) run.trace.world.now) in
      let follows = doubt_follows seen images old.setup server store new h.state h.good d in
      goes_on run (Restart server kept) (set_server run.trace.world server up)
      (past.replayed_all run.trace.past (store_of h.state) (take kept h.state.doubt))
      (Shows seen images (restarted_by old server new (old.made ++ changes_of (take kept store.doubt))))
      (ap (λ o. can_restart o kept) h.is ∙ may_restart h.state kept d.stopped (subst (λ l. IsAllOrNone kept (length l)) d.doubt s.all_or_none))
      (ap (events.after_restart run.trace.world server kept) h.is)
      (ap (past.after_restart run.trace.past kept) h.is)
      (quiet_shows seen images old run shows room (Restart server kept) (λ k. refl) run.trace.world.now old.moment shows.moment (slice_set run.trace.world.servers server up) (slice_set old.stores server new)
      (servers_set seen images old.setup old.stores run.trace.world.servers server new up shows.servers
      (restarted_server seen images old.setup server store new h.state h.good d kept run.trace.world.now (subst (IsRestarted seen images store new kept) (sym shows.moment) s)))
      (past.replayed_all run.trace.past (store_of h.state) (take kept h.state.doubt)) (old.made ++ changes_of (take kept store.doubt))
      (ap (λ l. list_map made_of (past.replayed_all run.trace.past (store_of h.state) (take kept l)).made) (sym d.doubt)
      ∙ kept_made run.trace.past (store_of h.state) (take kept store.doubt) (kept_follow (store_of h.state) store.doubt kept s.all_or_none follows)
      ∙ ap (λ l. l ++ changes_of (take kept store.doubt)) shows.made)
      (kept_answered run.trace.past (store_of h.state) (take kept h.state.doubt)))

  pub fail_happens : old.count < EVENTS → IsDownStill seen images store new → Happens seen images old (restarted_by old server new old.made) (Stop server Device)
  fail_happens room s run shows =
      let h = server_of seen images old.setup old.stores run.trace.world.servers server store shows.servers is in
      let d = as_down seen images old.setup server store h.state h.good is_down in
      let left : ServerState = record { node = h.state.node; rows = h.state.rows; up = false; doubt = h.state.doubt } in
      goes_on run (Stop server Device) (set_server run.trace.world server left) run.trace.past (Shows seen images (restarted_by old server new old.made))
      (ap events.is_there h.is)
      (ap (events.after_stop run.trace.world server) h.is)
      refl
      (quiet_shows seen images old run shows room (Stop server Device) (λ k. refl) run.trace.world.now old.moment shows.moment (slice_set run.trace.world.servers server left) (slice_set old.stores server new)
      (servers_set seen images old.setup old.stores run.trace.world.servers server new left shows.servers (down_server seen images old.setup server store new h.state h.good d s)) run.trace.past old.made shows.made refl)

  -- a refused restart leaves the servers those of the run
  pub refused_near : (last : SimulationV X) (P : Event → Type 0) → last.stores ≡ slice_set old.stores server new → IsDownStill seen images store new → StaysNear seen images old last P
  refused_near last P stores s run shows =
      let h = server_of seen images old.setup old.stores run.trace.world.servers server store shows.servers is in
      let d = as_down seen images old.setup server store h.state h.good is_down in
      let left : ServerState = record { node = h.state.node; rows = h.state.rows; up = false; doubt = h.state.doubt } in
      let same : left ≡ h.state = ap (λ b. let r : ServerState = record { node = h.state.node; rows = h.state.rows; up = b; doubt = h.state.doubt } in r) (sym d.stopped) in
      inl (subst (λ l. AreServers seen images old.setup l run.trace.world.servers) (sym stores)
      (subst (AreServers seen images old.setup (slice_set old.stores server new)) (ap (slice_set run.trace.world.servers server) same ∙ set_same run.trace.world.servers server h.state h.is)
      (servers_set seen images old.setup old.stores run.trace.world.servers server new left shows.servers (down_server seen images old.setup server store new h.state h.good d s))))
