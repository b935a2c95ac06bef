-- A server serves a message.
use Rattle.std.proofs.Common.{◌≡◌, ◌∙◌, sym, ap, subst, refl, ℕ, ◌<◌, ◌==◌, ◌&&◌, not, Bool, true, false, List, [], ◌∷◌, ◌++◌, length, Some, inl, inr, arith}
use Rattle.std.specs.Prelude.{◌||◌}
use Rattle.std.specs.List.{slice_get}
use Rattle.std.specs.FinSet as set
use Rattle.std.proofs.lemmas.Bool.{and_from, eq-eqb, ne_eqb}
use Rattle.std.proofs.lemmas.List.{append-nil}
use Rattle.std.proofs.lemmas.List.Folds.{list_any-append}
use Rattle.mds_base.specs.declared.limits.TheConstants.{EVENTS}
use Rattle.mds_base.specs.declared.setup.Setup.{Setup}
use Rattle.mds_out.specs.Disk.{Image, Contents}
use Rattle.records.specs.declared.msg.Msg.{Msg}
use Rattle.records.specs.declared.record.Record.{Record}
use Rattle.node_core.specs.Nodes.{NodeAndRows, has_numbers}
use Rattle.node_core.specs.Serving.{serve, serve_all}
use Rattle.node_store.specs.Store.{Store, IsDownAt}
use Rattle.world.specs.declared.event.Event.{Event}
use Rattle.world.specs.declared.event.Event.TheVariants.{Serve}
use Rattle.world.specs.declared.event.ServeEnd.{ServeEnd}
use Rattle.world.specs.declared.event.ServeEnd.TheVariants as ends
use Rattle.world.specs.declared.state.ServerState.{ServerState}
use Rattle.world.specs.Events as events
use Rattle.world.specs.Events.{is_for_server, is_for_client, can_serve, set_server, say, msgs_at, onto_msgs}
use Rattle.world.specs.Histories as past
use Rattle.world.specs.Histories.{History, is_taken, served_one}
use Rattle.world.specs.Worlds.{store_of, with_store}
use Rattle.mds_base.proofs.Grow.{within}
use Rattle.simulation.specs.declared.servers.Served.TheVariants as serves
use Rattle.simulation.specs.Calls.{RepliesTo, IsToServe}
use Rattle.simulation.specs.Moves.{served_by}
use Rattle.simulation.specs.Entries.{changes_of, lookup_of, with_one}
use Rattle.simulation.specs.Runs.{RunV, GoesOn, is_named, names}
use Rattle.simulation.specs.Shows.{SimulationV, Shows, Happens, waiting_cmp, server_for, is_request_of}
use Rattle.pasts.specs.Servers.{IsServerAt, IsServer}
use Rattle.simulation.specs.Stores.{IsServedOn, IsStoppedOn}
use Rattle.simulation.proofs.MessagesNamed.{Await, AreNamed, for_server, await_all, named_all}
use Rattle.simulation.proofs.ServeOutputs.{IsFirstFor, first_for, serve_makes, serve_answered}
use Rattle.simulation.proofs.KeySets.{waiting_total, exact_waiting, remove_here, remove_apart, number_or_apart}
use Rattle.simulation.proofs.EventRun.{goes_on, one_longer, still_few}
use Rattle.pasts.proofs.ServersStand.{IsUpAs, as_up, server_of, servers_set}

-- which messages wait once one was served

or_last : (a b c : Bool) → b ≡ c → (a || ((b || false) || false)) ≡ (a || c)
or_last true b c e = refl
or_last false true c e = e
or_last false false c e = e

named_one : (events : List Event) (server message k : ℕ) (how : ServeEnd) (b : Bool) → (message == k) ≡ b → is_named (events ++ Serve server (message ∷ []) how ∷ []) k ≡ (is_named events k || b)
named_one events server message k how b e = list_any-append (names k) events (Serve server (message ∷ []) how ∷ []) ∙ or_last (is_named events k) (message == k) b e

or_false : (a : Bool) → (a || false) ≡ a
or_false true = refl
or_false false = refl

or_true : (a : Bool) → (a || true) ≡ true
or_true true = refl
or_true false = refl

and_false : (a : Bool) → (a && false) ≡ false
and_false true = refl
and_false false = refl

module _ (waiting : set.FinSet waiting_cmp) (sent : List Msg) (events : List Event) (await : Await waiting sent events) (named : AreNamed sent events) (server message : ℕ) (how : ServeEnd) (msg : Msg) (there : slice_get sent message ≡ Some msg) where
  -- what is named does not wait
  await_here : (s : ℕ) → set.contains (set.remove waiting (server, message)) (s, message) ≡ false
      → set.contains (set.remove waiting (server, message)) (s, message) ≡ (is_for_server s (slice_get sent message) && not (is_named (events ++ Serve server (message ∷ []) how ∷ []) message))
  await_here s gone =
      gone ∙ sym (ap (λ n. is_for_server s (slice_get sent message) && not n) (named_one events server message message how true (eq-eqb message message refl) ∙ or_true (is_named events message)) ∙ and_false _)

  gone_here : (s : ℕ) → server_for (Some msg) ≡ Some server → set.contains (set.remove waiting (server, message)) (s, message) ≡ false
  gone_here s is = elim (number_or_apart s server) [
    | inl same ↦ subst (λ n. set.contains (set.remove waiting (server, message)) (n, message) ≡ false) (sym same) (remove_here waiting_total exact_waiting waiting (server, message))
    | inr differ ↦ remove_apart waiting_total exact_waiting waiting (server, message) (s, message) (λ same. differ (ap (λ (p : ℕ × ℕ). p.0) same))
        ∙ await s message ∙ ap (λ o. is_for_server s o && not (is_named events message)) there ∙ ap (λ b. b && not (is_named events message)) (for_server s server msg is ∙ ne_eqb server s (λ e. differ (sym e)))
  ]

  pub await_served : server_for (Some msg) ≡ Some server → Await (set.remove waiting (server, message)) sent (events ++ Serve server (message ∷ []) how ∷ [])
  await_served is s k = elim (number_or_apart k message) [
    | inl same ↦ subst (λ n. set.contains (set.remove waiting (server, message)) (s, n) ≡ (is_for_server s (slice_get sent n) && not (is_named (events ++ Serve server (message ∷ []) how ∷ []) n))) (sym same)
        (await_here s (gone_here s is))
    | inr differ ↦ remove_apart waiting_total exact_waiting waiting (server, message) (s, k) (λ same. differ (ap (λ (p : ℕ × ℕ). p.1) same))
        ∙ await s k
        ∙ sym (ap (λ n. is_for_server s (slice_get sent k) && not n) (named_one events server message k how false (ne_eqb message k (λ e. differ (sym e))) ∙ or_false (is_named events k)))
  ]

  pub named_served : AreNamed sent (events ++ Serve server (message ∷ []) how ∷ [])
  named_served k e = elim (number_or_apart k message) [
    | inl same ↦ let below = within sent message msg there in omega (arith, below, same)
    | inr differ ↦ named k (sym (named_one events server message k how false (ne_eqb message k (λ e. differ (sym e))) ∙ or_false (is_named events k)) ∙ e)
  ]

can_serve_up : (state : ServerState) (up : NodeAndRows) → IsUpAs state up → has_numbers up.node ≡ true → can_serve (Some state) ≡ true
can_serve_up state up u numbers = and_from _ _ u.running (ap (λ (s : NodeAndRows). has_numbers s.node) u.same ∙ numbers)

may_serve : (servers : List ServerState) (sent : List Msg) (server message : ℕ) (state : ServerState) (msg : Msg) → slice_get servers server ≡ Some state → slice_get sent message ≡ Some msg → server_for (Some msg) ≡ Some server
    → can_serve (Some state) ≡ true → (can_serve (slice_get servers server) && (true && (is_for_server server (slice_get sent message) && true))) ≡ true
may_serve servers sent server message state msg at there is can =
    and_from _ _ (ap can_serve at ∙ can) (and_from _ _ (ap (is_for_server server) there ∙ for_server server server msg is ∙ eq-eqb server server refl) refl)

module _ {X : Type 0} (seen : X → Contents) (images : X → Image → Type 0) (setup : Setup) (number : ℕ) (old new : Store X) (state : ServerState) (up : NodeAndRows) (i : IsServer seen images setup number old state) (u : IsUpAs state up) where
  served_server : (next : NodeAndRows) → IsServedOn seen old new next → IsServer seen images setup number new (with_store state next)
  served_server next s = record {
    told = s.told i.told;
    server = s.server ∙ i.server;
    setup' = s.setup ∙ i.setup';
    at = subst (λ b. IsServerAt seen images new (with_store state next) b) (sym u.running) (s.up', u.sure);
  }

  stopped_server : (records : List Record) → IsStoppedOn seen images old new up records → IsServer seen images setup number new (record { node = state.node; rows = state.rows; up = false; doubt = records })
  stopped_server records s = record {
    told = s.told i.told;
    server = s.server ∙ i.server;
    setup' = s.setup ∙ i.setup';
    at = (subst (IsDownAt seen images new) (sym u.same) s.at, s.doubt);
  }

module _ {X : Type 0} (seen : X → Contents) (images : X → Image → Type 0) (old : SimulationV X) (run : RunV) (shows : Shows seen images old run) (server message : ℕ) (store new : Store X) (state : ServerState) (up : NodeAndRows) (msg : Msg)
    (at : slice_get run.trace.world.servers server ≡ Some state) (good : IsServer seen images old.setup server store state) (u : IsUpAs state (store_of state)) (numbers : has_numbers state.node ≡ true)
    (there : slice_get old.sent message ≡ Some msg) (meant : server_for (Some msg) ≡ Some server) (room : old.count < EVENTS) where
  there_too : slice_get run.trace.world.sent message ≡ Some msg
  there_too = ap (λ l. slice_get l message) shows.sent ∙ there

  msgs_there : msgs_at run.trace.world.sent (message ∷ []) ≡ msg ∷ []
  msgs_there = ap (λ o. onto_msgs o []) there_too

  served_at : IsServedOn seen store new (serve (store_of state) msg run.trace.world.now).store
      → GoesOn run (Serve server (message ∷ []) ends.Done)
      (Shows seen images (served_by old server message new msg (serve (store_of state) msg run.trace.world.now) serves.Silent))
  served_at s =
      let given = serve (store_of state) msg run.trace.world.now in
      goes_on run (Serve server (message ∷ []) ends.Done)
      (say (set_server run.trace.world server (with_store state given.store)) (given.outputs ++ []))
      (served_one run.trace.past (store_of state) msg run.trace.world.now (length run.trace.world.sent))
      (Shows seen images (served_by old server message new msg given serves.Silent))
      (may_serve run.trace.world.servers run.trace.world.sent server message state msg at there_too meant (can_serve_up state (store_of state) u numbers))
      (ap (events.after_serve run.trace.world server (message ∷ []) ends.Done) at
      ∙ ap (λ msgs. events.after_serve_of run.trace.world server state (serve_all (store_of state) msgs run.trace.world.now) ends.Done) msgs_there)
      (ap (past.after_serve run.trace.past run.trace.world (message ∷ []) ends.Done) at
      ∙ ap (λ msgs. past.served_if run.trace.past run.trace.world state msgs ends.Done) msgs_there)
      (record {
        setup = shows.setup;
        moment = shows.moment;
        count = one_longer run.events (Serve server (message ∷ []) ends.Done) old.count shows.count;
        few = still_few run.events (Serve server (message ∷ []) ends.Done) old.count shows.count room;
        servers = servers_set seen images old.setup old.stores run.trace.world.servers server new (with_store state given.store) shows.servers
            (served_server seen images old.setup server store new state (store_of state) good u given.store s);
        clients = shows.clients;
        going_on = shows.going_on;
        sent = ap (λ l. run.trace.world.sent ++ l) (append-nil given.outputs) ∙ ap (λ l. l ++ given.outputs) shows.sent;
        named = named_all old.sent (run.events ++ Serve server (message ∷ []) ends.Done ∷ []) (named_served old.waiting old.sent run.events shows.waiting shows.named server message ends.Done msg there) given.outputs;
        waiting = await_all (set.remove old.waiting (server, message)) old.sent (run.events ++ Serve server (message ∷ []) ends.Done ∷ [])
            (await_served old.waiting old.sent run.events shows.waiting shows.named server message ends.Done msg there meant)
            (named_served old.waiting old.sent run.events shows.waiting shows.named server message ends.Done msg there) given.outputs;
        made = serve_makes run.trace.past (store_of state) msg run.trace.world.now (length run.trace.world.sent)
            ∙ ap (λ l. with_one (l ++ changes_of given.records) (lookup_of msg given.outputs (length run.trace.world.sent))) shows.made
            ∙ ap (λ (l : List Msg). with_one (old.made ++ changes_of given.records) (lookup_of msg given.outputs (length l))) shows.sent;
        taken = λ q. shows.taken q ∙ sym (ap (λ a. is_taken a q) (serve_answered run.trace.past (store_of state) msg run.trace.world.now (length run.trace.world.sent)));
      })

  stopped_at : IsStoppedOn seen images store new (store_of state) (serve (store_of state) msg run.trace.world.now).records
      → GoesOn run (Serve server (message ∷ []) ends.Stop) (Shows seen images (served_by old server message new msg (serve (store_of state) msg run.trace.world.now) serves.Stopped))
  stopped_at s =
      let given = serve (store_of state) msg run.trace.world.now in
      let left : ServerState = record { node = state.node; rows = state.rows; up = false; doubt = given.records ++ [] } in
      goes_on run (Serve server (message ∷ []) ends.Stop)
      (set_server run.trace.world server left)
      run.trace.past
      (Shows seen images (served_by old server message new msg (serve (store_of state) msg run.trace.world.now) serves.Stopped))
      (may_serve run.trace.world.servers run.trace.world.sent server message state msg at there_too meant (can_serve_up state (store_of state) u numbers))
      (ap (events.after_serve run.trace.world server (message ∷ []) ends.Stop) at
      ∙ ap (λ msgs. events.after_serve_of run.trace.world server state (serve_all (store_of state) msgs run.trace.world.now) ends.Stop) msgs_there)
      (ap (past.after_serve run.trace.past run.trace.world (message ∷ []) ends.Stop) at)
      (record {
        setup = shows.setup;
        moment = shows.moment;
        count = one_longer run.events (Serve server (message ∷ []) ends.Stop) old.count shows.count;
        few = still_few run.events (Serve server (message ∷ []) ends.Stop) old.count shows.count room;
        servers = servers_set seen images old.setup old.stores run.trace.world.servers server new left shows.servers
            (stopped_server seen images old.setup server store new state (store_of state) good u (given.records ++ [])
            (record { told = s.told; server = s.server; setup = s.setup; at = s.at; doubt = s.doubt ∙ sym (append-nil given.records) }));
        clients = shows.clients;
        going_on = shows.going_on;
        sent = shows.sent;
        named = named_served old.waiting old.sent run.events shows.waiting shows.named server message ends.Stop msg there;
        waiting = await_served old.waiting old.sent run.events shows.waiting shows.named server message ends.Stop msg there meant;
        made = shows.made;
        taken = shows.taken;
      })

module _ {X : Type 0} (seen : X → Contents) (images : X → Image → Type 0) (old : SimulationV X) (server message : ℕ) (store new : Store X) (up : NodeAndRows) (msg : Msg) (t : IsToServe old server message store up msg) where
  pub serve_happens : IsServedOn seen store new (serve up msg old.moment).store → Happens seen images old (served_by old server message new msg (serve up msg old.moment) serves.Silent) (Serve server (message ∷ []) ends.Done)
  serve_happens s run shows =
      let h = server_of seen images old.setup old.stores run.trace.world.servers server store shows.servers t.is in
      let u = as_up seen images old.setup server store h.state up h.good t.up' in
      let done = subst (λ m. IsServedOn seen store new (serve (store_of h.state) msg m).store → GoesOn run (Serve server (message ∷ []) ends.Done) (Shows seen images (served_by old server message new msg (serve (store_of h.state) msg m) serves.Silent)))
      shows.moment
      (served_at seen images old run shows server message store new h.state up msg h.is h.good (record { running = u.running; same = refl; sure = u.sure })
      (ap (λ (v : NodeAndRows). has_numbers v.node) u.same ∙ t.numbers) t.there t.meant t.room) in
      subst (λ v. IsServedOn seen store new (serve v msg old.moment).store → GoesOn run (Serve server (message ∷ []) ends.Done) (Shows seen images (served_by old server message new msg (serve v msg old.moment) serves.Silent))) u.same done s

  pub stop_happens : IsStoppedOn seen images store new up (serve up msg old.moment).records → Happens seen images old (served_by old server message new msg (serve up msg old.moment) serves.Stopped) (Serve server (message ∷ []) ends.Stop)
  stop_happens s run shows =
      let h = server_of seen images old.setup old.stores run.trace.world.servers server store shows.servers t.is in
      let u = as_up seen images old.setup server store h.state up h.good t.up' in
      let done = subst (λ m. IsStoppedOn seen images store new (store_of h.state) (serve (store_of h.state) msg m).records → GoesOn run (Serve server (message ∷ []) ends.Stop) (Shows seen images (served_by old server message new msg (serve up msg old.moment) serves.Stopped)))
      shows.moment
      (stopped_at seen images old run shows server message store new h.state up msg h.is h.good (record { running = u.running; same = refl; sure = u.sure })
      (ap (λ (v : NodeAndRows). has_numbers v.node) u.same ∙ t.numbers) t.there t.meant t.room) in
      subst (λ v. IsStoppedOn seen images store new v (serve v msg old.moment).records → GoesOn run (Serve server (message ∷ []) ends.Stop) (Shows seen images (served_by old server message new msg (serve up msg old.moment) serves.Stopped))) u.same done s

-- a reply of a Serve is for the client that asked
pub replies_to : {X : Type 0} (old new : SimulationV X) (message : ℕ) (store : NodeAndRows) (msg : Msg) (now : ℕ) (first : Msg) (outputs : List Msg) → slice_get old.sent message ≡ Some msg → (serve store msg now).outputs ≡ first ∷ outputs
    → new.sent ≡ old.sent ++ first ∷ outputs → RepliesTo old new message (length old.sent)
replies_to old new message store msg now first outputs there gave sent client asks =
    ap (λ l. is_for_client client (slice_get l (length old.sent))) sent ∙ ap (is_for_client client) (get_middle old.sent first outputs)
    ∙ subst (IsFirstFor client) gave (first_for client store msg now (ap (is_request_of client) (sym there) ∙ asks))
  where
    get_middle : (xs : List Msg) (y : Msg) (ys : List Msg) → slice_get (xs ++ y ∷ ys) (length xs) ≡ Some y
    get_middle [] y ys = refl
    get_middle (x ∷ xs) y ys = get_middle xs y ys
