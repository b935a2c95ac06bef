-- A message meets a server that is down, and a server is stopped.
use Rattle.std.proofs.Common.{◌≡◌, ◌∙◌, sym, ap, subst, refl, ℕ, ◌<◌, ◌&&◌, not, true, false, is_some, List, [], length, Option, Some, None, MatchOption, inr, arith}
use Rattle.std.specs.Prelude.{slice_set}
use Rattle.std.specs.List.{slice_get}
use Rattle.mds_base.specs.declared.limits.TheConstants.{EVENTS}
use Rattle.mds_out.specs.Disk.{Image, Contents}
use Rattle.records.specs.declared.msg.Msg.{Msg}
use Rattle.records.specs.declared.msg.Msg.TheVariants.{Request, Redirect, Answer, Busy, Held, Page, Closed, Transfer, Installed}
use Rattle.node_core.specs.Nodes.{NodeAndRows}
use Rattle.node_store.specs.Store.{Store, IsDownAt}
use Rattle.world.specs.declared.event.Event.{Event}
use Rattle.world.specs.declared.event.Event.TheVariants.{Miss, Stop}
use Rattle.world.specs.declared.event.StopCause.TheVariants.{Asked}
use Rattle.world.specs.declared.state.ServerState.{ServerState}
use Rattle.world.specs.Events as events
use Rattle.world.specs.Events.{set_server, misses}
use Rattle.simulation.specs.Calls.{CanMiss}
use Rattle.simulation.specs.Moves.{counted, halt, halted_by}
use Rattle.simulation.specs.Runs.{grown}
use Rattle.simulation.specs.Ranges.{IsSent}
use Rattle.simulation.specs.Shows.{SimulationV, Shows, Happens, StaysNear, server_for, store_is_up}
use Rattle.pasts.specs.Servers.{AreServers}
use Rattle.simulation.proofs.EventRun.{goes_on, quiet_shows, happens_from}
use Rattle.pasts.proofs.ServersStand.{as_up, as_down, server_of, servers_set}
use Rattle.simulation.proofs.ServersShown.{at_place, not_up}

-- a refused call that left the servers as a further event would leaves them near the run
pub near_after : {X : Type 0} (seen : X → Contents) (images : X → Image → Type 0) (old mid new : SimulationV X) (P : Event → Type 0) (event : Event) → P event → mid.setup ≡ old.setup → new.stores ≡ mid.stores → Happens seen images old mid event → StaysNear seen images old new P
near_after {X = X} seen images old mid new P event is setup stores happens run shows =
    let h = happens run shows in
    inr (record {
      event = event;
      is = is;
      goes = record {
        may = h.may;
        then = subst (λ s. AreServers seen images s new.stores (grown run event).trace.world.servers) setup
            (subst (λ (l : List (Store X)). AreServers seen images mid.setup l (grown run event).trace.world.servers) (sym stores) h.then.servers);
      };
      few = h.then.few;
    })

-- A message meets a server that is down

missed : (servers : List ServerState) (to server : ℕ) (state : ServerState) → to ≡ server → slice_get servers server ≡ Some state → state.up ≡ false → (events.is_there (slice_get servers to) && not (events.is_up (slice_get servers to))) ≡ true
missed servers to server state e is down = ap (λ o. events.is_there o && not (events.is_up o)) (ap (slice_get servers) e ∙ is) ∙ ap not down

misses_there : (servers : List ServerState) (msg : Msg) (server : ℕ) (state : ServerState) → server_for (Some msg) ≡ Some server → slice_get servers server ≡ Some state → state.up ≡ false → misses servers (Some msg) ≡ true
misses_there servers (Request to ask cursor) server state meant is down = missed servers to server state (cc) is down
misses_there servers (Transfer to dir part depth index pieces bits sessions top rows) server state meant is down = missed servers to server state (cc) is down
misses_there servers (Installed to dir part child) server state meant is down = missed servers to server state (cc) is down
misses_there servers (Redirect to seq attempt dir bits) server state meant is down = cc
misses_there servers (Answer to seq attempt reply) server state meant is down = cc
misses_there servers (Busy to seq attempt part depth) server state meant is down = cc
misses_there servers (Held to seq attempt until) server state meant is down = cc
misses_there servers (Page to seq attempt rows next) server state meant is down = cc
misses_there servers (Closed to seq attempt part epoch) server state meant is down = cc

module _ {X : Type 0} (seen : X → Contents) (images : X → Image → Type 0) (old : SimulationV X) (room : old.count < EVENTS) where
  pub miss_happens : (message server : ℕ) (store : Store X) (msg : Msg) → slice_get old.sent message ≡ Some msg → server_for (Some msg) ≡ Some server → slice_get old.stores server ≡ Some store → store.up ≡ None
      → Happens seen images old (counted old) (Miss message)
  miss_happens message server store msg there meant is down run shows =
      let h = server_of seen images old.setup old.stores run.trace.world.servers server store shows.servers is in
      let d = as_down seen images old.setup server store h.state h.good down in
      goes_on run (Miss message) run.trace.world run.trace.past (Shows seen images (counted old))
      (ap (misses run.trace.world.servers) (ap (λ l. slice_get l message) shows.sent ∙ there) ∙ misses_there run.trace.world.servers msg server h.state meant h.is d.stopped)
      refl
      refl
      (quiet_shows seen images old run shows room (Miss message) (λ k. refl) run.trace.world.now old.moment shows.moment run.trace.world.servers old.stores shows.servers run.trace.past old.made shows.made refl)

-- a message that is for a server
pub is_for : (o : Option Msg) (server : ℕ) → server_for o ≡ Some server → (msg : Msg) × (o ≡ Some msg)
is_for None server e = cc
is_for (Some msg) server e = (msg, refl)

-- a message that is well sent is for a server that is there, or for none
pub meant_there : (servers : ℕ) (o : Option Msg) → ((msg : Msg) → o ≡ Some msg → IsSent servers msg) → MatchOption (server_for o) (Unit {0}) (λ server. server < servers)
meant_there servers None good = tt
meant_there servers (Some msg) good = (good msg refl).there

pub missed_happens : {X : Type 0} (seen : X → Contents) (images : X → Image → Type 0) {was old : SimulationV X} (same : was ≡ old) → old.count < EVENTS → (message : ℕ) → CanMiss old message → length was.stores ≡ was.setup.servers → Happens seen images old (counted was) (Miss message)
missed_happens {X = X} seen images {was = was} {old = old} same room message can all =
    let c = subst (λ (v : SimulationV X). CanMiss v message) (sym same) can in
    let m = is_for (slice_get was.sent message) c.server c.is in
    let there = c.there in
    let s = at_place was.stores c.server (omega (arith, there, all)) in
    happens_from seen images was old _ (Miss message) same
    (miss_happens seen images was (subst (λ (v : SimulationV X). v.count < EVENTS) (sym same) room) message c.server s.item m.0 m.1 (sym (ap server_for m.1) ∙ c.is) s.is (not_up s.item.up (λ up. c.down (ap store_is_up s.is ∙ up))))

-- A server is stopped

-- a server of which nothing changed but that it is down now
pub record IsHaltedStore {X : Type 0} (seen : X → Contents) (images : X → Image → Type 0) (old new : Store X) (up : NodeAndRows) : Type 0 where
  pub told : is_some (seen old.disk 1) ≡ true → is_some (seen new.disk 1) ≡ true
  pub server : new.server ≡ old.server
  pub setup : new.setup ≡ old.setup
  pub at : IsDownAt seen images new up
  pub sure : new.doubt ≡ []

pub is_halted : {X : Type 0} (seen : X → Contents) (images : X → Image → Type 0) {store new : Store X} (up : NodeAndRows) → new ≡ halt store → new.doubt ≡ [] → ((s : NodeAndRows) → store.up ≡ Some s → IsDownAt seen images new s) → store.up ≡ Some up → IsHaltedStore seen images store new up
is_halted {X = X} seen images up same sure at is = record {
  told = λ e. ap (λ (s : Store X). is_some (seen s.disk 1)) same ∙ e;
  server = ap (λ (s : Store X). s.server) same;
  setup = ap (λ (s : Store X). s.setup) same;
  at = at up is;
  sure = sure;
}

module _ {X : Type 0} (seen : X → Contents) (images : X → Image → Type 0) (old : SimulationV X) (server : ℕ) (store new : Store X) (is : slice_get old.stores server ≡ Some store) (room : old.count < EVENTS) where
  pub halt_happens : (up : NodeAndRows) → store.up ≡ Some up → IsHaltedStore seen images store new up → Happens seen images old (halted_by old server new) (Stop server Asked)
  halt_happens up is_up s run shows =
      let h = server_of seen images old.setup old.stores run.trace.world.servers server store shows.servers is in
      let u = as_up seen images old.setup server store h.state up h.good is_up in
      let left : ServerState = record { node = h.state.node; rows = h.state.rows; up = false; doubt = h.state.doubt } in
      goes_on run (Stop server Asked) (set_server run.trace.world server left) run.trace.past (Shows seen images (halted_by old server new))
      (ap events.is_up h.is ∙ u.running)
      (ap (events.after_stop run.trace.world server) h.is)
      refl
      (quiet_shows seen images old run shows room (Stop server Asked) (λ k. refl) run.trace.world.now old.moment shows.moment (slice_set run.trace.world.servers server left) (slice_set old.stores server new)
      (servers_set seen images old.setup old.stores run.trace.world.servers server new left shows.servers (record {
        told = s.told h.good.told;
        server = s.server ∙ h.good.server;
        setup' = s.setup ∙ h.good.setup';
        at = (subst (IsDownAt seen images new) (sym u.same) s.at, s.sure ∙ sym u.sure);
      })) run.trace.past old.made shows.made refl)
