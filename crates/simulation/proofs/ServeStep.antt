-- What a Serve says of a simulation.
use Rattle.std.proofs.Common.{◌≡◌, ◌≢◌, ◌∙◌, sym, ap, subst, refl, ℕ, ◌+◌, ◌<◌, ◌≤◌, true, is_some, List, [], ◌∷◌, ◌++◌, length, get_or, Option, Some, None, Result, Ok, Err, IfOk, OnOk, OnErr, inl, inr, arith}
use Rattle.std.specs.Prelude.{slice_set, ◌⊎◌, IsErrAnd}
use Rattle.std.specs.List.{slice_get}
use Rattle.std.specs.FinSet as set
use Rattle.std.specs.declared.alloc.AllocError.{AllocError}
use Rattle.std.proofs.lemmas.List.{append-nil, length-append}
use Rattle.std.proofs.lemmas.Option.{same_Some}
use Rattle.mds_base.specs.declared.limits.TheConstants.{EVENTS}
use Rattle.mds_out.specs.Disk.{Image, Contents, StaysTold}
use Rattle.mds_out.specs.Fault.{Rose}
use Rattle.mds_out.specs.Fused.{Fused, OutlastsBy, FailsBy}
use Rattle.records.specs.declared.handled.Handled.{Handled}
use Rattle.records.specs.declared.msg.Msg.{Msg}
use Rattle.node_core.specs.Nodes.{NodeAndRows}
use Rattle.node_core.specs.Serving.{serve}
use Rattle.node_store.specs.Serve.{IsMessage, IsOneMessage, HasServed, HasStopped}
use Rattle.node_store.specs.Store.{Store}
use Rattle.world.specs.declared.event.Event.TheVariants.{Serve}
use Rattle.world.specs.declared.event.ServeEnd.TheVariants as ends
use Rattle.mds_base.proofs.Grow.{set_same}
use Rattle.message_store.specs.declared.made.Made.{Made}
use Rattle.simulation.specs.declared.servers.Served.{Served}
use Rattle.simulation.specs.declared.servers.Served.TheVariants as serves
use Rattle.simulation.specs.Calls.{CanServe, Serves, RepliesTo, IsToServe, IsServe, ServesOn}
use Rattle.simulation.specs.Entries.{changes_of, lookup_of, with_one, ended_first, ended_by}
use Rattle.simulation.specs.Payments.{IsPaid, ArePaid, none_at, stops_in_serve, stops_of_serve}
use Rattle.simulation.specs.Moves.{awaiting_all, sent_after, waiting_after, made_after, served_by}
use Rattle.simulation.specs.Shows.{SimulationV, Happens, StaysNear, IsServeAt, waiting_cmp, server_for, is_up, has_numbers_at}
use Rattle.simulation.specs.Stores.{IsServedOn, IsStoppedOn, NearServed}
use Rattle.simulation.proofs.Payments.{is_paid_quiet, is_paid_stop, quiet_paid, stop_paid}
use Rattle.simulation.proofs.RangesKept.{room_in}
use Rattle.simulation.proofs.ServeRun.{serve_happens, stop_happens, replies_to}
use Rattle.simulation.proofs.EventRun.{stays_near}
use Rattle.simulation.proofs.ServersShown.{up_store, others_stay, numbers_of}
use Rattle.simulation.proofs.StopRun.{near_after, is_for}

pub on_err : {T E : Type 0} (result : Result T E) (P : Type 0) → P → OnErr result P
on_err (Ok t) P h = tt
on_err (Err e) P h = h

-- ---- what a Serve on a disk gave

pub told_stays : (before now : Option (List ℕ)) → StaysTold before now → is_some before ≡ true → is_some now ≡ true
told_stays None now stays told = cc
told_stays (Some before) None stays told = absurd stays
told_stays (Some before) (Some now) stays told = refl

pub one_message : {sent : List Msg} {message : ℕ} → (m : Msg) × (slice_get sent message ≡ Some m) × IsMessage m → (msg : Msg) → slice_get sent message ≡ Some msg → IsOneMessage sent (message ∷ []) msg
one_message {message = message} one msg there = record { message = message; one = refl; there = there; made = subst IsMessage (same_Some one.0 msg (sym one.1 ∙ there)) one.2 }

never_stopped : (first : Option Msg) (message : ℕ) → serves.Stopped ≡ ended_first first message → ⊥
never_stopped None message e = cc
never_stopped (Some msg) message e = cc

module _ {X : Type 0} (seen : X → Contents) (images : X → Image → Type 0) (faults : X → ℕ) (store new : Store X) (told : StaysTold (seen store.disk 1) (seen new.disk 1)) (same : (new.server ≡ store.server) × (new.setup ≡ store.setup)) (up : NodeAndRows) (msg : Msg) (now : ℕ) where
  served_on : {handled : Handled} → HasServed (serve up msg now) new.up handled → IsServedOn seen store new (serve up msg now).store
  served_on did = record { told = told_stays (seen store.disk 1) (seen new.disk 1) told; server = same.0; setup = same.1; up' = did.up' }

  stopped_on : HasStopped seen images new up (serve up msg now).records → IsStoppedOn seen images store new up (serve up msg now).records
  stopped_on did = record { told = told_stays (seen store.disk 1) (seen new.disk 1) told; server = same.0; setup = same.1; at = did.at; doubt = did.doubt }

  -- it was done
  module _ {handled : Handled} (did : HasServed (serve up msg now) new.up handled) (kept : faults new.disk ≡ faults store.disk) (message : ℕ) (sent sent' : List Msg) (waiting waiting' : set.FinSet waiting_cmp) (made made' : List Made) (there : slice_get sent message ≡ Some msg) where
    done_as : (served : Served) → sent' ≡ sent ++ handled.outputs → waiting' ≡ awaiting_all waiting handled.outputs (length sent) → ((m : Msg) → slice_get sent message ≡ Some m → made' ≡ with_one (made ++ changes_of handled.records) (lookup_of m handled.outputs (length sent))) → served ≡ ended_by handled.outputs (length sent)
        → ServesOn seen images faults store new up msg now sent sent' waiting waiting' made made' served
    done_as serves.Stopped sends waits makes is = absurd (never_stopped (slice_get handled.outputs 0) (length sent) is)
    done_as serves.Silent sends waits makes is = record {
      leaves = (served_on did, kept);
      tells = is ∙ ap (λ o. ended_by o (length sent)) did.outputs;
      sends = sends ∙ ap (λ o. sent ++ o) did.outputs;
      waits = waits ∙ ap (λ o. awaiting_all waiting o (length sent)) did.outputs;
      makes = makes msg there ∙ ap (λ r. with_one (made ++ changes_of r) (lookup_of msg handled.outputs (length sent))) did.records ∙ ap (λ o. with_one (made ++ changes_of (serve up msg now).records) (lookup_of msg o (length sent))) did.outputs;
    }
    done_as (serves.Answered first) sends waits makes is = record {
      leaves = (served_on did, kept);
      tells = is ∙ ap (λ o. ended_by o (length sent)) did.outputs;
      sends = sends ∙ ap (λ o. sent ++ o) did.outputs;
      waits = waits ∙ ap (λ o. awaiting_all waiting o (length sent)) did.outputs;
      makes = makes msg there ∙ ap (λ r. with_one (made ++ changes_of r) (lookup_of msg handled.outputs (length sent))) did.records ∙ ap (λ o. with_one (made ++ changes_of (serve up msg now).records) (lookup_of msg o (length sent))) did.outputs;
    }

    pub done_on : (result : Result Served AllocError) → OnOk result (sent' ≡ sent ++ handled.outputs) → OnOk result (waiting' ≡ awaiting_all waiting handled.outputs (length sent)) → OnOk result ((m : Msg) → slice_get sent message ≡ Some m → made' ≡ with_one (made ++ changes_of handled.records) (lookup_of m handled.outputs (length sent)))
        → IfOk result (λ served. served ≡ ended_by handled.outputs (length sent)) → IfOk result (ServesOn seen images faults store new up msg now sent sent' waiting waiting' made made')
    done_on (Ok served) sends waits makes is = done_as served sends waits makes is
    done_on (Err e) sends waits makes is = tt

  pub undone_on : {handled : Handled} → HasServed (serve up msg now) new.up handled → (result : Result Served AllocError) → OnErr result (NearServed seen images store new up (serve up msg now))
  undone_on did (Ok served) = tt
  undone_on did (Err e) = inr (inl (served_on did))

  -- it was refused
  pub near_on : (new ≡ store) ⊎ HasStopped seen images new up (serve up msg now).records → NearServed seen images store new up (serve up msg now)
  near_on (inl same') = inl same'
  near_on (inr did) = inr (inr (stopped_on did))

  -- its device stopped it: a server that went down did not stay as it was
  pub down_on : (sent : List Msg) (waiting : set.FinSet waiting_cmp) (made : List Made) → (new ≡ store) ⊎ HasStopped seen images new up (serve up msg now).records → store.up ≡ Some up → new.up ≡ None → Rose (faults store.disk) (faults new.disk)
      → ServesOn seen images faults store new up msg now sent sent waiting waiting made made serves.Stopped
  down_on sent waiting made (inl same') is down rose = let e = ap (λ (s : Store X). s.up) same' in cc
  down_on sent waiting made (inr did) is down rose = record { leaves = (stopped_on did, rose); tells = tt; sends = refl; waits = refl; makes = refl }

-- what pays for it

pub done_stops : (result : Result Served AllocError) (outputs : List Msg) (first : ℕ) → IfOk result (λ served. served ≡ ended_by outputs first) → stops_in_serve result ≡ 0
done_stops (Ok serves.Stopped) outputs first is = absurd (never_stopped (slice_get outputs 0) first is)
done_stops (Ok serves.Silent) outputs first is = refl
done_stops (Ok (serves.Answered message)) outputs first is = refl
done_stops (Err e) outputs first is = refl

module _ {D : Type 0} (lasts fails : D → D → Type 0) (faults : D → ℕ) (join : (a b c : D) → lasts a b → lasts b c → lasts a c) {store new : Store (Fused D)} {up : NodeAndRows} (is : store.up ≡ Some up) (o : OutlastsBy lasts faults store.disk new.disk) where
  pub serve_quiet : (stops : ℕ) → stops ≡ 0 → IsPaid faults lasts (Some store) (Some new) stops 0
  serve_quiet stops none = subst (λ n. IsPaid faults lasts (Some store) (Some new) n 0) (sym none) (is_paid_quiet faults lasts store new (λ first h. join first store.disk.inner new.disk.inner h o.inner) o.later (λ unarmed. (o.unarmed unarmed).left) (λ _. ap is_some is))

  pub serve_stop : ((a b : D) → fails a b → Rose (faults a) (faults b)) → new.up ≡ None → FailsBy fails faults store.disk new.disk → IsPaid faults lasts (Some store) (Some new) 1 0
  serve_stop rise down f = is_paid_stop faults lasts store new (λ first h. join first store.disk.inner new.disk.inner h o.inner) o.later (ap is_some is) (ap is_some down) (λ unarmed. rise store.disk.inner new.disk.inner (f.unarmed unarmed))

-- ---- what it comes upon in a simulation

pub record IsServing {X : Type 0} (was : SimulationV X) (server message : ℕ) (store : Store X) : Type 0 where
  pub up : NodeAndRows
  pub msg : Msg
  pub to : IsToServe was server message store up msg

pub serving : {X : Type 0} {was old : SimulationV X} → was ≡ old → old.count < EVENTS → (message server : ℕ) (store : Store X) → CanServe old message → Some server ≡ server_for (slice_get old.sent message) → store ≡ get_or was.stores server store → IsServing was server message store
serving {X = X} {was = was} {old = old} same room message server store can is read =
    let e = same_Some can.server server (sym can.is ∙ sym is) in
    let u = up_store same server store read (subst (λ s. is_up old s ≡ true) e can.up) in
    let meant = subst (λ (v : SimulationV X). server_for (slice_get v.sent message) ≡ Some server) (sym same) (sym is) in
    let m = is_for (slice_get was.sent message) server meant in
    record {
      up = u.up;
      msg = m.0;
      to = record {
        is = u.is;
        up' = u.up';
        numbers = numbers_of was u (subst (λ s. has_numbers_at was s ≡ true) e (subst (λ (v : SimulationV X). has_numbers_at v can.server ≡ true) (sym same) can.numbers));
        there = m.1;
        meant = sym (ap server_for m.1) ∙ meant;
        room = room_in same room;
      };
    }

-- the simulation with what a Serve changed
abbrev pub with_served : {X : Type 0} → SimulationV X → List (Store X) → List Msg → List Made → set.FinSet waiting_cmp → SimulationV X
with_served was stores sent made waiting = record was { count = was.count + 1; stores = stores; sent = sent; waiting = waiting; made = made }

module _ {X : Type 0} {was old : SimulationV X} (same : was ≡ old) {server message : ℕ} {store : Store X} (s : IsServing was server message store) where
  meant_for : (other : ℕ) → server_for (slice_get old.sent message) ≡ Some other → server ≡ other
  meant_for other meant = same_Some server other (sym s.to.meant ∙ ap server_for (sym s.to.there) ∙ ap (λ (v : SimulationV X). server_for (slice_get v.sent message)) same ∙ meant)

  -- the function that it is, by the parts
  pub serve_after : (seen : X → Contents) (images : X → Image → Type 0) (faults : X → ℕ) (new : Store X) (served : Served) (sent' : List Msg) (made' : List Made) (left waiting' : set.FinSet waiting_cmp)
      → ServesOn seen images faults store new s.up s.msg was.moment was.sent sent' left waiting' was.made made' served → left ≡ set.remove was.waiting (server, message)
      → (other : ℕ) → server_for (slice_get old.sent message) ≡ Some other → IsServe seen images faults old (with_served was (slice_set was.stores server new) sent' made' waiting') other message served
  serve_after seen images faults new served sent' made' left waiting' on removed other meant =
      let given = serve s.up s.msg was.moment in
      let stores = slice_set was.stores server new in
      subst (λ k. IsServe seen images faults old (with_served was (slice_set was.stores server new) sent' made' waiting') k message served) (meant_for other meant)
      (subst (λ v. IsServe seen images faults v (with_served was (slice_set was.stores server new) sent' made' waiting') server message served) same (record {
        was = store;
        up = s.up;
        msg = s.msg;
        to = s.to;
        store = new;
        leaves = on.leaves;
        tells = on.tells;
        after = ap (λ l. with_served was stores l made' waiting') on.sends ∙ ap (λ l. with_served was stores (sent_after was.sent given served) l waiting') on.makes
            ∙ ap (with_served was stores (sent_after was.sent given served) (made_after was.made s.msg given (length was.sent) served))
            (on.waits ∙ ap (λ w. waiting_after w given (length was.sent) served) removed);
      }))

  -- it changes this server alone
  pub serve_others : (new : Store X) (other : ℕ) → server_for (slice_get old.sent message) ≡ Some other → (k : ℕ) → k ≢ other → slice_get (slice_set was.stores server new) k ≡ slice_get old.stores k
  serve_others new other meant = subst (λ o. (k : ℕ) → k ≢ o → slice_get (slice_set was.stores server new) k ≡ slice_get old.stores k) (meant_for other meant) (others_stay same server new)

  -- a refused one leaves the servers near the run
  pub serve_near : (seen : X → Contents) (images : X → Image → Type 0) (new : Store X) → NearServed seen images store new s.up (serve s.up s.msg was.moment)
      → (other : ℕ) → server_for (slice_get old.sent message) ≡ Some other → StaysNear seen images old (record was { stores = slice_set was.stores server new }) (IsServeAt other message)
  serve_near seen images new near other meant =
      subst (λ k. StaysNear seen images old (record was { stores = slice_set was.stores server new }) (IsServeAt k message)) (meant_for other meant)
      (subst (λ (v : SimulationV X). StaysNear seen images v (record was { stores = slice_set was.stores server new }) (IsServeAt server message)) same (by near))
    where
      by : NearServed seen images store new s.up (serve s.up s.msg was.moment) → StaysNear seen images was (record was { stores = slice_set was.stores server new }) (IsServeAt server message)
      by (inl same') = stays_near seen images was (record was { stores = slice_set was.stores server new }) (IsServeAt server message) (ap (slice_set was.stores server) same' ∙ set_same was.stores server store s.to.is)
      by (inr (inl served)) =
          near_after seen images was (served_by was server message new s.msg (serve s.up s.msg was.moment) serves.Silent) (record was { stores = slice_set was.stores server new }) (IsServeAt server message) (Serve server (message ∷ []) ends.Done) (inl refl) refl refl
          (serve_happens seen images was server message store new s.up s.msg s.to served)
      by (inr (inr stopped)) =
          near_after seen images was (served_by was server message new s.msg (serve s.up s.msg was.moment) serves.Stopped) (record was { stores = slice_set was.stores server new }) (IsServeAt server message) (Serve server (message ∷ []) ends.Stop) (inr refl) refl refl
          (stop_happens seen images was server message store new s.up s.msg s.to stopped)

-- its stops are paid
module _ {D : Type 0} (faults : D → ℕ) (lasts : D → D → Type 0) {was old : SimulationV (Fused D)} (same : was ≡ old) {server message : ℕ} {store : Store (Fused D)} (s : IsServing was server message store) (new : Store (Fused D)) where
  is_paid_by : (result : Result Served AllocError) → IsPaid faults lasts (Some store) (Some new) (stops_in_serve result) 0 → ArePaid faults lasts old.stores (slice_set was.stores server new) (stops_of_serve result server) none_at
  is_paid_by (Ok serves.Stopped) one = stop_paid faults lasts was old server store new same s.to.is one
  is_paid_by (Ok serves.Silent) one = quiet_paid faults lasts was old server store new same s.to.is one
  is_paid_by (Ok (serves.Answered first)) one = quiet_paid faults lasts was old server store new same s.to.is one
  is_paid_by (Err e) one = quiet_paid faults lasts was old server store new same s.to.is one

  pub serve_paid : (result : Result Served AllocError) → IsPaid faults lasts (Some store) (Some new) (stops_in_serve result) 0
      → (other : ℕ) → server_for (slice_get old.sent message) ≡ Some other → ArePaid faults lasts old.stores (slice_set was.stores server new) (stops_of_serve result other) none_at
  serve_paid result one other meant = subst (λ k. ArePaid faults lasts old.stores (slice_set was.stores server new) (stops_of_serve result k) none_at) (meant_for same s other meant) (is_paid_by result one)

  pub refused_paid : (result : Result Served AllocError) (err : AllocError) → IsErrAnd result (λ e. e ≡ err) → IsPaid faults lasts (Some store) (Some new) 0 0
      → (other : ℕ) → server_for (slice_get old.sent message) ≡ Some other → ArePaid faults lasts old.stores (slice_set was.stores server new) (stops_of_serve result other) none_at
  refused_paid (Ok served) err is one = absurd is
  refused_paid (Err e) err is one = serve_paid (Err e) one

-- ---- that a simulation shows a run with it

ended_serves : {X : Type 0} (seen : X → Contents) (images : X → Image → Type 0) (old new : SimulationV X) (server message : ℕ) (outputs : List Msg) (served : Served) → Happens seen images old new (Serve server (message ∷ []) ends.Done) → new.sent ≡ old.sent ++ outputs → served ≡ ended_by outputs (length old.sent)
    → ((first : Msg) (more : List Msg) → outputs ≡ first ∷ more → RepliesTo old new message (length old.sent)) → Serves seen images old new server message served
ended_serves seen images old new server message [] served happens sent is replies =
    subst (Serves seen images old new server message) (sym is) (happens, sent ∙ append-nil old.sent)
ended_serves seen images old new server message (first ∷ more) served happens sent is replies =
    let longer : length old.sent + 1 ≤ length new.sent = (let e = ap length sent in let f = length-append old.sent (first ∷ more) in omega (arith, e, f)) in
    subst (Serves seen images old new server message) (sym is) (happens, refl, longer, replies first more refl)

module _ {X : Type 0} (seen : X → Contents) (images : X → Image → Type 0) {old new : SimulationV X} {server message : ℕ} {was store : Store X} {up : NodeAndRows} {msg : Msg} (to : IsToServe old server message was up msg) where
  done_serves : (served : Served) → IsServedOn seen was store (serve up msg old.moment).store → new ≡ served_by old server message store msg (serve up msg old.moment) serves.Silent → served ≡ ended_by (serve up msg old.moment).outputs (length old.sent)
      → Serves seen images old new server message served
  done_serves served on after is =
      let sent : new.sent ≡ old.sent ++ (serve up msg old.moment).outputs = ap (λ (v : SimulationV X). v.sent) after in
      ended_serves seen images old new server message (serve up msg old.moment).outputs served
      (subst (λ n. Happens seen images old n (Serve server (message ∷ []) ends.Done)) (sym after) (serve_happens seen images old server message was store up msg to on)) sent is
      (λ first more e. replies_to old new message up msg old.moment first more to.there e (sent ∙ ap (λ o. old.sent ++ o) e))

pub serves_of : {X : Type 0} (seen : X → Contents) (images : X → Image → Type 0) (faults : X → ℕ) {old new : SimulationV X} {server message : ℕ} (served : Served) → IsServe seen images faults old new server message served → Serves seen images old new server message served
serves_of {X = X} seen images faults {old = old} {server = server} {message = message} serves.Stopped s =
    (subst (λ n. Happens seen images old n (Serve server (message ∷ []) ends.Stop)) (sym s.after) (stop_happens seen images old server message s.was s.store s.up s.msg s.to s.leaves.0), ap (λ (v : SimulationV X). v.sent) s.after)
serves_of seen images faults serves.Silent s = done_serves seen images s.to serves.Silent s.leaves.0 s.after s.tells
serves_of seen images faults (serves.Answered first) s = done_serves seen images s.to (serves.Answered first) s.leaves.0 s.after s.tells
