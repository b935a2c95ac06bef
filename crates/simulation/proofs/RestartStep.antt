-- What a restart says of a simulation.
use Rattle.std.proofs.Common.{◌≡◌, ◌∙◌, sym, ap, subst, refl, ℕ, ◌+◌, ◌<◌, ◌≤◌, true, is_some, List, ◌++◌, length, take, Option, Some, None, Result, Ok, Err, IfOk, inl, inr}
use Rattle.std.specs.Prelude.{slice_set, IsErrAnd}
use Rattle.std.specs.List.{slice_get}
use Rattle.std.proofs.lemmas.Option.{same_Some}
use Rattle.mds_base.proofs.Grow.{set_here}
use Rattle.mds_base.specs.declared.limits.TheConstants.{EVENTS}
use Rattle.mds_base.specs.declared.store_fault.StoreFault.{StoreFault}
use Rattle.mds_base.specs.declared.store_fault.StoreFault.TheVariants as store_faults
use Rattle.mds_out.specs.Disk.{Image, Contents}
use Rattle.mds_out.specs.Fault.{Rose}
use Rattle.mds_out.specs.Fused.{Fused, fused_faults, OutlastsBy, FailsBy}
use Rattle.records.specs.declared.msg.Msg.{Msg}
use Rattle.node_core.specs.Nodes.{NodeAndRows}
use Rattle.node_store.specs.Reading.{IsRefusal, IsBadAtRestart}
use Rattle.node_store.specs.Store.{Store, IsDownAt}
use Rattle.world.specs.declared.event.Event.TheVariants.{Restart, Stop}
use Rattle.world.specs.declared.event.StopCause.TheVariants.{Device}
use Rattle.world.specs.Worlds.{store_of}
use Rattle.message_store.specs.declared.made.Made.{Made}
use Rattle.simulation.specs.declared.servers.Restarted.{Restarted}
use Rattle.simulation.specs.declared.servers.Restarted.TheVariants as restarts
use Rattle.simulation.specs.Calls.{Restarts, IsRestart, IsRestartFault}
use Rattle.simulation.specs.Entries.{changes_of}
use Rattle.pasts.specs.Fuses.{seen_by, images_by}
use Rattle.simulation.specs.Payments.{LeadsOn, IsPaid, ArePaid, none_at, stops_in_restart, stops_of_restart}
use Rattle.simulation.specs.Moves.{mended, restarted_by}
use Rattle.simulation.specs.Ranges.{AreStores}
use Rattle.simulation.specs.Runs.{RunV}
use Rattle.simulation.specs.Shows.{SimulationV, Shows, Happens, StaysNear, IsRestartOf}
use Rattle.simulation.specs.Stores.{IsRestarted, IsDownStill, IsRevived, IsFailed, RestartsOn, NearRestarted}
use Rattle.simulation.proofs.Payments.{is_paid_again, is_paid_unarmed, quiet_paid, stop_paid}
use Rattle.simulation.proofs.RestartRun.{restart_happens, fail_happens, refused_near}
use Rattle.pasts.proofs.ServersStand.{as_down, server_of}
use Rattle.simulation.proofs.ServersShown.{IsDownStore}
use Rattle.simulation.proofs.StopRun.{near_after}

-- ---- on a disk whose fuse was mended first

module _ {D : Type 0} (seen : D → Contents) (images : D → Image → Type 0) (faults : D → ℕ) (store mid new : Store (Fused D)) (same : mid ≡ mended store) where
  from_mended : (kept now : ℕ) → IsRestarted (seen_by seen) (images_by images) (mended store) new kept now → IsRestarted (seen_by seen) (images_by images) store new kept now
  from_mended kept now r = record { told = r.told; server = r.server; setup = r.setup; all_or_none = r.all_or_none; up = λ owed d. r.up owed (record { down = d.down; told = d.told }) }

  still_mended : IsDownStill (seen_by seen) (images_by images) (mended store) new → IsDownStill (seen_by seen) (images_by images) store new
  still_mended t = record { told = t.told; server = t.server; setup = t.setup; doubt = t.doubt; at = λ owed d. t.at owed (record { down = d.down; told = d.told }) }

  ends_mended : (now : ℕ) (made made' : List Made) (ended : Restarted) → RestartsOn (seen_by seen) (images_by images) (fused_faults faults) (mended store) new now made made' ended → RestartsOn (seen_by seen) (images_by images) (fused_faults faults) store new now made made' ended
  ends_mended now made made' restarts.Up r = record { kept = r.kept; restarted' = from_mended r.kept now r.restarted'; entries = r.entries; faults' = r.faults' }
  ends_mended now made made' restarts.Stopped f = record { still = still_mended f.still; entries = f.entries; rose = f.rose }

  near_by : (now : ℕ) → NearRestarted (seen_by seen) (images_by images) (mended store) new now → NearRestarted (seen_by seen) (images_by images) store new now
  near_by now (inl t) = inl (still_mended t)
  near_by now (inr r) = inr (r.0, from_mended r.0 now r.1)

  pub mended_ends : (now : ℕ) (made made' : List Made) (ended : Restarted) → RestartsOn (seen_by seen) (images_by images) (fused_faults faults) mid new now made made' ended → RestartsOn (seen_by seen) (images_by images) (fused_faults faults) store new now made made' ended
  mended_ends now made made' ended r = ends_mended now made made' ended (subst (λ s. RestartsOn (seen_by seen) (images_by images) (fused_faults faults) s new now made made' ended) same r)

  pub mended_near : (now : ℕ) → NearRestarted (seen_by seen) (images_by images) mid new now → NearRestarted (seen_by seen) (images_by images) store new now
  mended_near now r = near_by now (subst (λ s. NearRestarted (seen_by seen) (images_by images) s new now) same r)

  pub mended_sound : (fault : StoreFault) → (is_some (seen mid.disk.inner 1) ≡ true → (owed : NodeAndRows) → IsDownAt (seen_by seen) (images_by images) mid owed → fault ≡ store_faults.OutOfMemory)
      → is_some (seen store.disk.inner 1) ≡ true → (owed : NodeAndRows) → IsDownAt (seen_by seen) (images_by images) store owed → fault ≡ store_faults.OutOfMemory
  mended_sound fault sound told owed d =
      subst (λ s. is_some (seen s.disk.inner 1) ≡ true → (owed : NodeAndRows) → IsDownAt (seen_by seen) (images_by images) s owed → fault ≡ store_faults.OutOfMemory) same sound told owed (record { down = d.down; told = d.told })

  -- what pays for it
  module _ (lasts fails : D → D → Type 0) (join : (a b c : D) → lasts a b → lasts b c → lasts a c) (o : OutlastsBy lasts faults mid.disk new.disk) where
    later_mended : faults store.disk.inner ≤ faults new.disk.inner
    later_mended = subst (λ (s : Store (Fused D)). faults s.disk.inner ≤ faults new.disk.inner) same o.later

    on_mended : LeadsOn lasts store.disk.inner new.disk.inner
    on_mended first h = join first store.disk.inner new.disk.inner h (subst (λ (s : Store (Fused D)). lasts s.disk.inner new.disk.inner) same o.inner)

    unarmed_mid : mid.disk.left ≡ None
    unarmed_mid = ap (λ (s : Store (Fused D)). s.disk.left) same

    pub restart_quiet : IsPaid faults lasts (Some store) (Some new) 0 0
    restart_quiet = is_paid_unarmed faults lasts store new on_mended later_mended (o.unarmed unarmed_mid).left

    restart_stop : ((a b : D) → fails a b → Rose (faults a) (faults b)) → new.up ≡ None → FailsBy fails faults mid.disk new.disk → IsPaid faults lasts (Some store) (Some new) 1 0
    restart_stop rise down f =
        is_paid_again faults lasts store new on_mended later_mended (ap is_some down)
        (subst (λ (s : Store (Fused D)). Rose (faults s.disk.inner) (faults new.disk.inner)) same (rise mid.disk.inner new.disk.inner (f.unarmed unarmed_mid)))

    pub restart_ends : ((a b : D) → fails a b → Rose (faults a) (faults b)) → (ended : Restarted) → (◌≡◌ {A = Result Restarted StoreFault} (Ok ended) (Ok restarts.Stopped) → new.up ≡ None)
        → (◌≡◌ {A = Result Restarted StoreFault} (Ok ended) (Ok restarts.Stopped) → FailsBy fails faults mid.disk new.disk) → IsPaid faults lasts (Some store) (Some new) (stops_in_restart (Ok ended)) 0
    restart_ends rise restarts.Up down f = restart_quiet
    restart_ends rise restarts.Stopped down f = restart_stop rise (down refl) (f refl)

-- ---- in a simulation

module _ {X : Type 0} {was old : SimulationV X} (same : was ≡ old) {server : ℕ} {store : Store X} (s : IsDownStore was.stores server store) (new : Store X) (seen : X → Contents) (images : X → Image → Type 0) where
  -- the function that it is, by the parts
  pub restart_after : was.count < EVENTS → (faults : X → ℕ) (ended : Restarted) (made' : List Made) (sent' : List Msg) → sent' ≡ was.sent → RestartsOn seen images faults store new was.moment was.made made' ended
      → IsRestart seen images faults old (record (restarted_by was server new made') { sent = sent' }) server ended
  restart_after room faults ended made' sent' kept on =
      subst (λ (v : SimulationV X). IsRestart seen images faults v (record (restarted_by was server new made') { sent = sent' }) server ended) same
      (record { was = store; is = s.is; down = s.down; room = room; store = new; made = made'; leaves = on; after = ap (λ (l : List Msg). record (restarted_by was server new made') { sent = l }) kept })

  -- a refused one leaves the servers near the run
  pub restart_near : was.count < EVENTS → NearRestarted seen images store new was.moment → StaysNear seen images old (record was { stores = slice_set was.stores server new }) (IsRestartOf server)
  restart_near room near = subst (λ (v : SimulationV X). StaysNear seen images v (record was { stores = slice_set was.stores server new }) (IsRestartOf server)) same (by near)
    where
      by : NearRestarted seen images store new was.moment → StaysNear seen images was (record was { stores = slice_set was.stores server new }) (IsRestartOf server)
      by (inl still) = refused_near seen images was server store new s.is s.down (record was { stores = slice_set was.stores server new }) (IsRestartOf server) refl still
      by (inr r) =
          near_after seen images was (restarted_by was server new (was.made ++ changes_of (take r.0 store.doubt))) (record was { stores = slice_set was.stores server new }) (IsRestartOf server) (Restart server r.0) (r.0, refl) refl refl
          (restart_happens seen images was server store new s.is s.down room r.0 r.1)

  -- and where a run is shown, it was for want of memory
  pub restart_sound : (fault : StoreFault) → (is_some (seen store.disk 1) ≡ true → (owed : NodeAndRows) → IsDownAt seen images store owed → fault ≡ store_faults.OutOfMemory) → (run : RunV) → Shows seen images old run → fault ≡ store_faults.OutOfMemory
  restart_sound fault sound run shows =
      let shown = subst (λ (v : SimulationV X). Shows seen images v run) (sym same) shows in
      let h = server_of seen images was.setup was.stores run.trace.world.servers server store shown.servers s.is in
      sound h.good.told (store_of h.state) (as_down seen images was.setup server store h.state h.good s.down).at

  -- damage is named by the log of its disk
  pub restart_fault : AreStores was.setup was.stores → (mid : Store X) → mid.server ≡ store.server → mid.setup ≡ store.setup → (fault : StoreFault)
      → IsRefusal (IsBadAtRestart mid.server mid.setup) (seen new.disk 1) fault → IsRestartFault seen (record was { stores = slice_set was.stores server new }) server fault
  restart_fault all mid number terms fault is found at =
      let here : new ≡ found = same_Some new found (sym (set_here was.stores server store new s.is) ∙ at) in
      let e = all.each.at server store s.is in
      subst (λ (x : Store X). IsRefusal (IsBadAtRestart server was.setup) (seen x.disk 1) fault) here
      (subst (λ k. IsRefusal (IsBadAtRestart k was.setup) (seen new.disk 1) fault) (number ∙ e.0)
      (subst (λ t. IsRefusal (IsBadAtRestart mid.server t) (seen new.disk 1) fault) (terms ∙ e.1) is))

pub only_memory : (seen' : Option (List ℕ)) (fault : StoreFault) → is_some seen' ≡ true → IsRefusal (λ _ _ _. ⊥) seen' fault → (fault ≡ store_faults.Device → ⊥) → fault ≡ store_faults.OutOfMemory
only_memory seen' store_faults.Device told r apart = absurd (apart refl)
only_memory seen' store_faults.Stopped told r apart = absurd r
only_memory None (store_faults.Damaged file offset damage) told r apart = cc
only_memory (Some bytes) (store_faults.Damaged file offset damage) told r apart = absurd r.1
only_memory seen' store_faults.Room told r apart = absurd r
only_memory seen' store_faults.OutOfMemory told r apart = refl

-- its stops are paid
module _ {D : Type 0} (faults : D → ℕ) (lasts : D → D → Type 0) {was old : SimulationV (Fused D)} (same : was ≡ old) {server : ℕ} {store : Store (Fused D)} (s : IsDownStore was.stores server store) (new : Store (Fused D)) where
  pub restart_paid : (result : Result Restarted StoreFault) → IsPaid faults lasts (Some store) (Some new) (stops_in_restart result) 0 → ArePaid faults lasts old.stores (slice_set was.stores server new) (stops_of_restart result server) none_at
  restart_paid (Ok restarts.Stopped) one = stop_paid faults lasts was old server store new same s.is one
  restart_paid (Ok restarts.Up) one = quiet_paid faults lasts was old server store new same s.is one
  restart_paid (Err e) one = quiet_paid faults lasts was old server store new same s.is one

  pub unrestarted_paid : (P : StoreFault → Type 0) (result : Result Restarted StoreFault) → IsErrAnd result P → IsPaid faults lasts (Some store) (Some new) 0 0 → ArePaid faults lasts old.stores (slice_set was.stores server new) (stops_of_restart result server) none_at
  unrestarted_paid P (Ok ended) is one = absurd is
  unrestarted_paid P (Err e) is one = restart_paid (Err e) one

-- ---- that a simulation shows a run with it

pub restarts_of : {X : Type 0} (seen : X → Contents) (images : X → Image → Type 0) (faults : X → ℕ) {old new : SimulationV X} {server : ℕ} (ended : Restarted) → IsRestart seen images faults old new server ended → Restarts seen images old new server ended
restarts_of seen images faults {old = old} {server = server} restarts.Up s =
    λ run shows. (
      s.leaves.kept,
      subst (λ n. Happens seen images old n (Restart server s.leaves.kept)) (sym (s.after ∙ ap (restarted_by old server s.store) s.leaves.entries))
          (restart_happens seen images old server s.was s.store s.is s.down s.room s.leaves.kept s.leaves.restarted') run shows,
    )
restarts_of seen images faults {old = old} {server = server} restarts.Stopped s =
    subst (λ n. Happens seen images old n (Stop server Device)) (sym (s.after ∙ ap (restarted_by old server s.store) s.leaves.entries))
    (fail_happens seen images old server s.was s.store s.is s.down s.room s.leaves.still)
