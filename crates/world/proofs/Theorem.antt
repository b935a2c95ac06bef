-- The theorem of the world.
use Rattle.std.proofs.Common.{◌≡◌, ◌∙◌, sym, ap, subst, ℕ, ◌+◌, ◌<◌, Bool, List, [], ◌∷◌, arith}
use Rattle.std.specs.Prelude.{map as list_map}
use Rattle.std.specs.List.{slice_get}
use Rattle.std.specs.FinMap as map
use Rattle.std.proofs.lemmas.List.{map-append}
use Rattle.mds_base.specs.declared.setup.Setup.{Setup}
use Rattle.mds_base.specs.Entries.{Entries}
use Rattle.mds_base.specs.History.{map_after}
use Rattle.mds_base.proofs.Histories.{leads_on, history_spares}
use Rattle.node_core.specs.Nodes.{server_for, row_in}
use Rattle.node_core.specs.Terms.{SharesHead}
use Rattle.world.specs.declared.state.ServerState.{ServerState}
use Rattle.world.specs.Histories.{Trace, MadeV, run, entries_of}
use Rattle.world.specs.Law.{row_at, start_trace, new_servers, closing, ended, opened, PastRun, IsReached, EndsWell, HoldsOfRuns}
use Rattle.world.proofs.Keepers.{zero_holder}
use Rattle.world.proofs.Invariant.{Inv, store_in}
use Rattle.world.proofs.Explain.{explained}
use Rattle.world.proofs.Owners.{has_owner}
use Rattle.world.proofs.Happens.{run_keeps}
use Rattle.world.proofs.Starts.{IsStart, start_inv, start_new, start_again, row_in_store}
use Rattle.world.proofs.Ends.{ClosedBy, closing_ends, run_setup}

closed : (t : Trace) (keep : ℕ → Bool) → ClosedBy t (closing keep t.world.servers 0)
closed t keep = closing_ends keep t.world.servers 0 t (record {
  rest = λ k. let z : 0 + k ≡ k = omega arith in ap (slice_get t.world.servers) z;
  before = λ j x lt at. absurd (omega arith);
})

ended_inv : (t : Trace) → Inv t → (keep : ℕ → Bool) → Inv (ended t keep)
ended_inv t inv keep = run_keeps (closing keep t.world.servers 0) t inv (closed t keep).enabled

module _ (t : Trace) (inv : Inv t) (keep : ℕ → Bool) where
  abbrev last : Trace
  last = ended t keep

  row_says : (dir : ℕ) (name : List ℕ) → row_at t.world.setup last.world.servers dir name ≡ map.get (map_after t.past.start (entries_of last.past.made)) (dir, name)
  row_says dir name =
      let i = ended_inv t inv keep in
      let same : last.world.setup ≡ t.world.setup = run_setup (closing keep t.world.servers 0) t in
      let rows : row_at last.world.setup last.world.servers dir name ≡ map.get last.past.entries (dir, name) =
      sym (i.rows.map_rows dir name
      ∙ ap (λ p. row_in (store_in last.world.servers (server_for last.world.setup.servers dir p)).rows dir p name) (zero_holder dir name)
      ∙ row_in_store last.world.servers (server_for last.world.setup.servers dir 0) dir name) in
      ap (λ s. row_at s last.world.servers dir name) (sym same) ∙ rows ∙ ap (λ m. map.get m (dir, name)) i.legal.now
      ∙ ap (λ m. map.get (map_after m (entries_of last.past.made)) (dir, name)) (closed t keep).grows.start

  pub ends_well : EndsWell t keep
  ends_well = record {
    enabled = (closed t keep).enabled;
    goes_on = ((closed t keep).grows.more, (closed t keep).grows.made);
    explained = explained last (ended_inv t inv keep);
    rows = row_says;
    lasts = λ front later is dir name spares.
        row_says dir name
        ∙ ap (λ m. map.get (map_after t.past.start (entries_of m)) (dir, name)) is
        ∙ ap (λ es. map.get (map_after t.past.start es) (dir, name)) (map-append (λ (e : MadeV). e.entry) front later)
        ∙ ap (λ m. map.get m (dir, name)) (leads_on t.past.start (entries_of front) (entries_of later))
        ∙ history_spares (map_after t.past.start (entries_of front)) (entries_of later) (dir, name) spares;
  }

pub reached_start : (setup : Setup) → 0 < setup.servers → (past : List PastRun) (servers : List ServerState) (entries : Entries) → IsReached setup past servers entries → IsStart setup servers entries
reached_start setup some [] servers entries r = subst (λ s. IsStart setup s entries) (sym r.0) (subst (IsStart setup (new_servers setup)) (sym r.1) (start_new setup some))
reached_start setup some (past ∷ older) servers entries r =
    let share : SharesHead past.setup setup = r.0 in
    let from : List ServerState = r.1 in
    let there : Entries = r.2 in
    let start : IsStart past.setup from there = reached_start past.setup (subst (λ n. 0 < n) share.servers some) older from there r.3 in
    let t : Trace = run (start_trace past.setup from there) past.events in
    let inv : Inv t = run_keeps past.events (start_trace past.setup from there) (start_inv past.setup from there start) r.4 in
    let last : Trace = ended t past.keep in
    let same : last.world.setup ≡ past.setup = run_setup (closing past.keep t.world.servers 0) t ∙ run_setup past.events (start_trace past.setup from there) in
    let share' : SharesHead last.world.setup setup = subst (λ x. SharesHead x setup) (sym same) share in
    let again : IsStart setup (list_map (opened setup) last.world.servers) last.past.entries = start_again last (ended_inv t inv past.keep) (closed t past.keep).up setup share' in
    subst (λ s. IsStart setup s entries) (sym r.5) (subst (IsStart setup (list_map (opened setup) last.world.servers)) (sym r.6) again)

pub holds_of_runs : HoldsOfRuns
holds_of_runs setup some past servers entries reached events enabled =
    let t : Trace = run (start_trace setup servers entries) events in
    let inv : Inv t = run_keeps events (start_trace setup servers entries) (start_inv setup servers entries (reached_start setup some past servers entries reached)) enabled in
    record { explained = explained t inv; ends_well = ends_well t inv; owned = has_owner t inv; settled = inv.doubt.doubt_down }
