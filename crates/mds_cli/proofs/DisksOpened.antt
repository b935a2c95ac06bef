-- From disks to disks: the servers were opened and a script carried out, or they were not opened.
use Rattle.std.proofs.Common.{◌≡◌, ◌∙◌, sym, subst, refl, ℕ, ◌<◌, ◌≤◌, true, List, ◌++◌, length, arith, inl, inr}
use Rattle.mds_base.specs.declared.setup.Setup.{Setup}
use Rattle.mds_base.specs.declared.store_fault.StoreFault.{StoreFault}
use Rattle.mds_base.specs.declared.store_fault.StoreFault.TheVariants as faults
use Rattle.mds_out.specs.Disk.{Image, Contents}
use Rattle.mds_out.specs.Fused.{Fused}
use Rattle.pasts.specs.Fuses.{seen_by, images_by}
use Rattle.pasts.specs.Openings.{AreCounted, IsNotOpened, IsNoDamage, RunsAreReached, TermsMayChange, with_choice}
use Rattle.pasts.specs.Starts.{AreDisks, AreReached}
use Rattle.simulation.specs.Openings.{BeginsFrom}
use Rattle.simulation.specs.Runs.{RunV, start_run}
use Rattle.simulation.specs.Shows.{SimulationV}
use Rattle.world.specs.Events.{all_enabled}
use Rattle.world.specs.Histories.{run}
use Rattle.world.specs.Law.{PastRun, HoldsOfRuns, start_trace}
use Rattle.world.specs.Worlds.{fresh_world}
use Rattle.interpreter.proofs.EventsText.{grown_length}
use Rattle.mds_cli.specs.Code.{status_of_fault}
use Rattle.mds_cli.specs.Ending.{EndsRun, EndsSo, IsEnd, Explains, IsUntouched, WhyUnopened, HasEnded}
use Rattle.mds_cli.specs.Payments.{EventsArePaid, RunIsPaid}
use Rattle.mds_cli.specs.SoFar.{HasCauses}
use Rattle.mds_cli.specs.Streams.{Streams}
use Rattle.mds_cli.specs.declared.status.Status.{Status}
use Rattle.mds_cli.specs.declared.status.Status.TheVariants.{OpenFault, BadDisk, OutOfMemory}
use Rattle.mds_cli.proofs.EventStops.{unless_map}
use Rattle.mds_cli.proofs.Payments.{run_paid}
use Rattle.mds_cli.proofs.RunFollows.{trace_grown, enabled_grown}

-- ---- the servers were not opened

module _ {D : Type 0} (faults' : D → ℕ) (seen : D → Contents) (images : D → Image → Type 0) (setup : Setup) (old new : List D) (first : Streams) (terms : TermsMayChange seen images) (stay : (past : List PastRun) → AreReached seen images setup old past → AreReached seen images setup new past) where
  unopened : (status : Status) → HasCauses status first first → WhyUnopened faults' seen images setup status old new → HasEnded faults' seen images setup status old new first first
  unopened status causes why = record { causes = causes; how = inl (record { why = why; untouched = record { unread = refl; taken = refl; reads = refl; writes = refl }; stay = λ past reached. terms setup new past (stay past reached) }) }

  pub ends_without : HasEnded faults' seen images setup OutOfMemory old new first first
  ends_without = unopened OutOfMemory (refl, omega arith) tt

  pub ends_unopened : (server : ℕ) (fault : StoreFault) → IsNotOpened faults' seen images setup old new server fault → ((past : List PastRun) → AreReached seen images setup old past → IsNoDamage fault) → HasEnded faults' seen images setup (status_of_fault server fault) old new first first
  ends_unopened server faults.Device refused sound = unopened (OpenFault server) (refl, refl) refused
  ends_unopened server (faults.Damaged file place damage) refused sound = unopened (BadDisk server file place damage) (refl, refl) (refused, sound)
  ends_unopened server fault refused sound = ends_without

-- ---- the servers were opened

module _ {D : Type 0} (faults' : D → ℕ) (seen : D → Contents) (images : D → Image → Type 0) (setup : Setup) (old new : List D) (first now : Streams) (sim : SimulationV (Fused D)) (some : 0 < setup.servers) (same : sim.setup ≡ setup) (opens : (past : List PastRun) → AreReached seen images setup old past → BeginsFrom (seen_by seen) (images_by images) setup past sim) (holds : HoldsOfRuns) (reach : RunsAreReached seen images) (lasts : D → D → Type 0) (all : length sim.stores ≡ length old) (few : length old ≤ 32) (counts : AreCounted faults' old sim.stores) where
  explains : (status : Status) → EndsSo faults' seen images status first now sim new → Explains faults' seen images setup status old new first now
  explains status ends past reached =
      let o : BeginsFrom (seen_by seen) (images_by images) setup past sim = opens past reached in
      let r : RunV = start_run setup o.servers o.entries in
      let e : EndsRun faults' seen images status setup first now sim.stores new r = subst (λ s. EndsRun faults' seen images status s first now sim.stores new r) same (ends.runs r o.shows) in
      let may : all_enabled (fresh_world setup o.servers) e.ends.events ≡ true = sym (enabled_grown r e.ends.events) ∙ e.may in
      let left : AreDisks seen images setup new (run (start_trace setup o.servers o.entries) e.ends.events).world.servers = subst (λ t. AreDisks seen images setup new t.world.servers) (trace_grown r e.ends.events) e.left in
      record {
        keep = o.keep;
        servers = o.servers;
        entries = o.entries;
        reached = o.reached;
        ends = e.ends;
        may = may;
        few = let grown = grown_length r e.ends.events in let short = e.few in omega (arith, grown, short);
        holds = holds setup some (with_choice o.keep past) o.servers o.entries o.reached e.ends.events may;
        left = left;
        next = reach (with_choice o.keep past) o.servers o.entries (record { setup = setup; events = e.ends.events; keep = o.keep }) new o.reached may left;
        paid = unless_map status (EventsArePaid faults' sim.stores new (e.ends.lines ++ e.ends.next) e.ends.events) (RunIsPaid faults' old new (e.ends.lines ++ e.ends.next) e.ends.events) (run_paid faults' lasts old new sim.stores all few counts (e.ends.lines ++ e.ends.next) e.ends.events) e.paid;
      }

  pub ends_over : (status : Status) → EndsSo faults' seen images status first now sim new → HasEnded faults' seen images setup status old new first now
  ends_over status ends = record { causes = ends.causes; how = inr (subst (λ s. IsEnd seen s new status first now) same ends.is, explains status ends) }
