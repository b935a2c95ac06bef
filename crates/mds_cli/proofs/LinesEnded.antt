-- From lines carried out to a run that has ended: what was pending is written.
use Rattle.std.proofs.Common.{◌≡◌, ◌∙◌, sym, ap, subst, refl, ℕ, ◌+◌, ◌≤◌, ◌^◌, true, List, [], ◌∷◌, ◌++◌, length, map, length-append, arith, Option, Some, None, append_assoc, inl, inr, codes}
use Rattle.std.specs.Prelude.{◌⊎◌}
use Rattle.std.specs.List.{slice_get}
use Rattle.std.specs.Io.KnownBytes.{Consumes, Appends, prepend_known}
use Rattle.std.proofs.lemmas.List.{append-nil}
use Rattle.mds_base.specs.declared.store_fault.Damage.{Damage}
use Rattle.mds_base.specs.declared.store_fault.StoreFault.TheVariants.{Damaged}
use Rattle.mds_base.specs.declared.setup.Setup.{Setup}
use Rattle.mds_out.specs.Disk.{Image, Contents}
use Rattle.mds_out.specs.Fault.{Rose}
use Rattle.mds_out.specs.Fused.{Fused}
use Rattle.mds_out.specs.Stream.{TakesFront}
use Rattle.node_store.specs.Reading.{IsRefusal, IsBadAtRestart}
use Rattle.node_store.specs.Store.{Store}
use Rattle.pasts.specs.Fuses.{seen_by, images_by}
use Rattle.pasts.specs.Servers.{AreServers}
use Rattle.pasts.specs.Starts.{AreDisks}
use Rattle.simulation.specs.Runs.{RunV}
use Rattle.simulation.specs.Shows.{SimulationV, Shows}
use Rattle.mds_base.proofs.Lists.{get_mapped}
use Rattle.world.specs.declared.event.Event.{Event}
use Rattle.world.specs.declared.state.ServerState.{ServerState}
use Rattle.interpreter.specs.EventText.{events_text, effects_text}
use Rattle.interpreter.specs.Payments.{Pays}
use Rattle.interpreter.specs.Story.{grown_by}
use Rattle.mds_cli.specs.Damage.{FindsDamage, Finds, seen_in}
use Rattle.mds_cli.specs.Ending.{EndsRun, EndsSo, IsEnd, outside}
use Rattle.mds_cli.specs.Lines.{lines_of}
use Rattle.mds_cli.specs.Payments.{fuses_armed, EventsArePaid, UnlessMemory}
use Rattle.mds_cli.specs.Run.{Leaves, BeginsWith, Because, ReadsTo, ArePrinted, EndsAfter, Took, run_text}
use Rattle.mds_cli.specs.SoFar.{HaveRead, FollowsOn, SoFar, HasCauses, IsStop, IsOnItsWay, IsMade, StopsRun, HasStopped}
use Rattle.mds_cli.specs.Streams.{Streams, streams, Ends, Flows}
use Rattle.mds_cli.specs.Turn.{CarriesAll, StopsWith, StopsBroken, StaysWithout, FinishesWith, FinishesDone, FinishesBroken}
use Rattle.mds_cli.specs.declared.status.Status.{Status}
use Rattle.mds_cli.specs.declared.status.Status.TheVariants.{Done, Usage, BadScript, ReadFault, WriteFault, OpenFault, BadDisk, Limit, OutOfMemory}
use Rattle.mds_cli.proofs.EventStops.{events_paid}
use Rattle.mds_cli.proofs.Known.{append_both, prepend_none, front_longer, front_whole, flows_text, flows_front, took, took_front}

-- ---- bytes that are known, outside of a session

-- the first moment of a session, where nothing is held or pending
pub begins_outside : (held pending : List ℕ) (left taken : Option (List ℕ)) (reads writes : ℕ) → held ≡ [] → pending ≡ [] → streams held left taken pending reads writes ≡ outside left taken reads writes
begins_outside held pending left taken reads writes none nothing =
    let empty : streams held left taken pending reads writes ≡ streams [] left taken [] reads writes = λ i. streams (none i) left taken (nothing i) reads writes in
    let same : streams [] left taken [] reads writes ≡ outside left taken reads writes = λ i. record { held = []; unread = prepend_none left i; taken = taken; pending = []; reads = reads; writes = writes } in
    empty ∙ same

all_empty : (held left : List ℕ) → held ++ left ≡ [] → left ≡ []
all_empty [] left none = none
all_empty (byte ∷ held) left none = absurd (omega (arith, ap length none))

ends_outside : (input left : Option (List ℕ)) (held : List ℕ) → Ends input (prepend_known held left) → Ends input left
ends_outside None left held ends = tt
ends_outside (Some all) None held ends = absurd ends
ends_outside (Some all) (Some left) held ends = all_empty held left ends

-- bytes that are held were read too
consumed_held : (input left : Option (List ℕ)) (held read : List ℕ) → Consumes input (prepend_known held left) read → Consumes input left (read ++ held)
consumed_held None left held read consumed = tt
consumed_held (Some all) None held read consumed = absurd consumed
consumed_held (Some all) (Some left) held read consumed = consumed ∙ sym (append_assoc read held left)

-- all lines were read
leaves_all : (a b : Option (List ℕ)) (lines : List (List ℕ)) → HaveRead a b lines → Ends a b → Leaves a lines (λ rest. rest ≡ [])
leaves_all None b lines read ends = tt
leaves_all (Some a) None lines read ends = absurd read
leaves_all (Some a) (Some b) lines read ends = ([], read ∙ ap (λ left. lines ++ lines_of left) ends, refl)

pub leaves_some : (a b : Option (List ℕ)) (lines : List (List ℕ)) → HaveRead a b lines → Leaves a lines (BeginsWith [])
leaves_some None b lines read = tt
leaves_some (Some a) None lines read = absurd read
leaves_some (Some a) (Some b) lines read = (lines_of b, read, (lines_of b, refl))

-- a front of the lines of events is one of the whole text
in_text : (a b : Option (List ℕ)) (run : RunV) (events : List Event) → TakesFront a b (events_text run events) → TakesFront a b (run_text run events)
in_text a b run events front = front_longer a b (events_text run events) (effects_text (grown_by run events).trace.past ++ codes "end\n") front

module _ {D : Type 0} (faults : D → ℕ) (lasts : D → D → Type 0) (seen : D → Contents) (images : D → Image → Type 0) (input before : Option (List ℕ)) (reads_first writes_first : ℕ) (held : List ℕ) (left taken : Option (List ℕ)) (pending : List ℕ) (reads writes : ℕ) (now : Option (List ℕ)) (writes_now : ℕ) (old sim : SimulationV (Fused D)) (disks : List D) (into : (servers : List ServerState) → AreServers (seen_by seen) (images_by images) sim.setup sim.stores servers → AreDisks seen images sim.setup disks servers) (handed : disks ≡ map (λ (store : Store (Fused D)). store.disk.inner) sim.stores) where
  abbrev first : Streams
  first = outside input before reads_first writes_first

  abbrev mid : Streams
  mid = streams held left taken pending reads writes

  abbrev last : Streams
  last = outside left now reads writes_now

  -- the disks of servers at the end
  left_by : sim.setup ≡ old.setup → (servers : List ServerState) → AreServers (seen_by seen) (images_by images) old.setup sim.stores servers → AreDisks seen images old.setup disks servers
  left_by setup servers are = subst (λ s. AreDisks seen images s disks servers) setup (into servers (subst (λ s. AreServers (seen_by seen) (images_by images) s sim.stores servers) (sym setup) are))

  causes_last : (status : Status) → writes_now ≡ writes → HasCauses status first mid → HasCauses status first last
  causes_last ReadFault same c = (c.0, same ∙ c.1)
  causes_last WriteFault same c = subst (λ n. Rose writes_first n) (sym same) c
  causes_last OutOfMemory same c = (c.0, subst (λ n. writes_first ≤ n) (sym same) c.1)
  causes_last status same c = (c.0, same ∙ c.1)

  -- damage that was found at a server is found on its disk
  on_disks : (next : List (List ℕ)) (server file offset : ℕ) (damage : Damage) → FindsDamage (seen_in seen) old.setup sim.stores next server file offset damage → FindsDamage seen old.setup disks next server file offset damage
  on_disks next server file offset damage found = record {
    line = found.line;
    is = found.is;
    says = found.says;
    log = λ disk at.
        let there = get_mapped (λ (store : Store (Fused D)). store.disk.inner) sim.stores server disk (subst (λ ds. slice_get ds server ≡ Some disk) handed at) in
        subst (λ (d : D). IsRefusal (IsBadAtRestart server old.setup) (seen d 1) (Damaged file offset damage)) there.2 (found.log there.0 there.1);
  }

  end_last : (status : Status) (lines next : List (List ℕ)) → IsStop status first mid → Leaves input lines (BeginsWith next) → Finds (seen_in seen) old.setup sim.stores next status → IsEnd seen old.setup disks status first last
  end_last (BadDisk server file offset damage) lines next stop begins found = record {
    lines = lines;
    next = next;
    read = record {
      read = stop.read ++ held;
      some = omega (arith, stop.some, length-append stop.read held);
      consumed = consumed_held input left held stop.read stop.consumed;
    };
    begins = begins;
    finds = on_disks next server file offset damage found;
  }
  end_last Usage lines next stop begins found = stop
  end_last (OpenFault server) lines next stop begins found = stop
  end_last status lines next stop begins found = tt

  reads_last : (status : Status) (lines : List (List ℕ)) → IsStop status first mid → ReadsTo status lines input (prepend_known held left) → ReadsTo status lines input left
  reads_last Done lines stop reads = absurd stop
  reads_last ReadFault lines stop reads = (reads.0, subst (λ u. Consumes input u reads.0) (ap (λ h. prepend_known h left) stop ∙ prepend_none left) reads.1, reads.2)
  reads_last status lines stop reads = tt

  -- ---- all lines were carried out

  module _ (all : CarriesAll faults lasts seen images first mid old sim) where
    abbrev lines : List (List ℕ)
    lines = all.so_far.lines

    finished : (status : Status) → HasCauses status first last → IsEnd seen old.setup disks status first last → ReadsTo status lines input left
        → ((run : RunV) → Because status old.setup run (1 + length lines) (Leaves input lines) [] []) → ((events : List Event) → ArePrinted status events events)
        → ((run : RunV) (f : FollowsOn seen images old.setup sim lines all.so_far.text run) → Took status before now run f.events)
        → ((run : RunV) (f : FollowsOn seen images old.setup sim lines all.so_far.text run) → UnlessMemory status (EventsArePaid faults old.stores disks (lines ++ []) f.events)) → EndsSo faults seen images status first last old disks
    finished status causes end reads because printed took pays = record {
      causes = causes;
      is = end;
      runs = λ run shows.
          let f : FollowsOn seen images old.setup sim lines all.so_far.text run = all.so_far.runs run shows in
          record {
            ends = record {
              lines = lines;
              next = [];
              printed = f.events;
              events = f.events;
              count = all.count;
              begins = leaves_some input (prepend_known held left) lines all.so_far.read;
              reads = reads;
              after = record { whole = f.events; part = []; are = sym (append-nil f.events); follows = f.follows; begun = refl; because = because (grown_by run f.events); all = printed f.events };
              took = took run f;
            };
            may = f.may;
            few = f.shows.few;
            left = left_by all.so_far.setup (grown_by run f.events).trace.world.servers (subst (λ s. AreServers (seen_by seen) (images_by images) s sim.stores (grown_by run f.events).trace.world.servers) all.so_far.setup f.shows.servers);
            paid = pays run f;
          };
    }

    -- the stops among the events are paid
    calm : (run : RunV) (f : FollowsOn seen images old.setup sim lines all.so_far.text run) → EventsArePaid faults old.stores disks (lines ++ []) f.events
    calm run f = events_paid faults lasts old.stores sim.stores disks handed all.so_far.text (lines ++ []) (subst (λ ls. Pays faults lasts old.stores sim.stores [] all.so_far.text (fuses_armed ls)) (sym (append-nil lines)) all.so_far.paid) run f.events f.told

    -- the text with the effects that the simulation tells
    with_effects : (run : RunV) (f : FollowsOn seen images old.setup sim lines all.so_far.text run) (effects : List ℕ) → effects ≡ effects_text (grown_by run f.events).trace.past → all.so_far.text ++ (effects ++ codes "end\n") ≡ run_text run f.events
    with_effects run f effects are = append_both all.so_far.text (events_text run f.events) (effects ++ codes "end\n") (effects_text (grown_by run f.events).trace.past ++ codes "end\n") f.told (ap (λ e. e ++ codes "end\n") are)

    pub ends_finished : (result : Status) → FinishesWith (seen_by seen) (images_by images) sim result taken now writes writes_now pending → EndsSo faults seen images result first last old disks
    ends_finished Done f = finished Done (all.so_far.reads, f.writes ∙ all.so_far.writes) tt (ends_outside input left held all.ends) (λ run. (refl, leaves_all input (prepend_known held left) lines all.so_far.read all.ends)) (λ events. refl)
        (λ run c. subst (λ t. Appends before now t) (with_effects run c f.effects (f.are (grown_by run c.events) c.shows))
        (flows_text before taken now pending all.so_far.text (f.effects ++ codes "end\n") all.so_far.flows (subst (λ t. Appends taken now t) (append_assoc pending f.effects (codes "end\n")) f.taken))) calm
    ends_finished WriteFault f = finished WriteFault (subst (λ n. Rose n writes_now) all.so_far.writes f.writes) tt tt (λ run. tt) (λ events. refl)
        (λ run c. subst (λ t. TakesFront before now t) (with_effects run c f.effects (f.are (grown_by run c.events) c.shows))
        (flows_front before taken now pending all.so_far.text (f.effects ++ codes "end\n") all.so_far.flows (subst (λ t. TakesFront taken now t) (append_assoc pending f.effects (codes "end\n")) f.taken))) calm
    ends_finished OutOfMemory f = finished OutOfMemory (all.so_far.reads, omega (arith, all.so_far.writes, f.later)) tt tt (λ run. tt) (λ events. ([], sym (append-nil events), omega arith))
        (λ run c. subst (λ t. TakesFront before now t) c.told (took_front before taken now pending all.so_far.text all.so_far.flows f.taken)) (λ run c. tt)
    ends_finished result f = absurd f

  -- ---- the run was stopped

  module _ (status : Status) (stopped : HasStopped faults lasts seen images status 1 first mid old sim) where
    ended : (result : Status) → HasCauses result first last → IsEnd seen old.setup disks result first last → ReadsTo result stopped.lines input left
        → ((run : RunV) (printed events : List Event) → EndsAfter status old.setup 1 stopped.lines stopped.next input run printed events → EndsAfter result old.setup 1 stopped.lines stopped.next input run printed events)
        → ((run : RunV) (printed : List Event) → IsMade status (events_text run printed) stopped.text → Took result before now run printed)
        → ((run : RunV) (printed events : List Event) → ArePrinted status printed events → IsMade status (events_text run printed) stopped.text → UnlessMemory result (EventsArePaid faults old.stores disks (stopped.lines ++ stopped.next) events)) → EndsSo faults seen images result first last old disks
    ended result causes end reads after took pays = record {
      causes = causes;
      is = end;
      runs = λ run shows.
          let s : StopsRun seen images status old.setup 1 stopped.lines stopped.next input stopped.text sim run = stopped.runs run shows in
          let few : 1 + length stopped.lines ≤ 2 ^ 22 + 1 = stopped.count (omega arith) in
          record {
            ends = record {
              lines = stopped.lines;
              next = stopped.next;
              printed = s.printed;
              events = s.events;
              count = omega (arith, few);
              begins = stopped.begins;
              reads = reads;
              after = after run s.printed s.events s.after;
              took = took run s.printed s.made;
            };
            may = s.may;
            few = s.few;
            left = left_by stopped.setup (grown_by run s.events).trace.world.servers s.servers;
            paid = pays run s.printed s.events s.after.all s.made;
          };
    }

    -- where all their text was made, the stops among the events are paid
    told : (run : RunV) (printed events : List Event) → events ≡ printed → events_text run printed ≡ stopped.text → EventsArePaid faults old.stores disks (stopped.lines ++ stopped.next) events
    told run printed events same made = events_paid faults lasts old.stores sim.stores disks handed stopped.text (stopped.lines ++ stopped.next) stopped.paid run events (sym made ∙ ap (events_text run) (sym same))

    -- the status stayed
    stayed : (result : Status) → result ≡ status → HasCauses status first last → ((run : RunV) (printed : List Event) → IsMade status (events_text run printed) stopped.text → Took status before now run printed)
        → ((run : RunV) (printed events : List Event) → ArePrinted status printed events → IsMade status (events_text run printed) stopped.text → UnlessMemory status (EventsArePaid faults old.stores disks (stopped.lines ++ stopped.next) events)) → EndsSo faults seen images result first last old disks
    stayed result same causes took pays = subst (λ r. EndsSo faults seen images r first last old disks) (sym same) (ended status causes (end_last status stopped.lines stopped.next stopped.stops stopped.begins stopped.finds) (reads_last status stopped.lines stopped.stops stopped.reads) (λ run printed events a. a) took pays)

    -- what was pending could not be written
    broken : (result : Status) → writes ≡ writes_first → Flows before taken pending stopped.text → ((printed events : List Event) → ArePrinted status printed events → events ≡ printed)
        → ((whole : List ℕ) → IsMade status whole stopped.text → whole ≡ stopped.text) → StopsBroken result taken now writes writes_now pending → EndsSo faults seen images result first last old disks
    broken result same flows all made with = subst (λ r. EndsSo faults seen images r first last old disks) (sym with.broken)
        (ended WriteFault (subst (λ n. Rose n writes_now) same with.writes) tt tt
        (λ run printed events a. record { whole = a.whole; part = a.part; are = a.are; follows = a.follows; begun = a.begun; because = tt; all = all printed events a.all })
        (λ run printed m. in_text before now run printed (subst (λ t. TakesFront before now t) (sym (made (events_text run printed) m)) (took_front before taken now pending stopped.text flows with.taken)))
        (λ run printed events a m. told run printed events (all printed events a) (made (events_text run printed) m)))

  pub ends_stopped : (status result : Status) → HasStopped faults lasts seen images status 1 first mid old sim → StopsWith status result taken now writes writes_now pending → EndsSo faults seen images result first last old disks
  ends_stopped Done result stopped with = absurd stopped.stops
  ends_stopped Usage result stopped with = absurd stopped.stops
  ends_stopped (OpenFault server) result stopped with = absurd stopped.stops
  ends_stopped WriteFault result stopped with = stayed WriteFault stopped result with.broken (causes_last WriteFault with.writes stopped.causes)
      (λ run printed made. in_text before now run printed (subst (λ n. TakesFront before n (events_text run printed)) (sym with.taken) (subst (λ t. TakesFront before taken t) (sym made) stopped.way)))
      (told WriteFault stopped)
  ends_stopped OutOfMemory result stopped with = stayed OutOfMemory stopped result with.same (stopped.causes.0, let early = stopped.causes.1 in omega (arith, early, with.later))
      (λ run printed made. subst (λ t. TakesFront before now t) (sym made.1) (front_longer before now stopped.text made.0 (took_front before taken now pending stopped.text stopped.way with.taken)))
      (λ run printed events a m. tt)
  ends_stopped status result stopped (inl with) = stayed status stopped result with.same (causes_last status with.writes stopped.causes)
      (λ run printed made. subst (λ t. Appends before now t) (sym made) (took before taken now pending stopped.text stopped.way with.taken))
      (told status stopped)
  ends_stopped status result stopped (inr with) = broken status stopped result stopped.causes.1 stopped.way (λ printed events a. a) (λ whole made. made) with

-- ---- bytes that were taken, whatever became of the run

module _ (input before : Option (List ℕ)) (reads_first writes_first : ℕ) (held : List ℕ) (left taken : Option (List ℕ)) (pending : List ℕ) (reads writes : ℕ) (now : Option (List ℕ)) (writes_now : ℕ) where
  abbrev began : Streams
  began = outside input before reads_first writes_first

  abbrev stood : Streams
  stood = streams held left taken pending reads writes

  pub front_stopped : (status result : Status) (text : List ℕ) → IsOnItsWay status began stood text → StopsWith status result taken now writes writes_now pending → TakesFront before now text
  front_stopped WriteFault result text way with = subst (λ n. TakesFront before n text) (sym with.taken) way
  front_stopped OutOfMemory result text way with = took_front before taken now pending text way with.taken
  front_stopped status result text way (inl same) = took_front before taken now pending text way (front_whole taken now pending same.taken)
  front_stopped status result text way (inr with) = took_front before taken now pending text way with.taken

  -- a run that was stopped is not done
  pub never_done : (status result : Status) → IsStop status began stood → StopsWith status result taken now writes writes_now pending → result ≡ Done → ⊥
  never_done WriteFault result stop with is = other (sym with.broken ∙ is)
    where
      other : WriteFault ≡ Done → ⊥
      other same = cc
  never_done OutOfMemory result stop with is = other (sym with.same ∙ is)
    where
      other : OutOfMemory ≡ Done → ⊥
      other same = cc
  never_done status result stop (inl with) is = subst (λ s. IsStop s began stood) (sym with.same ∙ is) stop
  never_done status result stop (inr with) is = other (sym with.broken ∙ is)
    where
      other : WriteFault ≡ Done → ⊥
      other same = cc
