-- A line that was read is refused, halted or carried out.
use Rattle.std.proofs.Common.{◌≡◌, ◌∙◌, sym, subst, refl, ℕ, ◌≤◌, ◌<◌, ◌^◌, Bool, true, false, List, [], ◌∷◌, ◌++◌, length, arith, inl, inr}
use Rattle.std.proofs.lemmas.Bool.{and_from}
use Rattle.std.proofs.lemmas.List.{append-nil}
use Rattle.mds_base.specs.declared.limits.TheConstants.{EVENTS}
use Rattle.mds_base.specs.declared.setup.Setup.{Setup}
use Rattle.mds_base.specs.declared.setup.Which.{Which}
use Rattle.mds_base.specs.declared.setup.Which.TheVariants.{Lines}
use Rattle.mds_base.specs.declared.store_fault.StoreFault.TheVariants.{Damaged}
use Rattle.mds_out.specs.Disk.{Image, Contents}
use Rattle.mds_out.specs.Fused.{Fused}
use Rattle.node_store.specs.Reading.{IsRefusal, IsBadAtRestart}
use Rattle.node_store.specs.Store.{Store}
use Rattle.pasts.specs.Fuses.{seen_by, images_by}
use Rattle.pasts.specs.Servers.{AreServers}
use Rattle.script.specs.declared.line.Line.{Line}
use Rattle.script.specs.Grammar.{IsLine}
use Rattle.simulation.specs.Runs.{RunV}
use Rattle.simulation.specs.Shows.{SimulationV, Shows, StandNear}
use Rattle.world.specs.declared.event.Event.{Event}
use Rattle.interpreter.specs.declared.interpreter.Halt.{Halt}
use Rattle.interpreter.specs.declared.interpreter.Halt.TheVariants as halts
use Rattle.interpreter.specs.Payments.{Pays, fuses_of}
use Rattle.interpreter.specs.Steps.{Carries, GoesBy, HaltsBy, HaltsLine}
use Rattle.interpreter.specs.Story.{grown_by, all_may, is_allowed, IsBegun, IsDone}
use Rattle.interpreter.proofs.EventsText.{grown_append, may_append}
use Rattle.mds_cli.specs.Code.{status_of_halt}
use Rattle.mds_cli.specs.Damage.{FindsDamage, Finds, seen_in}
use Rattle.mds_cli.specs.Follows.{Says, IsBad, IsAllowed, IsCarriedOut}
use Rattle.mds_cli.specs.Lines.{without_return}
use Rattle.mds_cli.specs.Run.{Because, ArePrinted, BeginsBad, BeginsAllowed}
use Rattle.mds_cli.specs.Payments.{fuses_armed}
use Rattle.mds_cli.specs.Turn.{IsHalt, PutsText, Behind, StopsOn, StopsCall}
use Rattle.mds_cli.specs.declared.status.Status.{Status}
use Rattle.mds_cli.specs.declared.status.Status.TheVariants.{BadScript, BadDisk, Limit, OutOfMemory}
use Rattle.mds_cli.proofs.RunFollows.{refused_bad, too_long_bad}
use Rattle.mds_cli.proofs.SoFar.{pays_none, pays_line}

-- ---- what the bytes of a line say

module _ (setup s : Setup) (bytes cut : List ℕ) (is : cut ≡ without_return bytes) (same : s ≡ setup) where
  line_of : (line : Line) → IsLine setup (without_return bytes) line → IsLine s cut line
  line_of line said = subst (λ b. IsLine s b line) (sym is) (subst (λ t. IsLine t (without_return bytes) line) (sym same) said)

  pub none_bad : (run : RunV) → ((line : Line) → IsLine s cut line → ⊥) → IsBad setup run bytes
  none_bad run never line says = absurd (never line (line_of line says.1))

  pub says_line : (line : Line) → length cut ≤ 2 ^ 20 → IsLine s cut line → Says setup bytes line
  says_line line short said = (subst (λ b. length b ≤ 2 ^ 20) is short, subst (λ t. IsLine t (without_return bytes) line) same (subst (λ b. IsLine s b line) is said))

  pub long_bad : (run : RunV) → 2 ^ 20 < length cut → IsBad setup run bytes
  long_bad run long = too_long_bad setup run bytes (subst (λ b. 2 ^ 20 < length b) is long)

-- a line that is not allowed is bad
pub refused_line : (setup : Setup) (run : RunV) (bytes : List ℕ) (line : Line) (b : Bool) → Says setup bytes line → b ≡ is_allowed run.trace.world line → b ≡ false → IsBad setup run bytes
refused_line setup run bytes line b says allowed refused = refused_bad setup run bytes line says (sym allowed ∙ refused)

-- ---- servers near a run

-- they are those of the run, or of the run with one event more, of this kind
record Nears {X : Type 0} (seen : X → Contents) (images : X → Image → Type 0) (setup : Setup) (stores : List (Store X)) (P : List Event → Type 0) (run : RunV) : Type 0 where
  last : List Event
  is : P last
  few : length last ≤ 1
  may : all_may run last ≡ true
  small : length (grown_by run last).events ≤ EVENTS
  servers : AreServers seen images setup stores (grown_by run last).trace.world.servers

nears : {X : Type 0} (seen : X → Contents) (images : X → Image → Type 0) (setup : Setup) (stores : List (Store X)) (P : List Event → Type 0) (run : RunV) → P [] → length run.events ≤ EVENTS → StandNear seen images setup stores (λ event. P (event ∷ [])) run → Nears seen images setup stores P run
nears seen images setup stores P run none small (inl servers) = record { last = []; is = none; few = omega arith; may = refl; small = small; servers = servers }
nears seen images setup stores P run none small (inr after) = record { last = after.event ∷ []; is = after.is; few = omega arith; may = and_from _ _ after.goes.may refl; small = after.few; servers = after.goes.then }

-- ---- one line

module _ {D : Type 0} (faults : D → ℕ) (lasts : D → D → Type 0) (seen : D → Contents) (images : D → Image → Type 0) (was bytes : List ℕ) (number : ℕ) where
  -- it was refused
  module _ (old : SimulationV (Fused D)) where
    refused : (status : Status) → IsHalt status → Finds (seen_in seen) old.setup old.stores [] status → ArePrinted status [] [] → PutsText status was was [] → ((run : RunV) → Shows (seen_by seen) (images_by images) old run → Because status old.setup run number (Behind bytes) [] []) → StopsCall faults lasts seen images status old old was was bytes number
    refused status kind finds all text because = record {
      next = [];
      is = inl refl;
      kind = kind;
      finds = finds;
      paid = pays_none faults lasts old.stores was;
      runs = λ run shows. record { printed = []; events = []; begun = refl; because = because run shows; all = all; may = refl; few = shows.few; servers = shows.servers; text = text };
    }

    pub refused_bad_line : ((run : RunV) → Shows (seen_by seen) (images_by images) old run → IsBad old.setup run bytes) → StopsCall faults lasts seen images (BadScript number) old old was was bytes number
    refused_bad_line bad = refused (BadScript number) tt tt refl (sym (append-nil was)) (λ run shows. (refl, refl, λ more. record { bad = bytes; more = more; is = refl; is_bad = bad run shows }))

    pub refused_full : 2 ^ 22 < number → ((run : RunV) → Shows (seen_by seen) (images_by images) old run → IsAllowed old.setup run bytes) → StopsCall faults lasts seen images (Limit Lines) old old was was bytes number
    refused_full many allowed = refused (Limit Lines) tt tt refl (sym (append-nil was)) (λ run shows. inl (refl, refl, many, λ more. record { next = bytes; more = more; is = refl; allowed = allowed run shows }))

    pub refused_memory : StopsCall faults lasts seen images OutOfMemory old old was was bytes number
    refused_memory = refused OutOfMemory tt tt ([], refl, omega arith) (record { front = []; rest = []; whole = refl; pending = sym (append-nil was) }) (λ run shows. tt)

  -- it was carried out, or halted
  module _ (now : List ℕ) (old new : SimulationV (Fused D)) (line : Line) (says : Says old.setup bytes line) (allowed : (run : RunV) → Shows (seen_by seen) (images_by images) old run → is_allowed run.trace.world line ≡ true) where
    pub carries_line : Carries (seen_by seen) (images_by images) old new was now (λ run. IsDone run line) → Carries (seen_by seen) (images_by images) old new was now (λ run. IsCarriedOut old.setup run bytes)
    carries_line carries run shows =
        let g : GoesBy (seen_by seen) (images_by images) new was now run (IsDone run line) = carries run shows in
        record { events = g.events; are = record { line = line; says = says; allowed = allowed run shows; done = g.are; may = g.goes.may }; goes = g.goes }

    module _ (within : number ≤ 2 ^ 22) (same : new.setup ≡ old.setup) (pays : Pays faults lasts old.stores new.stores was now (fuses_of line)) where
      halted : (status : Status) → IsHalt status → Finds (seen_in seen) old.setup new.stores (bytes ∷ []) status → ((run : RunV) → Shows (seen_by seen) (images_by images) old run → StopsOn (seen_by seen) (images_by images) status old.setup number bytes (bytes ∷ []) new was now run) → StopsCall faults lasts seen images status old new was now bytes number
      halted status kind finds runs = record { next = bytes ∷ []; is = inr refl; kind = kind; finds = finds; paid = pays_line faults lasts old.setup bytes line old.stores new.stores was now says pays; runs = runs }

      pub stops_halted : (halt : Halt) → HaltsLine (seen_by seen) (images_by images) old new was now line halt → StopsCall faults lasts seen images (status_of_halt halt) old new was now bytes number
      stops_halted (halts.Limit which) stops = halted (Limit which) tt tt (λ run shows.
          let h : HaltsBy (seen_by seen) (images_by images) new was now run (IsBegun run line) (halts.Limit which) = stops.runs run shows in
          record {
            printed = h.events;
            events = h.events;
            begun = record { line = line; says = says; allowed = allowed run shows; begun = h.are; may = h.may };
            because = inr (bytes, refl, within, record { line = line; says = says; allowed = allowed run shows; begun = h.are; may = h.may; at = h.at.1 });
            all = refl;
            may = h.may;
            few = h.few;
            servers = subst (λ s. AreServers (seen_by seen) (images_by images) s new.stores (grown_by run h.events).trace.world.servers) same h.at.0.shows.servers;
            text = h.at.0.text;
          })
      stops_halted (halts.Damaged server file offset damage) stops =
          let found : FindsDamage (seen_in seen) old.setup new.stores (bytes ∷ []) server file offset damage = record {
            line = bytes;
            is = refl;
            says = subst (Says old.setup bytes) stops.found.0 says;
            log = λ store at. subst (λ s. IsRefusal (IsBadAtRestart server s) (seen store.disk.inner 1) (Damaged file offset damage)) same (stops.found.1 store at);
          } in
          halted (BadDisk server file offset damage) tt found (λ run shows. absurd (stops.runs run shows).at)
      stops_halted halts.OutOfMemory stops = halted OutOfMemory tt tt (λ run shows.
          let h : HaltsBy (seen_by seen) (images_by images) new was now run (IsBegun run line) halts.OutOfMemory = stops.runs run shows in
          let n : Nears (seen_by seen) (images_by images) old.setup new.stores (λ last. IsBegun run line (h.events ++ last)) (grown_by run h.events) =
          nears (seen_by seen) (images_by images) old.setup new.stores (λ last. IsBegun run line (h.events ++ last)) (grown_by run h.events) (subst (IsBegun run line) (sym (append-nil h.events)) h.are) h.few
          (subst (λ s. StandNear (seen_by seen) (images_by images) s new.stores (λ event. IsBegun run line (h.events ++ event ∷ [])) (grown_by run h.events)) same h.near) in
          let both : all_may run (h.events ++ n.last) ≡ true = may_append run h.events n.last h.may n.may in
          record {
            printed = h.events;
            events = h.events ++ n.last;
            begun = record { line = line; says = says; allowed = allowed run shows; begun = n.is; may = both };
            because = tt;
            all = (n.last, refl, n.few);
            may = both;
            few = subst (λ r. length r.events ≤ EVENTS) (sym (grown_append run h.events n.last)) n.small;
            servers = subst (λ r. AreServers (seen_by seen) (images_by images) old.setup new.stores r.trace.world.servers) (sym (grown_append run h.events n.last)) n.servers;
            text = h.text;
          })
