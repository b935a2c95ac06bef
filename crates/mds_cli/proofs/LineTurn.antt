-- One turn of a session: a line is read, and carried out.
use Rattle.std.proofs.Common.{◌≡◌, ◌∙◌, sym, ap, subst, refl, ℕ, ◌+◌, ◌≤◌, ◌^◌, Bool, true, false, List, [], ◌∷◌, ◌++◌, length, arith, Option, Some, None, length-append, inl, inr}
use Rattle.std.specs.Prelude.{◌⊎◌}
use Rattle.std.specs.Io.KnownBytes.{Consumes, prepend_known}
use Rattle.std.proofs.lemmas.Bool.{true≢false}
use Rattle.std.proofs.lemmas.List.{append-nil, append_cancel_left}
use Rattle.mds_base.specs.declared.setup.Setup.{Setup}
use Rattle.mds_out.specs.Disk.{Image, Contents}
use Rattle.mds_out.specs.Fused.{Fused}
use Rattle.mds_out.specs.Known.{OnTold}
use Rattle.pasts.specs.Fuses.{seen_by, images_by}
use Rattle.simulation.specs.Runs.{RunV}
use Rattle.simulation.specs.Shows.{SimulationV, Shows}
use Rattle.world.specs.declared.event.Event.{Event}
use Rattle.interpreter.specs.EventText.{events_text}
use Rattle.interpreter.specs.Payments.{Pays, text_of}
use Rattle.interpreter.specs.Steps.{Carries, GoesBy, PutsFront}
use Rattle.mds_cli.specs.Arming.{ArmsLine}
use Rattle.mds_cli.specs.Damage.{Finds, seen_in}
use Rattle.mds_cli.specs.Follows.{IsBad, IsCarriedOut}
use Rattle.mds_cli.specs.Lines.{IsPart, lines_of}
use Rattle.mds_cli.specs.Run.{Leaves, BeginsWith, BeginsBad, Because, ReadsTo, ArePrinted}
use Rattle.mds_cli.specs.SoFar.{HaveRead, SoFar, HasCauses, HasRead, IsStop, IsOnItsWay, IsMade, HasStopped}
use Rattle.mds_cli.specs.Payments.{fuses_armed}
use Rattle.mds_cli.specs.Streams.{Streams, streams, Flows, IsQuiet, Ends, BeginsLong, ReadsLine, StopsLine, is_line}
use Rattle.mds_cli.specs.Turn.{PutsText, Behind, StopsOn, StopsCall, IsFound, TakesTurn, status_of}
use Rattle.mds_cli.specs.declared.line.Line.{Line}
use Rattle.mds_cli.specs.declared.line.Line.TheVariants as lines
use Rattle.mds_cli.specs.declared.line.Stop.{Stop}
use Rattle.mds_cli.specs.declared.line.Stop.TheVariants as stops
use Rattle.mds_cli.specs.declared.status.Status.{Status}
use Rattle.mds_cli.specs.declared.status.Status.TheVariants.{BadScript, ReadFault, WriteFault, BadDisk, Limit, OutOfMemory}
use Rattle.mds_cli.proofs.RunFollows.{long_bad}
use Rattle.mds_cli.proofs.Known.{flows_more}
use Rattle.mds_cli.proofs.ScriptLines.{lines_front, last_line, long_line, none_ended}
use Rattle.mds_cli.proofs.SoFar.{because_there, pays_none}

-- ---- the lines that the unread bytes begin with

leaves_none : (unread : Option (List ℕ)) → Leaves unread [] (BeginsWith [])
leaves_none None = tt
leaves_none (Some all) = (lines_of all, refl, (lines_of all, refl))

leaves_next : (unread : Option (List ℕ)) (line : List ℕ) (next : List (List ℕ)) → Leaves unread [] (BeginsWith (line ∷ [])) → (next ≡ []) ⊎ (next ≡ line ∷ []) → Leaves unread [] (BeginsWith next)
leaves_next unread line next begins (inl none) = subst (λ n. Leaves unread [] (BeginsWith n)) (sym none) (leaves_none unread)
leaves_next unread line next begins (inr one) = subst (λ n. Leaves unread [] (BeginsWith n)) (sym one) begins

leaves_behind : (unread : Option (List ℕ)) (line : List ℕ) → Leaves unread [] (BeginsWith (line ∷ [])) → (P : List (List ℕ) → Type 0) → Behind line P → Leaves unread [] P
leaves_behind None line begins P behind = tt
leaves_behind (Some all) line begins P behind = (line ∷ begins.2.0, begins.1 ∙ begins.2.1, behind begins.2.0)

-- one that is too long is bad
leaves_long : (setup : Setup) (run : RunV) (unread : Option (List ℕ)) → OnTold unread BeginsLong → Leaves unread [] (BeginsBad setup run)
leaves_long setup run None begins = tt
leaves_long setup run (Some all) begins =
    let long = long_line begins.part begins.rest begins.is_part (omega (arith, begins.long)) in
    (long.line ∷ long.rest, ap lines_of begins.splits ∙ long.is, record { bad = long.line; more = long.rest; is = refl; is_bad = long_bad setup run long.line (omega (arith, begins.long, long.long)) })

-- ---- a line that was read

-- what is known of it, whether it has a line feed or not
record IsRead (before now : Option (List ℕ)) (line : List ℕ) : Type 0 where
  read : HaveRead before now (line ∷ [])
  begins : Leaves before [] (BeginsWith (line ∷ []))
  has : HasRead before now

read_first : (before now : Option (List ℕ)) (line bytes : List ℕ) → HaveRead before now (line ∷ []) → 1 ≤ length bytes → Consumes before now bytes → IsRead before now line
read_first before now line bytes read some consumed = record { read = read; begins = by before now read; has = record { read = bytes; some = some; consumed = consumed } }
  where
    by : (a b : Option (List ℕ)) → HaveRead a b (line ∷ []) → Leaves a [] (BeginsWith (line ∷ []))
    by None b read = tt
    by (Some a) None read = absurd read
    by (Some a) (Some b) read = (line ∷ lines_of b, read, (lines_of b, refl))

ended_read : (before now : Option (List ℕ)) (line : List ℕ) → IsPart line → Consumes before now (line ++ 10 ∷ []) → HaveRead before now (line ∷ [])
ended_read None now line part consumed = tt
ended_read (Some all) None line part consumed = absurd consumed
ended_read (Some all) (Some left) line part consumed = ap lines_of consumed ∙ lines_front (line ∷ []) left (part, tt)

last_read : (before now : Option (List ℕ)) (line : List ℕ) → IsPart line → 1 ≤ length line → Consumes before now line → Ends before now → HaveRead before now (line ∷ [])
last_read None now line part some consumed ends = tt
last_read (Some all) None line part some consumed ends = absurd consumed
last_read (Some all) (Some left) line part some consumed ends =
    subst (λ l. lines_of all ≡ line ∷ lines_of l) (sym ends) (ap lines_of (consumed ∙ ap (λ l. line ++ l) ends ∙ append-nil line) ∙ last_line line part some)

none_read : (before now : Option (List ℕ)) → Consumes before now [] → HaveRead before now []
none_read None now consumed = tt
none_read (Some all) None consumed = absurd consumed
none_read (Some all) (Some left) consumed = ap lines_of consumed

module _ {D : Type 0} (faults : D → ℕ) (lasts : D → D → Type 0) (seen : D → Contents) (images : D → Image → Type 0) where
  -- ---- there was none left, or it was not found

  pub takes_none : (found : Line) (number : ℕ) (before now : Streams) (line : List ℕ) (sim : SimulationV (Fused D)) → is_line found ≡ false → ReadsLine found before now line → TakesTurn faults lasts seen images found number before now sim sim
  takes_none lines.Ended number before now line sim none reads = absurd (true≢false none)
  takes_none lines.Last number before now line sim none reads = absurd (true≢false none)
  takes_none lines.None number before now line sim none reads = record {
    so_far = record {
      lines = [];
      text = [];
      read = none_read before.unread now.unread reads.consumed;
      flows = subst (λ t. Flows before.taken now.taken now.pending t) (sym (append-nil before.pending)) reads.quiet.flows;
      reads = reads.quiet.reads;
      writes = reads.quiet.writes;
      setup = refl;
      runs = λ run shows. record { events = []; follows = refl; may = refl; shows = shows; told = refl };
      paid = pays_none faults lasts sim.stores [];
      arms = refl;
    };
    is = (refl, reads.ends);
  }

  not_found : (status : Status) (number : ℕ) (before now : Streams) (sim : SimulationV (Fused D)) → IsStop status before now → Finds (seen_in seen) sim.setup sim.stores [] status → HasCauses status before now → ReadsTo status [] before.unread now.unread → IsOnItsWay status before now before.pending → ((run : RunV) → Because status sim.setup run (number + 0) (Leaves before.unread []) [] []) → ArePrinted status [] [] → IsMade status [] [] → HasStopped faults lasts seen images status number before now sim sim
  not_found status number before now sim stop finds causes reads way because all made = record {
    lines = [];
    next = [];
    text = [];
    stops = stop;
    finds = finds;
    causes = causes;
    count = λ few. omega (arith, few);
    begins = leaves_none before.unread;
    reads = reads;
    way = subst (IsOnItsWay status before now) (sym (append-nil before.pending)) way;
    setup = refl;
    runs = λ run shows. record {
      printed = [];
      events = [];
      after = record { whole = []; part = []; are = refl; follows = refl; begun = refl; because = because run; all = all };
      may = refl;
      few = shows.few;
      servers = shows.servers;
      made = made;
    };
    paid = pays_none faults lasts sim.stores [];
  }

  pub stops_line : (stop : Stop) (number : ℕ) (before now : Streams) (sim : SimulationV (Fused D)) → StopsLine stop before now → HasStopped faults lasts seen images (status_of stop number) number before now sim sim
  stops_line stops.TooLong number before now sim line = not_found (BadScript number) number before now sim tt tt (line.quiet.reads, line.quiet.writes) tt line.quiet.flows (λ run. (refl, omega arith, leaves_long sim.setup run before.unread line.begins)) refl refl
  stops_line stops.ReadFault number before now sim line = not_found ReadFault number before now sim line.none tt (line.reads, line.writes) (line.part, line.consumed, none_ended line.part line.is_part) line.flows (λ run. refl) refl refl
  stops_line stops.WriteFault number before now sim line = not_found WriteFault number before now sim tt tt line.writes tt line.front (λ run. tt) refl refl
  stops_line stops.OutOfMemory number before now sim line = not_found OutOfMemory number before now sim tt tt (line.reads, omega (arith, line.writes)) tt line.flows (λ run. tt) ([], refl, omega arith) ([], refl)

  -- ---- it was carried out, or not: the reader stayed, and text was put behind what was pending

  module _ (before : Streams) (held held' : List ℕ) (left taken : Option (List ℕ)) (was after : List ℕ) (reads writes : ℕ) (same : held' ≡ held) (found : Line) (line : List ℕ) (some : is_line found ≡ true) (is_read : ReadsLine found before (streams held left taken was reads writes) line) (number : ℕ) (old new : SimulationV (Fused D)) (setup : new.setup ≡ old.setup) where
    abbrev now : Streams
    now = streams held' left taken after reads writes

    there : (P : Option (List ℕ) → Type 0) → P (prepend_known held left) → P (prepend_known held' left)
    there P p = subst P (ap (λ h. prepend_known h left) (sym same)) p

    quiet : IsQuiet before (streams held left taken was reads writes)
    quiet = by found some is_read
      where
        by : (f : Line) → is_line f ≡ true → ReadsLine f before (streams held left taken was reads writes) line → IsQuiet before (streams held left taken was reads writes)
        by lines.Ended some r = r.quiet
        by lines.Last some r = r.quiet
        by lines.None some r = absurd (true≢false (sym some))

    line_read : IsRead before.unread (prepend_known held' left) line
    line_read = by found some is_read
      where
        by : (f : Line) → is_line f ≡ true → ReadsLine f before (streams held left taken was reads writes) line → IsRead before.unread (prepend_known held' left) line
        by lines.Ended some r = read_first before.unread (prepend_known held' left) line (line ++ 10 ∷ []) (there (λ u. HaveRead before.unread u (line ∷ [])) (ended_read before.unread (prepend_known held left) line r.is_part r.consumed)) (omega (arith, length-append line (10 ∷ []))) (there (λ u. Consumes before.unread u (line ++ 10 ∷ [])) r.consumed)
        by lines.Last some r = read_first before.unread (prepend_known held' left) line line (there (λ u. HaveRead before.unread u (line ∷ [])) (last_read before.unread (prepend_known held left) line r.is_part r.some r.consumed r.ends)) r.some (there (λ u. Consumes before.unread u line) r.consumed)
        by lines.None some r = absurd (true≢false (sym some))

    line_found : number ≤ 2 ^ 22 → IsFound found (line ∷ []) number before.unread (prepend_known held' left)
    line_found within = by found some is_read
      where
        by : (f : Line) → is_line f ≡ true → ReadsLine f before (streams held left taken was reads writes) line → IsFound f (line ∷ []) number before.unread (prepend_known held' left)
        by lines.Ended some r = (line, refl, within, r.is_part, there (λ u. Consumes before.unread u (line ++ 10 ∷ [])) r.consumed)
        by lines.Last some r = (line, refl, within, there (λ u. Ends before.unread u) r.ends)
        by lines.None some r = absurd (true≢false (sym some))

    flows_now : (text : List ℕ) → after ≡ was ++ text → Flows before.taken taken after (before.pending ++ text)
    flows_now text is = subst (λ p. Flows before.taken taken p (before.pending ++ text)) (sym is) (flows_more before.taken taken was before.pending text quiet.flows)

    pub takes_line : number ≤ 2 ^ 22 → Carries (seen_by seen) (images_by images) old new was after (λ run. IsCarriedOut old.setup run line) → Pays faults lasts old.stores new.stores was after (fuses_armed (line ∷ [])) → ArmsLine line old new → TakesTurn faults lasts seen images found number before now old new
    takes_line within carries pays arms = record {
      so_far = record {
        lines = line ∷ [];
        text = text_of pays.printed;
        read = line_read.read;
        flows = flows_now (text_of pays.printed) pays.text;
        reads = quiet.reads;
        writes = quiet.writes;
        setup = setup;
        runs = λ run shows.
            let g : GoesBy (seen_by seen) (images_by images) new was after run (IsCarriedOut old.setup run line) = carries run shows in
            record {
              events = g.events;
              follows = (g.events, [], sym (append-nil g.events), g.are, refl);
              may = g.goes.may;
              shows = g.goes.shows;
              told = append_cancel_left was (text_of pays.printed) (events_text run g.events) (sym pays.text ∙ g.goes.text);
            };
        paid = record { printed = pays.printed; each = pays.each; text = refl; paid = pays.paid };
        arms = (new, arms, refl);
      };
      is = line_found within;
    }

    module _ (status : Status) (call : StopsCall faults lasts seen images status old new was after line number) where
      abbrev text : List ℕ
      text = text_of call.paid.printed

      stopped : IsStop status before now → HasCauses status before now → ReadsTo status [] before.unread now.unread → IsOnItsWay status before now (before.pending ++ text) → ((whole : List ℕ) → PutsText status was after whole → IsMade status whole text) → HasStopped faults lasts seen images status number before now old new
      stopped stop causes reads way made = record {
        lines = [];
        next = call.next;
        text = text;
        stops = stop;
        finds = call.finds;
        causes = causes;
        count = λ few. omega (arith, few);
        begins = leaves_next before.unread line call.next line_read.begins call.is;
        reads = reads;
        way = way;
        setup = setup;
        runs = λ run shows.
            let s : StopsOn (seen_by seen) (images_by images) status old.setup number line call.next new was after run = call.runs run shows in
            let numbered : number ≡ number + 0 = omega arith in
            record {
              printed = s.printed;
              events = s.events;
              after = record {
                whole = [];
                part = s.events;
                are = refl;
                follows = refl;
                begun = s.begun;
                because = because_there (Behind line) (Leaves before.unread []) (leaves_behind before.unread line line_read.begins) status old.setup run (number + 0) call.next s.events
                    (subst (λ n. Because status old.setup run n (Behind line) call.next s.events) numbered s.because);
                all = s.all;
              };
              may = s.may;
              few = s.few;
              servers = s.servers;
              made = made (events_text run s.printed) s.text;
            };
        paid = record { printed = call.paid.printed; each = call.paid.each; text = refl; paid = call.paid.paid };
      }

      made_whole : (whole : List ℕ) → after ≡ was ++ whole → whole ≡ text
      made_whole whole puts = append_cancel_left was whole text (sym puts ∙ call.paid.text)

      made_front : (whole : List ℕ) → PutsFront was after whole → (rest : List ℕ) × (whole ≡ text ++ rest)
      made_front whole puts = (puts.rest, puts.whole ∙ ap (λ t. t ++ puts.rest) (append_cancel_left was puts.front text (sym puts.pending ∙ call.paid.text)))

    pub stops_call : (status : Status) → StopsCall faults lasts seen images status old new was after line number → HasStopped faults lasts seen images status number before now old new
    stops_call (BadScript place) call = stopped (BadScript place) call tt (quiet.reads, quiet.writes) tt (flows_now (text_of call.paid.printed) call.paid.text) (made_whole (BadScript place) call)
    stops_call (Limit which) call = stopped (Limit which) call tt (quiet.reads, quiet.writes) tt (flows_now (text_of call.paid.printed) call.paid.text) (made_whole (Limit which) call)
    stops_call (BadDisk server file place damage) call = stopped (BadDisk server file place damage) call line_read.has (quiet.reads, quiet.writes) tt (flows_now (text_of call.paid.printed) call.paid.text) (made_whole (BadDisk server file place damage) call)
    stops_call OutOfMemory call = stopped OutOfMemory call tt (quiet.reads, omega (arith, quiet.writes)) tt (flows_now (text_of call.paid.printed) call.paid.text) (made_front OutOfMemory call)
    stops_call status call = absurd call.kind
