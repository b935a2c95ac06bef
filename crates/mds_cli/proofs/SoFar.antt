-- A run so far, one moment behind another.
use Rattle.std.proofs.Common.{◌≡◌, ◌∙◌, sym, ap, subst, refl, ℕ, ◌+◌, ◌<◌, ◌≤◌, ◌-◌, ◌^◌, true, List, [], ◌∷◌, ◌++◌, length, arith, append_assoc, length-append, Option, Some, None, inl, inr}
use Rattle.std.specs.Prelude.{◌⊎◌}
use Rattle.std.specs.Io.KnownBytes.{Consumes}
use Rattle.std.specs.List.{AllByRecursion, slice_get}
use Rattle.std.proofs.lemmas.List.{append-nil}
use Rattle.mds_base.specs.declared.limits.TheConstants.{EVENTS}
use Rattle.mds_base.specs.declared.setup.Setup.{Setup}
use Rattle.mds_base.specs.declared.setup.Which.{Which}
use Rattle.mds_out.specs.Disk.{Image, Contents}
use Rattle.mds_out.specs.Fault.{Rose}
use Rattle.mds_out.specs.Fused.{Fused}
use Rattle.mds_out.specs.Known.{OnKnown, OnTold}
use Rattle.node_store.specs.Store.{Store}
use Rattle.pasts.specs.Fuses.{seen_by, images_by}
use Rattle.pasts.specs.Servers.{AreServers}
use Rattle.script.specs.declared.line.Line.{Line}
use Rattle.simulation.specs.Payments.{IsPaid, armed_of, own_faults}
use Rattle.simulation.specs.Runs.{RunV}
use Rattle.simulation.specs.Shows.{SimulationV, Shows}
use Rattle.simulation.proofs.Payments.{is_paid_same, is_paid_on}
use Rattle.world.specs.declared.event.Event.{Event}
use Rattle.interpreter.specs.EventText.{events_text}
use Rattle.interpreter.specs.Payments.{Pays, text_of, times, stopped_line, fuses_of}
use Rattle.interpreter.specs.Story.{grown_by, all_may}
use Rattle.interpreter.proofs.Payments.{each_append, times_append}
use Rattle.interpreter.proofs.Payments as paying
use Rattle.interpreter.proofs.EventsText.{grown_append, may_append, text_append}
use Rattle.mds_cli.specs.Arming.{ArmsLines}
use Rattle.mds_cli.specs.Damage.{Finds, seen_in}
use Rattle.mds_cli.specs.Follows.{Says, Follows, BeginsNext}
use Rattle.mds_cli.specs.Lines.{IsPart, lines_of, ended_lines}
use Rattle.mds_cli.specs.Run.{Leaves, BeginsWith, BeginsBad, BeginsAllowed, Because, ReadsTo, ArePrinted, EndsAfter}
use Rattle.mds_cli.specs.SoFar.{HaveRead, FollowsOn, SoFar, HasCauses, HasRead, IsStop, IsOnItsWay, IsMade, StopsRun, HasStopped}
use Rattle.mds_cli.specs.Payments.{fuses_armed}
use Rattle.mds_cli.specs.Streams.{Streams, Flows}
use Rattle.mds_cli.specs.declared.status.Status.{Status}
use Rattle.mds_cli.specs.declared.status.Status.TheVariants.{Done, Usage, BadScript, ReadFault, WriteFault, OpenFault, BadDisk, Limit, OutOfMemory}
use Rattle.mds_cli.proofs.RunFollows.{follows_join}
use Rattle.mds_cli.proofs.Known.{append_both, consumes_both, flows_through, flows_front}
use Rattle.mds_cli.proofs.LineRead.{flows_none}
use Rattle.mds_cli.proofs.ScriptLines.{with_feeds, ended_front}
use Rattle.mds_cli.proofs.PaymentTexts.{line_fuses}

-- ---- lines that were read

pub same_read : (unread : Option (List ℕ)) → HaveRead unread unread []
same_read None = tt
same_read (Some all) = refl

pub read_next : (a b c : Option (List ℕ)) (one two : List (List ℕ)) → HaveRead a b one → HaveRead b c two → HaveRead a c (one ++ two)
read_next None b c one two p q = tt
read_next (Some a) None c one two p q = absurd p
read_next (Some a) (Some b) None one two p q = absurd q
read_next (Some a) (Some b) (Some c) one two p q = p ∙ ap (λ ls. one ++ ls) q ∙ sym (append_assoc one two (lines_of c))

pub leaves_after : (a b : Option (List ℕ)) (lines more : List (List ℕ)) → HaveRead a b lines → (P : List (List ℕ) → Type 0) → Leaves b more P → Leaves a (lines ++ more) P
leaves_after None b lines more read P left = tt
leaves_after (Some a) None lines more read P left = absurd read
leaves_after (Some a) (Some b) lines more read P left = (left.0, read ∙ ap (λ ls. lines ++ ls) left.1 ∙ sym (append_assoc lines more left.0), left.2)

-- ---- stops that are paid

pub fuses_append : (a b : List (List ℕ)) (s : ℕ) → fuses_armed (a ++ b) s ≡ fuses_armed a s + fuses_armed b s
fuses_append [] b s = omega arith
fuses_append (line ∷ a) b s = let e = fuses_append a b s in omega (arith, e)

module _ {D : Type 0} (faults : D → ℕ) (lasts : D → D → Type 0) where
  -- more fuses pay for no fewer stops
  pub is_paid_more : (a b : Option (Store (Fused D))) (m f g : ℕ) → f ≤ g → IsPaid faults lasts a b m f → IsPaid faults lasts a b m g
  is_paid_more a b m f g more one = record { on = one.on; later = one.later; paid = paid_more one.paid }
    where
      paid_more : (m + (armed_of b + own_faults faults a) ≤ own_faults faults b + (armed_of a + f)) ⊎ (2 ^ 64 - 1 ≤ own_faults faults b) → (m + (armed_of b + own_faults faults a) ≤ own_faults faults b + (armed_of a + g)) ⊎ (2 ^ 64 - 1 ≤ own_faults faults b)
      paid_more (inl p) = inl (omega (arith, p, more))
      paid_more (inr p) = inr p

  -- a line that was carried out, or begun
  pub pays_line : (setup : Setup) (bytes : List ℕ) (line : Line) (old new : List (Store (Fused D))) (was now : List ℕ) → Says setup bytes line → Pays faults lasts old new was now (fuses_of line) → Pays faults lasts old new was now (fuses_armed (bytes ∷ []))
  pays_line setup bytes line old new was now says pays = record {
    printed = pays.printed;
    each = pays.each;
    text = pays.text;
    paid = λ s small. is_paid_more (slice_get old s) (slice_get new s) (times (stopped_line s) pays.printed) (fuses_of line s) (fuses_armed (bytes ∷ []) s) (line_fuses setup bytes line says s) (pays.paid s small);
  }

  -- nothing was printed
  pub pays_none : (old : List (Store (Fused D))) (was : List ℕ) → Pays faults lasts old old was was (fuses_armed [])
  pays_none old was = record { printed = []; each = tt; text = sym (append-nil was); paid = λ s small. is_paid_same faults lasts (slice_get old s) (slice_get old s) refl }

  pub pays_next : (a b c : List (Store (Fused D))) (p q : List ℕ) (one two : List (List ℕ)) → Pays faults lasts a b [] p (fuses_armed one) → Pays faults lasts b c [] q (fuses_armed two) → Pays faults lasts a c [] (p ++ q) (fuses_armed (one ++ two))
  pays_next a b c p q one two x y = record {
    printed = x.printed ++ y.printed;
    each = each_append x.printed y.printed x.each y.each;
    text = append_both p (text_of x.printed) q (text_of y.printed) x.text y.text ∙ sym (paying.text_append x.printed y.printed);
    paid = λ s small.
        subst (λ n. IsPaid faults lasts (slice_get a s) (slice_get c s) n (fuses_armed (one ++ two) s)) (sym (times_append (stopped_line s) x.printed y.printed))
        (subst (λ n. IsPaid faults lasts (slice_get a s) (slice_get c s) (times (stopped_line s) x.printed + times (stopped_line s) y.printed) n) (sym (fuses_append one two s))
        (is_paid_on faults lasts (slice_get a s) (slice_get b s) (slice_get c s) (times (stopped_line s) x.printed) (times (stopped_line s) y.printed) (fuses_armed one s) (fuses_armed two s) (x.paid s small) (y.paid s small)));
  }

pub arms_join : {D : Type 0} (one two : List (List ℕ)) (old mid new : SimulationV (Fused D)) → ArmsLines one old mid → ArmsLines two mid new → ArmsLines (one ++ two) old new
arms_join [] two old mid new p q = subst (λ m. ArmsLines two m new) p q
arms_join (bytes ∷ more) two old mid new p q = (p.0, p.1, arms_join more two p.0 mid new p.2 q)

-- ---- what a status says, behind lines that were carried out

-- why no more lines were carried out: what is so of the lines left is so of them where they are seen from elsewhere
pub because_there : (Left Left' : (List (List ℕ) → Type 0) → Type 0) → ((P : List (List ℕ) → Type 0) → Left P → Left' P) → (status : Status) (setup : Setup) (run : RunV) (number : ℕ) (next : List (List ℕ)) (part : List Event)
    → Because status setup run number Left next part → Because status setup run number Left' next part
because_there Left Left' lift Done setup run number next part b = (b.0, lift (λ rest. rest ≡ []) b.1)
because_there Left Left' lift (BadScript line) setup run number next part b = (b.0, b.1, lift (BeginsBad setup run) b.2)
because_there Left Left' lift (Limit which) setup run number next part (inl b) = inl (b.0, b.1, b.2, lift (BeginsAllowed setup run) b.3)
because_there Left Left' lift (Limit which) setup run number next part (inr b) = inr b
because_there Left Left' lift status setup run number next part b = b

printed_after : (status : Status) (before printed events : List Event) → ArePrinted status printed events → ArePrinted status (before ++ printed) (before ++ events)
printed_after OutOfMemory before printed events are = (are.0, ap (λ e. before ++ e) are.1 ∙ sym (append_assoc before printed are.0), are.2)
printed_after status before printed events are = ap (λ e. before ++ e) are

made_after : (status : Status) (before whole text : List ℕ) → IsMade status whole text → IsMade status (before ++ whole) (before ++ text)
made_after OutOfMemory before whole text made = (made.0, ap (λ t. before ++ t) made.1 ∙ sym (append_assoc before text made.0))
made_after status before whole text made = ap (λ t. before ++ t) made

way_after : (status : Status) (first mid now : Streams) (text more : List ℕ) → Flows first.taken mid.taken mid.pending text → IsOnItsWay status mid now (mid.pending ++ more) → IsOnItsWay status first now (text ++ more)
way_after WriteFault first mid now text more flows way = flows_front first.taken mid.taken now.taken mid.pending text more flows way
way_after status first mid now text more flows way = flows_through first.taken mid.taken now.taken mid.pending now.pending text more flows way

causes_after : (status : Status) (first mid now : Streams) → mid.reads ≡ first.reads → mid.writes ≡ first.writes → HasCauses status mid now → HasCauses status first now
causes_after ReadFault first mid now reads writes c = (subst (λ n. Rose n now.reads) reads c.0, c.1 ∙ writes)
causes_after WriteFault first mid now reads writes c = subst (λ n. Rose n now.writes) writes c
causes_after OutOfMemory first mid now reads writes c = (c.0 ∙ reads, subst (λ n. n ≤ now.writes) writes c.1)
causes_after status first mid now reads writes c = (c.0 ∙ reads, c.1 ∙ writes)

-- lines that were read with their line feeds
module _ (first mid now : Streams) (lines : List (List ℕ)) (parts : AllByRecursion IsPart lines) (consumed : Consumes first.unread mid.unread (with_feeds lines)) where
  stop_after : (status : Status) → IsStop status mid now → IsStop status first now
  stop_after (BadDisk server file place damage) stop = record {
    read = with_feeds lines ++ stop.read;
    some = omega (arith, stop.some, length-append (with_feeds lines) stop.read);
    consumed = consumes_both first.unread mid.unread now.unread (with_feeds lines) stop.read consumed stop.consumed;
  }
  stop_after status stop = stop

  reads_after : (status : Status) (more : List (List ℕ)) → IsStop status mid now → ReadsTo status more mid.unread now.unread → ReadsTo status (lines ++ more) first.unread now.unread
  reads_after Done more stop reads = absurd stop
  reads_after ReadFault more stop reads = (
    with_feeds lines ++ reads.0,
    consumes_both first.unread mid.unread now.unread (with_feeds lines) reads.0 consumed reads.1,
    ended_front lines reads.0 parts ∙ ap (λ ls. lines ++ ls) reads.2,
  )
  reads_after status more stop reads = tt

-- in a run whose first lines were carried out
ends_after : (status : Status) (setup : Setup) (number count : ℕ) (lines more next : List (List ℕ)) (first mid : Option (List ℕ)) (run : RunV) (before printed events : List Event) → count ≡ number + length lines → HaveRead first mid lines → Follows setup run lines before
    → EndsAfter status setup count more next mid (grown_by run before) printed events → EndsAfter status setup number (lines ++ more) next first run (before ++ printed) (before ++ events)
ends_after status setup number count lines more next first mid run before printed events counted read follows e =
    let there : grown_by (grown_by run before) e.whole ≡ grown_by run (before ++ e.whole) = sym (grown_append run before e.whole) in
    let numbered : count + length more ≡ number + length (lines ++ more) = omega (arith, counted, length-append lines more) in
    record {
      whole = before ++ e.whole;
      part = e.part;
      are = ap (λ es. before ++ es) e.are ∙ sym (append_assoc before e.whole e.part);
      follows = follows_join setup run lines more before e.whole follows e.follows;
      begun = subst (λ r. BeginsNext setup r next e.part) there e.begun;
      because = because_there (Leaves mid more) (Leaves first (lines ++ more)) (λ P left. leaves_after first mid lines more read P left) status setup (grown_by run (before ++ e.whole)) (number + length (lines ++ more)) next e.part
          (subst (λ r. Because status setup r (number + length (lines ++ more)) (Leaves mid more) next e.part) there
          (subst (λ n. Because status setup (grown_by (grown_by run before) e.whole) n (Leaves mid more) next e.part) numbered e.because));
      all = printed_after status before printed events e.all;
    }

-- ---- from moment to moment

module _ {D : Type 0} (faults : D → ℕ) (lasts : D → D → Type 0) (seen : D → Contents) (images : D → Image → Type 0) where
  unfoldable pub so_far_none : (first : Streams) (sim : SimulationV (Fused D)) → SoFar faults lasts seen images first first sim sim
  so_far_none first sim = record {
    lines = [];
    text = [];
    read = same_read first.unread;
    flows = subst (λ t. Flows first.taken first.taken first.pending t) (sym (append-nil first.pending)) (flows_none first.taken first.pending);
    reads = refl;
    writes = refl;
    setup = refl;
    runs = λ run shows. record { events = []; follows = refl; may = refl; shows = shows; told = refl };
    paid = pays_none faults lasts sim.stores [];
    arms = refl;
  }

  module _ (first mid now : Streams) (old sim new : SimulationV (Fused D)) (one : SoFar faults lasts seen images first mid old sim) where
    unfoldable pub so_far_next : SoFar faults lasts seen images mid now sim new → SoFar faults lasts seen images first now old new
    so_far_next two = record {
      lines = one.lines ++ two.lines;
      text = one.text ++ two.text;
      read = read_next first.unread mid.unread now.unread one.lines two.lines one.read two.read;
      flows = subst (λ t. Flows first.taken now.taken now.pending t) (append_assoc first.pending one.text two.text)
          (flows_through first.taken mid.taken now.taken mid.pending now.pending (first.pending ++ one.text) two.text one.flows two.flows);
      reads = two.reads ∙ one.reads;
      writes = two.writes ∙ one.writes;
      setup = two.setup ∙ one.setup;
      runs = λ run shows.
          let a : FollowsOn seen images old.setup sim one.lines one.text run = one.runs run shows in
          let b : FollowsOn seen images sim.setup new two.lines two.text (grown_by run a.events) = two.runs (grown_by run a.events) a.shows in
          record {
            events = a.events ++ b.events;
            follows = follows_join old.setup run one.lines two.lines a.events b.events a.follows (subst (λ s. Follows s (grown_by run a.events) two.lines b.events) one.setup b.follows);
            may = may_append run a.events b.events a.may b.may;
            shows = subst (Shows (seen_by seen) (images_by images) new) (sym (grown_append run a.events b.events)) b.shows;
            told = append_both one.text (events_text run a.events) two.text (events_text (grown_by run a.events) b.events) a.told b.told ∙ sym (text_append run a.events b.events);
          };
      paid = pays_next faults lasts old.stores sim.stores new.stores one.text two.text one.lines two.lines one.paid two.paid;
      arms = arms_join one.lines two.lines old sim new one.arms two.arms;
    }

    -- .. and then no more lines were carried out
    pub stops_next : AllByRecursion IsPart one.lines → Consumes first.unread mid.unread (with_feeds one.lines) → (number count : ℕ) → count ≡ number + length one.lines → count ≤ 2 ^ 22 + 1
        → (status : Status) → HasStopped faults lasts seen images status count mid now sim new → HasStopped faults lasts seen images status number first now old new
    stops_next parts consumed number count counted bound status two = record {
      lines = one.lines ++ two.lines;
      next = two.next;
      text = one.text ++ two.text;
      stops = stop_after first mid now one.lines parts consumed status two.stops;
      finds = subst (λ s. Finds (seen_in seen) s new.stores two.next status) one.setup two.finds;
      causes = causes_after status first mid now one.reads one.writes two.causes;
      count = λ few. let more = two.count bound in omega (arith, more, counted, length-append one.lines two.lines);
      begins = leaves_after first.unread mid.unread one.lines two.lines one.read (BeginsWith two.next) two.begins;
      reads = reads_after first mid now one.lines parts consumed status two.lines two.stops two.reads;
      way = subst (IsOnItsWay status first now) (append_assoc first.pending one.text two.text) (way_after status first mid now (first.pending ++ one.text) two.text one.flows two.way);
      setup = two.setup ∙ one.setup;
      runs = λ run shows.
          let a : FollowsOn seen images old.setup sim one.lines one.text run = one.runs run shows in
          let b : StopsRun seen images status old.setup count two.lines two.next mid.unread two.text new (grown_by run a.events) =
          subst (λ s. StopsRun seen images status s count two.lines two.next mid.unread two.text new (grown_by run a.events)) one.setup (two.runs (grown_by run a.events) a.shows) in
          record {
            printed = a.events ++ b.printed;
            events = a.events ++ b.events;
            after = ends_after status old.setup number count one.lines two.lines two.next first.unread mid.unread run a.events b.printed b.events counted one.read a.follows b.after;
            may = may_append run a.events b.events a.may b.may;
            few = subst (λ r. length r.events ≤ EVENTS) (sym (grown_append run a.events b.events)) b.few;
            servers = subst (λ r. AreServers (seen_by seen) (images_by images) old.setup new.stores r.trace.world.servers) (sym (grown_append run a.events b.events)) b.servers;
            made = subst (IsMade status (events_text run (a.events ++ b.printed))) (ap (λ t. t ++ two.text) (sym a.told))
                (subst (λ t. IsMade status t (events_text run a.events ++ two.text)) (sym (text_append run a.events b.printed)) (made_after status (events_text run a.events) (events_text (grown_by run a.events) b.printed) two.text b.made));
          };
      paid = subst (λ ls. Pays faults lasts old.stores new.stores [] (one.text ++ two.text) (fuses_armed ls)) (sym (append_assoc one.lines two.lines two.next))
          (pays_next faults lasts old.stores sim.stores new.stores one.text two.text one.lines (two.lines ++ two.next) one.paid two.paid);
    }
