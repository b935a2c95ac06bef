-- Stops that are paid, from the end of a session to the disks.
use Rattle.std.proofs.Common.{◌≡◌, ◌∙◌, sym, ap, subst, refl, ℕ, ◌+◌, ◌-◌, ◌^◌, ◌<◌, ◌≤◌, Bool, true, false, if◌then◌else◌, List, [], ◌∷◌, ◌++◌, length, map, append_assoc, Option, Some, None, codes, inl, inr, arith}
use Rattle.std.specs.Prelude.{◌⊎◌, ◌&&◌, is_some}
use Rattle.std.specs.Io.KnownBytes.{Appends}
use Rattle.std.specs.List.{slice_get}
use Rattle.std.proofs.lemmas.List.{append-nil}
use Rattle.std.proofs.lemmas.Option.{none-some, slice_get_within}
use Rattle.mds_out.specs.Disk.{Image, Contents}
use Rattle.mds_out.specs.Fused.{Fused}
use Rattle.mds_out.specs.Known.{OnTold}
use Rattle.mds_out.specs.Stream.{TakesFront}
use Rattle.node_store.specs.Store.{Store}
use Rattle.pasts.specs.Fuses.{seen_by, images_by}
use Rattle.pasts.specs.Openings.{IsCounted, AreCounted}
use Rattle.simulation.specs.Payments.{IsPaid, armed_of}
use Rattle.simulation.specs.Shows.{SimulationV}
use Rattle.mds_base.proofs.Lists.{get_below, get_mapped}
use Rattle.world.specs.declared.event.Event.{Event}
use Rattle.interpreter.specs.Payments.{Pays, TellsNoStop, text_of, times, stopped_line}
use Rattle.mds_cli.specs.Ending.{outside}
use Rattle.mds_cli.specs.Lines.{lines_of}
use Rattle.mds_cli.specs.Run.{Leaves, BeginsWith}
use Rattle.mds_cli.specs.SoFar.{SoFar, HasStopped}
use Rattle.mds_cli.specs.Payments.{stops_told, stops_in, fuses_armed, EventsArePaid, RunIsPaid, CountPays, StopsArePaid, OnTaken, TextIsPaid, StoresArePaid, ScriptIsPaid}
use Rattle.mds_cli.specs.Streams.{Streams, streams}
use Rattle.mds_cli.specs.Turn.{StopsWith, FinishesWith}
use Rattle.mds_cli.specs.declared.status.Status.{Status}
use Rattle.mds_cli.specs.declared.status.Status.TheVariants.{Done, WriteFault, OutOfMemory}
use Rattle.mds_cli.proofs.LinesEnded.{leaves_some, front_stopped}
use Rattle.mds_cli.proofs.Known.{front_whole, flows_front}
use Rattle.mds_cli.proofs.SoFar.{fuses_append}
use Rattle.mds_cli.proofs.PaymentTexts.{stops_printed, took_stops, effects_told}

-- ---- what is taken at the end of a run

-- what was pending was taken, or a front of it, and of something that tells of no stop
record TakesRest (before now : Option (List ℕ)) (pending : List ℕ) : Type 0 where
  rest : List ℕ
  quiet : (s : ℕ) → stops_told rest s ≤ 0
  front : TakesFront before now (pending ++ rest)

takes_pending : (before now : Option (List ℕ)) (pending : List ℕ) → TakesFront before now pending → TakesRest before now pending
takes_pending before now pending front = record { rest = []; quiet = λ s. omega arith; front = subst (λ t. TakesFront before now t) (sym (append-nil pending)) front }

takes_effects : (before now : Option (List ℕ)) (pending effects : List ℕ) → TellsNoStop effects → TakesFront before now (pending ++ effects ++ codes "end\n") → TakesRest before now pending
takes_effects before now pending effects quiet front = record {
  rest = effects ++ codes "end\n";
  quiet = λ s. effects_told s effects quiet;
  front = subst (λ t. TakesFront before now t) (append_assoc pending effects (codes "end\n")) front;
}

takes_finished : {X : Type 0} (seen : X → Contents) (images : X → Image → Type 0) (sim : SimulationV X) (before now : Option (List ℕ)) (writes writes_now : ℕ) (pending : List ℕ) (result : Status) → FinishesWith seen images sim result before now writes writes_now pending → TakesRest before now pending
takes_finished seen images sim before now writes writes_now pending Done f = takes_effects before now pending f.effects f.quiet (front_whole before now (pending ++ f.effects ++ codes "end\n") f.taken)
takes_finished seen images sim before now writes writes_now pending WriteFault f = takes_effects before now pending f.effects f.quiet f.taken
takes_finished seen images sim before now writes writes_now pending OutOfMemory f = takes_pending before now pending f.taken
takes_finished seen images sim before now writes writes_now pending result f = absurd f

-- the lines that were carried out, and the one that was begun, arm no more fuses than the whole script
armed_told : (input : Option (List ℕ)) (lines next : List (List ℕ)) (s : ℕ) → Leaves input lines (BeginsWith next) → OnTold input (λ all. fuses_armed lines s + fuses_armed next s ≤ fuses_armed (lines_of all) s)
armed_told None lines next s begins = tt
armed_told (Some all) lines next s begins =
    let more : List (List ℕ) = begins.2.0 in
    let is : fuses_armed (lines_of all) s ≡ fuses_armed (lines ++ (next ++ more)) s = ap (λ ls. fuses_armed ls s) (begins.1 ∙ ap (λ r. lines ++ r) begins.2.1) in
    omega (arith, is, fuses_append lines (next ++ more) s, fuses_append next more s)

told_fewer : (input : Option (List ℕ)) (s m n : ℕ) → m ≤ n → OnTold input (λ all. n ≤ fuses_armed (lines_of all) s) → OnTold input (λ all. m ≤ fuses_armed (lines_of all) s)
told_fewer None s m n fewer told = tt
told_fewer (Some all) s m n fewer told = omega (arith, fewer, told)

module _ {D : Type 0} (faults : D → ℕ) (lasts : D → D → Type 0) where
  taken_so : (before now : Option (List ℕ)) (P Q : List ℕ → Type 0) → ((text : List ℕ) → P text → Q text) → OnTaken before now P → OnTaken before now Q
  taken_so None now P Q so on = tt
  taken_so (Some before) None P Q so on = absurd on
  taken_so (Some before) (Some now) P Q so on = (on.0, on.1, so on.0 on.2)

  pub handed_by : (disks : List D) (sim last : SimulationV (Fused D)) → disks ≡ map (λ (store : Store (Fused D)). store.disk.inner) last.stores → last ≡ sim → disks ≡ map (λ (store : Store (Fused D)). store.disk.inner) sim.stores
  handed_by disks sim last handed same = subst (λ (v : SimulationV (Fused D)). disks ≡ map (λ (store : Store (Fused D)). store.disk.inner) v.stores) same handed

  -- what was taken is a front of the text that was made, and of something that tells of no stop
  module _ (old new : List (Store (Fused D))) (disks : List D) (handed : disks ≡ map (λ (store : Store (Fused D)). store.disk.inner) new) (text : List ℕ) (fuses : ℕ → ℕ) (pays : Pays faults lasts old new [] text fuses) (before now : Option (List ℕ)) (rest : List ℕ) (quiet : (s : ℕ) → stops_told rest s ≤ 0) (front : TakesFront before now (text ++ rest)) where
    store_paid : (script taken : List ℕ) → ((s : ℕ) → fuses s ≤ fuses_armed (lines_of script) s) → ((s : ℕ) → stops_told taken s ≤ stops_told (text ++ rest) s) → StoresArePaid faults old disks script taken
    store_paid script taken armed told s store disk small at there =
        let last = get_mapped (λ (store : Store (Fused D)). store.disk.inner) new s disk (subst (λ ds. slice_get ds s ≡ Some disk) handed there) in
        let one : IsPaid faults lasts (Some store) (Some last.0) (times (stopped_line s) pays.printed) (fuses s) =
        subst (λ o. IsPaid faults lasts o (Some last.0) (times (stopped_line s) pays.printed) (fuses s)) at (subst (λ o. IsPaid faults lasts (slice_get old s) o (times (stopped_line s) pays.printed) (fuses s)) last.1 (pays.paid s small)) in
        let printed : stops_told (text ++ rest) s ≤ times (stopped_line s) pays.printed + stops_told rest s = subst (λ t. stops_told (t ++ rest) s ≤ times (stopped_line s) pays.printed + stops_told rest s) (sym pays.text) (stops_printed s pays.printed pays.each rest) in
        by (faults last.0.disk.inner) (armed_of (Some last.0)) (ap faults last.2) (armed s) (told s) printed (quiet s) one.paid
      where
        by : (n unused : ℕ) → n ≡ faults disk → fuses s ≤ fuses_armed (lines_of script) s → stops_told taken s ≤ stops_told (text ++ rest) s → stops_told (text ++ rest) s ≤ times (stopped_line s) pays.printed + stops_told rest s → stops_told rest s ≤ 0
            → (times (stopped_line s) pays.printed + (unused + faults store.disk.inner) ≤ n + (armed_of (Some store) + fuses s)) ⊎ (2 ^ 64 - 1 ≤ n)
            → (stops_told taken s + faults store.disk.inner ≤ faults disk + (armed_of (Some store) + fuses_armed (lines_of script) s)) ⊎ (2 ^ 64 - 1 ≤ faults disk)
        by n unused is a b c d (inl p) = inl (omega (arith, is, a, b, c, d, p))
        by n unused is a b c d (inr p) = inr (omega (arith, is, p))

    script_paid : (input : Option (List ℕ)) → ((s : ℕ) → OnTold input (λ all. fuses s ≤ fuses_armed (lines_of all) s)) → ScriptIsPaid faults old disks input before now
    script_paid None armed = tt
    script_paid (Some script) armed =
        taken_so before now (λ taken. (s : ℕ) → stops_told taken s ≤ stops_told (text ++ rest) s) (StoresArePaid faults old disks script) (λ taken told. store_paid script taken armed told) (took_stops before now (text ++ rest) front)

  module _ (seen : D → Contents) (images : D → Image → Type 0) (input before : Option (List ℕ)) (reads_first writes_first : ℕ) (held : List ℕ) (left taken : Option (List ℕ)) (pending : List ℕ) (reads writes : ℕ) (now : Option (List ℕ)) (writes_now : ℕ) (old sim : SimulationV (Fused D)) (disks : List D) (handed : disks ≡ map (λ (store : Store (Fused D)). store.disk.inner) sim.stores) where
    -- all lines were carried out
    pub paid_finished : SoFar faults lasts seen images (outside input before reads_first writes_first) (streams held left taken pending reads writes) old sim → (result : Status) → FinishesWith (seen_by seen) (images_by images) sim result taken now writes writes_now pending → ScriptIsPaid faults old.stores disks input before now
    paid_finished so_far result finishes =
        let t : TakesRest taken now pending = takes_finished (seen_by seen) (images_by images) sim taken now writes writes_now pending result finishes in
        script_paid old.stores sim.stores disks handed so_far.text (fuses_armed so_far.lines) so_far.paid before now t.rest t.quiet (flows_front before taken now pending so_far.text t.rest so_far.flows t.front)
        input (λ s. told_fewer input s (fuses_armed so_far.lines s) (fuses_armed so_far.lines s + 0) (omega arith) (armed_told input so_far.lines [] s (leaves_some input (streams held left taken pending reads writes).unread so_far.lines so_far.read)))

    -- the run was stopped: what was on its way was taken, or a front of it
    pub paid_stopped : (status result : Status) → HasStopped faults lasts seen images status 1 (outside input before reads_first writes_first) (streams held left taken pending reads writes) old sim → StopsWith status result taken now writes writes_now pending → ScriptIsPaid faults old.stores disks input before now
    paid_stopped status result stopped with =
        let t : TakesRest before now stopped.text =
        takes_pending before now stopped.text (front_stopped input before reads_first writes_first held left taken pending reads writes now writes_now status result stopped.text stopped.way with) in
        script_paid old.stores sim.stores disks handed stopped.text (fuses_armed (stopped.lines ++ stopped.next)) stopped.paid before now t.rest t.quiet t.front
        input (λ s. let sum = fuses_append stopped.lines stopped.next s in told_fewer input s (fuses_armed (stopped.lines ++ stopped.next) s) (fuses_armed stopped.lines s + fuses_armed stopped.next s) (omega (arith, sum)) (armed_told input stopped.lines stopped.next s stopped.begins))

  -- ---- from disks to disks

  unarmed : (store : Store (Fused D)) → store.disk.left ≡ None → armed_of (Some store) ≡ 0
  unarmed store none = by (is_some store.up) store.disk.left none
    where
      by : (up : Bool) (left : Option ℕ) → left ≡ None → ◌≡◌ {A = ℕ} (if up && is_some left then 1 else 0) 0
      by true None is = refl
      by false None is = refl
      by up (Some calls) is = absurd (none-some calls (sym is))

  -- the servers were opened: so many stops of each are paid, by its store and by its disk
  module _ (old new : List D) (stores : List (Store (Fused D))) (same : length stores ≡ length old) (few : length old ≤ 32) (counts : AreCounted faults old stores) where
    disks_pay : (stops fuses : ℕ → ℕ) → ((s : ℕ) (store : Store (Fused D)) (disk : D) → s < 2 ^ 64 → slice_get stores s ≡ Some store → slice_get new s ≡ Some disk → (stops s + faults store.disk.inner ≤ faults disk + (armed_of (Some store) + fuses s)) ⊎ (2 ^ 64 - 1 ≤ faults disk))
        → (s : ℕ) (before now : D) → slice_get old s ≡ Some before → slice_get new s ≡ Some now → CountPays (faults before) (faults now) (stops s) (fuses s)
    disks_pay stops fuses are s before now at there = disk_pays (slice_get_within old s before at)
      where
        by : (own first last n f armed : ℕ) → first ≤ own → armed ≡ 0 → (n + own ≤ last + (armed + f)) ⊎ (2 ^ 64 - 1 ≤ last) → CountPays first last n f
        by own first last n f armed later none (inl p) = inl (omega (arith, later, none, p))
        by own first last n f armed later none (inr p) = inr p

        disk_pays : s < length old → CountPays (faults before) (faults now) (stops s) (fuses s)
        disk_pays within =
            let store = get_below stores s (omega (arith, within, same)) in
            let counted : IsCounted faults before store.0 = counts s before store.0 at store.1 in
            by (faults store.0.disk.inner) (faults before) (faults now) (stops s) (fuses s) (armed_of (Some store.0)) (omega (arith, counted.0)) (unarmed store.0 counted.1) (are s store.0 now (omega (arith, within, few)) store.1 there)

    pub text_paid : (input before now : Option (List ℕ)) → ScriptIsPaid faults stores new input before now → TextIsPaid faults old new input before now
    text_paid None before now paid = tt
    text_paid (Some script) before now paid = taken_so before now (StoresArePaid faults stores new script) (StopsArePaid faults old new script) (λ text are. disks_pay (stops_told text) (fuses_armed (lines_of script)) are) paid

    pub run_paid : (lines : List (List ℕ)) (events : List Event) → EventsArePaid faults stores new lines events → RunIsPaid faults old new lines events
    run_paid lines events are = disks_pay (stops_in events) (fuses_armed lines) are

  -- nothing was written
  pub text_still : (old new : List D) (input taken : Option (List ℕ)) → TextIsPaid faults old new input taken taken
  text_still old new None taken = tt
  text_still old new (Some script) None = tt
  text_still old new (Some script) (Some taken) = ([], sym (append-nil taken), λ s before now at there. inl (none ((faults now - faults before) + fuses_armed (lines_of script) s)))
    where
      none : (n : ℕ) → 0 ≤ n
      none n = omega arith
