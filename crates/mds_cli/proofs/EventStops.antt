-- The stops of servers by their devices among events: their text tells them, so they are paid.
use Rattle.std.proofs.Common.{◌≡◌, ◌∙◌, sym, ap, subst, refl, ℕ, ◌+◌, ◌-◌, ◌^◌, ◌<◌, ◌≤◌, ◌==◌, Bool, true, false, cond, if◌then◌else◌, nat_eq, List, [], ◌∷◌, ◌++◌, length, map, append_assoc, Option, Some, None, codes, decimal, inl, inr, arith}
use Rattle.std.specs.Prelude.{◌⊎◌}
use Rattle.std.specs.Cmp.Lexicographic.{pointwise}
use Rattle.std.specs.List.{slice_get}
use Rattle.std.proofs.lemmas.Bool.{eqb-true}
use Rattle.std.proofs.lemmas.List.{append-nil}
use Rattle.mds_out.specs.Fused.{Fused}
use Rattle.node_store.specs.Store.{Store}
use Rattle.simulation.specs.Payments.{IsPaid, armed_of}
use Rattle.mds_base.proofs.Lists.{get_mapped}
use Rattle.client_core.specs.declared.taken.Taken.{Taken}
use Rattle.client_core.specs.declared.taken.Taken.TheVariants as takes
use Rattle.records.specs.declared.msg.Msg.{Msg}
use Rattle.client_core.specs.Taking as taking
use Rattle.simulation.specs.Runs.{RunV, grown}
use Rattle.simulation.specs.Shows.{server_for}
use Rattle.world.specs.declared.event.Event.{Event}
use Rattle.world.specs.declared.event.Event.TheVariants.{Serve, Miss, Take, Stop}
use Rattle.world.specs.declared.event.ServeEnd.TheVariants as ends
use Rattle.world.specs.declared.event.StopCause.TheVariants.{Device}
use Rattle.world.specs.declared.state.ClientState.{ClientState}
use Rattle.world.specs.Events.{seat_at}
use Rattle.world.specs.Worlds.{WorldV}
use Rattle.interpreter.specs.EventText.{event_text, events_text, take_text, down_text}
use Rattle.interpreter.specs.Payments.{Pays, text_of, times, stopped_line}
use Rattle.interpreter.specs.Text.{taken_line, server_line, taken_text}
use Rattle.interpreter.proofs.Payments.{times_append, decimal_clean, clean_append}
use Rattle.mds_cli.specs.Lines.{ended_lines, onto_ended}
use Rattle.mds_cli.specs.Payments.{stops_told, fuses_armed, is_stop_of, stops_in, EventsArePaid, UnlessMemory}
use Rattle.mds_cli.specs.declared.status.Status.{Status}
use Rattle.mds_cli.specs.declared.status.Status.TheVariants.{OutOfMemory}
use Rattle.mds_cli.proofs.PaymentTexts.{fewer, equal_bytes, clean_part, stops_printed}
use Rattle.mds_cli.proofs.ScriptLines.{first_ended}

-- a text that ends in a line feed tells no fewer stops with others behind it
record EndsLines (text rest : List ℕ) : Type 0 where
  front : List (List ℕ)
  some : 1 ≤ length front
  is : ended_lines (text ++ 10 ∷ rest) ≡ front ++ ended_lines rest

ends_lines : (text rest : List ℕ) → EndsLines text rest
ends_lines [] rest = record { front = [] ∷ []; some = omega arith; is = refl }
ends_lines (byte ∷ text) rest = let later = ends_lines text rest in by (byte == 10) refl later.front later.some later.is
  where
    by : (feed : Bool) → (byte == 10) ≡ feed → (front : List (List ℕ)) → 1 ≤ length front → ended_lines (text ++ 10 ∷ rest) ≡ front ++ ended_lines rest → EndsLines (byte ∷ text) rest
    by true feed front some is = record {
      front = [] ∷ front;
      some = omega arith;
      is = ap (λ b. cond b ([] ∷ ended_lines (text ++ 10 ∷ rest)) (onto_ended byte (ended_lines (text ++ 10 ∷ rest)))) feed ∙ ap (λ ls. [] ∷ ls) is;
    }
    by false feed [] some is = absurd (omega (arith, some))
    by false feed (line ∷ more) some is = record {
      front = (byte ∷ line) ∷ more;
      some = omega arith;
      is = ap (λ b. cond b ([] ∷ ended_lines (text ++ 10 ∷ rest)) (onto_ended byte (ended_lines (text ++ 10 ∷ rest)))) feed ∙ ap (onto_ended byte) is;
    }

line_stops : (s : ℕ) (text rest : List ℕ) → stops_told rest s ≤ stops_told ((text ++ 10 ∷ []) ++ rest) s
line_stops s text rest =
    let ends = ends_lines text rest in
    let told : stops_told ((text ++ 10 ∷ []) ++ rest) s ≡ times (codes "stopped " ++ decimal s) (ends.front ++ ended_lines rest) = ap (λ t. stops_told t s) (append_assoc text (10 ∷ []) rest) ∙ ap (times (codes "stopped " ++ decimal s)) ends.is in
    omega (arith, told, times_append (codes "stopped " ++ decimal s) ends.front (ended_lines rest))

-- the line of a stop tells of it
stop_told : (s server : ℕ) (rest : List ℕ) → (if server == s then 1 else 0) + stops_told rest s ≤ stops_told (server_line (codes "stopped ") server ++ rest) s
stop_told s server rest =
    let part : List ℕ = codes "stopped " ++ decimal server in
    let clean = clean_part part (clean_append (codes "stopped ") (decimal server) refl (decimal_clean server)) in
    let one : (if server == s then 1 else 0) ≤ (if pointwise nat_eq part (codes "stopped " ++ decimal s) then 1 else 0) =
    fewer (server == s) (pointwise nat_eq part (codes "stopped " ++ decimal s)) (λ same. equal_bytes part (codes "stopped " ++ decimal s) (ap (λ n. codes "stopped " ++ decimal n) (eqb-true server s same))) in
    let told : stops_told (server_line (codes "stopped ") server ++ rest) s ≡ (if pointwise nat_eq part (codes "stopped " ++ decimal s) then 1 else 0) + stops_told rest s =
    ap (λ t. stops_told t s) (append_assoc part (10 ∷ []) rest) ∙ ap (times (codes "stopped " ++ decimal s)) (first_ended part rest clean) in
    omega (arith, one, told)

no_fewer : (n : ℕ) → 0 + n ≤ n
no_fewer n = omega arith

more_or_same : (n m : ℕ) → n ≤ m → 0 + n ≤ m
more_or_same n m few = omega (arith, few)

taken_told : (s client seq : ℕ) (taken : Taken) (rest : List ℕ) → 0 + stops_told rest s ≤ stops_told (taken_line client seq taken ++ rest) s
taken_told s client seq takes.Paged rest = no_fewer (stops_told rest s)
taken_told s client seq takes.Ignored rest = no_fewer (stops_told rest s)
taken_told s client seq taken rest = more_or_same _ _ (line_stops s (decimal client ++ codes " " ++ decimal seq ++ codes " " ++ taken_text taken) rest)

take_told : (s client : ℕ) (seat : Option ClientState) (msg : Option Msg) (rest : List ℕ) → 0 + stops_told rest s ≤ stops_told (take_text client seat msg ++ rest) s
take_told s client (Some seat) (Some msg) rest = taken_told s client seat.client.seq (taking.take seat.client msg).taken rest
take_told s client seat msg rest = no_fewer (stops_told rest s)

down_told : (s : ℕ) (server : Option ℕ) (rest : List ℕ) → 0 + stops_told rest s ≤ stops_told (down_text server ++ rest) s
down_told s None rest = no_fewer (stops_told rest s)
down_told s (Some server) rest = more_or_same _ _ (line_stops s (codes "down " ++ decimal server) rest)

event_told : (s : ℕ) (w : WorldV) (event : Event) (rest : List ℕ) → (if is_stop_of s event then 1 else 0) + stops_told rest s ≤ stops_told (event_text w event ++ rest) s
event_told s w (Take client message) rest = take_told s client (seat_at w.clients client) (slice_get w.sent message) rest
event_told s w (Serve server places ends.Stop) rest = stop_told s server rest
event_told s w (Stop server Device) rest = stop_told s server rest
event_told s w (Miss message) rest = down_told s (server_for (slice_get w.sent message)) rest
event_told s w event rest = no_fewer (stops_told rest s)

-- each stop of a server by its device is told
pub events_told : (s : ℕ) (run : RunV) (events : List Event) → stops_in events s ≤ stops_told (events_text run events) s
events_told s run [] = omega arith
events_told s run (event ∷ events) =
    let one = event_told s run.trace.world event (events_text (grown run event) events) in
    let later = events_told s (grown run event) events in
    omega (arith, one, later)

pub stops_append : (a b : List Event) (s : ℕ) → stops_in (a ++ b) s ≡ stops_in a s + stops_in b s
stops_append [] b s = omega arith
stops_append (event ∷ a) b s = let e = stops_append a b s in omega (arith, e)

-- where their text was made, they are paid
pub events_paid : {D : Type 0} (faults : D → ℕ) (lasts : D → D → Type 0) (old new : List (Store (Fused D))) (disks : List D) → disks ≡ map (λ (store : Store (Fused D)). store.disk.inner) new → (text : List ℕ) (lines : List (List ℕ)) → Pays faults lasts old new [] text (fuses_armed lines)
    → (run : RunV) (events : List Event) → text ≡ events_text run events → EventsArePaid faults old disks lines events
events_paid {D} faults lasts old new disks handed text lines pays run events told s store disk small at there =
    let last = get_mapped (λ (store : Store (Fused D)). store.disk.inner) new s disk (subst (λ ds. slice_get ds s ≡ Some disk) handed there) in
    let one : IsPaid faults lasts (Some store) (Some last.0) (times (stopped_line s) pays.printed) (fuses_armed lines s) =
    subst (λ o. IsPaid faults lasts o (Some last.0) (times (stopped_line s) pays.printed) (fuses_armed lines s)) at (subst (λ o. IsPaid faults lasts (slice_get old s) o (times (stopped_line s) pays.printed) (fuses_armed lines s)) last.1 (pays.paid s small)) in
    let same : stops_told (events_text run events) s ≡ stops_told (text_of pays.printed ++ []) s = ap (λ t. stops_told t s) (sym told ∙ pays.text ∙ sym (append-nil (text_of pays.printed))) in
    by (faults last.0.disk.inner) (armed_of (Some last.0)) (stops_told (events_text run events) s) (stops_told (text_of pays.printed ++ []) s) (ap faults last.2) (events_told s run events) same (stops_printed s pays.printed pays.each []) one.paid
  where
    by : (n unused a b : ℕ) → n ≡ faults disk → stops_in events s ≤ a → a ≡ b → b ≤ times (stopped_line s) pays.printed + 0
        → (times (stopped_line s) pays.printed + (unused + faults store.disk.inner) ≤ n + (armed_of (Some store) + fuses_armed lines s)) ⊎ (2 ^ 64 - 1 ≤ n)
        → (stops_in events s + faults store.disk.inner ≤ faults disk + (armed_of (Some store) + fuses_armed lines s)) ⊎ (2 ^ 64 - 1 ≤ faults disk)
    by n unused a b is few same printed (inl p) = inl (omega (arith, is, few, same, printed, p))
    by n unused a b is few same printed (inr p) = inr (omega (arith, is, p))

pub unless_map : (status : Status) (P Q : Type 0) → (P → Q) → UnlessMemory status P → UnlessMemory status Q
unless_map OutOfMemory P Q so p = tt
unless_map status P Q so p = so p
