-- The stops that a text tells, and what pays for them: faults of disks, and lines of the script that arm fuses.
use Rattle.std.specs.Prelude.{◌≡◌, ◌⊎◌, ℕ, ◌+◌, ◌-◌, ◌^◌, ◌<◌, ◌≤◌, ◌&&◌, ◌==◌, Bool, false, nat_eq, if◌then◌else◌}
use Rattle.std.specs.Prelude.{List, []}
use Rattle.std.specs.Prelude.{◌∷◌, ◌++◌, Option, Some, codes, decimal}
use Rattle.std.specs.Cmp.Lexicographic.{pointwise}
use Rattle.std.specs.List.{slice_get}
use Rattle.mds_out.specs.Fused.{Fused}
use Rattle.mds_out.specs.Known.{OnKnown, OnTold}
use Rattle.node_store.specs.Store.{Store}
use Rattle.script.specs.Words.{words_of}
use Rattle.simulation.specs.Payments.{armed_of}
use Rattle.interpreter.specs.Payments.{times}
use Rattle.world.specs.declared.event.Event.{Event}
use Rattle.world.specs.declared.event.Event.TheVariants.{Serve, Stop}
use Rattle.world.specs.declared.event.ServeEnd.TheVariants as ends
use Rattle.world.specs.declared.event.StopCause.TheVariants.{Device}
use Rattle.mds_cli.specs.Lines.{lines_of, ended_lines, without_return}
use Rattle.mds_cli.specs.declared.status.Status.{Status}
use Rattle.mds_cli.specs.declared.status.Status.TheVariants.{OutOfMemory}

-- how many whole lines of a text say that this server stopped
abbrev pub stops_told : List ℕ → ℕ → ℕ
stops_told text server = times (codes "stopped " ++ decimal server) (ended_lines text)

-- whether the words of a line arm the fuse of this server: they are `fuse` and its number, and whatever comes then
abbrev pub arms : List (List ℕ) → ℕ → Bool
arms [] server = false
arms (verb ∷ []) server = false
arms (verb ∷ number ∷ words) server = pointwise nat_eq verb (codes "fuse") && pointwise nat_eq number (decimal server)

-- how many of these lines do
abbrev pub fuses_armed : List (List ℕ) → ℕ → ℕ
fuses_armed [] server = 0
fuses_armed (line ∷ lines) server =
    (if arms (words_of (without_return line)) server then 1 else 0) + fuses_armed lines server

-- the stops are no more than what a count of faults rose by and the fuses together, unless the count stands at the
-- greatest u64
abbrev pub CountPays : ℕ → ℕ → ℕ → ℕ → Type 0
CountPays before now stops fuses = (stops ≤ (now - before) + fuses) ⊎ (2 ^ 64 - 1 ≤ now)

-- so it is of each disk, by the text that was taken and the lines of the script
abbrev pub StopsArePaid : {D : Type 0} → (D → ℕ) → List D → List D → List ℕ → List ℕ → Type 0
StopsArePaid {D = D} faults old new script text =
    (s : ℕ) (before now : D) → slice_get old s ≡ Some before → slice_get new s ≡ Some now
    → CountPays (faults before) (faults now) (stops_told text s) (fuses_armed (lines_of script) s)

-- P holds of the bytes that were taken, where they are told
abbrev pub OnTaken : Option (List ℕ) → Option (List ℕ) → (List ℕ → Type 0) → Type 0
OnTaken before now P = OnKnown before now (λ taken all. (text : List ℕ) × (all ≡ taken ++ text) × P text)

abbrev pub TextIsPaid : {D : Type 0} → (D → ℕ) → List D → List D → Option (List ℕ) → Option (List ℕ) → Option (List ℕ)
    → Type 0
TextIsPaid faults old new input before now =
    OnTold input (λ script. OnTaken before now (StopsArePaid faults old new script))

-- ---- when the run has ended

-- of each server that was up behind its fuse, and the disk that is handed back for it
abbrev pub StoresArePaid : {D : Type 0} → (D → ℕ) → List (Store (Fused D)) → List D → List ℕ → List ℕ → Type 0
StoresArePaid {D = D} faults old disks script text =
    (s : ℕ) (store : Store (Fused D)) (disk : D) → s < 2 ^ 64 → slice_get old s ≡ Some store → slice_get disks s
    ≡ Some disk
    → (stops_told text s + faults store.disk.inner ≤ faults disk +
    (armed_of (Some store) + fuses_armed (lines_of script) s)) ⊎ (2 ^ 64 - 1 ≤ faults disk)

abbrev pub ScriptIsPaid : {D : Type 0} → (D → ℕ) → List (Store (Fused D)) → List D → Option (List ℕ) → Option (List ℕ)
    → Option (List ℕ) → Type 0
ScriptIsPaid faults old disks input before now =
    OnTold input (λ script. OnTaken before now (StoresArePaid faults old disks script))

-- ---- the stops among events

-- whether its device stopped this server
abbrev pub is_stop_of : ℕ → Event → Bool
is_stop_of server (Serve other places ends.Stop) = other == server
is_stop_of server (Stop other Device) = other == server
is_stop_of server event = false

-- how often it did
abbrev pub stops_in : List Event → ℕ → ℕ
stops_in [] server = 0
stops_in (event ∷ events) server = (if is_stop_of server event then 1 else 0) + stops_in events server

-- of each server that was up behind its fuse, and the disk that is handed back for it: the stops among these events are
-- paid, with the fuses that these lines armed
abbrev pub EventsArePaid : {D : Type 0} → (D → ℕ) → List (Store (Fused D)) → List D → List (List ℕ) → List Event
    → Type 0
EventsArePaid {D = D} faults old disks lines events =
    (s : ℕ) (store : Store (Fused D)) (disk : D) → s < 2 ^ 64 → slice_get old s ≡ Some store
    → slice_get disks s ≡ Some disk
    → (stops_in events s + faults store.disk.inner ≤ faults disk + (armed_of (Some store) + fuses_armed lines s))
    ⊎ (2 ^ 64 - 1 ≤ faults disk)

-- so it is of each disk
abbrev pub RunIsPaid : {D : Type 0} → (D → ℕ) → List D → List D → List (List ℕ) → List Event → Type 0
RunIsPaid {D = D} faults old new lines events =
    (s : ℕ) (before now : D) → slice_get old s ≡ Some before → slice_get new s ≡ Some now
    → CountPays (faults before) (faults now) (stops_in events s) (fuses_armed lines s)

-- but where there was no memory a stop may not have been told
abbrev pub UnlessMemory : Status → Type 0 → Type 0
UnlessMemory OutOfMemory P = Unit {0}
UnlessMemory status P = P
