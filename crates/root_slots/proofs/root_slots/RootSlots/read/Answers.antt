use Rattle.std.proofs.Common.{◌≡◌, ◌∙◌, sym, subst, true, false, List, ℕ, Option, Some, Result, arith}
use Rattle.std.specs.Prelude.{IfOk, IfSome, IsErrOf}
use Rattle.mds_out.specs.Disk.{Image}
use Rattle.mds_out.specs.Known.{OnTold}
use Rattle.root_slots.specs.declared.root.Root.{Root}
use Rattle.root_slots.specs.declared.root_slots.RootFault.{RootFault}
use Rattle.root_slots.specs.declared.root_slots.RootFault.TheVariants.{Device, Stopped}
use Rattle.root_slots.specs.declared.root_slots.RootSlots.{RootSlots}
use Rattle.root_slots.specs.declared.root_slots.Step.TheVariants.{Begun}
use Rattle.root_slots.specs.Root.{is_root}
use Rattle.root_slots.specs.Slot.{found_in, are_slots}
use Rattle.root_slots.specs.Slots.{answer_of, IsRead, IsAsRead, IsReady, HasRootCause}
use Rattle.root_slots.proofs.Readings.{told_as, ready_answer, begun_answer, value_answer, read_answer, root_answer, never_device, never_stopped, cause_answer}
use Rattle.root_slots.proofs.root_slots.RootSlots.read.Goals as goal

abbrev Answer : Type 0
Answer = Result (RootSlots × Option Root) RootFault

pub returns-clause-ready : goal.returns-clause-ready
returns-clause-ready g c =
    let mid = c.synced_length.new.disk in
    let new = c.read_slots.new.disk in
    let same = sym (c.read_slots.ensures.unchanged.bytes 0) in
    let K : Option ℕ → Type 0 = λ known. OnTold known (λ size. g.D.Disk.sizes new 0 ≡ Some size) in
    let known : g.D.Disk.sizes new 0 ≡ Some c.in_ok-size.size = subst K c.in_ok-size.ensures.size (c.read_slots.ensures.unchanged.lengths 0) in
    let P : Option (List ℕ) → Type 0 = λ seen. OnTold seen (λ file. (image : Image) → g.D.Disk.images mid image → image 0 ≡ file) in
    let durable = told_as (g.D.Disk.seen new 0) (λ file. (image : Image) → g.D.Disk.images mid image → image 0 ≡ file) (λ file. (image : Image) → g.D.Disk.images new image → image 0 ≡ file)
    (λ file is image now. is image (c.read_slots.ensures.crash.no_other image now)) (subst P same c.in_ok-size.ensures.durable) in
    let Q : Option (List ℕ) → Type 0 = λ seen. OnTold seen (λ file. are_slots file c.in_ok-found.found c.in_ok-found.both) in
    let R : Answer → Type 0 = λ answer. IfOk answer (λ read. IsReady read.0 (g.D.Disk.seen new) (g.D.Disk.sizes new) (g.D.Disk.images new)) in
    subst R (sym c.settled.ensures)
    (ready_answer (g.D.Disk.seen new) (g.D.Disk.sizes new) (g.D.Disk.images new) c.in_ok-size.size (g.met.D.Disk.tells_length new 0) known durable c.in_ok-found.found c.in_ok-found.both (omega arith)
    (subst Q same c.in_ok-found.ensures.found))

pub returns-clause-begun : goal.returns-clause-begun
returns-clause-begun g c =
    let R : Answer → Type 0 = λ answer. IfOk answer (λ read. (read.0.step ≡ Begun) × (read.0.stopped ≡ false)) in
    subst R (sym c.settled.ensures) (begun_answer c.in_ok-found.found c.in_ok-found.both)

pub returns-clause-value : goal.returns-clause-value
returns-clause-value g c =
    let R : Answer → Type 0 = λ answer. IfOk answer (λ read. IsAsRead read.0 read.1) in
    subst R (sym c.settled.ensures) (value_answer c.in_ok-found.found c.in_ok-found.both)

pub returns-clause-read : goal.returns-clause-read
returns-clause-read g c =
    let mid = c.synced_length.new.disk in
    let read = read_answer (g.D.Disk.seen mid 0) (g.D.Disk.sizes mid 0) c.in_ok-size.size c.in_ok-found.found c.in_ok-found.both (g.met.D.Disk.tells_length mid 0) c.in_ok-size.ensures.size (omega arith) c.in_ok-found.ensures.found in
    let P : Option (List ℕ) → Type 0 = λ seen. OnTold seen (λ file. IsRead (found_in file) c.settled.result) in
    subst P (c.synced_length.ensures.unchanged.bytes 0)
    (told_as (g.D.Disk.seen mid 0) (λ file. IsRead (found_in file) (answer_of c.in_ok-found.found c.in_ok-found.both)) (λ file. IsRead (found_in file) c.settled.result)
    (λ file is. (let R : Answer → Type 0 = λ answer. IsRead (found_in file) answer in subst R (sym c.settled.ensures) is)) read)

pub returns-clause-root : goal.returns-clause-root
returns-clause-root g c =
    let R : Answer → Type 0 = λ answer. IfOk answer (λ read. IfSome read.1 (λ root. is_root root ≡ true)) in
    subst R (sym c.settled.ensures) (root_answer c.in_ok-found.found c.in_ok-found.both c.in_ok-found.ensures.root)

pub returns-clause-not_stopped : goal.returns-clause-not_stopped
returns-clause-not_stopped g c = λ is.
    let R : Answer → Type 0 = λ answer. IsErrOf answer Stopped in
    never_stopped c.in_ok-found.found c.in_ok-found.both (subst R c.settled.ensures is)

pub returns-clause-cause : goal.returns-clause-cause
returns-clause-cause g c =
    let R : Answer → Type 0 = λ answer. HasRootCause (g.D.Disk.faults c.args.disk.now) (g.D.Disk.faults c.read_slots.new.disk) answer in
    subst R (sym c.settled.ensures) (cause_answer _ _ c.in_ok-found.found c.in_ok-found.both (c.in_ok-found.ensures.cause.kept ∙ c.in_ok-size.ensures.cause.kept))

pub returns-clause-failed : goal.returns-clause-failed
returns-clause-failed g c = λ is.
    let R : Answer → Type 0 = λ answer. IsErrOf answer Device in
    absurd (never_device c.in_ok-found.found c.in_ok-found.both (subst R c.settled.ensures is))
