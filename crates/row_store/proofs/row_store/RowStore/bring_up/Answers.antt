use Rattle.std.proofs.Common.{rules, arith, ◌∙◌, ◌≤◌, sym, ap, subst, ℕ, Option, Result, Ok, Err}
use Rattle.std.proofs.lemmas.Grind.{common_steps}
use Rattle.frame_pool.specs.Frames.{free_frames}
use Rattle.mds_base.specs.declared.store_fault.Damage.{Damage}
use Rattle.mds_out.specs.Known.{OnTold}
use Rattle.root_slots.specs.declared.root.Root.{Root}
use Rattle.root_slots.specs.declared.root_slots.RootFault.{RootFault}
use Rattle.root_slots.specs.declared.root_slots.RootSlots.{RootSlots}
use Rattle.root_slots.specs.Slot.{found_in}
use Rattle.root_slots.specs.Slots.{IsRead, IsAsRead}
use Rattle.row_store.specs.Answers.{IsStoreReading}
use Rattle.row_store.specs.Damages.{IsBad, IsRefusal}
use Rattle.row_store.specs.Store.{TellsAll, reading}
use Rattle.row_store.proofs.Joined.{cause_ok, last_moment, reads_on}
use Rattle.row_store.proofs.Opens.{ready_new, kept_new, root_read, none_read, found_refused, root_refusal}
use Rattle.row_store.proofs.Told.{same_seen}
use Rattle.row_store.proofs.row_store.RowStore.bring_up.Goals as goal

pub open_on-requires-clause-in_force : goal.open_on-requires-clause-in_force
open_on-requires-clause-in_force g c =
    root_read (g.D.Disk.seen c.args.disk.now 0) (g.D.Disk.seen c.read.new.disk 0) c.read.result c.in-Ok-default-Some.slots c.in-Ok-default-Some.field-0-1 c.in-Ok-default-Some.root (c.read.ensures.unchanged.bytes 0)
    c.in-Ok-default-Some.is c.in-Ok-default-Some.field-0-1-is c.read.ensures.read

pub open_on-requires-clause-numbered : goal.open_on-requires-clause-numbered
open_on-requires-clause-numbered g c = subst (IsAsRead c.in-Ok-default-Some.slots) c.in-Ok-default-Some.field-0-1-is c.in-Ok-default-Some.ensures.value

pub returns-in-Ok-default-None-clause-ready : goal.returns-in-Ok-default-None-clause-ready
returns-in-Ok-default-None-clause-ready g c =
    let frames : 4 ≤ free_frames c.in_ok-pool.pool = first_of (search rules, grind (arith, common_steps)) in
    ready_new c.in_ok-pool.pool c.in-Ok-default-None.slots c.of.result c.of.ensures (g.D.Disk.seen c.read.new.disk) (g.D.Disk.sizes c.read.new.disk) (g.D.Disk.images c.read.new.disk) c.in-Ok-default-None.ensures.ready c.in-Ok-default-None.ensures.begun.0
    (subst (IsAsRead c.in-Ok-default-None.slots) c.in-Ok-default-None.field-0-1-is c.in-Ok-default-None.ensures.value) frames c.in-Ok-default-None.ensures.begun.1

pub returns-in-Ok-default-None-clause-kept : goal.returns-in-Ok-default-None-clause-kept
returns-in-Ok-default-None-clause-kept g c =
    kept_new c.in_ok-pool.pool c.in-Ok-default-None.slots c.of.result c.of.ensures (g.D.Disk.seen c.read.new.disk) (g.D.Disk.sizes c.read.new.disk) (g.D.Disk.images c.read.new.disk) c.in-Ok-default-None.ensures.ready
    (none_read (g.D.Disk.seen c.args.disk.now 0) (g.D.Disk.seen c.read.new.disk 0) c.read.result c.in-Ok-default-None.slots c.in-Ok-default-None.field-0-1 (c.read.ensures.unchanged.bytes 0)
    c.in-Ok-default-None.is c.in-Ok-default-None.field-0-1-is c.read.ensures.read)

pub returns-in-Ok-default-Some-clause-refused : goal.returns-in-Ok-default-Some-clause-refused
returns-in-Ok-default-Some-clause-refused g c =
    found_refused c.in-Ok-default-Some.root (g.D.Disk.seen c.args.disk.now) (g.D.Disk.seen c.read.new.disk) c.open_on.result
    (same_seen (g.D.Disk.seen c.args.disk.now) (g.D.Disk.seen c.read.new.disk) (g.D.Disk.sizes c.args.disk.now) (g.D.Disk.sizes c.read.new.disk) c.read.ensures.unchanged)
    (root_read (g.D.Disk.seen c.args.disk.now 0) (g.D.Disk.seen c.read.new.disk 0) c.read.result c.in-Ok-default-Some.slots c.in-Ok-default-Some.field-0-1 c.in-Ok-default-Some.root (c.read.ensures.unchanged.bytes 0)
    c.in-Ok-default-Some.is c.in-Ok-default-Some.field-0-1-is c.read.ensures.read) c.open_on.ensures.refused

pub returns-in-Ok-default-Some-clause-call : goal.returns-in-Ok-default-Some-clause-call
returns-in-Ok-default-Some-clause-call g c =
    let first : IsStoreReading {T = Unit {0}} g.D.Disk.seen g.D.Disk.sizes g.D.Disk.images g.D.Disk.moment g.D.Disk.images_since g.D.Disk.faults g.D.Disk.lasts g.D.Disk.fails c.args.disk.now c.read.new.disk (Ok tt) = record {
      unchanged = c.read.ensures.unchanged;
      crash = last_moment g.D.Disk.moment g.D.Disk.images_since g.D.Disk.images c.args.disk.now c.read.new.disk (g.met.D.Disk.counts_now c.read.new.disk) c.read.ensures.any_moment;
      any_moment = c.read.ensures.any_moment;
      cause = cause_ok (g.D.Disk.faults c.args.disk.now) (g.D.Disk.faults c.read.new.disk) tt c.in-Ok-default-Some.ensures.cause.kept;
      lasts = c.read.ensures.lasts;
      failed = λ device. cc;
    } in
    reads_on g.met.D.Disk.lasts_on g.met.D.Disk.fails_after first c.open_on.ensures.call

pub returns-in-Err-clause-refused : goal.returns-in-Err-clause-refused
returns-in-Err-clause-refused g c =
    let P : ℕ → ℕ → Damage → Type 0 = λ file offset wrong. TellsAll (g.D.Disk.seen c.args.disk.now) → IsBad file offset wrong (reading (g.D.Disk.seen c.args.disk.now)) in
    let Q : Result (RootSlots × Option Root) RootFault → Type 0 = λ r. OnTold (g.D.Disk.seen c.args.disk.now 0) (λ file. IsRead (found_in file) r) in
    let Fault : RootFault → Result (RootSlots × Option Root) RootFault = λ f. Err f in
    subst (IsRefusal P) (sym c.of_root.ensures)
    (root_refusal (g.D.Disk.seen c.args.disk.now) c.in-Err.fault (λ is. c.read.ensures.not_stopped (c.in-Err.is ∙ ap Fault is)) (subst Q c.in-Err.is c.read.ensures.read))
