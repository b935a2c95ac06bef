use Rattle.std.proofs.Common.{◌≡◌, sym, subst, Ok, Err, true, false, refl, rules}
use Rattle.std.proofs.lemmas.Bool.{true≢false}
use Rattle.mds_base.specs.declared.store_fault.StoreFault.{StoreFault}
use Rattle.row_store.specs.declared.row_store.RowStore.{RowStore}
use Rattle.row_store.specs.Answers.{root_fault_of}
use Rattle.row_store.specs.Steps.{IsKeeping}
use Rattle.row_store.proofs.Leaving.{ok_not_device}
use Rattle.row_store.proofs.Going.{keeping_none}
use Rattle.row_store.proofs.Joined.{cause_ok, cause_root, failed_root}
use Rattle.row_store.proofs.Making.{keeping_made, new_slots}
use Rattle.row_store.proofs.row_store.RowStore.make_root_file.Goals as goal

pub make_file-requires-clause-begun : goal.make_file-requires-clause-begun
make_file-requires-clause-begun g c =
    let unmade : c.args.self.now.slots.made ≡ false = search rules in
    new_slots c.args.self.now.slots c.args.self.now.force c.requires.ready.numbered unmade c.requires.ready.begun

pub returns-then-is_made-clause-step : goal.returns-then-is_made-clause-step
returns-then-is_made-clause-step g c =
    keeping_none (Ok tt) c.args.self.now c.args.self.now.merge c.args.disk.now (g.met.D.Disk.counts_now c.args.disk.now) (g.met.D.Disk.only_now c.args.disk.now) (g.met.D.Disk.lasts_here c.args.disk.now) (ok_not_device tt)
    c.requires.running c.requires.ready c.requires.ready.merging

pub returns-in-Ok-clause-step : goal.returns-in-Ok-clause-step
returns-in-Ok-clause-step g c =
    let unmade : c.args.self.now.slots.made ≡ false = search rules in
    let a = c.args.disk.now in
    let b = c.make_file.new.disk in
    keeping_made (Ok tt) c.args.self.now c.make_file.new.self c.args.self.now.stopped a b (g.met.D.Disk.counts_now b) (g.met.D.Disk.reads_as b) unmade c.requires.ready c.make_file.ensures.elsewhere c.make_file.ensures.told (c.make_file.ensures.any_moment c.requires.ready.slots_run)
    (λ running. (c.in-Ok.ensures.made, c.in-Ok.ensures.ready)) c.requires.running (λ device. absurd (ok_not_device tt device))
    (record { cause = cause_ok (g.D.Disk.faults a) (g.D.Disk.faults b) tt c.in-Ok.ensures.cause.kept; lasts = c.make_file.ensures.lasts; failed = λ device. absurd (ok_not_device tt device) })

pub returns-in-Err-clause-step : goal.returns-in-Err-clause-step
returns-in-Err-clause-step g c =
    let unmade : c.args.self.now.slots.made ≡ false = search rules in
    let a = c.args.disk.now in
    let b = c.make_file.new.disk in
    let now : RowStore = record c.args.self.now { slots = c.make_file.new.self; stopped = true } in
    subst (λ (f : StoreFault). IsKeeping {T = Unit {0}} g.D.Disk.seen g.D.Disk.sizes g.D.Disk.images g.D.Disk.moment g.D.Disk.images_since g.D.Disk.faults g.D.Disk.lasts g.D.Disk.fails c.args.self.now now a b (Err f)) (sym c.of_root.ensures)
    (keeping_made (Err (root_fault_of c.in-Err.fault)) c.args.self.now c.make_file.new.self true a b (g.met.D.Disk.counts_now b) (g.met.D.Disk.reads_as b) unmade c.requires.ready c.make_file.ensures.elsewhere c.make_file.ensures.told
    (c.make_file.ensures.any_moment c.requires.ready.slots_run) (λ running. absurd (true≢false running)) tt (λ device. refl)
    (record { cause = cause_root {T = Unit {0}} {U = Unit {0}} (g.D.Disk.faults a) (g.D.Disk.faults b) c.in-Err.fault c.in-Err.ensures.cause; lasts = c.make_file.ensures.lasts; failed = failed_root {T = Unit {0}} {U = Unit {0}} c.in-Err.fault c.in-Err.ensures.failed }))
