use Rattle.std.proofs.Common.{◌≡◌, sym, subst, Bool, Ok, Err, rules}
use Rattle.mds_base.specs.declared.store_fault.StoreFault.TheVariants.{OutOfMemory}
use Rattle.row_store.specs.Steps.{IsKeeping}
use Rattle.row_store.proofs.Going.{keeping_none, keeping_as, keeping_refused}
use Rattle.row_store.proofs.Leaving.{ok_not_device, memory_not_device}
use Rattle.row_store.proofs.row_store.RowStore.merge_full.Goals as goal

pub returns-then-len-lt-TABLES_MOST-clause-step : goal.returns-then-len-lt-TABLES_MOST-clause-step
returns-then-len-lt-TABLES_MOST-clause-step g c =
    keeping_none (Ok tt) c.args.self.now c.args.self.now.merge c.args.disk.now (g.met.D.Disk.counts_now c.args.disk.now) (g.met.D.Disk.only_now c.args.disk.now) (g.met.D.Disk.lasts_here c.args.disk.now) (ok_not_device tt)
    c.requires.running c.requires.ready c.requires.ready.merging

pub returns-in_err-merge_turn-clause-step : goal.returns-in_err-merge_turn-clause-step
returns-in_err-merge_turn-clause-step g c =
    let fault = c.in_err-merge_turn.field-0.0 in
    let a = c.args.disk.now in
    let m = c.merge_turn.new.disk in
    let given : c.from_residual.result ≡ Err fault = search rules in
    subst (IsKeeping {T = Unit {0}} g.D.Disk.seen g.D.Disk.sizes g.D.Disk.images g.D.Disk.moment g.D.Disk.images_since g.D.Disk.faults g.D.Disk.lasts g.D.Disk.fails c.args.self.now c.merge_turn.new.self a m) (sym given)
    (keeping_refused {T = Bool} {U = Unit {0}} fault c.args.self.now c.merge_turn.new.self a m (c.in_err-merge_turn.ensures.step c.requires.running))

pub returns-then-branch-clause-step : goal.returns-then-branch-clause-step
returns-then-branch-clause-step g c =
    keeping_as c.in_ok-merge_turn.field-0 (Err OutOfMemory) c.args.self.now c.merge_turn.new.self c.args.disk.now c.merge_turn.new.disk (memory_not_device {T = Unit {0}}) (c.in_ok-merge_turn.ensures.step c.requires.running)

pub returns-clause-step : goal.returns-clause-step
returns-clause-step g c =
    keeping_as c.in_ok-merge_turn.field-0 (Ok tt) c.args.self.now c.merge_turn.new.self c.args.disk.now c.merge_turn.new.disk (ok_not_device tt) (c.in_ok-merge_turn.ensures.step c.requires.running)
