use Rattle.std.proofs.Common.{◌≡◌, sym, subst, ℕ, List, Option, Ok, Err, rules}
use Rattle.gate_log.specs.LogState.{LogState, open_log}
use Rattle.mds_base.specs.declared.store_fault.StoreFault.TheVariants.{OutOfMemory}
use Rattle.row_store.specs.declared.flushes.Next.{Next}
use Rattle.row_store.specs.Files.{in_use, IsTaken, IsNoneOf}
use Rattle.row_store.specs.Leaving.{LeavesFiles}
use Rattle.row_store.specs.Parts.{IsNext}
use Rattle.row_store.proofs.Leaving.{ok_not_device, memory_not_device, leaves_fewer, leaves_as, leaves_refused}
use Rattle.row_store.proofs.Planned.{next_planned}
use Rattle.row_store.proofs.Using.{taken_none_of}
use Rattle.sorted_table.specs.Tables.{TableState}
use Rattle.row_store.proofs.row_store.RowStore.write_next.Goals as goal

pub returns-in_err-log-clause-call : goal.returns-in_err-log-clause-call
returns-in_err-log-clause-call g c =
    let taken = in_use c.args.self.now.merge c.args.self.now.force in
    let files = c.in_ok-files.files in
    let a = c.args.disk.now in
    let b = c.write_parts.new.disk in
    let fault = c.in_err-log.field-0.0 in
    let given : c.from_residual-in_err-log.result ≡ Err fault = search rules in
    subst (LeavesFiles {T = Next} g.D.Disk.seen g.D.Disk.sizes g.D.Disk.images g.D.Disk.moment g.D.Disk.images_since g.D.Disk.faults g.D.Disk.lasts g.D.Disk.fails (IsTaken taken) a b) (sym given)
    (leaves_refused {T = LogState × Option TableState} {U = Next} fault (IsTaken taken) a b (leaves_fewer (Err fault) (IsNoneOf files) (IsTaken taken) a b (taken_none_of files taken c.in_ok-files.ensures.free) c.in_err-log.ensures.call))

pub returns-in_err-tables-clause-call : goal.returns-in_err-tables-clause-call
returns-in_err-tables-clause-call g c =
    let taken = in_use c.args.self.now.merge c.args.self.now.force in
    let files = c.in_ok-files.files in
    let a = c.args.disk.now in
    let b = c.write_parts.new.disk in
    let given : c.from_residual-in_err-tables.result ≡ Err OutOfMemory = search rules in
    subst (LeavesFiles {T = Next} g.D.Disk.seen g.D.Disk.sizes g.D.Disk.images g.D.Disk.moment g.D.Disk.images_since g.D.Disk.faults g.D.Disk.lasts g.D.Disk.fails (IsTaken taken) a b) (sym given)
    (leaves_as (c.in_ok-log.log, c.in_ok-log.table) (Err OutOfMemory) (IsTaken taken) a b (memory_not_device {T = Next}) (leaves_fewer (Ok (c.in_ok-log.log, c.in_ok-log.table)) (IsNoneOf files) (IsTaken taken) a b (taken_none_of files taken c.in_ok-files.ensures.free) c.in_ok-log.ensures.call))

pub returns-clause-next : goal.returns-clause-next
returns-clause-next g c =
    let store = c.args.self.now in
    let files = c.in_ok-files.files in
    let number = c.in_ok-files.number in
    let table = c.in_ok-log.table in
    let a = c.args.disk.now in
    let b = c.write_parts.new.disk in
    let P : List ℕ → Type 0 = λ tables. IsNext store (record { number = number; state = files.state; log_file = files.log_file; tables = tables }) (open_log files.log_file 1) table (g.D.Disk.seen b) (g.D.Disk.sizes b) (g.D.Disk.images b) in
    let Q : LogState → Type 0 = λ log. IsNext store (record { number = number; state = files.state; log_file = files.log_file; tables = c.in_ok-tables.tables }) log table (g.D.Disk.seen b) (g.D.Disk.sizes b) (g.D.Disk.images b) in
    subst Q (sym c.in_ok-log.ensures.log) (subst P (sym c.in_ok-tables.ensures)
    (next_planned store files number table c.args.state.now (g.D.Disk.seen a) (g.D.Disk.seen b) (g.D.Disk.sizes a) (g.D.Disk.sizes b) (g.D.Disk.images a) (g.D.Disk.images b) c.requires.ready c.requires.room c.in_ok-files.ensures.free c.in_ok-files.ensures.number c.in_ok-log.ensures.begun c.in_ok-log.ensures.table))

pub returns-clause-call : goal.returns-clause-call
returns-clause-call g c =
    let taken = in_use c.args.self.now.merge c.args.self.now.force in
    let files = c.in_ok-files.files in
    let a = c.args.disk.now in
    let b = c.write_parts.new.disk in
    leaves_as (c.in_ok-log.log, c.in_ok-log.table) (Ok _) (IsTaken taken) a b (ok_not_device _) (leaves_fewer (Ok (c.in_ok-log.log, c.in_ok-log.table)) (IsNoneOf files) (IsTaken taken) a b (taken_none_of files taken c.in_ok-files.ensures.free) c.in_ok-log.ensures.call)
