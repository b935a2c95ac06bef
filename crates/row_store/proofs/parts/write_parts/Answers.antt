use Rattle.std.proofs.Common.{◌≡◌, sym, subst, Option, Ok, Err, rules}
use Rattle.gate_log.specs.LogState.{LogState}
use Rattle.row_store.specs.Files.{IsNoneOf}
use Rattle.row_store.specs.Leaving.{LeavesFiles}
use Rattle.row_store.proofs.Begun.{begun_on}
use Rattle.row_store.proofs.Leaving.{ok_not_device, leaves_writing, leaves_on, leaves_refused, leaves_as}
use Rattle.sorted_table.specs.Tables.{TableState}
use Rattle.row_store.proofs.parts.write_parts.Goals as goal

pub returns-in_err-log-clause-call : goal.returns-in_err-log-clause-call
returns-in_err-log-clause-call g c =
    let files = c.args.files in
    let a = c.args.disk.now in
    let m = c.begin.new.disk in
    let fault = c.in_err-log.field-0.0 in
    let given : c.from_residual.result ≡ Err fault = search rules in
    subst (LeavesFiles g.D.Disk.seen g.D.Disk.sizes g.D.Disk.images g.D.Disk.moment g.D.Disk.images_since g.D.Disk.faults g.D.Disk.lasts g.D.Disk.fails (IsNoneOf files) a m) (sym given) (leaves_refused {T = LogState} fault (IsNoneOf files) a m c.in_err-log.ensures.call)

pub returns-in_err-table-clause-call : goal.returns-in_err-table-clause-call
returns-in_err-table-clause-call g c =
    let files = c.args.files in
    let a = c.args.disk.now in
    let m = c.begin.new.disk in
    let b = c.table_of.new.disk in
    let fault = c.in_err-table.field-0.0 in
    let given : c.from_residual-in_err-table.result ≡ Err fault = search rules in
    subst (LeavesFiles g.D.Disk.seen g.D.Disk.sizes g.D.Disk.images g.D.Disk.moment g.D.Disk.images_since g.D.Disk.faults g.D.Disk.lasts g.D.Disk.fails (IsNoneOf files) a b) (sym given) (leaves_refused {T = Option TableState} fault (IsNoneOf files) a b
    (leaves_on _ (Err fault) (IsNoneOf files) a m b (g.met.D.Disk.counts_now m) (g.met.D.Disk.lasts_on a m b) (g.met.D.Disk.fails_after a m b) c.in_ok-log.ensures.call
    (leaves_writing (Err fault) (IsNoneOf files) files.table m b (λ other is. is.table) c.in_err-table.ensures.call)))

pub returns-clause-begun : goal.returns-clause-begun
returns-clause-begun g c =
    let files = c.args.files in
    let m = c.begin.new.disk in
    let b = c.table_of.new.disk in
    begun_on c.table_of.result files.table m b (g.met.D.Disk.counts_now b) c.table_of.ensures.call files.state files.log_file c.args.state.now (λ same. c.requires.free.1.table_apart (sym same)) (λ same. c.requires.free.1.tables_apart (sym same)) c.in_ok-log.ensures.begun

pub returns-clause-call : goal.returns-clause-call
returns-clause-call g c =
    let files = c.args.files in
    let a = c.args.disk.now in
    let m = c.begin.new.disk in
    let b = c.table_of.new.disk in
    leaves_on _ (Ok (c.in_ok-log.log, c.in_ok-table.table)) (IsNoneOf files) a m b (g.met.D.Disk.counts_now m) (g.met.D.Disk.lasts_on a m b) (g.met.D.Disk.fails_after a m b) c.in_ok-log.ensures.call
    (leaves_as c.in_ok-table.table (Ok (c.in_ok-log.log, c.in_ok-table.table)) (IsNoneOf files) m b (ok_not_device (c.in_ok-log.log, c.in_ok-table.table))
    (leaves_writing (Ok c.in_ok-table.table) (IsNoneOf files) files.table m b (λ other is. is.table) c.in_ok-table.ensures.call))
