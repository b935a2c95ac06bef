use Rattle.std.proofs.Common.{◌≡◌, sym, subst, Ok, Err, rules}
use Rattle.row_store.specs.Files.{IsNoneOf}
use Rattle.row_store.specs.Leaving.{LeavesFiles}
use Rattle.row_store.proofs.Begun.{both_ok, begun_with}
use Rattle.row_store.proofs.Leaving.{leaves_writing, leaves_on, leaves_refused}
use Rattle.row_store.proofs.parts.begin.Goals as goal

pub returns-in_err-write_state-clause-call : goal.returns-in_err-write_state-clause-call
returns-in_err-write_state-clause-call g c =
    let files = c.args.files in
    let a = c.args.disk.now in
    let b = c.write_state.new.disk in
    let fault = c.in_err-write_state.field-0.0 in
    let given : c.from_residual.result ≡ Err fault = search rules in
    subst (LeavesFiles g.D.Disk.seen g.D.Disk.sizes g.D.Disk.images g.D.Disk.moment g.D.Disk.images_since g.D.Disk.faults g.D.Disk.lasts g.D.Disk.fails (IsNoneOf files) a b) (sym given)
    (leaves_refused {T = Unit {0}} fault (IsNoneOf files) a b (leaves_writing (Err fault) (IsNoneOf files) files.state a b (λ other is. is.state) c.in_err-write_state.ensures.call))

pub returns-clause-begun : goal.returns-clause-begun
returns-clause-begun g c =
    let files = c.args.files in
    let m = c.write_state.new.disk in
    let b = c.make_log.new.disk in
    both_ok c.make_log.result _ _ _ (begun_with c.make_log.result files.log_file m b (g.met.D.Disk.counts_now b) c.make_log.ensures.call files.state c.args.state.now (λ same. c.requires.free.1.log_apart (sym same)) c.in_ok-write_state.ensures.state c.in_ok-write_state.ensures.durable)
    c.make_log.ensures.ready c.make_log.ensures.empty

pub returns-clause-call : goal.returns-clause-call
returns-clause-call g c =
    let files = c.args.files in
    let a = c.args.disk.now in
    let m = c.write_state.new.disk in
    let b = c.make_log.new.disk in
    leaves_on tt c.make_log.result (IsNoneOf files) a m b (g.met.D.Disk.counts_now m) (g.met.D.Disk.lasts_on a m b) (g.met.D.Disk.fails_after a m b)
    (leaves_writing (Ok tt) (IsNoneOf files) files.state a m (λ other is. is.state) c.in_ok-write_state.ensures.call)
    (leaves_writing c.make_log.result (IsNoneOf files) files.log_file m b (λ other is. is.log_file) c.make_log.ensures.call)
