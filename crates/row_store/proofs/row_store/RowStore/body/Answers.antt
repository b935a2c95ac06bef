use Rattle.std.proofs.Common.{◌≡◌, ◌∙◌, sym, ap, subst, refl, false, Some, ℕ, Option, Err}
use Rattle.mds_base.specs.declared.store_fault.StoreFault.{StoreFault}
use Rattle.row_store.specs.declared.row_store.RowStore.{RowStore}
use Rattle.row_store.specs.Answers.{log_fault_of, IsCopyAnswer}
use Rattle.row_store.specs.Store.{TellsAll, reading}
use Rattle.row_store.specs.Value.{Keeps, IsReady, HasRoot, stops_by}
use Rattle.row_store.proofs.Appends.{log_runs}
use Rattle.row_store.proofs.Bodies.{keeps_read, ready_read, gate_on, onward_on, reads_store, replay_same, replay_answer}
use Rattle.row_store.proofs.Told.{stops_at, runs_on}
use Rattle.row_store.proofs.row_store.RowStore.body.Goals as goal

pub returns-in-Ok-clause-read : goal.returns-in-Ok-clause-read
returns-in-Ok-clause-read g c =
    let root = c.in-Some.field-0.root in
    let log = c.in-Some.field-0.log in
    let old = c.args.disk.now in
    let new = c.replay-read.new.disk in
    let was : c.args.self.now.force ≡ Some (record { root = c.in-Some.field-0.root; log = c.in-Some.field-0.log }) = sym c.take.ensures.value ∙ c.in-Some.is in
    reads_store c.args.self.now root log (g.D.Disk.seen old) c.args.at c.in-Ok.next c.replay-read.new.into.items was c.in-Ok.ensures.given

pub returns-in-Ok-clause-gate : goal.returns-in-Ok-clause-gate
returns-in-Ok-clause-gate g c = gate_on c.in-Ok.next c.args.at c.in-Some.field-0.log c.replay-read.new.self (g.D.Disk.seen c.replay-read.new.disk) c.in-Ok.ensures.same c.in-Ok.ensures.end c.in-Ok.ensures.gate

pub returns-in-Ok-clause-onward : goal.returns-in-Ok-clause-onward
returns-in-Ok-clause-onward g c = onward_on c.in-Ok.next c.args.at c.in-Some.field-0.log c.in-Ok.ensures.end

pub returns-in-Ok-clause-kept : goal.returns-in-Ok-clause-kept
returns-in-Ok-clause-kept g c = λ running.
    let root = c.in-Some.field-0.root in
    let log = c.in-Some.field-0.log in
    let old = c.args.disk.now in
    let new = c.replay-read.new.disk in
    let was : c.args.self.now.force ≡ Some (record { root = c.in-Some.field-0.root; log = c.in-Some.field-0.log }) = sym c.take.ensures.value ∙ c.in-Some.is in
    keeps_read c.args.self.now root log c.replay-read.new.self c.args.self.now.stopped (g.D.Disk.seen old) (g.D.Disk.seen new) (g.D.Disk.sizes old) (g.D.Disk.sizes new) was c.in-Ok.ensures.same c.replay-read.ensures.call.unchanged

pub returns-in-Ok-clause-ready : goal.returns-in-Ok-clause-ready
returns-in-Ok-clause-ready g c = λ running.
    let root = c.in-Some.field-0.root in
    let log = c.in-Some.field-0.log in
    let old = c.args.disk.now in
    let new = c.replay-read.new.disk in
    let was : c.args.self.now.force ≡ Some (record { root = c.in-Some.field-0.root; log = c.in-Some.field-0.log }) = sym c.take.ensures.value ∙ c.in-Some.is in
    ready_read c.args.self.now root log c.replay-read.new.self c.args.self.now.stopped (g.D.Disk.seen old) (g.D.Disk.seen new) (g.D.Disk.sizes old) (g.D.Disk.sizes new) was c.in-Ok.ensures.same c.replay-read.ensures.call.unchanged (g.D.Disk.images old) (g.D.Disk.images new) c.replay-read.ensures.call.crash.no_other (c.requires.ready running)

pub returns-in-Err-clause-kept : goal.returns-in-Err-clause-kept
returns-in-Err-clause-kept g c = λ running kept rows keeps.
    let root = c.in-Some.field-0.root in
    let log = c.in-Some.field-0.log in
    let old = c.args.disk.now in
    let new = c.replay-read.new.disk in
    let was : c.args.self.now.force ≡ Some (record { root = c.in-Some.field-0.root; log = c.in-Some.field-0.log }) = sym c.take.ensures.value ∙ c.in-Some.is in
    let fault_is : stops_by (log_fault_of c.in-Some.field-0.root.log_file c.in-Err.fault) c.args.self.now.stopped ≡ false = ap (λ (f : StoreFault). stops_by f c.args.self.now.stopped) (sym c.of_log-fault.ensures) ∙ sym (ap (λ (s : RowStore). s.stopped) c.stop_at.ensures) ∙ running in
    let same = replay_same (g.D.Disk.seen old log.file) log c.replay-read.new.self c.args.into.now.items c.replay-read.new.into.items root.log_file c.in-Err.fault c.args.self.now.stopped c.in-Err.ensures.refused fault_is in
    let P : RowStore → Type 0 = λ s. Keeps s kept rows (reading (g.D.Disk.seen c.replay-read.new.disk)) in
    subst P (sym c.stop_at.ensures) (keeps_read c.args.self.now root log c.replay-read.new.self (stops_by c.of_log-fault.result c.args.self.now.stopped) (g.D.Disk.seen old) (g.D.Disk.seen new) (g.D.Disk.sizes old) (g.D.Disk.sizes new) was same c.replay-read.ensures.call.unchanged kept rows keeps)

pub returns-in-Err-clause-ready : goal.returns-in-Err-clause-ready
returns-in-Err-clause-ready g c = λ running.
    let root = c.in-Some.field-0.root in
    let log = c.in-Some.field-0.log in
    let old = c.args.disk.now in
    let new = c.replay-read.new.disk in
    let was : c.args.self.now.force ≡ Some (record { root = c.in-Some.field-0.root; log = c.in-Some.field-0.log }) = sym c.take.ensures.value ∙ c.in-Some.is in
    let fault_is : stops_by (log_fault_of c.in-Some.field-0.root.log_file c.in-Err.fault) c.args.self.now.stopped ≡ false = ap (λ (f : StoreFault). stops_by f c.args.self.now.stopped) (sym c.of_log-fault.ensures) ∙ sym (ap (λ (s : RowStore). s.stopped) c.stop_at.ensures) ∙ running in
    let same = replay_same (g.D.Disk.seen old log.file) log c.replay-read.new.self c.args.into.now.items c.replay-read.new.into.items root.log_file c.in-Err.fault c.args.self.now.stopped c.in-Err.ensures.refused fault_is in
    let P : RowStore → Type 0 = λ s. IsReady s (g.D.Disk.seen c.replay-read.new.disk) (g.D.Disk.sizes c.replay-read.new.disk) (g.D.Disk.images c.replay-read.new.disk) in
    subst P (sym c.stop_at.ensures) (ready_read c.args.self.now root log c.replay-read.new.self (stops_by c.of_log-fault.result c.args.self.now.stopped) (g.D.Disk.seen old) (g.D.Disk.seen new) (g.D.Disk.sizes old) (g.D.Disk.sizes new) was same c.replay-read.ensures.call.unchanged (g.D.Disk.images old) (g.D.Disk.images new) c.replay-read.ensures.call.crash.no_other (c.requires.ready c.if-self.false))

pub returns-in-Err-clause-root : goal.returns-in-Err-clause-root
returns-in-Err-clause-root g c = subst HasRoot (sym c.stop_at.ensures) refl

pub returns-in-Err-clause-answer : goal.returns-in-Err-clause-answer
returns-in-Err-clause-answer g c = λ running.
    let root = c.in-Some.field-0.root in
    let log = c.in-Some.field-0.log in
    let old = c.args.disk.now in
    let new = c.replay-read.new.disk in
    let was : c.args.self.now.force ≡ Some (record { root = c.in-Some.field-0.root; log = c.in-Some.field-0.log }) = sym c.take.ensures.value ∙ c.in-Some.is in
    let P : StoreFault → Type 0 = λ f. IsCopyAnswer {T = Option ℕ} (TellsAll (g.D.Disk.seen c.args.disk.now)) (Err f) in
    subst P (sym c.of_log-fault.ensures) (replay_answer (Option ℕ) (g.D.Disk.seen old log.file) (TellsAll (g.D.Disk.seen old)) log c.replay-read.new.self c.args.into.now.items c.replay-read.new.into.items root.log_file c.in-Err.fault (λ all. all log.file)
    (log_runs c.args.self.now root log (g.D.Disk.seen old) (g.D.Disk.sizes old) (g.D.Disk.images old) was (c.requires.ready running)) c.in-Err.ensures.refused)

pub returns-in-Err-clause-stops : goal.returns-in-Err-clause-stops
returns-in-Err-clause-stops g c = λ is. ap (λ (s : RowStore). s.stopped) c.stop_at.ensures ∙ stops_at (Option ℕ) c.of_log-fault.result c.args.self.now.stopped is

pub returns-in-Err-clause-runs : goal.returns-in-Err-clause-runs
returns-in-Err-clause-runs g c = λ none. ap (λ (s : RowStore). s.stopped) c.stop_at.ensures ∙ runs_on (Option ℕ) c.of_log-fault.result c.args.self.now.stopped none
