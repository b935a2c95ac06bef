use Rattle.std.proofs.Common.{sym, subst, drop, Bool, Option, Some, true, Ok, Err}
use Rattle.merge_rows.specs.declared.merge.Turn.{Turn}
use Rattle.row_store.specs.declared.merges.Pending.{Pending}
use Rattle.row_store.specs.declared.row_store.RowStore.{RowStore}
use Rattle.row_store.specs.Files.{named_by}
use Rattle.row_store.specs.Steps.{IsKeeping}
use Rattle.row_store.specs.Turning.{IsTurned}
use Rattle.row_store.specs.Value.{IsMergeReady, stops_by}
use Rattle.row_store.proofs.Going.{keeping_on}
use Rattle.row_store.proofs.Leaving.{ok_not_device}
use Rattle.row_store.proofs.Told.{stops_at}
use Rattle.row_store.proofs.Turned.{keeping_turned, turned_tables, writing_as, writing_refused}
use Rattle.row_store.proofs.row_store.RowStore.go_on.Goals as goal

pub bring_in-requires-clause-ready : goal.bring_in-requires-clause-ready
bring_in-requires-clause-ready g c =
    let store = c.args.self.now in
    let a = c.args.disk.now in
    let m = c.turn.new.disk in
    let file = c.args.pending.file in
    let newer = c.args.pending.newer in
    let idle : IsMergeReady store.merge (named_by store.force) store.tables.items (g.D.Disk.seen m) (g.D.Disk.sizes m) =
    subst (λ (merge : Option Pending). IsMergeReady merge (named_by store.force) store.tables.items (g.D.Disk.seen m) (g.D.Disk.sizes m)) (sym c.requires.taken) tt in
    (keeping_turned (Ok c.in-Ok-Finished.field-0) store c.turn.new.pool file store.merge store.stopped a m (g.met.D.Disk.counts_now m) c.requires.ready c.requires.pending.apart c.in-Ok-Finished.ensures.call c.turn.ensures.frames idle c.requires.running
    (λ device. absurd (ok_not_device c.in-Ok-Finished.field-0 device))).ready c.requires.running

pub bring_in-requires-clause-merged : goal.bring_in-requires-clause-merged
bring_in-requires-clause-merged g c =
    let store = c.args.self.now in
    let a = c.args.disk.now in
    let m = c.turn.new.disk in
    let file = c.args.pending.file in
    let newer = c.args.pending.newer in
    let idle : IsMergeReady store.merge (named_by store.force) store.tables.items (g.D.Disk.seen m) (g.D.Disk.sizes m) =
    subst (λ (merge : Option Pending). IsMergeReady merge (named_by store.force) store.tables.items (g.D.Disk.seen m) (g.D.Disk.sizes m)) (sym c.requires.taken) tt in
    let P : Turn → Type 0 = λ t. IsTurned t file (drop newer store.tables.items) (g.D.Disk.seen m) (g.D.Disk.sizes m) (g.D.Disk.images m) in
    let turned = subst P c.in-Ok-Finished.field-0-is (turned_tables c.in-Ok-Finished.field-0 file c.deref.result.now store.tables.items newer (g.D.Disk.seen m) (g.D.Disk.sizes m) (g.D.Disk.images m) c.deref.ensures.value c.in-Ok-Finished.ensures.turned) in
    turned.1

pub returns-in-Ok-More-clause-step : goal.returns-in-Ok-More-clause-step
returns-in-Ok-More-clause-step g c =
    let store = c.args.self.now in
    let a = c.args.disk.now in
    let m = c.turn.new.disk in
    let file = c.args.pending.file in
    let newer = c.args.pending.newer in
    let idle : IsMergeReady store.merge (named_by store.force) store.tables.items (g.D.Disk.seen m) (g.D.Disk.sizes m) =
    subst (λ (merge : Option Pending). IsMergeReady merge (named_by store.force) store.tables.items (g.D.Disk.seen m) (g.D.Disk.sizes m)) (sym c.requires.taken) tt in
    let P : Turn → Type 0 = λ t. IsTurned t file (drop newer store.tables.items) (g.D.Disk.seen m) (g.D.Disk.sizes m) (g.D.Disk.images m) in
    let turned = subst P c.in-Ok-More.field-0-is (turned_tables c.in-Ok-More.field-0 file c.deref.result.now store.tables.items newer (g.D.Disk.seen m) (g.D.Disk.sizes m) (g.D.Disk.images m) c.deref.ensures.value c.in-Ok-More.ensures.turned) in
    keeping_turned (Ok true) store c.turn.new.pool file (Some (record { file = file; newer = newer; merge = c.in-Ok-More.merge })) store.stopped a m (g.met.D.Disk.counts_now m) c.requires.ready c.requires.pending.apart
    (writing_as c.in-Ok-More.field-0 true file a m c.in-Ok-More.ensures.call) c.turn.ensures.frames
    (record { file_is = turned.0; apart = c.requires.pending.apart; some = c.requires.pending.some; merging = turned.1 }) c.requires.running (λ device. absurd (ok_not_device true device))

pub returns-in-Ok-Finished-clause-step : goal.returns-in-Ok-Finished-clause-step
returns-in-Ok-Finished-clause-step g c =
    let store = c.args.self.now in
    let a = c.args.disk.now in
    let m = c.turn.new.disk in
    let file = c.args.pending.file in
    let newer = c.args.pending.newer in
    let idle : IsMergeReady store.merge (named_by store.force) store.tables.items (g.D.Disk.seen m) (g.D.Disk.sizes m) =
    subst (λ (merge : Option Pending). IsMergeReady merge (named_by store.force) store.tables.items (g.D.Disk.seen m) (g.D.Disk.sizes m)) (sym c.requires.taken) tt in
    let b = c.bring_in.new.disk in
    let now : RowStore = record store { pool = c.turn.new.pool } in
    let first = keeping_turned (Ok c.in-Ok-Finished.field-0) store c.turn.new.pool file store.merge store.stopped a m (g.met.D.Disk.counts_now m) c.requires.ready c.requires.pending.apart c.in-Ok-Finished.ensures.call c.turn.ensures.frames idle c.requires.running
    (λ device. absurd (ok_not_device c.in-Ok-Finished.field-0 device)) in
    keeping_on c.in-Ok-Finished.field-0 c.bring_in.result store now c.bring_in.new.self a m b (g.met.D.Disk.lasts_on a m b) (g.met.D.Disk.fails_after a m b) first c.bring_in.ensures.step

pub returns-in-Err-clause-step : goal.returns-in-Err-clause-step
returns-in-Err-clause-step g c =
    let store = c.args.self.now in
    let a = c.args.disk.now in
    let m = c.turn.new.disk in
    let file = c.args.pending.file in
    let newer = c.args.pending.newer in
    let idle : IsMergeReady store.merge (named_by store.force) store.tables.items (g.D.Disk.seen m) (g.D.Disk.sizes m) =
    subst (λ (merge : Option Pending). IsMergeReady merge (named_by store.force) store.tables.items (g.D.Disk.seen m) (g.D.Disk.sizes m)) (sym c.requires.taken) tt in
    let fault = c.in-Err.fault in
    let P : RowStore → Type 0 = λ now. IsKeeping {T = Bool} g.D.Disk.seen g.D.Disk.sizes g.D.Disk.images g.D.Disk.moment g.D.Disk.images_since g.D.Disk.faults g.D.Disk.lasts g.D.Disk.fails store now a m (Err fault) in
    subst P (sym c.stop_at.ensures) (keeping_turned (Err fault) store c.turn.new.pool file store.merge (stops_by fault store.stopped) a m (g.met.D.Disk.counts_now m) c.requires.ready c.requires.pending.apart
    (writing_refused {T = Turn} {U = Bool} fault file a m c.in-Err.ensures.call) c.turn.ensures.frames idle tt (λ is. stops_at Bool fault store.stopped is))
