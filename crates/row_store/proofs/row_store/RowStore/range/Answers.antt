use Rattle.std.proofs.Common.{◌∙◌, sym, ap, subst, List}
use Rattle.mds_base.specs.declared.row.Row.{Row}
use Rattle.row_store.specs.declared.row_store.RowStore.{RowStore}
use Rattle.row_store.specs.Seeks.{IsMapOf}
use Rattle.row_store.specs.Store.{reading}
use Rattle.frame_pool.specs.Frames.{free_frames}
use Rattle.row_store.specs.Value.{Keeps, IsReady, HasRoot, stops_by}
use Rattle.row_store.proofs.Appends.{ready_same, keeps_same}
use Rattle.row_store.proofs.Passing.{map_of_kept}
use Rattle.row_store.proofs.Told.{stops_at, runs_on}
use Rattle.sorted_table.specs.Tables.{TableState}
use Rattle.row_store.proofs.row_store.RowStore.range.Goals as goal

pub returns-in-Ok-clause-listed : goal.returns-in-Ok-clause-listed
returns-in-Ok-clause-listed g c = λ tells kept rows keeps.
    let P : List TableState → Type 0 = λ t. IsMapOf t c.args.self.now.fresh.entries rows (reading (g.D.Disk.seen c.args.disk.now)) in
    c.in-Ok.ensures.listed tells rows (subst P (sym c.deref.ensures.value) (map_of_kept c.args.self.now kept rows (reading (g.D.Disk.seen c.args.disk.now)) keeps))

pub returns-in-Ok-clause-kept : goal.returns-in-Ok-clause-kept
returns-in-Ok-clause-kept g c = λ kept rows keeps.
    keeps_same c.args.self.now c.page.new.pool c.args.self.now.stopped (g.D.Disk.seen c.args.disk.now) (g.D.Disk.seen c.page.new.disk) (g.D.Disk.sizes c.args.disk.now) (g.D.Disk.sizes c.page.new.disk) kept rows c.page.ensures.call.unchanged keeps

pub returns-in-Ok-clause-ready : goal.returns-in-Ok-clause-ready
returns-in-Ok-clause-ready g c = λ running.
    ready_same c.args.self.now c.page.new.pool c.args.self.now.stopped (g.D.Disk.seen c.args.disk.now) (g.D.Disk.seen c.page.new.disk) (g.D.Disk.sizes c.args.disk.now) (g.D.Disk.sizes c.page.new.disk) (g.D.Disk.images c.args.disk.now) (g.D.Disk.images c.page.new.disk)
    c.page.ensures.call.unchanged c.page.ensures.call.crash c.page.ensures.frames (c.requires running)

pub returns-in-Err-clause-kept : goal.returns-in-Err-clause-kept
returns-in-Err-clause-kept g c = λ kept rows keeps.
    let P : RowStore → Type 0 = λ s. Keeps s kept rows (reading (g.D.Disk.seen c.page.new.disk)) in
    subst P (sym c.stop_at.ensures) (keeps_same c.args.self.now c.page.new.pool (stops_by c.in-Err.fault c.args.self.now.stopped) (g.D.Disk.seen c.args.disk.now) (g.D.Disk.seen c.page.new.disk) (g.D.Disk.sizes c.args.disk.now) (g.D.Disk.sizes c.page.new.disk) kept rows c.page.ensures.call.unchanged keeps)

pub returns-in-Err-clause-ready : goal.returns-in-Err-clause-ready
returns-in-Err-clause-ready g c = λ running.
    let P : RowStore → Type 0 = λ s. IsReady s (g.D.Disk.seen c.page.new.disk) (g.D.Disk.sizes c.page.new.disk) (g.D.Disk.images c.page.new.disk) in
    subst P (sym c.stop_at.ensures) (ready_same c.args.self.now c.page.new.pool (stops_by c.in-Err.fault c.args.self.now.stopped) (g.D.Disk.seen c.args.disk.now) (g.D.Disk.seen c.page.new.disk) (g.D.Disk.sizes c.args.disk.now) (g.D.Disk.sizes c.page.new.disk)
    (g.D.Disk.images c.args.disk.now) (g.D.Disk.images c.page.new.disk) c.page.ensures.call.unchanged c.page.ensures.call.crash c.page.ensures.frames (c.requires c.if-self.false))

pub returns-in-Err-clause-root : goal.returns-in-Err-clause-root
returns-in-Err-clause-root g c = λ has. subst HasRoot (sym c.stop_at.ensures) has

pub returns-in-Err-clause-frames : goal.returns-in-Err-clause-frames
returns-in-Err-clause-frames g c = ap (λ (s : RowStore). free_frames s.pool) c.stop_at.ensures ∙ c.page.ensures.frames

pub returns-in-Err-clause-stops : goal.returns-in-Err-clause-stops
returns-in-Err-clause-stops g c = λ is. ap (λ (s : RowStore). s.stopped) c.stop_at.ensures ∙ stops_at (List Row) c.in-Err.fault c.args.self.now.stopped is

pub returns-in-Err-clause-runs : goal.returns-in-Err-clause-runs
returns-in-Err-clause-runs g c = λ no. ap (λ (s : RowStore). s.stopped) c.stop_at.ensures ∙ runs_on (List Row) c.in-Err.fault c.args.self.now.stopped no
