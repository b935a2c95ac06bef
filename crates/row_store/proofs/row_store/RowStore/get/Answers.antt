use Rattle.std.proofs.Common.{◌∙◌, sym, ap, subst, List, Option}
use Rattle.mds_base.specs.declared.attr.Attr.{Attr}
use Rattle.row_store.specs.declared.row_store.RowStore.{RowStore}
use Rattle.row_store.specs.Store.{reading}
use Rattle.frame_pool.specs.Frames.{free_frames}
use Rattle.row_store.specs.Value.{Keeps, IsReady, HasRoot, stops_by}
use Rattle.row_store.proofs.Appends.{ready_read, keeps_read}
use Rattle.row_store.proofs.KeptBlocks.{cached_after}
use Rattle.row_store.proofs.Maps.{Finds, found_said, found_under}
use Rattle.sorted_table.specs.Tables.{TableState}
use Rattle.row_store.proofs.Told.{stops_at, runs_on}
use Rattle.row_store.specs.Store.{base_of}
use Rattle.row_store.proofs.row_store.RowStore.get.Goals as goal

pub returns-in-Some-clause-found : goal.returns-in-Some-clause-found
returns-in-Some-clause-found g c = λ tells kept rows keeps.
    found_said (base_of kept) rows c.args.self.now.fresh.entries c.args.key.now c.in-Some.attr keeps.rows_are (sym c.last_said.ensures ∙ c.in-Some.is)

pub returns-in-Ok-clause-found : goal.returns-in-Ok-clause-found
returns-in-Ok-clause-found g c =
    let P : List TableState → Type 0 = λ tables. Finds tables (g.D.Disk.seen c.args.disk.now) c.args.key.now c.in-Ok.found in
    found_under c.args.self.now (g.D.Disk.seen c.args.disk.now) c.args.key.now c.in-Ok.found (sym c.last_said.ensures ∙ c.in_default.is) (subst P c.deref.ensures.value c.in-Ok.ensures.found)

pub returns-in-Ok-clause-kept : goal.returns-in-Ok-clause-kept
returns-in-Ok-clause-kept g c = λ kept rows keeps.
    keeps_read c.args.self.now c.row_in.new.pool c.row_in.new.cache c.args.self.now.stopped (g.D.Disk.seen c.args.disk.now) (g.D.Disk.seen c.row_in.new.disk) (g.D.Disk.sizes c.args.disk.now) (g.D.Disk.sizes c.row_in.new.disk) kept rows c.row_in.ensures.call.unchanged keeps

pub returns-in-Ok-clause-ready : goal.returns-in-Ok-clause-ready
returns-in-Ok-clause-ready g c = λ running.
    ready_read c.args.self.now c.row_in.new.pool c.row_in.new.cache c.args.self.now.stopped (g.D.Disk.seen c.args.disk.now) (g.D.Disk.seen c.row_in.new.disk) (g.D.Disk.sizes c.args.disk.now) (g.D.Disk.sizes c.row_in.new.disk) (g.D.Disk.images c.args.disk.now) (g.D.Disk.images c.row_in.new.disk)
    c.row_in.ensures.call.unchanged c.row_in.ensures.call.crash c.row_in.ensures.frames
    (cached_after c.args.self.now.cache c.row_in.new.cache c.args.self.now.tables.items c.deref.result.now (g.D.Disk.seen c.args.disk.now) (g.D.Disk.seen c.row_in.new.disk) c.deref.ensures.value c.row_in.ensures.call.unchanged.bytes c.row_in.ensures.cache (c.requires running).cached) (c.requires running)

pub returns-in-Err-clause-kept : goal.returns-in-Err-clause-kept
returns-in-Err-clause-kept g c = λ kept rows keeps.
    let P : RowStore → Type 0 = λ s. Keeps s kept rows (reading (g.D.Disk.seen c.row_in.new.disk)) in
    subst P (sym c.stop_at.ensures) (keeps_read c.args.self.now c.row_in.new.pool c.row_in.new.cache (stops_by c.in-Err.fault c.args.self.now.stopped) (g.D.Disk.seen c.args.disk.now) (g.D.Disk.seen c.row_in.new.disk) (g.D.Disk.sizes c.args.disk.now) (g.D.Disk.sizes c.row_in.new.disk) kept rows c.row_in.ensures.call.unchanged keeps)

pub returns-in-Err-clause-ready : goal.returns-in-Err-clause-ready
returns-in-Err-clause-ready g c = λ running.
    let P : RowStore → Type 0 = λ s. IsReady s (g.D.Disk.seen c.row_in.new.disk) (g.D.Disk.sizes c.row_in.new.disk) (g.D.Disk.images c.row_in.new.disk) in
    subst P (sym c.stop_at.ensures) (ready_read c.args.self.now c.row_in.new.pool c.row_in.new.cache (stops_by c.in-Err.fault c.args.self.now.stopped) (g.D.Disk.seen c.args.disk.now) (g.D.Disk.seen c.row_in.new.disk) (g.D.Disk.sizes c.args.disk.now) (g.D.Disk.sizes c.row_in.new.disk)
    (g.D.Disk.images c.args.disk.now) (g.D.Disk.images c.row_in.new.disk) c.row_in.ensures.call.unchanged c.row_in.ensures.call.crash c.row_in.ensures.frames
    (cached_after c.args.self.now.cache c.row_in.new.cache c.args.self.now.tables.items c.deref.result.now (g.D.Disk.seen c.args.disk.now) (g.D.Disk.seen c.row_in.new.disk) c.deref.ensures.value c.row_in.ensures.call.unchanged.bytes c.row_in.ensures.cache (c.requires c.if-self.false).cached) (c.requires c.if-self.false))

pub returns-in-Err-clause-root : goal.returns-in-Err-clause-root
returns-in-Err-clause-root g c = λ has. subst HasRoot (sym c.stop_at.ensures) has

pub returns-in-Err-clause-frames : goal.returns-in-Err-clause-frames
returns-in-Err-clause-frames g c = ap (λ (s : RowStore). free_frames s.pool) c.stop_at.ensures ∙ c.row_in.ensures.frames

pub returns-in-Err-clause-stops : goal.returns-in-Err-clause-stops
returns-in-Err-clause-stops g c = λ is. ap (λ (s : RowStore). s.stopped) c.stop_at.ensures ∙ stops_at (Option Attr) c.in-Err.fault c.args.self.now.stopped is

pub returns-in-Err-clause-runs : goal.returns-in-Err-clause-runs
returns-in-Err-clause-runs g c = λ no. ap (λ (s : RowStore). s.stopped) c.stop_at.ensures ∙ runs_on (Option Attr) c.in-Err.fault c.args.self.now.stopped no
