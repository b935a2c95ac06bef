use Rattle.std.proofs.Common.{◌≡◌, ◌∙◌, sym, ap, subst, List, Option, Bool, false}
use Rattle.mds_base.specs.declared.attr.Attr.{Attr}
use Rattle.mds_base.specs.declared.row_key.RowKey.{RowKey}
use Rattle.std.specs.Option.{option_map}
use Rattle.mds_base.specs.RowKeys.{RowMap}
use Rattle.mds_out.specs.Disk.{Contents}
use Rattle.row_store.specs.declared.row_store.RowStore.{RowStore}
use Rattle.row_store.specs.Seeks.{IsMapOf, IsFirst, least_from}
use Rattle.row_store.specs.Store.{Kept, TellsAll, reading}
use Rattle.frame_pool.specs.Frames.{free_frames}
use Rattle.row_store.specs.Value.{Keeps, IsReady, HasRoot, stops_by}
use Rattle.row_store.proofs.Appends.{ready_same, keeps_same}
use Rattle.row_store.proofs.Pages.{least_is}
use Rattle.row_store.proofs.Passing.{map_of_kept}
use Rattle.row_store.proofs.Told.{stops_at, runs_on}
use Rattle.sorted_table.specs.Starts.{before_at, place_of}
use Rattle.sorted_table.specs.Tables.{TableState}
use Rattle.row_store.proofs.row_store.RowStore.seek.Goals as goal

-- the first row from a key on has the least key that is not below it
least : (store : RowStore) (seen : Contents) (tables : List TableState) (key place : RowKey) (past : Bool) (found : Option (RowKey × Attr)) → tables ≡ store.tables.items → place ≡ key → past ≡ false
    → (TellsAll seen → (rows : RowMap) → IsMapOf tables store.fresh.entries rows (reading seen) → IsFirst rows (before_at place past) found)
    → TellsAll seen → (kept : Option Kept) (rows : RowMap) → Keeps store kept rows (reading seen) → option_map (λ row. row.0) found ≡ least_from rows key
least store seen tables key place past found same at not_past first tells kept rows keeps =
    let P : List TableState → Type 0 = λ t. IsMapOf t store.fresh.entries rows (reading seen) in
    let Q : RowKey → Type 0 = λ p. IsFirst rows (before_at p past) found in
    let R : Bool → Type 0 = λ b. IsFirst rows (before_at key b) found in
    least_is rows key found (subst R not_past (subst Q at (first tells rows (subst P (sym same) (map_of_kept store kept rows (reading seen) keeps)))))

pub returns-in-Ok-clause-found : goal.returns-in-Ok-clause-found
returns-in-Ok-clause-found g c = λ tells kept rows keeps.
    c.key_of.ensures ∙ least c.args.self.now (g.D.Disk.seen c.args.disk.now) c.deref.result.now c.args.key.now (place_of c.at-start.result) c.at-start.result.past c.in-Ok.found c.deref.ensures.value c.at-start.ensures.place c.at-start.ensures.past c.in-Ok.ensures.found tells kept rows keeps

pub returns-in-Ok-clause-kept : goal.returns-in-Ok-clause-kept
returns-in-Ok-clause-kept g c = λ kept rows keeps.
    keeps_same c.args.self.now c.first_row.new.pool c.args.self.now.stopped (g.D.Disk.seen c.args.disk.now) (g.D.Disk.seen c.first_row.new.disk) (g.D.Disk.sizes c.args.disk.now) (g.D.Disk.sizes c.first_row.new.disk) kept rows c.first_row.ensures.call.unchanged keeps

pub returns-in-Ok-clause-ready : goal.returns-in-Ok-clause-ready
returns-in-Ok-clause-ready g c = λ running.
    ready_same c.args.self.now c.first_row.new.pool c.args.self.now.stopped (g.D.Disk.seen c.args.disk.now) (g.D.Disk.seen c.first_row.new.disk) (g.D.Disk.sizes c.args.disk.now) (g.D.Disk.sizes c.first_row.new.disk) (g.D.Disk.images c.args.disk.now) (g.D.Disk.images c.first_row.new.disk)
    c.first_row.ensures.call.unchanged c.first_row.ensures.call.crash c.first_row.ensures.frames (c.requires running)

pub returns-in-Err-clause-kept : goal.returns-in-Err-clause-kept
returns-in-Err-clause-kept g c = λ kept rows keeps.
    let P : RowStore → Type 0 = λ s. Keeps s kept rows (reading (g.D.Disk.seen c.first_row.new.disk)) in
    subst P (sym c.stop_at.ensures) (keeps_same c.args.self.now c.first_row.new.pool (stops_by c.in-Err.fault c.args.self.now.stopped) (g.D.Disk.seen c.args.disk.now) (g.D.Disk.seen c.first_row.new.disk) (g.D.Disk.sizes c.args.disk.now) (g.D.Disk.sizes c.first_row.new.disk) kept rows c.first_row.ensures.call.unchanged keeps)

pub returns-in-Err-clause-ready : goal.returns-in-Err-clause-ready
returns-in-Err-clause-ready g c = λ running.
    let P : RowStore → Type 0 = λ s. IsReady s (g.D.Disk.seen c.first_row.new.disk) (g.D.Disk.sizes c.first_row.new.disk) (g.D.Disk.images c.first_row.new.disk) in
    subst P (sym c.stop_at.ensures) (ready_same c.args.self.now c.first_row.new.pool (stops_by c.in-Err.fault c.args.self.now.stopped) (g.D.Disk.seen c.args.disk.now) (g.D.Disk.seen c.first_row.new.disk) (g.D.Disk.sizes c.args.disk.now) (g.D.Disk.sizes c.first_row.new.disk)
    (g.D.Disk.images c.args.disk.now) (g.D.Disk.images c.first_row.new.disk) c.first_row.ensures.call.unchanged c.first_row.ensures.call.crash c.first_row.ensures.frames (c.requires c.if-self.false))

pub returns-in-Err-clause-root : goal.returns-in-Err-clause-root
returns-in-Err-clause-root g c = λ has. subst HasRoot (sym c.stop_at.ensures) has

pub returns-in-Err-clause-frames : goal.returns-in-Err-clause-frames
returns-in-Err-clause-frames g c = ap (λ (s : RowStore). free_frames s.pool) c.stop_at.ensures ∙ c.first_row.ensures.frames

pub returns-in-Err-clause-stops : goal.returns-in-Err-clause-stops
returns-in-Err-clause-stops g c = λ is. ap (λ (s : RowStore). s.stopped) c.stop_at.ensures ∙ stops_at (Option RowKey) c.in-Err.fault c.args.self.now.stopped is

pub returns-in-Err-clause-runs : goal.returns-in-Err-clause-runs
returns-in-Err-clause-runs g c = λ no. ap (λ (s : RowStore). s.stopped) c.stop_at.ensures ∙ runs_on (Option RowKey) c.in-Err.fault c.args.self.now.stopped no
