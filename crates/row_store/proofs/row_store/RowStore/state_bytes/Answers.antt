use Rattle.std.proofs.Common.{◌≡◌, ◌∙◌, sym, ap, subst, refl}
use Rattle.mds_out.specs.Known.{OnTold}
use Rattle.row_store.specs.declared.row_store.RowStore.{RowStore}
use Rattle.row_store.specs.Damages.{IsStateBad, IsRefusal}
use Rattle.row_store.specs.Store.{HoldsState, reading}
use Rattle.row_store.specs.Value.{Keeps, IsReady, stops_by, state_of}
use Rattle.row_store.proofs.Appends.{ready_same, keeps_same}
use Rattle.row_store.proofs.Bodies.{one_state, state_kept, state_refused}
use Rattle.row_store.proofs.Told.{stops_at, runs_on}
use Rattle.std.proofs.Common.{ℕ}
use Rattle.row_store.proofs.row_store.RowStore.state_bytes.Goals as goal

pub returns-in-Ok-clause-state : goal.returns-in-Ok-clause-state
returns-in-Ok-clause-state g c = λ tells kept rows keeps.
    let P : ℕ → Type 0 = λ file. OnTold (g.D.Disk.seen c.args.disk.now file) (HoldsState c.read_state.new.into.items) in
    one_state (g.D.Disk.seen c.args.disk.now (state_of c.args.self.now.force)) c.read_state.new.into.items kept.state (tells (state_of c.args.self.now.force))
    (state_kept c.args.self.now kept rows (reading (g.D.Disk.seen c.args.disk.now)) keeps c.requires.root) (subst P c.state_file-file.ensures c.in-Ok.ensures.state)

pub returns-in-Ok-clause-kept : goal.returns-in-Ok-clause-kept
returns-in-Ok-clause-kept g c = λ kept rows keeps.
    keeps_same c.args.self.now c.args.self.now.pool c.args.self.now.stopped (g.D.Disk.seen c.args.disk.now) (g.D.Disk.seen c.read_state.new.disk) (g.D.Disk.sizes c.args.disk.now) (g.D.Disk.sizes c.read_state.new.disk) kept rows c.read_state.ensures.call.unchanged keeps

pub returns-in-Ok-clause-ready : goal.returns-in-Ok-clause-ready
returns-in-Ok-clause-ready g c = λ running.
    ready_same c.args.self.now c.args.self.now.pool c.args.self.now.stopped (g.D.Disk.seen c.args.disk.now) (g.D.Disk.seen c.read_state.new.disk) (g.D.Disk.sizes c.args.disk.now) (g.D.Disk.sizes c.read_state.new.disk)
    (g.D.Disk.images c.args.disk.now) (g.D.Disk.images c.read_state.new.disk) c.read_state.ensures.call.unchanged c.read_state.ensures.call.crash refl (c.requires.ready running)

pub returns-in-Err-clause-refused : goal.returns-in-Err-clause-refused
returns-in-Err-clause-refused g c = λ running.
    let P : ℕ → Type 0 = λ file. IsRefusal (λ bad offset wrong. (bad ≡ file) × OnTold (g.D.Disk.seen c.args.disk.now file) (IsStateBad offset wrong)) c.in-Err.fault in
    state_refused c.args.self.now (g.D.Disk.seen c.args.disk.now) c.in-Err.fault c.requires.root (subst P c.state_file-file.ensures c.in-Err.ensures.refused)

pub returns-in-Err-clause-kept : goal.returns-in-Err-clause-kept
returns-in-Err-clause-kept g c = λ kept rows keeps.
    let P : RowStore → Type 0 = λ s. Keeps s kept rows (reading (g.D.Disk.seen c.read_state.new.disk)) in
    subst P (sym c.stop_at.ensures) (keeps_same c.args.self.now c.args.self.now.pool (stops_by c.in-Err.fault c.args.self.now.stopped) (g.D.Disk.seen c.args.disk.now) (g.D.Disk.seen c.read_state.new.disk)
    (g.D.Disk.sizes c.args.disk.now) (g.D.Disk.sizes c.read_state.new.disk) kept rows c.read_state.ensures.call.unchanged keeps)

pub returns-in-Err-clause-ready : goal.returns-in-Err-clause-ready
returns-in-Err-clause-ready g c = λ running.
    let P : RowStore → Type 0 = λ s. IsReady s (g.D.Disk.seen c.read_state.new.disk) (g.D.Disk.sizes c.read_state.new.disk) (g.D.Disk.images c.read_state.new.disk) in
    subst P (sym c.stop_at.ensures) (ready_same c.args.self.now c.args.self.now.pool (stops_by c.in-Err.fault c.args.self.now.stopped) (g.D.Disk.seen c.args.disk.now) (g.D.Disk.seen c.read_state.new.disk)
    (g.D.Disk.sizes c.args.disk.now) (g.D.Disk.sizes c.read_state.new.disk) (g.D.Disk.images c.args.disk.now) (g.D.Disk.images c.read_state.new.disk) c.read_state.ensures.call.unchanged c.read_state.ensures.call.crash refl (c.requires.ready c.if-self.false))

pub returns-in-Err-clause-force : goal.returns-in-Err-clause-force
returns-in-Err-clause-force g c = ap (λ (s : RowStore). s.force) c.stop_at.ensures

pub returns-in-Err-clause-stops : goal.returns-in-Err-clause-stops
returns-in-Err-clause-stops g c = λ is. ap (λ (s : RowStore). s.stopped) c.stop_at.ensures ∙ stops_at (Unit {0}) c.in-Err.fault c.args.self.now.stopped is

pub returns-in-Err-clause-runs : goal.returns-in-Err-clause-runs
returns-in-Err-clause-runs g c = λ none. ap (λ (s : RowStore). s.stopped) c.stop_at.ensures ∙ runs_on (Unit {0}) c.in-Err.fault c.args.self.now.stopped none
