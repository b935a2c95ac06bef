use Rattle.std.proofs.Common.{ℕ, ◌∙◌}
use Rattle.mds_base.specs.declared.store_fault.Damage.{Damage}
use Rattle.row_store.specs.Damages.{IsRefusal, IsFirstBad, IsBadUnder, IsLogBad}
use Rattle.row_store.specs.Store.{TellsAll, reading}
use Rattle.row_store.proofs.Firsts.{err_at}
use Rattle.row_store.proofs.Opens.{bad_of, refusal_more, tables_bad, log_bad, open_on, state_on}
use Rattle.row_store.proofs.Told.{same_seen}
use Rattle.row_store.proofs.Joined.{unchanged_on}
use Rattle.row_store.proofs.opening.open_under.Goals as goal

pub returns-in_err-tables-clause-refused : goal.returns-in_err-tables-clause-refused
returns-in_err-tables-clause-refused g c =
    let seen = g.D.Disk.seen c.args.disk.now in
    let mid = g.D.Disk.seen c.see_state.new.disk in
    let same = same_seen (g.D.Disk.seen c.args.disk.now) (g.D.Disk.seen c.see_state.new.disk) (g.D.Disk.sizes c.args.disk.now) (g.D.Disk.sizes c.see_state.new.disk) c.in_ok-see_state.ensures.call.unchanged in
    let P : ℕ → ℕ → Damage → Type 0 = λ file offset wrong. TellsAll (g.D.Disk.seen c.args.disk.now) → IsBadUnder c.args.root.now file offset wrong (reading (g.D.Disk.seen c.args.disk.now)) in
    let Q : ℕ → ℕ → Damage → Type 0 = λ file offset wrong. TellsAll (g.D.Disk.seen c.see_state.new.disk) → IsFirstBad c.args.root.now.tables file offset wrong (reading (g.D.Disk.seen c.see_state.new.disk)) in
    err_at c.from_residual-in_err-tables.result c.in_err-tables.field-0.0 (IsRefusal P) c.from_residual-in_err-tables.ensures.1
    (refusal_more Q P c.in_err-tables.field-0.0 (λ file offset wrong bad. tables_bad c.args.root.now seen mid file offset wrong same c.in_ok-see_state.ensures.state.told bad) (rw c.files.ensures at c.in_err-tables.ensures.refused))

pub returns-in_err-log-clause-refused : goal.returns-in_err-log-clause-refused
returns-in_err-log-clause-refused g c =
    let seen = g.D.Disk.seen c.args.disk.now in
    let last = g.D.Disk.seen c.open_tables.new.disk in
    let first_call = c.in_ok-see_state.ensures.call in
    let next_call = c.in_ok-tables.ensures.call in
    let same = same_seen (g.D.Disk.seen c.args.disk.now) (g.D.Disk.seen c.open_tables.new.disk) (g.D.Disk.sizes c.args.disk.now) (g.D.Disk.sizes c.open_tables.new.disk)
    (unchanged_on (g.D.Disk.seen c.args.disk.now) (g.D.Disk.seen c.see_state.new.disk) (g.D.Disk.seen c.open_tables.new.disk) (g.D.Disk.sizes c.args.disk.now) (g.D.Disk.sizes c.see_state.new.disk) (g.D.Disk.sizes c.open_tables.new.disk) first_call.unchanged next_call.unchanged) in
    let there = state_on c.args.root.now.state (g.D.Disk.seen c.see_state.new.disk) (g.D.Disk.seen c.open_tables.new.disk) (g.D.Disk.sizes c.see_state.new.disk) (g.D.Disk.sizes c.open_tables.new.disk) (g.D.Disk.images c.see_state.new.disk) (g.D.Disk.images c.open_tables.new.disk)
    next_call.unchanged next_call.crash c.in_ok-see_state.ensures.state in
    let P : ℕ → ℕ → Damage → Type 0 = λ file offset wrong. TellsAll (g.D.Disk.seen c.args.disk.now) → IsBadUnder c.args.root.now file offset wrong (reading (g.D.Disk.seen c.args.disk.now)) in
    let Q : ℕ → ℕ → Damage → Type 0 = bad_of c.args.root.now.log_file IsLogBad (g.D.Disk.seen c.open_tables.new.disk c.args.root.now.log_file) in
    err_at c.from_residual-in_err-log.result c.in_err-log.field-0.0 (IsRefusal P) c.from_residual-in_err-log.ensures.1
    (refusal_more Q P c.in_err-log.field-0.0 (λ file offset wrong bad. log_bad c.args.root.now c.in_ok-tables.tables.items seen last (g.D.Disk.sizes c.open_tables.new.disk) (g.D.Disk.images c.open_tables.new.disk) file offset wrong same there.told
    (c.in_ok-tables.ensures.files ∙ c.files.ensures) c.in_ok-tables.ensures.tables bad) c.in_err-log.ensures.refused)

pub returns-clause-tables : goal.returns-clause-tables
returns-clause-tables g c =
    open_on c.in_ok-tables.tables.items (g.D.Disk.seen c.open_tables.new.disk) (g.D.Disk.seen c.open_log.new.disk) (g.D.Disk.sizes c.open_tables.new.disk) (g.D.Disk.sizes c.open_log.new.disk) (g.D.Disk.images c.open_tables.new.disk) (g.D.Disk.images c.open_log.new.disk)
    c.in_ok-log.ensures.call.unchanged c.in_ok-log.ensures.call.crash c.in_ok-tables.ensures.tables
