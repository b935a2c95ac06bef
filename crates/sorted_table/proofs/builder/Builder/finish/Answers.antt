use Rattle.std.proofs.Common.{ℕ, List, [], subst, sym}
use Rattle.mds_out.specs.Disk.{LeavesOnly}
use Rattle.gate_log.specs.LogState.{IsElsewhereOld}
use Rattle.std.proofs.lemmas.Result.{IfOk-weaker}
use Rattle.sorted_table.specs.declared.table_row.TableRow.{TableRow}
use Rattle.sorted_table.specs.Building.{closed, IsBuilt, Builds}
use Rattle.sorted_table.specs.Tables.{TableState, IsReady, HoldsRows}
use Rattle.sorted_table.proofs.Elsewhere.{elsewhere_on}
use Rattle.sorted_table.proofs.builder.Builder.finish.Goals as goal

pub returns-clause-any_moment : goal.returns-clause-any_moment
returns-clause-any_moment g c =
    let P : ℕ → Type 0 = λ file. LeavesOnly g.D.Disk.moment g.D.Disk.images_since c.write_last.new.disk c.seal.new.disk (IsElsewhereOld file (g.D.Disk.images c.write_last.new.disk)) in
    elsewhere_on g.D.Disk.moment g.D.Disk.images_since c.args.self.file c.args.disk.now c.write_last.new.disk c.seal.new.disk (g.D.Disk.images c.args.disk.now) (g.D.Disk.images c.write_last.new.disk) (g.met.D.Disk.counts_now c.write_last.new.disk)
    c.write_last.ensures.any_moment (subst P c.write_last.ensures.file c.seal.ensures.any_moment)

pub returns-clause-ready : goal.returns-clause-ready
returns-clause-ready g c =
    let mid = c.write_last.new.self in
    let seen = g.D.Disk.seen c.write_last.new.disk in
    IfOk-weaker c.seal.result
    (λ table. (full : List (List TableRow)) (rows : List TableRow) → Builds mid full [] rows (seen mid.file) → IsReady table (g.D.Disk.seen c.seal.new.disk) (g.D.Disk.sizes c.seal.new.disk))
    (λ table. (rows : List TableRow) → IsBuilt c.args.self rows (g.D.Disk.seen c.args.disk.now c.args.self.file) → IsReady table (g.D.Disk.seen c.seal.new.disk) (g.D.Disk.sizes c.seal.new.disk))
    (λ table given rows built.
    let P : ℕ → Type 0 = λ file. Builds mid (closed built.full built.present) [] rows (seen file) in
    given (closed built.full built.present) rows (subst P (sym c.write_last.ensures.file) (c.in_ok-write_last.ensures.written built.full built.present rows built.builds)))
    c.seal.ensures.ready

pub returns-clause-rows : goal.returns-clause-rows
returns-clause-rows g c =
    let mid = c.write_last.new.self in
    let seen = g.D.Disk.seen c.write_last.new.disk in
    IfOk-weaker c.seal.result
    (λ table. (full : List (List TableRow)) (rows : List TableRow) → Builds mid full [] rows (seen mid.file) → HoldsRows table (g.D.Disk.seen c.seal.new.disk) rows)
    (λ table. (rows : List TableRow) → IsBuilt c.args.self rows (g.D.Disk.seen c.args.disk.now c.args.self.file) → HoldsRows table (g.D.Disk.seen c.seal.new.disk) rows)
    (λ table given rows built.
    let P : ℕ → Type 0 = λ file. Builds mid (closed built.full built.present) [] rows (seen file) in
    given (closed built.full built.present) rows (subst P (sym c.write_last.ensures.file) (c.in_ok-write_last.ensures.written built.full built.present rows built.builds)))
    c.seal.ensures.rows
