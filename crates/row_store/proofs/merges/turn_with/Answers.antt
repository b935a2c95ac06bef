use Rattle.std.proofs.Common.{sym, subst, Err}
use Rattle.mds_base.specs.declared.store_fault.StoreFault.{StoreFault}
use Rattle.merge_rows.specs.declared.merge.Turn.{Turn}
use Rattle.row_store.specs.Answers.{IsCopyAnswer, IsStoreWriting}
use Rattle.row_store.specs.Store.{TellsAll}
use Rattle.row_store.proofs.Turned.{turned_at, merge_answer, writing_ok, writing_err}
use Rattle.row_store.proofs.merges.turn_with.Goals as goal

pub returns-in-Ok-clause-turned : goal.returns-in-Ok-clause-turned
returns-in-Ok-clause-turned g c =
    let a = c.args.disk.now in
    let b = c.turn.new.disk in
    turned_at c.turn.result c.in-Ok.turn c.args.merge c.args.file c.args.tables.now (g.D.Disk.seen a) (g.D.Disk.seen b) (g.D.Disk.sizes a) (g.D.Disk.sizes b) (g.D.Disk.images b) c.in-Ok.is c.requires.file c.requires.merging.apart c.turn.ensures.writes.elsewhere
    c.turn.ensures.file c.turn.ensures.merging c.turn.ensures.finished c.turn.ensures.rows c.turn.ensures.ready c.turn.ensures.durable

pub returns-in-Ok-clause-call : goal.returns-in-Ok-clause-call
returns-in-Ok-clause-call g c = writing_ok c.in-Ok.turn c.in-Ok.turn c.args.file c.args.merge.builder.file c.args.disk.now c.turn.new.disk c.requires.file c.in-Ok.ensures.writes

pub returns-in-Err-clause-call : goal.returns-in-Err-clause-call
returns-in-Err-clause-call g c =
    let a = c.args.disk.now in
    let b = c.turn.new.disk in
    subst (λ (f : StoreFault). IsStoreWriting {T = Turn} g.D.Disk.seen g.D.Disk.sizes g.D.Disk.images g.D.Disk.moment g.D.Disk.images_since g.D.Disk.faults g.D.Disk.lasts g.D.Disk.fails c.args.file a b (Err f)) (sym c.of_table.ensures)
    (writing_err {T = Turn} {U = Turn} c.in-Err.fault c.args.file c.args.file c.args.merge.builder.file a b c.requires.file c.in-Err.ensures.writes)

pub returns-in-Err-clause-answer : goal.returns-in-Err-clause-answer
returns-in-Err-clause-answer g c =
    let seen = g.D.Disk.seen c.args.disk.now in
    subst (λ (f : StoreFault). IsCopyAnswer {T = Turn} (TellsAll seen) (Err f)) (sym c.of_table.ensures) (merge_answer Turn Turn c.args.file c.args.tables.now seen c.in-Err.fault c.in-Err.ensures.answer)
