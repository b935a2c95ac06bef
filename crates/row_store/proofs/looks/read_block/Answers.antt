use Rattle.std.proofs.Common.{sym, subst, Err}
use Rattle.mds_base.specs.declared.store_fault.StoreFault.{StoreFault}
use Rattle.row_store.specs.Answers.{IsLookAnswer}
use Rattle.row_store.specs.Store.{TellsAll}
use Rattle.row_store.proofs.KeptBlocks.{device_answer}
use Rattle.row_store.proofs.looks.read_block.Goals as goal

pub returns-in-Err-clause-answer : goal.returns-in-Err-clause-answer
returns-in-Err-clause-answer g c =
    let P : StoreFault → Type 0 = λ f. IsLookAnswer {T = Unit {0}} (TellsAll (g.D.Disk.seen c.args.disk.now)) (Err f) in
    subst P (sym c.of_table.ensures) (device_answer (Unit {0}) (Unit {0}) c.file.result c.in-Err.fault (TellsAll (g.D.Disk.seen c.args.disk.now)) c.in-Err.ensures.answer)
