use Rattle.std.proofs.Common.{◌≡◌, ◌∙◌, sym, subst, Err}
use Rattle.mds_base.specs.declared.store_fault.StoreFault.{StoreFault}
use Rattle.mds_base.specs.declared.store_fault.StoreFault.TheVariants.{Device}
use Rattle.row_store.specs.Answers.{IsLookAnswer}
use Rattle.row_store.specs.Store.{TellsAll, reading}
use Rattle.row_store.proofs.KeptBlocks.{held_answer, held_no_fault}
use Rattle.row_store.proofs.Told.{told_is}
use Rattle.sorted_table.specs.declared.table_row.Held.{Held}
use Rattle.sorted_table.specs.Looks.{bytes_at}
use Rattle.sorted_table.specs.Tables.{IsSomeTable}
use Rattle.row_store.proofs.looks.held_by.Goals as goal

pub returns-in-Ok-clause-held : goal.returns-in-Ok-clause-held
returns-in-Ok-clause-held c = λ seen is tells rows has.
    let file = c.args.table.now.file in
    c.in-Ok.ensures.held rows (reading seen file) has (told_is (seen file) (λ bytes. c.args.bytes.now ≡ bytes_at c.args.block bytes) (tells file) is)

pub returns-in-Err-clause-answer : goal.returns-in-Err-clause-answer
returns-in-Err-clause-answer c = λ seen is some.
    let file = c.args.table.now.file in
    let P : StoreFault → Type 0 = λ f. IsLookAnswer {T = Held} (TellsAll seen) (Err f) in
    subst P (sym c.of_table.ensures) (held_answer Held Held c.file.result c.in-Err.fault (TellsAll seen) _
    (λ damaged tells. damaged (reading seen file) (told_is (seen file) (IsSomeTable c.args.table.now) (tells file) some) (told_is (seen file) (λ bytes. c.args.bytes.now ≡ bytes_at c.args.block bytes) (tells file) is))
    c.in-Err.ensures.answer)

pub returns-in-Err-clause-no_fault : goal.returns-in-Err-clause-no_fault
returns-in-Err-clause-no_fault c = λ device.
    let same : c.of_table.result ≡ Device = cc in
    held_no_fault Held c.file.result c.in-Err.fault _ c.in-Err.ensures.answer (sym c.of_table.ensures ∙ same)
