use Rattle.records.specs.declared.fault.RecordFault.TheVariants.{Short, Bad}
use Rattle.node_store.proofs.ReadingRecords.{no_front}
use Rattle.node_store.proofs.reading.front_of.Goals as goal

pub returns-in-Err-Short : goal.returns-in-Err-Short
returns-in-Err-Short c = no_front c.args.bytes.now Short (rw c.in-Err-Short.field-0-is at c.in-Err-Short.ensures.only) (λ e. cc)

pub returns-in-Err-Bad : goal.returns-in-Err-Bad
returns-in-Err-Bad c = no_front c.args.bytes.now (Bad c.in-Err-Bad.field-0-0) (rw c.in-Err-Bad.field-0-is at c.in-Err-Bad.ensures.only) (λ e. cc)
