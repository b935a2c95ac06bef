use Rattle.std.proofs.Common.{sym, subst, List}
use Rattle.std.specs.List.{AllByRecursion}
use Rattle.records.specs.declared.record.Record.{Record}
use Rattle.records.specs.Spelling.{IsRecord}
use Rattle.node_core.proofs.ToldRecords.{serve_records}
use Rattle.node_store.proofs.serve.prepared.Goals as goal

pub piece_of-requires : goal.piece_of-requires
piece_of-requires c =
    let r = c.requires in
    subst (λ (items : List Record). AllByRecursion IsRecord items) (sym c.in-Ok.ensures.ok.records) (serve_records (record { node = c.args.node.now; rows = c.args.rows.now }) c.args.msg.now c.args.now r.made r.numbers r.range r.from_two).each
