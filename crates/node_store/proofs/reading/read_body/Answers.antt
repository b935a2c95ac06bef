use Rattle.node_store.proofs.ReadingRecords.{from_place, reads_on, goes_on, ends, goes_wrong}
use Rattle.node_store.proofs.reading.read_body.Goals as goal

pub returns-in-None : goal.returns-in-None
returns-in-None c = goes_wrong _ _ c.args.body.now _ c.records.offset c.records.invariant (from_place c.records.offset c.args.body.now) (rw c.in-None.is at c.in_ok-count.ensures)

pub returns-then-offset-body : goal.returns-then-offset-body
returns-then-offset-body c =
    let on = reads_on _ _ _ c.args.body.now _ c.records.offset c.in-Some.count c.records.invariant (from_place c.records.offset c.args.body.now) (rw c.in-Some.is at c.in_ok-count.ensures) in
    ends _ _ c.args.body.now c.records.offset c.in-Some.count on c.if-offset-body.true

pub records-preserved : goal.records-preserved
records-preserved c =
    let on = reads_on _ _ _ c.args.body.now _ c.records.offset c.in-Some.count c.records.invariant (from_place c.records.offset c.args.body.now) (rw c.in-Some.is at c.in_ok-count.ensures) in
    goes_on _ _ c.args.body.now c.records.offset c.in-Some.count on c.if-offset-body.false
