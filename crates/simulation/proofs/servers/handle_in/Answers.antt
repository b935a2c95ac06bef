use Rattle.simulation.proofs.ServeHandled.{handled_in}
use Rattle.simulation.proofs.ServeStep.{one_message}
use Rattle.simulation.proofs.servers.handle_in.Goals as goal

pub serve_batch-requires-clause-one : goal.serve_batch-requires-clause-one
serve_batch-requires-clause-one g c = (c.requires.one.0, one_message c.requires.one c.requires.one.0 c.requires.one.1)

pub returns : goal.returns
returns g c =
    let d = g.D.Disk in
    let e = c.serve_batch.ensures in
    handled_in d.seen d.images d.faults d.lasts d.fails c.args.store.now c.serve_batch.new.self c.args.list.now c.args.place c.args.moment c.serve_batch.result c.requires.one e.served e.refused e.down e.same e.told e.call
