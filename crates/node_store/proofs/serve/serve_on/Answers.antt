use Rattle.std.proofs.Common.{subst, sym, List}
use Rattle.mds_out.specs.Known.{OnTold}
use Rattle.node_core.specs.Nodes.{NodeAndRows}
use Rattle.node_core.specs.Serving.{serve}
use Rattle.records.specs.declared.record.Record.{Record}
use Rattle.node_store.specs.Store.{LeavesDoubt}
use Rattle.node_store.proofs.Serving.{served_body, bare_leads}
use Rattle.node_store.proofs.StandingAlike.{kept_alike, moment_alike}
use Rattle.node_store.proofs.Stores.{nothing_done}
use Rattle.node_store.proofs.serve.serve_on.Goals as goal

pub returns-in-Ok-clause-kept : goal.returns-in-Ok-clause-kept
returns-in-Ok-clause-kept g c = λ server setup k.
    let r = c.requires in
    let store : NodeAndRows = record { node = c.args.node.now; rows = c.args.rows.now } in
    let b = served_body store c.args.msg.now c.args.now c.in-Some.piece c.in_ok-handled.handled.records r.made r.numbers r.range r.from_two c.in_ok-handled.ensures.served.records (rw c.in-Some.is at c.in_ok-handled.ensures.piece) in
    kept_alike server setup _ _ b.leads (g.D.Disk.seen c.append.new.disk) (g.D.Disk.sizes c.append.new.disk) (g.D.Disk.images c.append.new.disk) c.append.new.log
    (c.in-Ok.ensures.kept server setup store (serve store c.args.msg.now c.args.now).records b.is b.follow k)

pub returns-in-Ok-clause-any_moment : goal.returns-in-Ok-clause-any_moment
returns-in-Ok-clause-any_moment g c = λ server setup k.
    let r = c.requires in
    let store : NodeAndRows = record { node = c.args.node.now; rows = c.args.rows.now } in
    let b = served_body store c.args.msg.now c.args.now c.in-Some.piece c.in_ok-handled.handled.records r.made r.numbers r.range r.from_two c.in_ok-handled.ensures.served.records (rw c.in-Some.is at c.in_ok-handled.ensures.piece) in
    moment_alike server setup _ _ b.leads g.D.Disk.moment g.D.Disk.images_since c.args.disk.now c.append.new.disk (g.D.Disk.seen c.args.disk.now 1) store
    (c.in-Ok.ensures.any_moment server setup store (serve store c.args.msg.now c.args.now).records b.is b.follow k)

pub returns-in-Err-clause-any_moment : goal.returns-in-Err-clause-any_moment
returns-in-Err-clause-any_moment g c = λ server setup k.
    let r = c.requires in
    let store : NodeAndRows = record { node = c.args.node.now; rows = c.args.rows.now } in
    let b = served_body store c.args.msg.now c.args.now c.in-Some.piece c.in_ok-handled.handled.records r.made r.numbers r.range r.from_two c.in_ok-handled.ensures.served.records (rw c.in-Some.is at c.in_ok-handled.ensures.piece) in
    moment_alike server setup _ _ b.leads g.D.Disk.moment g.D.Disk.images_since c.args.disk.now c.append.new.disk (g.D.Disk.seen c.args.disk.now 1) store
    (c.in-Err.ensures.any_moment server setup store (serve store c.args.msg.now c.args.now).records b.is b.follow k)

pub returns-in-Err-clause-left : goal.returns-in-Err-clause-left
returns-in-Err-clause-left g c = λ server setup k.
    let r = c.requires in
    let store : NodeAndRows = record { node = c.args.node.now; rows = c.args.rows.now } in
    let b = served_body store c.args.msg.now c.args.now c.in-Some.piece c.in_ok-handled.handled.records r.made r.numbers r.range r.from_two c.in_ok-handled.ensures.served.records (rw c.in-Some.is at c.in_ok-handled.ensures.piece) in
    subst (λ (i : List Record). OnTold (g.D.Disk.seen c.append.new.disk 1) (λ _. LeavesDoubt (g.D.Disk.images c.append.new.disk) server setup c.append.new.log store i)) (sym c.in_ok-handled.ensures.served.records)
    (c.in-Err.ensures.doubt server setup store (serve store c.args.msg.now c.args.now).records b.is b.follow k)

pub returns-in_default-clause-kept : goal.returns-in_default-clause-kept
returns-in_default-clause-kept g c = λ server setup k.
    let store : NodeAndRows = record { node = c.args.node.now; rows = c.args.rows.now } in
    let leads = bare_leads store c.args.msg.now c.args.now c.in_ok-handled.handled.records c.requires.numbers c.in_ok-handled.ensures.served.records (rw c.in_default.is at c.in_ok-handled.ensures.piece) in
    kept_alike server setup _ _ leads (g.D.Disk.seen c.args.disk.now) (g.D.Disk.sizes c.args.disk.now) (g.D.Disk.images c.args.disk.now) c.args.log.now k

pub returns-in_default-clause-any_moment : goal.returns-in_default-clause-any_moment
returns-in_default-clause-any_moment g c = λ server setup k.
    let store : NodeAndRows = record { node = c.args.node.now; rows = c.args.rows.now } in
    nothing_done g.D.Disk.moment g.D.Disk.images_since (g.D.Disk.seen c.args.disk.now) (g.D.Disk.sizes c.args.disk.now) (g.D.Disk.images c.args.disk.now) c.args.disk.now server setup c.args.log.now store
    (serve store c.args.msg.now c.args.now).store (g.met.D.Disk.only_now c.args.disk.now) k
