use Rattle.std.proofs.Common.{[], ◌∷◌, ℕ, ap, refl, subst}
use Rattle.mds_out.specs.Disk.{StaysTold}
use Rattle.records.specs.declared.record.Record.TheVariants.{Opened}
use Rattle.gate_log.specs.LogState.{LogState}
use Rattle.node_core.specs.Nodes.{NodeAndRows}
use Rattle.node_store.proofs.Standing.{kept_after, either_after}
use Rattle.node_store.proofs.OpeningMoments.{opened_body}
use Rattle.node_store.proofs.opening.begin_run.Goals as goal

pub returns-in-Ok-clause-kept : goal.returns-in-Ok-clause-kept
returns-in-Ok-clause-kept g c = λ server setup k.
    let e = c.in-Ok.ensures in
    let seen = g.D.Disk.seen c.args.disk.now in
    let seen' = g.D.Disk.seen c.append.new.disk in
    let store : NodeAndRows = record { node = c.args.node.now; rows = c.args.rows.now } in
    let P = λ (file : ℕ). StaysTold (seen file) (seen' file) in
    kept_after server setup store c.in_ok-piece.piece (Opened ∷ []) (opened_body c.in_ok-piece.piece c.in_ok-piece.ensures) refl seen seen' (g.D.Disk.sizes c.args.disk.now) (g.D.Disk.sizes c.append.new.disk) (g.D.Disk.images c.args.disk.now) (g.D.Disk.images c.append.new.disk) c.args.log.now c.append.new.self
    (ap (λ (l : LogState). l.file) e.length) (ap (λ (l : LogState). l.stopped) e.length) e.ready (subst P k.file e.told) e.appended k

pub returns-in-Ok-clause-any_moment : goal.returns-in-Ok-clause-any_moment
returns-in-Ok-clause-any_moment g c = λ server setup k.
    let store : NodeAndRows = record { node = c.args.node.now; rows = c.args.rows.now } in
    either_after server setup store c.in_ok-piece.piece (Opened ∷ []) (opened_body c.in_ok-piece.piece c.in_ok-piece.ensures) refl g.D.Disk.moment g.D.Disk.images_since c.args.disk.now c.append.new.disk (g.D.Disk.seen c.args.disk.now) (g.D.Disk.sizes c.args.disk.now) (g.D.Disk.images c.args.disk.now) c.args.log.now (c.append.ensures.any_moment k.running) k

pub returns-clause-any_moment : goal.returns-clause-any_moment
returns-clause-any_moment g c = λ server setup k.
    let store : NodeAndRows = record { node = c.args.node.now; rows = c.args.rows.now } in
    either_after server setup store c.in_ok-piece.piece (Opened ∷ []) (opened_body c.in_ok-piece.piece c.in_ok-piece.ensures) refl g.D.Disk.moment g.D.Disk.images_since c.args.disk.now c.append.new.disk (g.D.Disk.seen c.args.disk.now) (g.D.Disk.sizes c.args.disk.now) (g.D.Disk.images c.args.disk.now) c.args.log.now (c.append.ensures.any_moment k.running) k
