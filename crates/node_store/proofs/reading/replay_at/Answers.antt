use Rattle.std.proofs.Common.{refl, List, ℕ, subst}
use Rattle.node_core.specs.Nodes.{NodeAndRows}
use Rattle.node_store.specs.Reading.{LeadsOn, IsWrongWithin}
use Rattle.node_store.proofs.ReadingLogs.{ends_there, goes_on_there, is_wrong_there}
use Rattle.node_store.proofs.ReadingNodes.{body_one}
use Rattle.node_store.proofs.reading.replay_at.Goals as goal

pub returns-in_default-clause-replayed : goal.returns-in_default-clause-replayed
returns-in_default-clause-replayed g c = λ server setup has.
    let store : NodeAndRows = record { node = c.args.node.now; rows = c.args.rows.now } in
    ends_there (g.D.Disk.seen c.args.disk.now c.args.log.now.file) (g.D.Disk.seen c.next_body.new.disk c.args.log.now.file) (c.next_body.ensures.call.unchanged.bytes c.args.log.now.file) server setup c.args.log.now c.args.at c.next_body.new.into.items store (rw c.in_default.is at c.in_ok-next.ensures.read) has

pub returns-in-None-clause-replayed : goal.returns-in-None-clause-replayed
returns-in-None-clause-replayed g c = λ server setup has.
    let old : NodeAndRows = record { node = c.args.node.now; rows = c.args.rows.now } in
    let new : NodeAndRows = record { node = c.read_body.new.node; rows = c.read_body.new.rows } in
    let P : List ℕ → Type 0 = λ body. LeadsOn old body new in
    goes_on_there (g.D.Disk.seen c.args.disk.now c.args.log.now.file) (g.D.Disk.seen c.next_body.new.disk c.args.log.now.file) (c.next_body.ensures.call.unchanged.bytes c.args.log.now.file) server setup c.args.log.now c.args.at c.next_body.new.into.items
    c.in-Some.next old new (rw c.in-Some.is at c.in_ok-next.ensures.read) (subst P c.deref.ensures.value (rw c.in-None.is at c.in_ok-read_body.ensures)) has

pub returns-in-None-clause-node : goal.returns-in-None-clause-node
returns-in-None-clause-node g c =
    let old : NodeAndRows = record { node = c.args.node.now; rows = c.args.rows.now } in
    let new : NodeAndRows = record { node = c.read_body.new.node; rows = c.read_body.new.rows } in
    body_one old new c.deref.result.now (rw c.in-None.is at c.in_ok-read_body.ensures)

pub returns-in-Some-2-clause-refused : goal.returns-in-Some-2-clause-refused
returns-in-Some-2-clause-refused g c = λ server setup has.
    let old : NodeAndRows = record { node = c.args.node.now; rows = c.args.rows.now } in
    let P : List ℕ → Type 0 = λ body. IsWrongWithin old body c.in-Some-2.offset in (
      refl,
      is_wrong_there (g.D.Disk.seen c.args.disk.now c.args.log.now.file) (g.D.Disk.seen c.next_body.new.disk c.args.log.now.file) (c.next_body.ensures.call.unchanged.bytes c.args.log.now.file) server setup c.args.log.now c.args.at c.next_body.new.into.items
          c.in-Some.next c.in-Some-2.offset old (rw c.in-Some.is at c.in_ok-next.ensures.read) (subst P c.deref.ensures.value (rw c.in-Some-2.is at c.in_ok-read_body.ensures)) has,
    )
