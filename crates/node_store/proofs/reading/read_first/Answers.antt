use Rattle.std.proofs.Common.{[], ◌∙◌, sym, refl, List, ℕ, subst}
use Rattle.gate_log.proofs.Reading.{none_read, some_gate}
use Rattle.node_store.specs.Reading.{IsWrongHead}
use Rattle.node_store.proofs.ReadingLogs.{first_read, first_wrong}
use Rattle.node_store.proofs.reading.read_first.Goals as goal

pub next_body-requires-clause-gate : goal.next_body-requires-clause-gate
next_body-requires-clause-gate g c =
    let seen = g.D.Disk.seen c.args.disk.now c.args.log.now.file in
    some_gate seen c.args.log.now 0 [] (none_read seen c.args.log.now (g.D.Disk.images c.args.disk.now) c.requires.ready.told)

pub returns-in-None-clause-read : goal.returns-in-None-clause-read
returns-in-None-clause-read g c =
    let seen = g.D.Disk.seen c.args.disk.now c.args.log.now.file in
    let has = rw c.in-Some.is at c.in_ok-next.ensures.read in
    let is = rw c.in-None.is at c.in_ok-read_head.ensures in
    first_read (g.D.Disk.seen c.next_body.new.disk c.args.log.now.file) c.args.log.now c.args.server c.args.setup c.in-Some.next c.next_body.new.into.items (has [] (none_read seen c.args.log.now (g.D.Disk.images c.args.disk.now) c.requires.ready.told)) (sym c.deref.ensures.value ∙ is)

pub returns-in-Some-2-clause-refused : goal.returns-in-Some-2-clause-refused
returns-in-Some-2-clause-refused g c =
    let seen = g.D.Disk.seen c.args.disk.now c.args.log.now.file in
    let has = rw c.in-Some.is at c.in_ok-next.ensures.read in
    let wrong = rw c.in-Some-2.is at c.in_ok-read_head.ensures in
    let P : List ℕ → Type 0 = λ body. IsWrongHead c.args.server c.args.setup body c.in-Some-2.damage in (
      refl,
      first_wrong seen (g.D.Disk.seen c.next_body.new.disk c.args.log.now.file) (c.next_body.ensures.call.unchanged.bytes c.args.log.now.file) c.args.log.now c.args.server c.args.setup c.in-Some.next c.next_body.new.into.items c.in-Some-2.damage
          (has [] (none_read seen c.args.log.now (g.D.Disk.images c.args.disk.now) c.requires.ready.told)) (subst P c.deref.ensures.value wrong),
    )
