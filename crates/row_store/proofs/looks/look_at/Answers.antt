use Rattle.std.proofs.Common.{sym, subst, List, ℕ}
use Rattle.row_store.specs.Caching.{IsBlock, place_in}
use Rattle.row_store.proofs.Joined.{reads_as}
use Rattle.row_store.proofs.looks.look_at.Goals as goal

pub returns-clause-held : goal.returns-clause-held
returns-clause-held g c =
    let P : List ℕ → Type 0 = IsBlock (g.D.Disk.seen c.args.disk.now) (place_in c.args.table.now c.args.block) in
    c.held_by.ensures.held (g.D.Disk.seen c.args.disk.now) (subst P (sym c.bytes-read.ensures.bytes) c.in_ok-read_block.ensures.block)

pub returns-clause-cache : goal.returns-clause-cache
returns-clause-cache g c =
    let P : List ℕ → Type 0 = IsBlock (g.D.Disk.seen c.args.disk.now) (place_in c.args.table.now c.args.block) in
    c.keep.ensures (g.D.Disk.seen c.args.disk.now) (subst P (sym c.bytes-read.ensures.bytes) c.in_ok-read_block.ensures.block)

pub returns-clause-answer : goal.returns-clause-answer
returns-clause-answer g c =
    let P : List ℕ → Type 0 = IsBlock (g.D.Disk.seen c.args.disk.now) (place_in c.args.table.now c.args.block) in
    c.held_by.ensures.answer (g.D.Disk.seen c.args.disk.now) (subst P (sym c.bytes-read.ensures.bytes) c.in_ok-read_block.ensures.block) c.requires.ready.told

pub returns-clause-call : goal.returns-clause-call
returns-clause-call g c = reads_as c.in_ok-read_block.ensures.call c.held_by.result c.held_by.ensures.no_fault
