use Rattle.std.proofs.Common.{◌≡◌, ◌∙◌, ◌+◌, ◌≤◌, List, ℕ, Option, Some, subst, sym, take, drop, arith}
use Rattle.mds_out.specs.Known.{OnTold}
use Rattle.root_slots.specs.Slot.{content_at, open_content}
use Rattle.root_slots.proofs.Readings.{open_read, told_as}
use Rattle.root_slots.proofs.reading.read_slot.Goals as goal

pub returns-clause-content : goal.returns-clause-content
returns-clause-content g c =
    let P : Option (List ℕ) → Type 0 = λ seen. OnTold seen (λ bytes. c.read_at-2.new.into ≡ take 1023 (drop (c.offset-2.result + 1) bytes)) in
    let rest = subst P (c.read_at.ensures.unchanged.bytes 0) c.in_ok-read_at-2.ensures.bytes in
    told_as (g.D.Disk.seen c.args.disk.now 0) (λ file. open_content c.read_at-2.new.into ≡ content_at file c.args.slot) (λ file. c.in_ok-behind_gate.field-0 ≡ content_at file c.args.slot)
    (λ file is. c.in_ok-behind_gate.ensures.content ∙ is)
    (open_read (g.D.Disk.seen c.args.disk.now 0) c.args.slot c.offset.result c.offset-2.result c.read_at.new.into c.read_at-2.new.into c.offset.ensures.offset c.offset-2.ensures.offset c.in_ok-read_at.ensures.bytes c.if-gate-ne-OPEN.false rest)

pub returns-clause-lasts : goal.returns-clause-lasts
returns-clause-lasts g c = g.met.D.Disk.lasts_on c.args.disk.now c.read_at.new.disk c.read_at-2.new.disk c.read_at.ensures.lasts c.read_at-2.ensures.lasts

pub read_at-requires-2-clause-within : goal.read_at-requires-2-clause-within
read_at-requires-2-clause-within g c =
    let K : Option ℕ → Type 0 = λ known. OnTold known (λ size. g.D.Disk.sizes c.read_at.new.disk 0 ≡ Some size) in
    let known = subst K c.requires.known (c.read_at.ensures.unchanged.lengths 0) in
    let P : Option ℕ → Type 0 = λ size. OnTold size (λ n. c.offset-2.result + 1 + 1023 ≤ n) in
    subst P (sym known) (omega (arith, c.offset-2.ensures.small, c.requires.whole))
