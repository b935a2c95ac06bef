use Rattle.std.proofs.Common.{◌≡◌, List, ℕ, Option, Some, subst}
use Rattle.mds_out.specs.Known.{OnTold}
use Rattle.root_slots.specs.declared.content.Slot.TheVariants.{Second}
use Rattle.root_slots.specs.Slot.{content_at}
use Rattle.root_slots.proofs.Readings.{both_read}
use Rattle.root_slots.proofs.reading.read_slots.Goals as goal

pub returns-clause-found : goal.returns-clause-found
returns-clause-found g c =
    let P : Option (List ℕ) → Type 0 = λ seen. OnTold seen (λ file. c.in_ok-second.second ≡ content_at file Second) in
    both_read (g.D.Disk.seen c.args.disk.now 0) c.in_ok-first.first c.in_ok-second.second c.choose.result c.both_open-both.result c.in_ok-first.ensures.content
    (subst P (c.read_slot.ensures.unchanged.bytes 0) c.in_ok-second.ensures.content) c.choose.ensures.chosen c.both_open-both.ensures

pub read_slot-requires-2-clause-known : goal.read_slot-requires-2-clause-known
read_slot-requires-2-clause-known g c =
    let K : Option ℕ → Type 0 = λ known. OnTold known (λ size. g.D.Disk.sizes c.read_slot.new.disk 0 ≡ Some size) in
    subst K c.requires.known (c.read_slot.ensures.unchanged.lengths 0)

pub returns-clause-root : goal.returns-clause-root
returns-clause-root g c = c.choose.ensures.root c.in_ok-first.ensures.root c.in_ok-second.ensures.root
