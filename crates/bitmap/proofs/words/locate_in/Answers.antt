use Rattle.std.proofs.Common.{sym, ◌∙◌}
use Rattle.bitmap.specs.Bits.{has}
use Rattle.bitmap.specs.Words.{set_of}
use Rattle.bitmap.proofs.Bitmaps.{stops_at, ends_at}
use Rattle.bitmap.proofs.words.locate_in.Goals as goal

pub returns-then-not-has_bit : goal.returns-then-not-has_bit
returns-then-not-has_bit c =
    sym (stops_at (has (set_of c.args.words.now)) c.requires c.args.hash c.loop-next.part c.in-Some.next c.loop-next.invariant.on c.loop-next.invariant.held c.in-Some.ensures (sym c.has_bit.ensures ∙ c.if-not-has_bit.true))

pub returns : goal.returns
returns c =
    sym (ends_at (has (set_of c.args.words.now)) c.requires c.args.hash c.loop-next.part c.loop-next.invariant.on c.loop-next.invariant.held c.in_default.ensures)
