use Rattle.std.proofs.Common.{◌∙◌, sym, arith}
use Rattle.records.proofs.BitmapBytes.{front_grows, bytes_begin, bytes_more, bytes_bad, bytes_short, bytes_end}
use Rattle.records.proofs.reading_installs.bitmap_bytes.Goals as goal

pub loop-place-init : goal.loop-place-init
loop-place-init c = bytes_begin c.args.bytes.now

pub returns-then-bytes-place : goal.returns-then-bytes-place
returns-then-bytes-place c = bytes_short c.args.bytes.now c.loop-place.place c.loop-place-test.true c.if-bytes-place.true c.loop-place.invariant

pub returns-then-not-may_grow : goal.returns-then-not-may_grow
returns-then-not-may_grow c =
    let grows = sym (front_grows c.args.bytes.now c.loop-place.place) ∙ (sym c.may_grow.ensures ∙ c.if-not-may_grow.true) in
    bytes_bad c.args.bytes.now c.loop-place.place c.loop-place-test.true c.if-bytes-place.false grows c.loop-place.invariant

pub loop-place-preserved : goal.loop-place-preserved
loop-place-preserved c =
    let grows = sym (front_grows c.args.bytes.now c.loop-place.place) ∙ (sym c.may_grow.ensures ∙ c.if-not-may_grow.false) in
    bytes_more c.args.bytes.now c.loop-place.place c.loop-place-test.true c.if-bytes-place.false grows c.loop-place.invariant

pub returns : goal.returns
returns c = rw (c.split_at.ensures.front, c.split_at.ensures.back) (bytes_end c.args.bytes.now c.loop-place.place (omega arith) c.loop-place.invariant)
