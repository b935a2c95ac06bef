use Rattle.std.proofs.Common.{◌∙◌, sym, ap, ℕ, Bool, ◌+◌, ◌*◌, arith}
use Rattle.bitmap.specs.Bits.{has}
use Rattle.bitmap.specs.Words.{number_of}
use Rattle.records.proofs.BitmapBytes.{worth_none, worth_more, worth_small, number_small}
use Rattle.records.proofs.writing_installs.bitmap_byte.Goals as goal

pub loop-bit-init : goal.loop-bit-init
loop-bit-init c = sym (worth_none (λ i. has c.args.bitmap.now (c.args.place * 8 + i)))

pub overflow_add-byte : goal.overflow_add-byte
overflow_add-byte c =
    let before = number_small (λ i. has c.args.bitmap.now (c.args.place * 8 + i)) c.loop-bit.bit (omega arith) in
    let own = worth_small (has c.args.bitmap.now (c.args.place * 8 + c.loop-bit.bit)) c.loop-bit.bit (omega arith) in
    omega (arith, before, own, c.loop-bit.invariant, c.worth-byte.ensures)

pub loop-bit-preserved : goal.loop-bit-preserved
loop-bit-preserved c =
    let t : ℕ → Bool = λ i. has c.args.bitmap.now (c.args.place * 8 + i) in
    ap (λ (n : ℕ). n + c.worth-byte.result) c.loop-bit.invariant ∙ ap (λ (n : ℕ). number_of t c.loop-bit.bit + n) c.worth-byte.ensures ∙ sym (worth_more t c.loop-bit.bit)

pub overflow_cast-result : goal.overflow_cast-result
overflow_cast-result c = let below = number_small (λ i. has c.args.bitmap.now (c.args.place * 8 + i)) c.loop-bit.bit (omega arith) in omega (arith, below, c.loop-bit.invariant)
