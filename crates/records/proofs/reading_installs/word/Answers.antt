use Rattle.std.proofs.Common.{◌∙◌, ap, ℕ, ◌==◌, arith}
use Rattle.std.specs.Int.{bit_at}
use Rattle.records.proofs.BitmapBytes.{word_bit}
use Rattle.records.proofs.reading_installs.word.Goals as goal

pub returns : goal.returns
returns c = λ i lt. ap (λ (n : ℕ). bit_at n i == 1) c.from_le_bytes.ensures ∙ word_bit c.args.bytes.now c.args.row i (λ k. omega (arith, c.type_inv.bytes k)) lt
