use Rattle.std.proofs.Common.{◌≡◌, sym, subst, true, false, arith}
use Rattle.chains.specs.WellFormed.{IsWellFormed}
use Rattle.bitmap.specs.Bits.{Bits, has}
use Rattle.records.proofs.Bitmaps.{front_formed}
use Rattle.records.proofs.reading_installs.bitmap.Goals as goal

pub words-requires : goal.words-requires
words-requires c = let formed = front_formed c.args.bytes.now c.in_ok-front.front.now c.in_ok-front.rest.now (λ i. omega (arith, c.type_inv.bytes i)) c.in_ok-front.ensures in omega (arith, formed.0)

pub unreachable-requires : goal.unreachable-requires
unreachable-requires c =
    let formed = front_formed c.args.bytes.now c.in_ok-front.front.now c.in_ok-front.rest.now (λ i. omega (arith, c.type_inv.bytes i)) c.in_ok-front.ensures in
    let whole = subst (λ (bits : Bits). IsWellFormed 10 (has bits)) (sym c.words.ensures) formed.1 in
    let both : false ≡ true = c.in-Err.ensures.exactly.1 whole in
    cc
