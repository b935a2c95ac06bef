use Rattle.std.proofs.Common.{◌≡◌, ◌+◌, ◌-◌, ◌/◌, max, length, take, replicate, arith, refl, ap, ◌∙◌, rules}
use Rattle.mds_out.proofs.Writes.{spoilt_mid, part_length}
use Rattle.std.proofs.lemmas.List.{length-take-le}
use Rattle.mds_out.proofs.buffer.spoil_over.Goals as goal

pub returns-clause-written : goal.returns-clause-written
returns-clause-written c =
    let most : c.max.result ≡ max c.args.len (c.min-at.result + length c.args.bytes.now) = search rules in
    let half : c.copy_from_slice.new.self ≡ take (length c.args.bytes.now / 2) c.args.bytes.now = search rules in
    let rest : c.fill.new.self ≡ replicate (length c.args.bytes.now - length c.args.bytes.now / 2) 165 = c.fill.ensures.after (λ y is. is) ∙ ap (λ n. replicate n 165) (part_length c.args.buffer.now c.copy_from_slice.new.self c.min-at.result (c.min-at.result + length c.args.bytes.now / 2 - c.min-at.result) (c.min-at.result + length c.args.bytes.now / 2) (c.min-at.result + length c.args.bytes.now - (c.min-at.result + length c.args.bytes.now / 2)) (ap length half ∙ length-take-le (length c.args.bytes.now / 2) c.args.bytes.now (omega arith) ∙ omega arith) (omega arith) (omega arith) ∙ omega arith) in
    rw most (spoilt_mid c.args.buffer.now c.args.bytes.now c.copy_from_slice.new.self c.fill.new.self c.args.len c.args.at c.min-at.result _ _ _ (search rules) c.requires.within (omega arith) half rest (omega arith) refl (omega arith))
