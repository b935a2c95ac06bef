use Rattle.std.proofs.Common.{◌≡◌, ◌+◌, ◌-◌, max, length, take, arith, refl, ap, ◌∙◌, rules}
use borrow.Rule.Slice.PartMut.{put_mid}
use Rattle.mds_out.proofs.Writes.{written_mid}
use Rattle.mds_out.proofs.buffer.write_over.Goals as goal

pub returns-clause-written : goal.returns-clause-written
returns-clause-written c =
    let most : c.max.result ≡ max c.args.len (c.min-at.result + length c.args.bytes.now) = search rules in
    ap (λ n. take n (put_mid c.min-at.result (c.min-at.result + length c.args.bytes.now - c.min-at.result) c.args.buffer.now c.copy_from_slice.new.self)) most
    ∙ written_mid c.args.buffer.now c.copy_from_slice.new.self c.args.bytes.now c.args.len c.args.at (length c.args.bytes.now) c.min-at.result (c.min-at.result + length c.args.bytes.now - c.min-at.result) (search rules) refl (search rules) (omega arith) c.requires.within (omega arith)
