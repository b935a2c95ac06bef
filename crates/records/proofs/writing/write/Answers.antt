use Rattle.std.proofs.Common.{◌≡◌, ◌∙◌, ap, ℕ, length, take, arith}
use Rattle.records.proofs.Growing.{cut_back}
use Rattle.records.proofs.writing.write.Goals as goal

pub returns-in-Err-clause-err : goal.returns-in-Err-clause-err
returns-in-Err-clause-err c =
    let len : c.len-len.result ≡ length c.args.out.now.items = omega (arith, c.len-len.ensures) in
    c.truncate.ensures.items ∙ ap (λ (n : ℕ). take n c.put_record.new.out.items) len ∙ cut_back c.args.out.now.items c.put_record.new.out.items c.in-Err.ensures.grows
