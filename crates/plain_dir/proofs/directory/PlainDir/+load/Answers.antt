use Rattle.std.proofs.Common.{◌∙◌, sym, ap, List, ℕ}
use Rattle.plain_dir.proofs.Applied.{taken_back}
use Rattle.plain_dir.proofs.directory.PlainDir.+load.Goals as goal

pub returns-clause-err : goal.returns-clause-err
returns-clause-err t c =
    taken_back c.args.self.now c.insert.new.self c.load-2.new.self c.take.new.self _ _ _ c.get.result c.is_some.result
    c.in_ok-insert.ensures.ok c.in-Err.ensures.err c.take.ensures (ap (λ (name : List ℕ). (c.args.dir, name)) (c.in_ok-copy-2.ensures.value ∙ sym c.in_ok-copy.ensures.value)) c.get.ensures c.is_some.ensures c.if-is_some.false
