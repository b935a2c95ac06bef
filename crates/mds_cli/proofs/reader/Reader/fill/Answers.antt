use Rattle.std.proofs.Common.{ap, take, ◌++◌, drop, length}
use Rattle.mds_cli.proofs.LineTaken.{at_end}
use Rattle.mds_cli.proofs.reader.Reader.fill.Goals as goal

pub returns-then-self-eq0-clause-end : goal.returns-then-self-eq0-clause-end
returns-then-self-eq0-clause-end g c = λ _. (
  ap (λ n. take n (take c.self.inside.chunk.len (c.read.new.into ++ drop (length c.read.new.into) c.self.inside.chunk.items))) c.if-self-eq0.true,
  at_end _ _ c.read.new.into c.in_ok-self-inside.field-0 c.if-self-eq0.true c.in_ok-self-inside.ensures.given.given (c.in_ok-self-inside.ensures.given.ends c.if-self-eq0.true),
)
