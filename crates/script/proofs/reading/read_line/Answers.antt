use Rattle.std.proofs.Common.{ap, Ok}
use Rattle.std.proofs.lemmas.Bool.{MatchBool-at_true, MatchBool-at_false}
use Rattle.script.proofs.Meanings.{comment_skipped, read_found, read_only, read_plain, refused_only}
use Rattle.script.proofs.reading.read_line.Goals as goal

pub returns-then-is_comment-clause-only : goal.returns-then-is_comment-clause-only
returns-then-is_comment-clause-only c = λ line is. comment_skipped c.args.setup.now c.args.bytes.now line (MatchBool-at_true _ _ c.if-is_comment.true c.is_comment.ensures) is

pub returns-clause-found : goal.returns-clause-found
returns-clause-found c = read_found c.args.setup.now c.args.bytes.now c.line.result c.line.ensures.gives

pub returns-clause-only : goal.returns-clause-only
returns-clause-only c = read_only c.args.setup.now c.args.bytes.now c.line.result c.line.ensures.gives (MatchBool-at_false _ _ c.if-is_comment.false c.is_comment.ensures)

pub returns-clause-not_a_line : goal.returns-clause-not_a_line
returns-clause-not_a_line c = refused_only c.args.setup.now c.args.bytes.now c.line.result c.line.ensures.gives (MatchBool-at_false _ _ c.if-is_comment.false c.is_comment.ensures)

pub returns-then-is_comment-clause-plain : goal.returns-then-is_comment-clause-plain
returns-then-is_comment-clause-plain c = λ line is plain. ap Ok (comment_skipped c.args.setup.now c.args.bytes.now line (MatchBool-at_true _ _ c.if-is_comment.true c.is_comment.ensures) is)

pub returns-clause-plain : goal.returns-clause-plain
returns-clause-plain c = read_plain c.args.setup.now c.args.bytes.now c.line.result c.line.ensures.gives c.line.ensures.memory (MatchBool-at_false _ _ c.if-is_comment.false c.is_comment.ensures)
