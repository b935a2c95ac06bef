use Rattle.std.proofs.Common.{◌∙◌, sym, eqb-true}
use Rattle.script.proofs.Unescaping.{all_read}
use Rattle.script.proofs.escape.unescaped.Goals as goal

pub returns : goal.returns
returns c = all_read c.loop-rest.bytes.items c.loop-rest.rest.now c.args.word.now (eqb-true _ 0 (sym c.is_empty.ensures ∙ c.loop-rest-test.false)) c.loop-rest.invariant
