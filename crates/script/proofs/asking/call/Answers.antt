use Rattle.std.proofs.Common.{◌∙◌, sym}
use Rattle.script.proofs.Keeping.{call_named}
use Rattle.script.proofs.asking.call.Goals as goal

pub returns-clause-memory : goal.returns-clause-memory
returns-clause-memory c = call_named c.args.unread.now c.in_ok-word.field-0.now c.word.new.self c.in-Some.verb c.call_after.result c.in_ok-word.ensures (sym c.call_verb_of.ensures ∙ c.in-Some.is) c.call_after.ensures.memory
