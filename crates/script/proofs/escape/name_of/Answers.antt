use Rattle.std.proofs.Common.{◌∙◌, sym, subst}
use Rattle.script.specs.Answers.{Gives}
use Rattle.script.proofs.Unescaping.{named_plain}
use Rattle.script.proofs.escape.name_of.Goals as goal

pub returns-then-not-has_escape : goal.returns-then-not-has_escape
returns-then-not-has_escape c = subst (Gives (λ name. name) c.checked_name.result) (sym (named_plain c.args.word.now (sym c.has_escape.ensures ∙ c.if-not-has_escape.true))) c.checked_name.ensures
