use Rattle.std.proofs.Common.{◌≡◌, ◌∙◌, sym, ap, subst, Some, Bool, IfOk}
use Rattle.simulation.proofs.LookupEntries.{looked_up}
use Rattle.simulation.proofs.entries.is_looked_up.Goals as goal

pub returns-in-Some-Answer : goal.returns-in-Some-Answer
returns-in-Some-Answer c = λ msg there.
    subst (λ (b : Bool). IfOk c.asks_lookup.result (λ is. is ≡ b)) (sym (looked_up msg c.args.outputs.now _ _ _ 0 _ (sym (c.in-Some-Answer.ensures) ∙ ap Some c.in-Some-Answer.field-0-is))) (c.asks_lookup.ensures msg there)
