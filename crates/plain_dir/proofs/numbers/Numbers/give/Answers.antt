use Rattle.std.proofs.Common.{◌≡◌, ◌++◌, subst, List, ℕ, IfOk, MatchBool}
use Rattle.plain_dir.specs.Numbers.{IsNew}
use Rattle.plain_dir.proofs.numbers.Numbers.give.Goals as goal

pub returns : goal.returns
returns c = subst (λ (more : List ℕ). IfOk c.add.result (λ b. MatchBool b (IsNew c.args.self.now more × (c.add.new.self ≡ c.args.self.now ++ more)) (IsNew c.args.self.now more → ⊥))) c.range_of.ensures c.add.ensures
