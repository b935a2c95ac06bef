use Rattle.std.proofs.Common.{◌≡◌, ◌∙◌, sym, ap, ℕ, List, [], length, arith}
use Rattle.std.specs.FinSet as set
use Rattle.simulation.specs.Shows.{waiting_cmp}
use Rattle.simulation.specs.Waits.{with_last}
use Rattle.simulation.proofs.MessagesDue.{keys_none, none_waits}
use Rattle.simulation.proofs.WaitsKept.{last_waits, only_last}
use Rattle.simulation.proofs.waits.Waits.few.Goals as goal

pub returns-in-None : goal.returns-in-None
returns-in-None c = λ key waits.
    let keys = c.self.inside.others.keys in
    let empty : length keys ≡ 0 = c.is_empty.ensures.0 c.if-not-is_empty.false in
    none_waits keys (keys_none keys (λ some. omega (arith, some, empty))) key
    (ap (λ o. set.contains (with_last (set.from_list {R = waiting_cmp} keys) o) key) (sym c.in-None.is) ∙ ap (λ (s : set.FinSet waiting_cmp). set.contains s key) c.self.view_is ∙ waits)

pub returns-in-Some : goal.returns-in-Some
returns-in-Some c =
    let keys = c.self.inside.others.keys in
    let empty : length keys ≡ 0 = c.is_empty.ensures.0 c.if-not-is_empty.false in
    let with_it = ap (with_last (set.from_list {R = waiting_cmp} keys)) (sym c.in-Some.is) ∙ c.self.view_is in (
      ap (λ (s : set.FinSet waiting_cmp). set.contains s (c.in-Some.server, c.in-Some.message)) (sym with_it) ∙ last_waits (set.from_list keys) (c.in-Some.server, c.in-Some.message),
      λ key waits. only_last keys (c.in-Some.server, c.in-Some.message) (keys_none keys (λ some. omega (arith, some, empty))) key (ap (λ (s : set.FinSet waiting_cmp). set.contains s key) with_it ∙ waits),
    )
