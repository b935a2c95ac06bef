use Rattle.std.proofs.Common.{◌≡◌, ◌∙◌, sym, ap, subst, cond, true, false, IsSome, refl, List, ℕ}
use Rattle.std.specs.BTreeMap.{is_at}
use Rattle.std.specs.FinMap as map
use Rattle.leases.specs.declared.ending.Ending.{Ending}
use Rattle.leases.specs.Leases.{Ends}
use Rattle.leases.specs.Order.{ending_cmp, has_ending, AreEndings}
use Rattle.leases.proofs.Endings.{ending, prolonged}
use Rattle.leases.proofs.ends.Ends.prolong.Goals as goal

pub set_end-requires : goal.set_end-requires
set_end-requires c = subst IsSome (sym (ap (λ (m : Ends). map.get m c.args.name.now) c.self.view_is ∙ c.requires.kept)) refl

pub invariant_of-self-2 : goal.invariant_of-self-2
invariant_of-self-2 c =
    let old = c.self.inside.order.keys in
    let mid = c.insert.new.self.keys in
    let new = c.remove.new.self.keys in
    let m : Ends = map.from_entries c.self.inside.by_name.entries in
    let puts = subst (λ (n : List ℕ). (q : Ending) → has_ending mid q ≡ cond (is_at (ending_cmp (ending c.args.until n)) q) true (has_ending old q)) c.in_ok-copy-2.ensures.value c.in_ok-insert.ensures.updates.0 in
    let takes = subst (λ (n : List ℕ). (q : Ending) → has_ending new q ≡ cond (is_at (ending_cmp (ending c.args.end n)) q) false (has_ending mid q)) c.in_ok-copy.ensures.value c.remove.ensures.updates.0 in
    let kept = ap (λ (m : Ends). map.get m c.args.name.now) c.self.view_is ∙ c.requires.kept in
    subst (AreEndings new) (sym c.set_end.ensures) (prolonged old mid new m c.args.name.now c.args.end c.args.until c.self.invariant kept c.requires.later puts takes)
