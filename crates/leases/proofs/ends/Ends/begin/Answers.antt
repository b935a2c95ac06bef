use Rattle.std.proofs.Common.{◌≡◌, ◌∙◌, sym, ap, subst, cond, true, List, ℕ, Result, Ok, Err, OnErr, None}
use Rattle.std.specs.Prelude.{is_err}
use Rattle.std.specs.BTreeMap.{is_at}
use Rattle.std.specs.FinMap as map
use Rattle.std.proofs.lemmas.Bool.{false≢true}
use Rattle.std.proofs.lemmas.Cmp.{nat_list_cmp_total}
use Rattle.std.proofs.lemmas.Map.Lookups.{exact_bytes}
use Rattle.mds_base.proofs.Maps.{one_put, one_taken}
use Rattle.mds_base.proofs.Results.{ok_from}
use Rattle.leases.specs.declared.ending.Ending.{Ending}
use Rattle.leases.specs.Leases.{Ends}
use Rattle.leases.specs.Order.{ending_cmp, has_ending, AreEndings}
use Rattle.leases.proofs.Above.{put_taken}
use Rattle.leases.proofs.Endings.{ending, begun}
use Rattle.leases.proofs.ends.Ends.begin.Goals as goal

err_from : {T E P : Type 0} (r : Result T E) → OnErr r P → is_err r ≡ true → P
err_from (Ok x) p e = absurd (false≢true e)
err_from (Err x) p e = p

-- one put and taken again
put_back : (m mid new : Ends) (name : List ℕ) (end : ℕ) → map.get m name ≡ None → mid ≡ map.insert m name end → new ≡ map.remove mid name → new ≡ m
put_back m mid new name end none put taken = taken ∙ ap (λ (n : Ends). map.remove n name) put ∙ put_taken m name end none

pub invariant_of-self-then-is_err : goal.invariant_of-self-then-is_err
invariant_of-self-then-is_err c =
    let m : Ends = map.from_entries c.self.inside.by_name.entries in
    let none : map.get m c.args.name.now ≡ None = ap (λ (m : Ends). map.get m c.args.name.now) c.self.view_is ∙ c.requires in
    let put = one_put nat_list_cmp_total exact_bytes c.self.inside.by_name.entries c.insert.new.self.entries c.in_ok-copy-2.field-0 c.args.until c.in_ok-insert.ensures.updates.0 ∙ ap (λ n. map.insert m n c.args.until) c.in_ok-copy-2.ensures.value in
    let taken = one_taken nat_list_cmp_total exact_bytes c.insert.new.self.entries c.remove.new.self.entries c.args.name.now c.remove.ensures.updates.0 in
    let keys = err_from c.insert-2.result c.insert-2.ensures.err (sym c.is_err.ensures.value ∙ c.if-is_err.true) in
    subst (AreEndings c.insert-2.new.self.keys) (sym (put_back m _ _ c.args.name.now c.args.until none put taken)) (subst (λ (es : List Ending). AreEndings es m) (sym keys) c.self.invariant)

pub returns-then-is_err-clause-err : goal.returns-then-is_err-clause-err
returns-then-is_err-clause-err c =
    let m : Ends = map.from_entries c.self.inside.by_name.entries in
    let none : map.get m c.args.name.now ≡ None = ap (λ (m : Ends). map.get m c.args.name.now) c.self.view_is ∙ c.requires in
    let put = one_put nat_list_cmp_total exact_bytes c.self.inside.by_name.entries c.insert.new.self.entries c.in_ok-copy-2.field-0 c.args.until c.in_ok-insert.ensures.updates.0 ∙ ap (λ n. map.insert m n c.args.until) c.in_ok-copy-2.ensures.value in
    let taken = one_taken nat_list_cmp_total exact_bytes c.insert.new.self.entries c.remove.new.self.entries c.args.name.now c.remove.ensures.updates.0 in
    put_back m _ _ c.args.name.now c.args.until none put taken ∙ c.self.view_is

pub invariant_of-self-else-is_err : goal.invariant_of-self-else-is_err
invariant_of-self-else-is_err c =
    let m : Ends = map.from_entries c.self.inside.by_name.entries in
    let none : map.get m c.args.name.now ≡ None = ap (λ (m : Ends). map.get m c.args.name.now) c.self.view_is ∙ c.requires in
    let put = one_put nat_list_cmp_total exact_bytes c.self.inside.by_name.entries c.insert.new.self.entries c.in_ok-copy-2.field-0 c.args.until c.in_ok-insert.ensures.updates.0 ∙ ap (λ n. map.insert m n c.args.until) c.in_ok-copy-2.ensures.value in
    let updates = ok_from c.insert-2.result c.insert-2.ensures.updates (sym c.is_err.ensures.value ∙ c.if-is_err.false) in
    let puts = subst (λ (n : List ℕ). (q : Ending) → has_ending c.insert-2.new.self.keys q ≡ cond (is_at (ending_cmp (ending c.args.until n)) q) true (has_ending c.self.inside.order.keys q)) c.in_ok-copy.ensures.value updates.0 in
    subst (AreEndings c.insert-2.new.self.keys) (sym put) (begun c.self.inside.order.keys c.insert-2.new.self.keys m c.args.name.now c.args.until c.self.invariant none puts)

pub returns-clause-ok : goal.returns-clause-ok
returns-clause-ok c =
    one_put nat_list_cmp_total exact_bytes c.self.inside.by_name.entries c.insert.new.self.entries c.in_ok-copy-2.field-0 c.args.until c.in_ok-insert.ensures.updates.0
    ∙ ap (λ n. map.insert (map.from_entries c.self.inside.by_name.entries) n c.args.until) c.in_ok-copy-2.ensures.value
    ∙ ap (λ (m : Ends). map.insert m c.args.name.now c.args.until) c.self.view_is
