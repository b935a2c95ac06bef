use Rattle.std.proofs.Common.{sym, subst}
use Rattle.std.specs.Cmp.Lexicographic.{slice_cmp}
use Rattle.std.specs.List.Sorted.{IsStrictlySortedBy}
use Rattle.std.specs.Map.{keys_of}
use Rattle.std.specs.Map.Iter.{deref_pair}
use Rattle.std.specs.Ordering.{nat_cmp}
use Rattle.std.proofs.lemmas.Map.Iter.{rest_more}
use Rattle.leases.proofs.Above.{copy_lacks, copy_more}
use Rattle.leases.proofs.ends.Ends.copy.Goals as goal

pub begin-requires : goal.begin-requires
begin-requires c =
    let more = rest_more deref_pair c.loop-name.name-iterator c.next.new.self c.next.result (c.in-Some.name, c.in-Some.until) c.in-Some.is c.next.ensures.steps in
    let rising = subst (λ es. IsStrictlySortedBy (slice_cmp nat_cmp) (keys_of es)) (sym c.into_iter-name-iterator.ensures.into_iter_gives.0) c.into_iter-name-iterator.ensures.into_iter_gives.5 in
    copy_lacks c.loop-name.copy _ _ c.in-Some.name.now c.in-Some.until.now _ c.loop-name.invariant more rising

pub loop-name-preserved : goal.loop-name-preserved
loop-name-preserved c =
    let more = rest_more deref_pair c.loop-name.name-iterator c.next.new.self c.next.result (c.in-Some.name, c.in-Some.until) c.in-Some.is c.next.ensures.steps in
    let rising = subst (λ es. IsStrictlySortedBy (slice_cmp nat_cmp) (keys_of es)) (sym c.into_iter-name-iterator.ensures.into_iter_gives.0) c.into_iter-name-iterator.ensures.into_iter_gives.5 in
    copy_more c.loop-name.copy c.begin.new.self _ _ c.in-Some.name.now c.in-Some.until.now _ c.loop-name.invariant more rising c.in_ok-begin.ensures.ok
