use Rattle.std.specs.Cmp.{nat_cmp_total}
use Rattle.std.specs.Cmp.Lexicographic.{slice_cmp}
use Rattle.std.proofs.Common.{◌≡◌}
use Rattle.std.specs.Ordering.{nat_cmp, ordering_then}
use Rattle.std.specs.declared.cmp.Ordering.{Ordering}
use Rattle.std.specs.declared.cmp.Ordering.TheVariants.{Less, Equal, Greater}
use Rattle.std.proofs.lemmas.Cmp.{then_total, on_total, nat_list_cmp_total}
use Rattle.std.proofs.lemmas.Map.Lookups.{exact_bytes}
use Rattle.name_hash.specs.ScanOrder.{place_of}
use Rattle.name_hash.proofs.laws_of_scan_order.Goals as goal

second_equal : (a b : Ordering) → ordering_then a b ≡ Equal → b ≡ Equal
second_equal Less b e = absurd cc
second_equal Equal b e = e
second_equal Greater b e = absurd cc

pub returns-clause-total : goal.returns-clause-total
returns-clause-total c = then_total (on_total place_of nat_cmp_total) nat_list_cmp_total

pub returns-clause-exact : goal.returns-clause-exact
returns-clause-exact c x y e =
    exact_bytes x y (second_equal (nat_cmp (place_of x) (place_of y)) (slice_cmp nat_cmp x y) e)
