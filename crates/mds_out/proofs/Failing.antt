-- The count of the calls that have failed, one call later.
use Rattle.std.proofs.Common.{◌≡◌, ℕ, ◌+◌, List, true, cond, ap, add-one}
use Rattle.mds_out.specs.Calls.{is_failing, failed_calls}

pub one_more_failed : (fails : List ℕ) (made : ℕ) → is_failing fails made ≡ true → failed_calls fails (made + 1) ≡ failed_calls fails made + 1
one_more_failed fails made is = rw add-one (ap (λ b. failed_calls fails made + cond b 1 0) is)
