-- How many calls were asked, one call after another.
use Rattle.std.proofs.Common.{◌≡◌, ℕ, ◌+◌, arith}
use Rattle.mds_out.specs.Calls.{next_number, number_on}

-- so many calls more, and then so many again
pub number_on_on : (number calls more : ℕ) → number_on (number_on number calls) more ≡ number_on number (calls + more)
number_on_on number calls more = omega arith

-- so many calls more, and then one
pub number_on_next : (number calls : ℕ) → next_number (number_on number calls) ≡ number_on number (calls + 1)
number_on_next number calls = omega arith
