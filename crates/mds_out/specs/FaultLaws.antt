-- Counts of faults that go on: proved here, since laws of disks rest on it.
use Rattle.std.specs.Prelude.{ℕ, ◌≤◌}
use Rattle.mds_out.specs.Fault.{Rose}
use Rattle.std.proofs.Common.{arith}

pub same_count : (n : ℕ) → n ≤ n
same_count n = omega arith

pub no_fewer_on : (a b c : ℕ) → a ≤ b → b ≤ c → a ≤ c
no_fewer_on a b c first second = omega (arith, first, second)

pub rose_on : (a b c : ℕ) → Rose a b → b ≤ c → Rose a c
rose_on a b c first second = omega (arith, first, second)

pub rose_after : (a b c : ℕ) → a ≤ b → Rose b c → Rose a c
rose_after a b c first second = omega (arith, first, second)
