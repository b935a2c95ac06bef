-- What an answer says of the faults that rows counted.
use Rattle.std.specs.Prelude.{◌≡◌, ℕ, ◌+◌, ◌-◌, ◌^◌, ◌≤◌, min, Result, OnOk, IsErrOf}
use Rattle.mds_base.specs.declared.rows.RowsFault.{RowsFault}
use Rattle.mds_base.specs.declared.rows.RowsFault.TheVariants.{Device}

-- A call's count of faults never falls, rises where the answer is Device, and stays where the call succeeds. A count
-- that stands at the greatest u64 can rise no more.
pub record HasRowsCause {T : Type 0} (before now : ℕ) (result : Result T RowsFault) : Type 0 where
  pub later : before ≤ now
  pub device : IsErrOf result Device → min (before + 1) (2 ^ 64 - 1) ≤ now
  pub kept : OnOk result (now ≡ before)
