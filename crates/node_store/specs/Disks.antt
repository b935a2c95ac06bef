-- What a call of a store does to its disk: two records of clauses, of a call that changes nothing and of one that may.
use Rattle.std.specs.Prelude.{◌≡◌, ◌≢◌, ℕ, ◌≤◌, Result, IfErr, OnOk, IsErrOf}
use Rattle.mds_base.specs.declared.store_fault.StoreFault.{StoreFault}
use Rattle.mds_base.specs.declared.store_fault.StoreFault.TheVariants.{Device}
use Rattle.mds_out.specs.Disk.{Image, Contents, Lengths, IsUnchanged, AreSame, LeavesOnly}
use Rattle.mds_out.specs.Fault.{Rose}

-- a store's count of faults never falls, rises where Device is answered, and stays at each other answer
pub record HasStoreCause {T : Type 0} (before now : ℕ) (result : Result T StoreFault) : Type 0 where
  pub later : before ≤ now
  pub device : IsErrOf result Device → Rose before now
  pub other : IfErr result (λ fault. fault ≢ Device → now ≡ before)
  pub kept : OnOk result (now ≡ before)

-- A call that changes nothing: what a read gives, the images and the count of writes and cuts are as before, and a
-- crash at any moment of it leaves an image from before.
pub record IsStoreReading {D T : Type 0} (seen : D → Contents) (sizes : D → Lengths) (images : D → Image → Type 0)
    (moment : D → ℕ) (since : D → ℕ → Image → Type 0)
    (faults changes_asked : D → ℕ) (leads fails_by : D → D → Type 0) (old new : D)
    (result : Result T StoreFault) : Type 0 where
  pub unchanged : IsUnchanged (seen old) (seen new) (sizes old) (sizes new)
  pub crash : AreSame (images old) (images new)
  pub any_moment : LeavesOnly moment since old new (images old)
  pub cause : HasStoreCause (faults old) (faults new) result
  pub lasts : leads old new
  pub failed : IsErrOf result Device → fails_by old new
  pub changes : changes_asked new ≡ changes_asked old

-- A call that may change something.
pub record IsStoreChanging {D T : Type 0} (faults : D → ℕ) (leads fails_by : D → D → Type 0) (old new : D)
    (result : Result T StoreFault) : Type 0 where
  pub cause : HasStoreCause (faults old) (faults new) result
  pub lasts : leads old new
  pub failed : IsErrOf result Device → fails_by old new
