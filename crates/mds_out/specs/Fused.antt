-- What a fuse round a disk is: the disk, how many calls still pass where it is armed, how many it refused, and how many
-- of these were writes or cuts.
use Rattle.std.specs.Prelude.{◌≡◌, ℕ, ◌+◌, ◌-◌, ◌≤◌, Option, None, Some, Result, Bool, true, false, ◌==◌, MatchBool}
use Rattle.mds_out.specs.declared.disk.DiskFault.{DiskFault}
use Rattle.mds_out.specs.Calls.{next_number, number_on}
use Rattle.mds_out.specs.Fault.{Rose}
use Rattle.mds_out.specs.Past.{is_device}

pub record Fused (D : Type 0) : Type 0 where
  pub inner : D
  pub left : Option ℕ
  pub refused : ℕ
  pub refused_changes : ℕ

-- no call passes any more
abbrev pub is_blown : Option ℕ → Bool
is_blown None = false
is_blown (Some left) = left == 0

-- how many calls pass after one that passed
abbrev pub one_less : Option ℕ → Option ℕ
one_less None = None
one_less (Some left) = Some (left - 1)

-- the faults of the disk and the calls that the fuse refused
abbrev pub fused_faults : {D : Type 0} → (D → ℕ) → Fused D → ℕ
fused_faults faults fuse = faults fuse.inner + fuse.refused

-- the calls that the fuse was asked: those of the disk and those that it refused
abbrev pub fused_asked : {D : Type 0} → (D → ℕ) → Fused D → ℕ
fused_asked asked fuse = number_on (asked fuse.inner) fuse.refused

-- the same of writes and cuts
abbrev pub fused_changes : {D : Type 0} → (D → ℕ) → Fused D → ℕ
fused_changes changes fuse = number_on (changes fuse.inner) fuse.refused_changes

-- after a call that looks, syncs or restarts was refused
abbrev pub look_refused : {D : Type 0} → Fused D → Fused D
look_refused fuse = record fuse { refused = next_number fuse.refused }

-- after a write or a cut was refused
abbrev pub change_refused : {D : Type 0} → Fused D → Fused D
change_refused fuse =
    record fuse { refused = next_number fuse.refused; refused_changes = next_number fuse.refused_changes }

-- a call that the fuse refused: the disk is not called, and the answer is `Device`
pub record IsRefused {D T : Type 0} (after : Fused D → Fused D) (old new : Fused D)
    (result : Result T DiskFault) : Type 0 where
  pub answer : is_device result ≡ true
  pub same : new ≡ after old

-- a call that passed: the fuse counts it, and refuses none
pub record HasPassed {D : Type 0} (old new : Fused D) : Type 0 where
  pub left : new.left ≡ one_less old.left
  pub refused : new.refused ≡ old.refused
  pub refused_changes : new.refused_changes ≡ old.refused_changes

-- exactly the calls after those that pass are refused
abbrev pub IsFused : {D T : Type 0} → (Fused D → Fused D) → Fused D → Fused D → Result T DiskFault → Type 0
IsFused after old new result = MatchBool (is_blown old.left) (IsRefused after old new result) (HasPassed old new)

-- a fuse that is not armed, and has refused none since
pub record IsUnarmed {D : Type 0} (old new : Fused D) : Type 0 where
  pub left : new.left ≡ None
  pub refused : new.refused ≡ old.refused

-- What calls alone make of a fuse and its disk: the counts never fall, and a fuse that is not armed stays so and
-- refuses none.
pub record OutlastsBy {D : Type 0} (lasts : D → D → Type 0) (faults : D → ℕ) (old new : Fused D) : Type 0 where
  pub inner : lasts old.inner new.inner
  pub later : faults old.inner ≤ faults new.inner
  pub more : old.refused ≤ new.refused
  pub unarmed : old.left ≡ None → IsUnarmed old new

-- Among the calls that led from the one fuse to the other one was answered `Device`: the count has risen, and where the
-- fuse was not armed it was the disk that answered so.
pub record FailsBy {D : Type 0} (fails : D → D → Type 0) (faults : D → ℕ) (old new : Fused D) : Type 0 where
  pub rose : Rose (fused_faults faults old) (fused_faults faults new)
  pub unarmed : old.left ≡ None → fails old.inner new.inner
