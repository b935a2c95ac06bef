-- A change of a file, and what it does to the file's bytes, wholly or torn.
use Rattle.std.specs.Prelude.{ℕ, ◌+◌, ◌-◌, ◌/◌, List, ◌++◌, length, take, replicate, Bool, if◌then◌else◌}
use Rattle.mds_out.specs.Disk.{put}
use Rattle.mds_out.specs.Images.{Step, Writes, Cuts}

pub data Change : Type 0 where
  Write : (at : ℕ) (written : List ℕ) → Change
  Cut : (to : ℕ) → Change

abbrev pub changed : List ℕ → Change → List ℕ
changed bytes (Write at written) = put bytes at written
changed bytes (Cut to) = take to bytes

-- the first half as written, the rest byte a5; of an odd count the first half is the shorter one
abbrev pub half_written : List ℕ → List ℕ
half_written bytes = take (length bytes / 2) bytes ++ replicate (length bytes - length bytes / 2) 165

-- the change as a crash leaves it in the outcome Mixed
abbrev pub spoilt : Change → Change
spoilt (Write at written) = Write at (half_written written)
spoilt (Cut to) = Cut to

-- the change, spoilt or not
abbrev pub redone : Bool → Change → Change
redone spoil change = if spoil then spoilt change else change

-- where the range of a write ends
abbrev pub change_end : Change → ℕ
change_end (Write at written) = at + length written
change_end (Cut to) = 0

abbrev pub step_of : Change → Step
step_of (Write at written) = Writes at (length written)
step_of (Cut to) = Cuts to
