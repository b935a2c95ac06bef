-- What a call is on, and which calls are well made. What is said of calls above goes by these, so that a call more is a
-- line here.
use Rattle.std.specs.Prelude.{ℕ, ◌^◌, ◌&&◌, Bool, true, false, List, length, nat_le, nat_lt}
use Rattle.mds_base.specs.declared.TheConstants.{RADIX}
use Rattle.mds_base.specs.declared.limits.TheConstants.{DIRECTORIES, EPOCHS, MODE_MOST, GRAB_MOST, LOAD_MOST}
use Rattle.mds_base.specs.declared.call.Asked.{Asked}
use Rattle.mds_base.specs.declared.call.Asked.TheVariants as seen
use Rattle.mds_base.specs.declared.call.Call.{Call}
use Rattle.mds_base.specs.declared.call.Call.TheVariants.{Create, Mkdir, Remove, Lookup, Setattr, Scan, Grab, Load}
use Rattle.mds_base.specs.declared.call.Call.TheVariants.{Link, Seal, Unseal, Kill, Unlink}

pub data CallOn : Type 0 where
  -- a name of a directory; whether the call is a change, which a server notes and records
  OnName : (dir : ℕ) (name : List ℕ) (changes : Bool) → CallOn
  -- all names of a directory
  OnDirectory : (dir : ℕ) → CallOn
  -- a partition of a directory, by its number; the call is a change
  OnPartition : (dir part : ℕ) → CallOn

abbrev pub asked_of : Call → CallOn
asked_of (Create dir name) = OnName dir name true
asked_of (Mkdir dir name) = OnName dir name true
asked_of (Remove dir name) = OnName dir name true
asked_of (Lookup dir name) = OnName dir name false
asked_of (Setattr dir name mode size stamp) = OnName dir name true
asked_of (Scan dir) = OnDirectory dir
asked_of (Grab dir name count) = OnName dir name true
asked_of (Load dir rows) = OnPartition dir 0
asked_of (Link dir name id) = OnName dir name true
asked_of (Seal dir part epoch) = OnPartition dir part
asked_of (Unseal dir part epoch) = OnPartition dir part
asked_of (Kill dir epoch) = OnPartition dir 0
asked_of (Unlink dir name id) = OnName dir name true

-- what the code's answer shows
abbrev pub shown : Asked → CallOn
shown (seen.Name dir name changes) = OnName dir name.now changes
shown (seen.Directory dir) = OnDirectory dir
shown (seen.Partition dir part) = OnPartition dir part

abbrev pub dir_on : CallOn → ℕ
dir_on (OnName dir name changes) = dir
dir_on (OnDirectory dir) = dir
dir_on (OnPartition dir part) = dir

-- the directory of a call
abbrev pub dir_of : Call → ℕ
dir_of call = dir_on (asked_of call)

-- the number of a directory
abbrev pub is_directory : ℕ → Bool
is_directory dir = nat_le 1 dir && nat_lt dir DIRECTORIES

-- the epoch of a seal
abbrev pub is_epoch : ℕ → Bool
is_epoch epoch = nat_lt epoch EPOCHS

-- each number of the call is within its range
abbrev pub is_well_made : Call → Bool
is_well_made (Create dir name) = is_directory dir
is_well_made (Mkdir dir name) = is_directory dir
is_well_made (Remove dir name) = is_directory dir
is_well_made (Lookup dir name) = is_directory dir
is_well_made (Setattr dir name mode size stamp) = is_directory dir && nat_le mode MODE_MOST
is_well_made (Scan dir) = is_directory dir
is_well_made (Grab dir name count) = (is_directory dir && nat_le 1 count) && nat_le count GRAB_MOST
is_well_made (Load dir rows) = (is_directory dir && nat_le 1 (length rows)) && nat_le (length rows) LOAD_MOST
is_well_made (Link dir name id) = is_directory dir && is_directory id
is_well_made (Seal dir part epoch) = (is_directory dir && nat_lt part (2 ^ RADIX)) && is_epoch epoch
is_well_made (Unseal dir part epoch) = (is_directory dir && nat_lt part (2 ^ RADIX)) && is_epoch epoch
is_well_made (Kill dir epoch) = is_directory dir && is_epoch epoch
is_well_made (Unlink dir name id) = is_directory dir && is_directory id
