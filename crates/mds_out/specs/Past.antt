-- What a disk in memory is: what a restart leaves, the failing calls, how many calls and how many writes and cuts it
-- was asked, and all that was done to it, oldest first.
use Rattle.std.specs.Prelude.{◌≡◌, ◌≤◌, ℕ, Bool, true, false, List, [], ◌∷◌, ◌++◌, length, take, fold, ◌==◌}
use Rattle.std.specs.Prelude.{if◌then◌else◌, Some, Result, Ok, Err, OnOk, OnErr}
use Rattle.mds_out.specs.declared.disk.DiskFault.{DiskFault}
use Rattle.mds_out.specs.declared.disk.DiskFault.TheVariants.{Device, OutOfMemory}
use Rattle.mds_out.specs.declared.outcome.Outcome.{Outcome}
use Rattle.mds_out.specs.Calls.{is_failing, failed_calls, next_number}
use Rattle.mds_out.specs.Change.{Change}
use Rattle.mds_out.specs.Content.{Content, at_rest, bytes_of, left_of, with_change, history}
use Rattle.mds_out.specs.Disk.{Image, Contents, Lengths}
use Rattle.mds_out.specs.Fault.{Rose}
use Rattle.mds_out.specs.Images.{IsImage}

-- One thing that was done.
pub data Act : Type 0 where
  Changed : (file : ℕ) (change : Change) → Act
  Synced : (file : ℕ) → Act
  Restarted : Act

-- one file after one act
abbrev pub acted : Outcome → ℕ → Content → Act → Content
acted outcome file content (Changed number change) = if number == file then with_change content change else content
acted outcome file content (Synced number) = if number == file then at_rest (bytes_of content) else content
acted outcome file content Restarted = at_rest (left_of outcome content)

-- a file after these acts; a file that was never written is empty
abbrev pub content_of : Outcome → List Act → ℕ → Content
content_of outcome acts file = fold (acted outcome file) (at_rest []) acts

-- what a crash may leave of all files after these acts
abbrev pub IsPastImage : Outcome → List Act → Image → Type 0
IsPastImage outcome acts image = (file : ℕ) → IsImage (history (content_of outcome acts file)) (image file)

-- what a crash may have left at a moment from this one on, where each act takes the disk to its next moment
abbrev pub IsImageSince : Outcome → List Act → ℕ → Image → Type 0
IsImageSince outcome acts moment image =
    (now : ℕ) × (moment ≤ now) × (now ≤ length acts) × IsPastImage outcome (take now acts) image

pub record Past : Type 0 where
  pub outcome : Outcome
  pub fails : List ℕ
  pub made : ℕ
  pub changes : ℕ
  pub acts : List Act

-- after one call more, which looked
abbrev pub counted : Past → Past
counted past = record past { made = next_number past.made }

-- how many writes and cuts there are after a call that was asked for this act
abbrev pub changes_after : ℕ → Act → ℕ
changes_after changes (Changed file change) = next_number changes
changes_after changes (Synced file) = changes
changes_after changes Restarted = changes

-- after one call more, which was asked for this act and did nothing
abbrev pub asked_for : Past → Act → Past
asked_for past act = record past { made = next_number past.made; changes = changes_after past.changes act }

-- after one call more, which did this
abbrev pub with_act : Past → Act → Past
with_act past act = record (asked_for past act) { acts = past.acts ++ act ∷ [] }

abbrev pub is_device : {T : Type 0} → Result T DiskFault → Bool
is_device (Ok _) = false
is_device (Err Device) = true
is_device (Err OutOfMemory) = false

-- the call did this act, or was refused and did nothing; it failed exactly where its number said so, or found no memory
pub record IsDone {T : Type 0} (act : Act) (old new : Past) (result : Result T DiskFault) : Type 0 where
  pub done : OnOk result (new ≡ with_act old act)
  pub refused : OnErr result (new ≡ asked_for old act)
  pub fails : is_failing old.fails old.made ≡ is_device result

-- the call looked and did nothing; it failed exactly where its number said so, and took no memory
pub record IsLooked {T : Type 0} (old new : Past) (result : Result T DiskFault) : Type 0 where
  pub same : new ≡ counted old
  pub fails : OnOk result (is_failing old.fails old.made ≡ false)
  pub refused : OnErr result ((is_failing old.fails old.made ≡ true) × (is_device result ≡ true))

-- ---- what a disk in memory means, by its past

abbrev pub past_seen : Past → Contents
past_seen past file = Some (bytes_of (content_of past.outcome past.acts file))

abbrev pub past_sizes : Past → Lengths
past_sizes past file = Some (length (bytes_of (content_of past.outcome past.acts file)))

abbrev pub past_images : Past → Image → Type 0
past_images past = IsPastImage past.outcome past.acts

abbrev pub past_moment : Past → ℕ
past_moment past = length past.acts

abbrev pub past_since : Past → ℕ → Image → Type 0
past_since past = IsImageSince past.outcome past.acts

abbrev pub past_faults : Past → ℕ
past_faults past = failed_calls past.fails past.made

abbrev pub past_changes : Past → ℕ
past_changes past = past.changes

-- What calls alone make of a disk in memory: what a restart leaves and which calls fail stay as its maker said, and its
-- count of faults does not fall.
pub record PastLasts (old new : Past) : Type 0 where
  pub outcome : new.outcome ≡ old.outcome
  pub fails : new.fails ≡ old.fails
  pub later : past_faults old ≤ past_faults new

-- among the calls one was answered `Device`
abbrev pub PastFails : Past → Past → Type 0
PastFails old new = Rose (past_faults old) (past_faults new)
