-- The least format of a log whose spellings have the record: 1 is the first, 2 brought owners and times of
-- modification, 4 the removal of directories.
use Rattle.std.specs.Prelude.{ℕ, Bool, List, Some, if◌then◌else◌, nat_le}
use Rattle.std.specs.List.{list_any}
use Rattle.mds_base.specs.declared.call.Call.{Call}
use Rattle.mds_base.specs.declared.call.Call.TheVariants.{Setattr, Seal, Unseal, Kill, Unlink}
use Rattle.mds_base.specs.declared.reply.Final.{Final}
use Rattle.mds_base.specs.declared.reply.Final.TheVariants.{Sealed, NotEmpty, Late, Opened, Killed}
use Rattle.mds_base.specs.declared.row.Row.{Row}
use Rattle.mds_base.specs.Entries.{is_stamped}
use Rattle.records.specs.declared.record.Record.{Record}
use Rattle.records.specs.declared.record.Record.TheVariants.{Served, Install}

abbrev pub least_format_of_call : Call → ℕ
least_format_of_call (Setattr dir name mode size (Some stamp)) = 2
least_format_of_call (Seal dir part epoch) = 4
least_format_of_call (Unseal dir part epoch) = 4
least_format_of_call (Kill dir epoch) = 4
least_format_of_call (Unlink dir name id) = 4
least_format_of_call call = 1

abbrev pub least_format_of_final : Final → ℕ
least_format_of_final (Sealed depth epoch) = 4
least_format_of_final NotEmpty = 4
least_format_of_final Late = 4
least_format_of_final Opened = 4
least_format_of_final Killed = 4
least_format_of_final said = 1

-- some row has an owner or a time of modification that is not 0
abbrev pub some_stamped_of : List Row → Bool
some_stamped_of rows = list_any (λ row. is_stamped row.attr) rows

-- a change has a spelling where its call and its final have one
abbrev pub least_format : Record → ℕ
least_format (Served client seq part call said) = if nat_le (least_format_of_call call) (least_format_of_final said)
    then least_format_of_final said else least_format_of_call call
least_format (Install dir part depth bitmap sessions rows) = if some_stamped_of rows then 2 else 1
least_format item = 1
