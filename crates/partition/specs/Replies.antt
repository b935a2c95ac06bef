-- Which calls a partition serves, and what the plain rules say to them by the entry that stands there.
use Rattle.std.specs.Prelude.{ℕ, ◌==◌, Bool, false, List, [], Option, Some, None, is_some, if◌then◌else◌}
use Rattle.mds_base.specs.declared.attr.Attr.{Attr}
use Rattle.mds_base.specs.declared.row.Row.{Row}
use Rattle.mds_base.specs.declared.edit.Edit.{Edit}
use Rattle.mds_base.specs.declared.edit.Edit.TheVariants.{Keep, Put, Take}
use Rattle.mds_base.specs.declared.call.Call.{Call}
use Rattle.mds_base.specs.declared.call.Call.TheVariants.{Create, Mkdir, Remove, Lookup, Setattr, Scan, Grab, Load}
use Rattle.mds_base.specs.declared.call.Call.TheVariants.{Link, Seal, Unseal, Kill, Unlink}
use Rattle.mds_base.specs.declared.reply.Final.{Final}
use Rattle.mds_base.specs.declared.reply.Final.TheVariants.{Created, CreatedDir, Exists, Removed, Missing, IsDir, Set}
use Rattle.mds_base.specs.declared.reply.Final.TheVariants.{Ids, Stale}
use Rattle.mds_base.specs.Entries.{is_file}

-- all calls but scans and the calls on seals
abbrev pub IsServed : Call → Type 0
IsServed (Scan dir) = ⊥
IsServed (Seal dir part epoch) = ⊥
IsServed (Unseal dir part epoch) = ⊥
IsServed (Kill dir epoch) = ⊥
IsServed call = Unit {0}

-- the rows that a call adds
abbrev pub rows_of : Call → List Row
rows_of (Load dir rows) = rows
rows_of call = []

-- the replies to calls that make an entry, remove a file, remove the directory `id`, and set attributes, by the entry
-- that stands there
abbrev pub made : Option Attr → Final → Final
made None said = said
made (Some attr) said = Exists

abbrev pub removed : Option Attr → Final
removed None = Missing
removed (Some attr) = if is_file attr then Removed else IsDir

abbrev pub unlinked : Option Attr → ℕ → Final
unlinked None id = Missing
unlinked (Some attr) id = if attr.dir == id then Removed else Exists

abbrev pub reset : Option Attr → Final
reset None = Missing
reset (Some attr) = Set

-- the final reply to a change on a name; `fresh` is the number that a mkdir or a grab gives
abbrev pub said_of : Call → Option Attr → ℕ → Final
said_of (Create dir name) before fresh = made before Created
said_of (Mkdir dir name) before fresh = made before (CreatedDir fresh)
said_of (Link dir name id) before fresh = made before (CreatedDir id)
said_of (Remove dir name) before fresh = removed before
said_of (Unlink dir name id) before fresh = unlinked before id
said_of (Setattr dir name mode size stamp) before fresh = reset before
said_of (Grab dir name count) before fresh = Ids fresh
said_of call before fresh = Stale

-- whether an edit waits for the leases on its name: it changes an entry that is there
abbrev pub waits : Edit → Option Attr → Bool
waits Keep before = false
waits (Put attr) before = is_some before
waits Take before = is_some before
