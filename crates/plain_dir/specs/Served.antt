-- What a plain directory answers. Where the plain rules leave a choice it is made here: a lease on what was found ends
-- at moment 0, a load is not stale, an empty directory is sealed at depth 0 with the epoch that was asked for, and a
-- seal is always taken off.
use Rattle.std.specs.Prelude.{◌≡◌, ◌⊎◌, ℕ, ◌<◌, ◌^◌, ◌==◌, Option, Some, None, length, if◌then◌else◌}
use Rattle.std.specs.FinMap as map
use Rattle.mds_base.specs.declared.attr.Attr.{Attr}
use Rattle.mds_base.specs.declared.call.Call.{Call}
use Rattle.mds_base.specs.declared.call.Call.TheVariants.{Create, Mkdir, Remove, Lookup, Setattr, Scan, Grab, Load}
use Rattle.mds_base.specs.declared.call.Call.TheVariants.{Link, Seal, Unseal, Kill, Unlink}
use Rattle.mds_base.specs.declared.reply.Final.{Final}
use Rattle.mds_base.specs.declared.reply.Final.TheVariants.{Created, CreatedDir, Exists, Removed, Missing, IsDir, Set}
use Rattle.mds_base.specs.declared.reply.Final.TheVariants.{Ids, Loaded, Sealed, NotEmpty, Late, Opened, Killed}
use Rattle.mds_base.specs.declared.reply.Reply.{Reply}
use Rattle.mds_base.specs.declared.reply.Reply.TheVariants.{Said, Found}
use Rattle.mds_base.specs.Entries.{Entries, is_file}
use Rattle.mds_base.specs.PlainRules.{added, HasEntry, HasNoEntry}

-- every call but a scan, and no load of 2^32 rows
abbrev pub IsServed : Call → Type 0
IsServed (Scan dir) = ⊥
IsServed (Load dir rows) = length rows < 2 ^ 32
IsServed call = Unit {0}

abbrev pub made : Option Attr → Final → Final
made None said = said
made (Some attr) said = Exists

abbrev pub removed : Option Attr → Final
removed None = Missing
removed (Some attr) = if is_file attr then Removed else IsDir

abbrev pub unlinked : Option Attr → ℕ → Final
unlinked None id = Missing
unlinked (Some attr) id = if attr.dir == id then Removed else Exists

abbrev pub set : Option Attr → Final
set None = Missing
set (Some attr) = Set

abbrev pub found : Option Attr → Reply
found None = Said Missing
found (Some attr) = Found attr 0

-- the reply of a plain directory; `fresh` is the number that a mkdir or a grab gives
abbrev pub IsPlainReply : Entries → Call → ℕ → Reply → Type 0
IsPlainReply entries (Create dir name) fresh reply = reply ≡ Said (made (map.get entries (dir, name)) Created)
IsPlainReply entries (Mkdir dir name) fresh reply = reply ≡ Said (made (map.get entries (dir, name)) (CreatedDir fresh))
IsPlainReply entries (Link dir name number) fresh reply =
    reply ≡ Said (made (map.get entries (dir, name)) (CreatedDir number))
IsPlainReply entries (Remove dir name) fresh reply = reply ≡ Said (removed (map.get entries (dir, name)))
IsPlainReply entries (Setattr dir name mode size stamp) fresh reply = reply ≡ Said (set (map.get entries (dir, name)))
IsPlainReply entries (Lookup dir name) fresh reply = reply ≡ found (map.get entries (dir, name))
IsPlainReply entries (Grab dir name count) fresh reply = reply ≡ Said (Ids fresh)
IsPlainReply entries (Load dir rows) fresh reply = reply ≡ Said (Loaded (added entries dir rows))
IsPlainReply entries (Scan dir) fresh reply = ⊥
IsPlainReply entries (Seal dir part epoch) fresh reply =
    ((reply ≡ Said NotEmpty) × HasEntry entries dir) ⊎ ((reply ≡ Said (Sealed 0 epoch)) × HasNoEntry entries dir)
IsPlainReply entries (Unseal dir part epoch) fresh reply = reply ≡ Said Opened
IsPlainReply entries (Kill dir epoch) fresh reply =
    ((reply ≡ Said Late) × HasEntry entries dir) ⊎ ((reply ≡ Said Killed) × HasNoEntry entries dir)
IsPlainReply entries (Unlink dir name id) fresh reply = reply ≡ Said (unlinked (map.get entries (dir, name)) id)
