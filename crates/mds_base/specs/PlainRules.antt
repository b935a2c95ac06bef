-- The plain rules: the replies that a call may get on a map of entries, and the map that a reply leaves.
-- They know no partitions, sessions or logs. Open in them are the numbers that mkdir and grab give, the end of a
-- lease, whether a load is answered `stale`, and what becomes of a seal where the directory allows either answer.
use Rattle.std.specs.Prelude.{◌≡◌, ℕ, ◌+◌, ◌==◌, List, [], ◌∷◌, Option, Some, None, MatchOption, is_some, if◌then◌else◌}
use Rattle.std.specs.Prelude.{◌⊎◌}
use Rattle.std.specs.List.{range_with_len}
use Rattle.std.specs.FinMap as map
use Rattle.mds_base.specs.declared.attr.Attr.{Attr}
use Rattle.mds_base.specs.declared.edit.Edit.{Edit}
use Rattle.mds_base.specs.declared.edit.Edit.TheVariants.{Keep, Put, Take}
use Rattle.mds_base.specs.declared.row.Row.{Row}
use Rattle.mds_base.specs.declared.call.Call.{Call}
use Rattle.mds_base.specs.declared.call.Call.TheVariants.{Create, Mkdir, Remove, Lookup, Setattr, Scan, Grab, Load}
use Rattle.mds_base.specs.declared.call.Call.TheVariants.{Link, Seal, Unseal, Kill, Unlink}
use Rattle.mds_base.specs.declared.reply.Final.TheVariants.{Created, CreatedDir, Exists, Removed, Missing, IsDir, Set}
use Rattle.mds_base.specs.declared.reply.Final.TheVariants.{Ids, Loaded, Stale, Sealed, NotEmpty, Late, Opened, Killed}
use Rattle.mds_base.specs.declared.reply.Reply.{Reply}
use Rattle.mds_base.specs.declared.reply.Reply.TheVariants.{Said, Found}
use Rattle.mds_base.specs.Calls.{CallOn, OnName, OnDirectory, OnPartition, asked_of}
use Rattle.mds_base.specs.Entries.{Place, Entries, edited, is_file, new_file, new_directory, reset_attr}

-- how many of a load's rows are absent, each row after the ones before it were added
abbrev pub added : Entries → ℕ → List Row → ℕ
added entries dir [] = 0
added entries dir (row ∷ rows) = if is_some (map.get entries (dir, row.name)) then added entries dir rows
    else added (map.insert entries (dir, row.name) row.attr) dir rows + 1

-- the map with each of a load's rows whose name is absent
abbrev pub with_rows : Entries → ℕ → List Row → Entries
with_rows entries dir [] = entries
with_rows entries dir (row ∷ rows) = with_rows
    (if is_some (map.get entries (dir, row.name)) then entries else map.insert entries (dir, row.name) row.attr) dir
    rows

-- the directory has an entry, and it has none
abbrev pub HasEntry : Entries → ℕ → Type 0
HasEntry entries dir = (name : List ℕ) × (attr : Attr) × (map.get entries (dir, name) ≡ Some attr)

abbrev pub HasNoEntry : Entries → ℕ → Type 0
HasNoEntry entries dir = (name : List ℕ) → map.get entries (dir, name) ≡ None

-- what a seal, taking one off, and a kill may be answered
abbrev pub SealAllows : Entries → ℕ → Reply → Type 0
SealAllows entries dir (Said (Sealed depth epoch)) = Unit {0}
SealAllows entries dir (Said Late) = Unit {0}
SealAllows entries dir (Said NotEmpty) = HasEntry entries dir
SealAllows entries dir (Said Killed) = HasNoEntry entries dir
SealAllows entries dir reply = ⊥

abbrev pub UnsealAllows : Reply → Type 0
UnsealAllows reply = (reply ≡ Said Opened) ⊎ (reply ≡ Said Late)

abbrev pub KillAllows : Entries → ℕ → Reply → Type 0
KillAllows entries dir reply = ((reply ≡ Said Killed) × HasNoEntry entries dir) ⊎ (reply ≡ Said Late)

-- the reply is one that the rules allow to the call on this map; a scan is no entry of a history
abbrev pub Allows : Entries → Call → Reply → Type 0
Allows entries (Create dir name) reply =
    MatchOption (map.get entries (dir, name)) (reply ≡ Said Created) (λ _. reply ≡ Said Exists)
Allows entries (Mkdir dir name) reply = MatchOption (map.get entries (dir, name))
    ((number : ℕ) × (reply ≡ Said (CreatedDir number))) (λ _. reply ≡ Said Exists)
Allows entries (Link dir name number) reply =
    MatchOption (map.get entries (dir, name)) (reply ≡ Said (CreatedDir number)) (λ _. reply ≡ Said Exists)
Allows entries (Remove dir name) reply = MatchOption (map.get entries (dir, name)) (reply ≡ Said Missing)
    (λ attr. reply ≡ Said (if is_file attr then Removed else IsDir))
Allows entries (Setattr dir name mode size stamp) reply =
    MatchOption (map.get entries (dir, name)) (reply ≡ Said Missing) (λ _. reply ≡ Said Set)
Allows entries (Lookup dir name) reply =
    MatchOption (map.get entries (dir, name)) (reply ≡ Said Missing) (λ attr. (until : ℕ) × (reply ≡ Found attr until))
Allows entries (Grab dir name count) reply = (first : ℕ) × (reply ≡ Said (Ids first))
Allows entries (Load dir rows) reply = (reply ≡ Said (Loaded (added entries dir rows))) ⊎ (reply ≡ Said Stale)
Allows entries (Scan dir) reply = ⊥
Allows entries (Seal dir part epoch) reply = SealAllows entries dir reply
Allows entries (Unseal dir part epoch) reply = UnsealAllows reply
Allows entries (Kill dir epoch) reply = KillAllows entries dir reply
Allows entries (Unlink dir name id) reply = MatchOption (map.get entries (dir, name)) (reply ≡ Said Missing)
    (λ attr. reply ≡ Said (if attr.dir == id then Removed else Exists))

-- what a call on a name that got this reply makes of the entry that stood there
abbrev pub edit_of : Call → Reply → Option Attr → Edit
edit_of (Create dir name) (Said Created) before = Put new_file
edit_of (Mkdir dir name) (Said (CreatedDir number)) before = Put (new_directory number)
edit_of (Link dir name id) (Said (CreatedDir number)) before = Put (new_directory number)
edit_of (Remove dir name) (Said Removed) before = Take
edit_of (Unlink dir name id) (Said Removed) before = Take
edit_of (Setattr dir name mode size stamp) (Said Set) (Some attr) = Put (reset_attr attr mode size stamp)
edit_of call reply before = Keep

-- the map after a call that got this reply
abbrev pub after : Entries → Call → Reply → Entries
after entries (Load dir rows) (Said (Loaded number)) = with_rows entries dir rows
after entries (Load dir rows) reply = entries
after entries (Scan dir) reply = entries
after entries (Create dir name) reply =
    edited entries (dir, name) (edit_of (Create dir name) reply (map.get entries (dir, name)))
after entries (Mkdir dir name) reply =
    edited entries (dir, name) (edit_of (Mkdir dir name) reply (map.get entries (dir, name)))
after entries (Link dir name id) reply =
    edited entries (dir, name) (edit_of (Link dir name id) reply (map.get entries (dir, name)))
after entries (Remove dir name) reply =
    edited entries (dir, name) (edit_of (Remove dir name) reply (map.get entries (dir, name)))
after entries (Setattr dir name mode size stamp) reply =
    edited entries (dir, name) (edit_of (Setattr dir name mode size stamp) reply (map.get entries (dir, name)))
after entries (Unlink dir name id) reply =
    edited entries (dir, name) (edit_of (Unlink dir name id) reply (map.get entries (dir, name)))
after entries (Lookup dir name) reply = entries
after entries (Grab dir name count) reply = entries
after entries (Seal dir part epoch) reply = entries
after entries (Unseal dir part epoch) reply = entries
after entries (Kill dir epoch) reply = entries

-- the plain rules: the reply is allowed, and the new map is the one that it leaves
abbrev pub PlainStep : Entries → Call → Reply → Entries → Type 0
PlainStep old call reply new = Allows old call reply × (new ≡ after old call reply)

-- the places of rows in a directory
abbrev pub places_in : ℕ → List Row → List Place
places_in dir [] = []
places_in dir (row ∷ rows) = (dir, row.name) ∷ places_in dir rows

abbrev pub place_on : CallOn → List Place
place_on (OnName dir name changes) = (dir, name) ∷ []
place_on (OnDirectory dir) = []
place_on (OnPartition dir part) = []

-- the places that a call with its reply speaks of; a stale load and a grab speak of none
abbrev pub places_of : Call → Reply → List Place
places_of (Load dir rows) (Said (Loaded number)) = places_in dir rows
places_of (Load dir rows) reply = []
places_of (Grab dir name count) reply = []
places_of call reply = place_on (asked_of call)

-- the directory numbers that a reply gives
abbrev pub given_by : Call → Reply → List ℕ
given_by (Mkdir dir name) (Said (CreatedDir number)) = number ∷ []
given_by (Grab dir name count) (Said (Ids first)) = range_with_len first count
given_by call reply = []
