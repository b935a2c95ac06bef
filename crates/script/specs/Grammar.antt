-- The lines of a script: which bytes say which line. It knows no reader.
use Rattle.std.specs.Prelude.{◌≡◌, ◌⊎◌, ℕ, ◌<◌, ◌≤◌, ◌^◌, List, [], ◌∷◌, Option, Some, None, MatchOption, Bool, true}
use Rattle.std.specs.Prelude.{false, codes, decimal, IsTrue, length, slice_index}
use Rattle.std.specs.List.{list_any}
use Rattle.std.specs.Str.Parse.{AllDigits, digits_value}
use Rattle.mds_base.specs.declared.limits.TheConstants.{BATCH_MOST, TICK_MOST, FUSE_MOST}
use Rattle.mds_base.specs.declared.call.Call.{Call}
use Rattle.mds_base.specs.declared.call.Call.TheVariants.{Create, Mkdir, Remove, Lookup, Setattr, Scan, Grab, Load}
use Rattle.mds_base.specs.declared.call.Call.TheVariants.{Link, Seal, Unseal, Kill, Unlink}
use Rattle.mds_base.specs.declared.attr.Stamp.{Stamp}
use Rattle.mds_base.specs.declared.setup.Setup.{Setup}
use Rattle.mds_base.specs.Calls.{is_directory, is_well_made}
use Rattle.mds_base.specs.Name.{is_name}
use Rattle.script.specs.Names.{SpellsName}
use Rattle.script.specs.Words.{word_at, rest_at}
use Rattle.script.specs.declared.line.Line.{Line}
use Rattle.script.specs.declared.line.Line.TheVariants as lines

-- what a piece of a line says: it is a word of the grammar, a number, a name, a word as it stands or the rest of the
-- line as it stands
pub data Part : Type 0 where
  Keyword : List ℕ → Part
  Number : ℕ → Part
  Named : List ℕ → Part
  Raw : List ℕ → Part
  Rest : List ℕ → Part

-- the piece says the part; a number has one spelling and is at most 2^64 - 1
abbrev pub IsSpelled : List ℕ → Part → Type 0
IsSpelled piece (Keyword text) = piece ≡ text
IsSpelled piece (Number number) = (piece ≡ decimal number) × (number < 2 ^ 64)
IsSpelled piece (Named name) = SpellsName piece name × IsTrue (is_name name)
IsSpelled piece (Raw text) = piece ≡ text
IsSpelled piece (Rest text) = piece ≡ text

-- the piece that says a part, and what is behind it
abbrev pub piece_at : Part → List ℕ → Option (List ℕ × List ℕ)
piece_at (Keyword text) bytes = word_at bytes
piece_at (Number number) bytes = word_at bytes
piece_at (Named name) bytes = word_at bytes
piece_at (Raw text) bytes = word_at bytes
piece_at (Rest text) bytes = rest_at bytes

-- the bytes say the parts, one after another, and no word more
abbrev pub AreSaid : List ℕ → List Part → Type 0
AreSaid bytes [] = word_at bytes ≡ None
AreSaid bytes (part ∷ parts) =
    MatchOption (piece_at part bytes) ⊥ (λ piece. IsSpelled piece.0 part × AreSaid piece.1 parts)

-- the words say the parts, each its own
abbrev pub AreSpelled : List (List ℕ) → List Part → Type 0
AreSpelled [] [] = Unit {0}
AreSpelled [] (part ∷ parts) = ⊥
AreSpelled (word ∷ words) [] = ⊥
AreSpelled (word ∷ words) (part ∷ parts) = IsSpelled word part × AreSpelled words parts

-- the parts of a stamp: an owner and a time of modification
abbrev pub stamp_parts : Option Stamp → List Part
stamp_parts None = []
stamp_parts (Some stamp) = Number stamp.owner ∷ Number stamp.mtime ∷ []

-- the parts of a call: as a line says it, and as an effect of it is printed
abbrev pub call_parts : Call → List Part
call_parts (Create dir name) = Keyword (codes "create") ∷ Number dir ∷ Named name ∷ []
call_parts (Mkdir dir name) = Keyword (codes "mkdir") ∷ Number dir ∷ Named name ∷ []
call_parts (Remove dir name) = Keyword (codes "remove") ∷ Number dir ∷ Named name ∷ []
call_parts (Lookup dir name) = Keyword (codes "lookup") ∷ Number dir ∷ Named name ∷ []
call_parts (Setattr dir name mode size stamp) =
    Keyword (codes "setattr") ∷ Number dir ∷ Named name ∷ Number mode ∷ Number size ∷ stamp_parts stamp
call_parts (Scan dir) = Keyword (codes "scan") ∷ Number dir ∷ []
call_parts (Grab dir name count) = Keyword (codes "grab") ∷ Number dir ∷ Named name ∷ Number count ∷ []
call_parts (Load dir rows) = Keyword (codes "load") ∷ Number dir ∷ Number (length rows) ∷ []
call_parts (Link dir name id) = Keyword (codes "link") ∷ Number dir ∷ Named name ∷ Number id ∷ []
call_parts (Seal dir part epoch) = Keyword (codes "seal") ∷ Number dir ∷ Number part ∷ Number epoch ∷ []
call_parts (Unseal dir part epoch) = Keyword (codes "unseal") ∷ Number dir ∷ Number part ∷ Number epoch ∷ []
call_parts (Kill dir epoch) = Keyword (codes "kill") ∷ Number dir ∷ Number epoch ∷ []
call_parts (Unlink dir name id) = Keyword (codes "unlink") ∷ Number dir ∷ Named name ∷ Number id ∷ []

abbrev pub number_parts : List ℕ → List Part
number_parts [] = []
number_parts (number ∷ numbers) = Number number ∷ number_parts numbers

-- the parts of a line
abbrev pub line_parts : Line → List Part
line_parts lines.Skipped = []
line_parts (lines.Call client call) = Keyword (codes "call") ∷ Number client ∷ call_parts call
line_parts (lines.Issue client call) = Keyword (codes "issue") ∷ Number client ∷ call_parts call
line_parts (lines.Retry client) = Keyword (codes "retry") ∷ Number client ∷ []
line_parts (lines.Deliver message) = Keyword (codes "deliver") ∷ Number message ∷ []
line_parts (lines.Batch server places) = Keyword (codes "batch") ∷ Number server ∷ number_parts places
line_parts (lines.Take client message) = Keyword (codes "take") ∷ Number client ∷ Number message ∷ []
line_parts lines.Settle = Keyword (codes "settle") ∷ []
line_parts (lines.Remind server) = Keyword (codes "remind") ∷ Number server ∷ []
line_parts (lines.Tick by) = Keyword (codes "tick") ∷ Number by ∷ []
line_parts (lines.Fuse server calls) = Keyword (codes "fuse") ∷ Number server ∷ Number calls ∷ []
line_parts (lines.Stop server) = Keyword (codes "stop") ∷ Number server ∷ []
line_parts (lines.Restart server) = Keyword (codes "restart") ∷ Number server ∷ []
line_parts (lines.Walk client path) = Keyword (codes "walk") ∷ Number client ∷ Raw path ∷ []
line_parts (lines.Bulk client dir name json) =
    Keyword (codes "bulk") ∷ Number client ∷ Number dir ∷ Named name ∷ Rest json ∷ []
line_parts (lines.Rmdir client dir name) = Keyword (codes "rmdir") ∷ Number client ∷ Number dir ∷ Named name ∷ []
line_parts (lines.Feed server) = Keyword (codes "feed") ∷ Number server ∷ []
line_parts (lines.Promote server) = Keyword (codes "promote") ∷ Number server ∷ []

-- a name, a word or a rest, whose bytes are kept
abbrev pub is_kept : Part → Bool
is_kept (Keyword text) = false
is_kept (Number number) = false
is_kept part = true

-- whether a line keeps bytes or places, for which it wants memory
abbrev pub keeps : Line → Bool
keeps (lines.Batch server places) = true
keeps line = list_any is_kept (line_parts line)

-- a word that is a number, digit by digit; its value is `digits_value 10 word`
pub record IsNumeral (word : List ℕ) : Type 0 where
  pub digits : AllDigits 10 word
  pub some : 1 ≤ length word
  pub few : length word ≤ 20
  pub plain : slice_index word 0 ≡ 48 → length word ≡ 1
  pub fits : digits_value 10 word < 2 ^ 64

-- ---- ranges

-- a client of this setup
abbrev pub IsClient : Setup → ℕ → Type 0
IsClient setup client = (1 ≤ client) × (client ≤ setup.clients)

-- a server of this setup
abbrev pub IsServer : Setup → ℕ → Type 0
IsServer setup server = server < setup.servers

-- an owner is a number of 32 bits
abbrev pub IsStamp : Option Stamp → Type 0
IsStamp None = Unit {0}
IsStamp (Some stamp) = stamp.owner < 2 ^ 32

-- the calls that a line may ask for
abbrev pub has_verb : Call → Bool
has_verb (Create dir name) = true
has_verb (Mkdir dir name) = true
has_verb (Remove dir name) = true
has_verb (Lookup dir name) = true
has_verb (Setattr dir name mode size stamp) = true
has_verb (Scan dir) = true
has_verb call = false

-- the stamp that a call sets
abbrev pub stamp_set : Call → Option Stamp
stamp_set (Setattr dir name mode size stamp) = stamp
stamp_set call = None

-- one of these calls, well made
pub record IsAsked (call : Call) : Type 0 where
  pub verb : IsTrue (has_verb call)
  pub made : IsTrue (is_well_made call)
  pub stamp : IsStamp (stamp_set call)

-- the numbers of the line are in their ranges
abbrev pub IsWithin : Setup → Line → Type 0
IsWithin setup lines.Skipped = Unit {0}
IsWithin setup (lines.Call client call) = IsClient setup client × IsAsked call
IsWithin setup (lines.Issue client call) = IsClient setup client × IsAsked call
IsWithin setup (lines.Retry client) = IsClient setup client
IsWithin setup (lines.Deliver message) = Unit {0}
IsWithin setup (lines.Batch server places) = IsServer setup server × (1 ≤ length places) × (length places ≤ BATCH_MOST)
IsWithin setup (lines.Take client message) = IsClient setup client
IsWithin setup lines.Settle = Unit {0}
IsWithin setup (lines.Remind server) = IsServer setup server
IsWithin setup (lines.Tick by) = (1 ≤ by) × (by ≤ TICK_MOST)
IsWithin setup (lines.Fuse server calls) = IsServer setup server × (calls ≤ FUSE_MOST)
IsWithin setup (lines.Stop server) = IsServer setup server
IsWithin setup (lines.Restart server) = IsServer setup server
IsWithin setup (lines.Walk client path) = IsClient setup client
IsWithin setup (lines.Bulk client dir name json) = IsClient setup client × IsTrue (is_directory dir)
IsWithin setup (lines.Rmdir client dir name) = IsClient setup client × IsTrue (is_directory dir)
IsWithin setup (lines.Feed server) = IsServer setup server
IsWithin setup (lines.Promote server) = IsServer setup server

-- ---- lines

-- the first byte is a `#`
abbrev pub IsComment : List ℕ → Type 0
IsComment [] = ⊥
IsComment (byte ∷ bytes) = byte ≡ 35

-- the bytes are a line that says this: a comment is skipped, and else each piece says its part
abbrev pub IsLine : Setup → List ℕ → Line → Type 0
IsLine setup bytes line =
    (IsComment bytes × (line ≡ lines.Skipped)) ⊎ (AreSaid bytes (line_parts line) × IsWithin setup line)
